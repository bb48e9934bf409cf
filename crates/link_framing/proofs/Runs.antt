-- What any calls on a reader do together, and that a stream has one reading.
use Rattle.std.proofs.Common.{◌≡◌, ℕ, ◌+◌, inl, inr, List, [], ◌∷◌, ◌++◌, length, refl, sym, ap, subst, ◌∙◌, append_assoc, append-nil, length-append, arith}
use Rattle.std.specs.List.{flat_map, AllByRecursion}
use Rattle.wire_core.specs.Part.{Part}
use Rattle.link_framing.specs.declared.frame.Frame.{Frame}
use Rattle.link_framing.specs.Framing.{frame, IsFrame}
use Rattle.link_framing.specs.Streams.{IsBadType, IsTooLarge, IsEnd, Stream, Call, Fed, Took, Run, fed_by, taken_by, nothing}
use Rattle.link_framing.proofs.Layouts.{frame_once}
use Rattle.link_framing.proofs.Cases.{frame_not_bad, frame_not_large, frame_not_partial, bad_type_more, too_large_more}

-- what is fed comes out as frames, or is held
pub run_bytes : (calls : List Call) (old new : Part) → Run old calls new → old.bytes ++ fed_by calls ≡ flat_map frame (taken_by calls) ++ new.bytes
run_bytes [] old new run = append-nil old.bytes ∙ ap (λ (p : Part). p.bytes) (sym run)
run_bytes (Fed piece ∷ calls) old new run =
    sym (append_assoc old.bytes piece (fed_by calls)) ∙ ap (λ (p : Part). p.bytes ++ fed_by calls) (sym run.1) ∙ run_bytes calls run.0 new run.2
run_bytes (Took first ∷ calls) old new run =
    ap (λ (b : List ℕ). b ++ fed_by calls) run.1.bytes ∙ append_assoc (frame first) run.0.bytes (fed_by calls)
    ∙ ap (λ (b : List ℕ). frame first ++ b) (run_bytes calls run.0 new run.2) ∙ sym (append_assoc (frame first) (flat_map frame (taken_by calls)) new.bytes)

-- each frame taken is one
pub run_frames : (calls : List Call) (old new : Part) → Run old calls new → AllByRecursion IsFrame (taken_by calls)
run_frames [] old new run = tt
run_frames (Fed piece ∷ calls) old new run = run_frames calls run.0 new run.2
run_frames (Took first ∷ calls) old new run = (run.1.fits, run_frames calls run.0 new run.2)

-- the place is behind what was taken
pub run_place : (calls : List Call) (old new : Part) → Run old calls new → new.place ≡ old.place + length (flat_map frame (taken_by calls))
run_place [] old new run = let e : new.place ≡ old.place = ap (λ (p : Part). p.place) run in omega arith
run_place (Fed piece ∷ calls) old new run =
    let e : run.0.place ≡ old.place = ap (λ (p : Part). p.place) run.1 in omega (arith, e, run_place calls run.0 new run.2)
run_place (Took first ∷ calls) old new run =
    omega (arith, run.1.place, run_place calls run.0 new run.2, length-append (frame first) (flat_map frame (taken_by calls)))

-- a stream that ends before a frame has none in front
end_not_frame : (f : Frame) (rest bytes : List ℕ) → IsFrame f → bytes ≡ frame f ++ rest → IsEnd bytes → ⊥
end_not_frame f rest bytes fits spelled (inl is) = frame_not_partial f rest bytes fits spelled is
end_not_frame f rest bytes fits spelled (inr (inl is)) = frame_not_bad f rest bytes fits spelled is
end_not_frame f rest bytes fits spelled (inr (inr is)) = frame_not_large f rest bytes fits spelled is

-- no frame of a kind stands in front
abbrev pub Stops : (Frame → Type 0) → List ℕ → Type 0
Stops Fits rest = (f : Frame) (more : List ℕ) → Fits f → rest ≡ frame f ++ more → ⊥

-- two readings of the same bytes as frames of a kind, and what stands behind them
pub readings : (Fits : Frame → Type 0) → ((f : Frame) → Fits f → IsFrame f) → (fs gs : List Frame) (rest last : List ℕ) → AllByRecursion Fits fs → AllByRecursion Fits gs → Stops Fits rest → Stops Fits last
    → flat_map frame fs ++ rest ≡ flat_map frame gs ++ last → (fs ≡ gs) × (rest ≡ last)
readings Fits are [] [] rest last each also end stop e = (refl, e)
readings Fits are [] (g ∷ gs) rest last each also end stop e = absurd (end g (flat_map frame gs ++ last) also.0 (e ∙ append_assoc (frame g) (flat_map frame gs) last))
readings Fits are (f ∷ fs) [] rest last each also end stop e = absurd (stop f (flat_map frame fs ++ rest) each.0 (sym e ∙ append_assoc (frame f) (flat_map frame fs) rest))
readings Fits are (f ∷ fs) (g ∷ gs) rest last each also end stop e =
    let same = frame_once f g (flat_map frame fs ++ rest) (flat_map frame gs ++ last) (are f each.0) (are g also.0)
    (sym (append_assoc (frame f) (flat_map frame fs) rest) ∙ e ∙ append_assoc (frame g) (flat_map frame gs) last) in
    let others = readings Fits are fs gs rest last each.1 also.1 end stop same.1 in
    (ap (λ (x : Frame). x ∷ fs) same.0 ∙ ap (λ (xs : List Frame). g ∷ xs) others.0, others.1)

pub one_stream : (fs gs : List Frame) (bytes rest last : List ℕ) → Stream fs bytes rest → Stream gs bytes last → (fs ≡ gs) × (rest ≡ last)
one_stream fs gs bytes rest last s t =
    readings IsFrame (λ f fits. fits) fs gs rest last s.each t.each (λ f more fits e. end_not_frame f more rest fits e s.end) (λ f more fits e. end_not_frame f more last fits e t.end) (sym s.whole ∙ t.whole)

pub run_stream : (calls : List Call) (held : Part) → Run nothing calls held → IsEnd held.bytes → Stream (taken_by calls) (fed_by calls) held.bytes
run_stream calls held run end = record { whole = run_bytes calls nothing held run; each = run_frames calls nothing held run; end = end }

-- two cuttings of one stream
pub two_cuttings : (a b : List Call) (x y : Part) → Run nothing a x → Run nothing b y → fed_by a ≡ fed_by b → IsEnd x.bytes → IsEnd y.bytes → (taken_by a ≡ taken_by b) × (x ≡ y)
two_cuttings a b x y run other same end stop =
    let s = run_stream a x run end in
    let t = run_stream b y other stop in
    let one = one_stream (taken_by a) (taken_by b) (fed_by b) x.bytes y.bytes (subst (λ (bytes : List ℕ). Stream (taken_by a) bytes x.bytes) same s) t in
    let place : x.place ≡ y.place = run_place a nothing x run ∙ ap (λ (fs : List Frame). 0 + length (flat_map frame fs)) one.0 ∙ sym (run_place b nothing y other) in
    (one.0, ap (λ (n : ℕ). let p : Part = record { place = n; bytes = x.bytes } in p) place ∙ ap (λ (bytes : List ℕ). let p : Part = record { place = y.place; bytes = bytes } in p) one.1)

-- a fault stays where it is
pub bad_type_stays : (calls : List Call) (old new : Part) → Run old calls new → IsBadType old.bytes → IsBadType new.bytes × (new.place ≡ old.place)
bad_type_stays [] old new run is = (subst (λ (p : Part). IsBadType p.bytes) (sym run) is, ap (λ (p : Part). p.place) run)
bad_type_stays (Fed piece ∷ calls) old new run is =
    let t = bad_type_stays calls run.0 new run.2 (subst (λ (p : Part). IsBadType p.bytes) (sym run.1) (bad_type_more old.bytes piece is)) in
    (t.0, t.1 ∙ ap (λ (p : Part). p.place) run.1)
bad_type_stays (Took first ∷ calls) old new run is = absurd (frame_not_bad first run.0.bytes old.bytes run.1.fits run.1.bytes is)

pub too_large_stays : (calls : List Call) (old new : Part) → Run old calls new → IsTooLarge old.bytes → IsTooLarge new.bytes × (new.place ≡ old.place)
too_large_stays [] old new run is = (subst (λ (p : Part). IsTooLarge p.bytes) (sym run) is, ap (λ (p : Part). p.place) run)
too_large_stays (Fed piece ∷ calls) old new run is =
    let t = too_large_stays calls run.0 new run.2 (subst (λ (p : Part). IsTooLarge p.bytes) (sym run.1) (too_large_more old.bytes piece is)) in
    (t.0, t.1 ∙ ap (λ (p : Part). p.place) run.1)
too_large_stays (Took first ∷ calls) old new run is = absurd (frame_not_large first run.0.bytes old.bytes run.1.fits run.1.bytes is)
