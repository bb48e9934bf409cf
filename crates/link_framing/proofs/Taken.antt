-- What the front of a stream gives, and that it gives nothing else.
use Rattle.std.proofs.Common.{◌≡◌, ℕ, ◌+◌, ◌-◌, ◌≤◌, ◌↔◌, ◌⊎◌, inl, inr, List, ◌++◌, length, drop, Option, Some, None, Result, Ok, Err, refl, sym, ap, subst, ◌∙◌, length-append, arith}
use Rattle.std.specs.Result.{IsOk}
use Rattle.std.proofs.lemmas.List.{drop_at}
use Rattle.wire_core.specs.declared.bad.Bad.{Bad}
use Rattle.wire_core.specs.Part.{Part, part}
use Rattle.wire_core.specs.Spelling.{AreBytes}
use Rattle.link_framing.specs.declared.frame.Frame.{Frame}
use Rattle.link_framing.specs.declared.frame.FrameView.{FrameView}
use Rattle.link_framing.specs.Views.{seen}
use Rattle.link_framing.specs.declared.frame.FrameFault.{FrameFault}
use Rattle.link_framing.specs.declared.frame.FrameFault.TheVariants as faults
use Rattle.link_framing.specs.Framing.{frame, IsFrame}
use Rattle.link_framing.specs.Held.{Held}
use Rattle.link_framing.specs.Reading.{frame_at}
use Rattle.link_framing.specs.Finds.{Finds, IsFound, Gives, Says}
use Rattle.link_framing.specs.Streams.{BeginsFrame, IsPartial, IsBadType, IsTooLarge, Takes}
use Rattle.link_framing.proofs.Layouts.{frame_takes, frame_once}
use Rattle.link_framing.proofs.Cases.{Judged, judged, frame_not_bad, frame_not_large, frame_not_partial, partial_not_bad, partial_not_large, bad_not_large}

-- ---- what the reading says

-- a frame that was read, and the number of its bytes
pub read_frame : (place n : ℕ) (bytes : List ℕ) (view : FrameView) (q : Part) → AreBytes bytes → frame_at (part place bytes) ≡ Ok (seen view, q) → n ≡ length q.bytes
    → (n ≤ length bytes) × Finds (Ok (Some (view, length bytes - n))) place bytes
read_frame place n bytes view q fits e len =
    let f = seen view in
    let t = frame_takes (part place bytes) f q fits e in
    let all : length bytes ≡ length (frame f) + length q.bytes = ap length t.1.bytes ∙ length-append (frame f) q.bytes in
    let k : length bytes - n ≡ length (frame f) = omega arith in
    let rest : drop (length bytes - n) bytes ≡ q.bytes = ap (λ (b : List ℕ). drop (length bytes - n) b) t.1.bytes ∙ drop_at (frame f) q.bytes (length bytes - n) (sym k) in
    (omega arith, (t.0, k, t.1.bytes ∙ ap (λ (b : List ℕ). frame f ++ b) (sym rest)))

-- a frame that is read is there
pub read_whole : (place : ℕ) (bytes : List ℕ) (r : Result (Frame × Part) Bad) → AreBytes bytes → frame_at (part place bytes) ≡ r → IsOk r → BeginsFrame bytes
read_whole place bytes (Ok x) fits e is =
    let t = frame_takes (part place bytes) x.0 x.1 fits e in
    record { first = x.0; rest = x.1.bytes; fits = t.0; spelled = t.1.bytes }
read_whole place bytes (Err bad) fits e is = absurd cc

-- a fault
pub read_fault : (place : ℕ) (bytes : List ℕ) (bad : Bad) → AreBytes bytes → frame_at (part place bytes) ≡ Err bad → Says place bytes bad.place bad.reason
read_fault place bytes bad fits e = subst (Judged place bytes) e (judged place bytes fits)

-- a frame that was found is there
pub found_begins : (view : FrameView) (n place : ℕ) (bytes : List ℕ) → Finds (Ok (Some (view, n))) place bytes → BeginsFrame bytes
found_begins view n place bytes found = record { first = seen view; rest = drop n bytes; fits = found.0; spelled = found.2 }

-- ---- it gives nothing else

begins_not_partial : (bytes : List ℕ) → BeginsFrame bytes → IsPartial bytes → ⊥
begins_not_partial bytes b is = frame_not_partial b.first b.rest bytes b.fits b.spelled is

begins_not_bad : (bytes : List ℕ) → BeginsFrame bytes → IsBadType bytes → ⊥
begins_not_bad bytes b is = frame_not_bad b.first b.rest bytes b.fits b.spelled is

begins_not_large : (bytes : List ℕ) → BeginsFrame bytes → IsTooLarge bytes → ⊥
begins_not_large bytes b is = frame_not_large b.first b.rest bytes b.fits b.spelled is

-- the frame in front is found
pub found_only : (r : Result (Option (FrameView × ℕ)) Bad) (place : ℕ) (bytes : List ℕ) → Finds r place bytes
    → (f : Frame) (rest : List ℕ) → IsFrame f → bytes ≡ frame f ++ rest → IsFound r f
found_only (Ok (Some found)) place bytes is f rest fits spelled =
    let same = (frame_once (seen found.0) f (drop found.1 bytes) rest is.0 fits (sym is.2 ∙ spelled)).0 in
    (same, is.1 ∙ ap (λ (g : Frame). length (frame g)) same)
found_only (Ok None) place bytes is f rest fits spelled = frame_not_partial f rest bytes fits spelled is
found_only (Err fault) place bytes (inl is) f rest fits spelled = frame_not_bad f rest bytes fits spelled is.0
found_only (Err fault) place bytes (inr is) f rest fits spelled = frame_not_large f rest bytes fits spelled is.0

taken_begins : (f : Frame) (old new : Held) → Takes f old.left new.left → BeginsFrame old.left.bytes
taken_begins f old new t = record { first = f; rest = new.left.bytes; fits = t.fits; spelled = t.bytes }

abbrev answers : Result (Option Frame) FrameFault → Result (Option Frame) FrameFault
answers r = r

-- the frame in front is taken
pub taken_only : (r : Result (Option Frame) FrameFault) (old new : Held) → Gives r old new
    → (f : Frame) (rest : List ℕ) → IsFrame f → old.left.bytes ≡ frame f ++ rest → (r ≡ Ok (Some f)) ⊎ (r ≡ Err faults.NoMemory)
taken_only (Ok (Some g)) old new is f rest fits spelled =
    inl (ap (λ (h : Frame). answers (Ok (Some h))) (frame_once g f new.left.bytes rest is.fits fits (sym is.bytes ∙ spelled)).0)
taken_only (Ok None) old new is f rest fits spelled = absurd (frame_not_partial f rest old.left.bytes fits spelled is.0)
taken_only (Err (faults.BadType at)) old new is f rest fits spelled = absurd (frame_not_bad f rest old.left.bytes fits spelled is.0.0)
taken_only (Err (faults.TooLarge at)) old new is f rest fits spelled = absurd (frame_not_large f rest old.left.bytes fits spelled is.0.0)
taken_only (Err faults.NoMemory) old new is f rest fits spelled = inr refl

pub none_iff : (r : Result (Option Frame) FrameFault) (old new : Held) → Gives r old new → (r ≡ Ok None) ↔ IsPartial old.left.bytes
none_iff (Ok None) old new gave = (λ _. gave.0, λ _. refl)
none_iff (Ok (Some f)) old new gave = (λ e. absurd cc, λ is. absurd (begins_not_partial old.left.bytes (taken_begins f old new gave) is))
none_iff (Err (faults.BadType at)) old new gave = (λ e. absurd cc, λ is. absurd (partial_not_bad old.left.bytes is gave.0.0))
none_iff (Err (faults.TooLarge at)) old new gave = (λ e. absurd cc, λ is. absurd (partial_not_large old.left.bytes is gave.0.0))
none_iff (Err faults.NoMemory) old new gave = (λ e. absurd cc, λ is. absurd (begins_not_partial old.left.bytes gave.0 is))

pub bad_type_iff : (r : Result (Option Frame) FrameFault) (old new : Held) → Gives r old new
    → (at : ℕ) → (r ≡ Err (faults.BadType at)) ↔ (IsBadType old.left.bytes × (at ≡ old.left.place))
bad_type_iff (Ok None) old new gave at = (λ e. absurd cc, λ is. absurd (partial_not_bad old.left.bytes gave.0 is.0))
bad_type_iff (Ok (Some f)) old new gave at = (λ e. absurd cc, λ is. absurd (begins_not_bad old.left.bytes (taken_begins f old new gave) is.0))
bad_type_iff (Err (faults.BadType there)) old new gave at =
    (λ e. let same : there ≡ at = cc in (gave.0.0, sym same ∙ gave.0.1), λ is. ap (λ (n : ℕ). answers (Err (faults.BadType n))) (gave.0.1 ∙ sym is.1))
bad_type_iff (Err (faults.TooLarge there)) old new gave at = (λ e. absurd cc, λ is. absurd (bad_not_large old.left.bytes is.0 gave.0.0))
bad_type_iff (Err faults.NoMemory) old new gave at = (λ e. absurd cc, λ is. absurd (begins_not_bad old.left.bytes gave.0 is.0))

pub too_large_iff : (r : Result (Option Frame) FrameFault) (old new : Held) → Gives r old new
    → (at : ℕ) → (r ≡ Err (faults.TooLarge at)) ↔ (IsTooLarge old.left.bytes × (at ≡ old.left.place + 5))
too_large_iff (Ok None) old new gave at = (λ e. absurd cc, λ is. absurd (partial_not_large old.left.bytes gave.0 is.0))
too_large_iff (Ok (Some f)) old new gave at = (λ e. absurd cc, λ is. absurd (begins_not_large old.left.bytes (taken_begins f old new gave) is.0))
too_large_iff (Err (faults.BadType there)) old new gave at = (λ e. absurd cc, λ is. absurd (bad_not_large old.left.bytes gave.0.0 is.0))
too_large_iff (Err (faults.TooLarge there)) old new gave at =
    (λ e. let same : there ≡ at = cc in (gave.0.0, sym same ∙ gave.0.1), λ is. ap (λ (n : ℕ). answers (Err (faults.TooLarge n))) (gave.0.1 ∙ sym is.1))
too_large_iff (Err faults.NoMemory) old new gave at = (λ e. absurd cc, λ is. absurd (begins_not_large old.left.bytes gave.0 is.0))
