-- Frames that were listed, one after the other.
use Rattle.std.proofs.Common.{◌≡◌, ℕ, ◌+◌, ◌-◌, ◌<◌, ◌≤◌, List, [], ◌∷◌, ◌++◌, length, drop, None, Some, refl, sym, ap, subst, ◌∙◌, append_assoc, append-nil, length-append, arith}
use Rattle.std.specs.List.{flat_map, AllByRecursion}
use Rattle.text_words.specs.Lines.{ended}
use Rattle.wire_core.specs.declared.bad.Bad.{Bad}
use Rattle.wire_core.specs.Laws.Bytes.{length-number}
use Rattle.wire_core.specs.Spelling.{number}
use Rattle.link_framing.specs.declared.frame.Frame.{Frame}
use Rattle.link_framing.specs.declared.frame.Frame.TheVariants.{Payload, Ack}
use Rattle.link_framing.specs.Framing.{frame}
use Rattle.frame_listing.specs.Lines.{end_line, fault_line}
use Rattle.frame_listing.specs.Messages.{frame_listing}
use Rattle.frame_listing.specs.Listing.{IsWholeFrame, lines_of, IsFault, IsListing}
use Rattle.frame_listing.specs.declared.listing.Listing.{Listing}

-- a frame has its first byte, its sequence, and its length or mask
pub frame_length : (f : Frame) → 8 ≤ length (frame f)
unfolding frame
frame_length (Payload s m) = omega (arith, length-append (number 1 128) (number 4 s ++ (number 3 (length m) ++ m)), length-append (number 4 s) (number 3 (length m) ++ m), length-append (number 3 (length m)) m, length-number 1 128, length-number 4 s, length-number 3 (length m))
frame_length (Ack s r) = omega (arith, length-append (number 1 129) (number 4 s ++ number 4 r), length-append (number 4 s) (number 4 r), length-number 1 129, length-number 4 s, length-number 4 r)

-- the bytes of a payload behind its message's first
pub payload_length : (s : ℕ) (m : List ℕ) → length (frame (Payload s m)) ≡ 8 + length m
unfolding frame
payload_length s m = omega (arith, length-append (number 1 128) (number 4 s ++ (number 3 (length m) ++ m)), length-append (number 4 s) (number 3 (length m) ++ m), length-append (number 3 (length m)) m, length-number 1 128, length-number 4 s, length-number 3 (length m))

-- no more frames than bytes
pub few_frames : (fs : List Frame) → length fs ≤ length (flat_map frame fs)
few_frames [] = omega arith
few_frames (f ∷ fs) = omega (arith, few_frames fs, frame_length f, length-append (frame f) (flat_map frame fs))

-- the frame in front takes bytes away
pub fewer_left : (f : Frame) (rest : List ℕ) (n : ℕ) → n ≡ length (frame f) → rest ≡ frame f ++ drop n rest → length (drop n rest) < length rest
fewer_left f rest n len front = omega (arith, frame_length f, ap length front, length-append (frame f) (drop n rest))

-- ---- a frame more

lines_of-more : (place : ℕ) (fs : List Frame) (f : Frame) → lines_of place (fs ++ f ∷ []) ≡ lines_of place fs ++ (frame_listing (place + length (flat_map frame fs)) f).text
lines_of-more place [] f =
    let here : place ≡ place + 0 = omega arith in
    append-nil (frame_listing place f).text ∙ ap (λ (p : ℕ). (frame_listing p f).text) here
lines_of-more place (g ∷ fs) f =
    let there : place + length (frame g) + length (flat_map frame fs) ≡ place + length (frame g ++ flat_map frame fs) = omega (arith, length-append (frame g) (flat_map frame fs)) in
    ap (λ (t : List ℕ). (frame_listing place g).text ++ t) (lines_of-more (place + length (frame g)) fs f)
    ∙ sym (append_assoc (frame_listing place g).text (lines_of (place + length (frame g)) fs) _)
    ∙ ap (λ (p : ℕ). ((frame_listing place g).text ++ lines_of (place + length (frame g)) fs) ++ (frame_listing p f).text) there

flat_map-more : (fs : List Frame) (f : Frame) → flat_map frame (fs ++ f ∷ []) ≡ flat_map frame fs ++ frame f
flat_map-more [] f = append-nil (frame f)
flat_map-more (g ∷ fs) f = ap (λ (t : List ℕ). frame g ++ t) (flat_map-more fs f) ∙ sym (append_assoc (frame g) (flat_map frame fs) (frame f))

each-more : (fs : List Frame) (f : Frame) → AllByRecursion IsWholeFrame fs → IsWholeFrame f → AllByRecursion IsWholeFrame (fs ++ f ∷ [])
each-more [] f each is = (is, tt)
each-more (g ∷ fs) f each is = (each.0, each-more fs f each.1 is)

-- a front of a stream that was listed: its frames, and what is left behind them
pub record Listed (stream rest text : List ℕ) (count : ℕ) : Type 0 where
  pub frames : List Frame
  pub each : AllByRecursion IsWholeFrame frames
  pub spelled : stream ≡ flat_map frame frames ++ rest
  pub lines : text ≡ lines_of 0 frames
  pub counted : count ≡ length frames

-- nothing yet
pub Listed-none : (stream : List ℕ) → Listed stream stream [] 0
Listed-none stream = record { frames = []; each = tt; spelled = refl; lines = refl; counted = refl }

-- where what is left begins
pub listed_place : (stream rest text : List ℕ) (count : ℕ) (l : Listed stream rest text count) → length stream - length rest ≡ length (flat_map frame l.frames)
listed_place stream rest text count l = omega (arith, ap length l.spelled, length-append (flat_map frame l.frames) rest)

pub listed_within : (stream rest text : List ℕ) (count : ℕ) → Listed stream rest text count → (length rest ≤ length stream) × (count ≤ length stream)
listed_within stream rest text count l =
    let all = length-append (flat_map frame l.frames) rest in
    (omega (arith, ap length l.spelled, all), omega (arith, ap length l.spelled, all, l.counted, few_frames l.frames))

-- the frame in front was listed
pub Listed-more : (stream rest text new : List ℕ) (count n : ℕ) (l : Listed stream rest text count) → (f : Frame) → IsWholeFrame f
    → rest ≡ frame f ++ drop n rest → new ≡ text ++ (frame_listing (length stream - length rest) f).text → Listed stream (drop n rest) new (count + 1)
Listed-more stream rest text new count n l f whole front added = record {
  frames = l.frames ++ f ∷ [];
  each = each-more l.frames f l.each whole;
  spelled = l.spelled ∙ ap (λ (t : List ℕ). flat_map frame l.frames ++ t) front ∙ sym (append_assoc (flat_map frame l.frames) (frame f) (drop n rest)) ∙ ap (λ (t : List ℕ). t ++ drop n rest) (sym (flat_map-more l.frames f));
  lines =
      let place : length stream - length rest ≡ 0 + length (flat_map frame l.frames) = omega (arith, listed_place stream rest text count l) in
      added ∙ ap (λ (t : List ℕ). t ++ (frame_listing (length stream - length rest) f).text) l.lines
      ∙ ap (λ (p : ℕ). lines_of 0 l.frames ++ (frame_listing p f).text) place ∙ sym (lines_of-more 0 l.frames f);
  counted = let e : length (l.frames ++ f ∷ []) ≡ length l.frames + 1 = length-append l.frames (f ∷ []) in omega (arith, l.counted, e);
}

-- all was listed
pub Listed-end : (stream rest text new : List ℕ) (count : ℕ) → Listed stream rest text count → rest ≡ [] → new ≡ text ++ ended (end_line count (length stream)) → IsListing stream new None
Listed-end stream rest text new count l none added =
    let bytes : stream ≡ flat_map frame l.frames = l.spelled ∙ ap (λ (t : List ℕ). flat_map frame l.frames ++ t) none ∙ append-nil (flat_map frame l.frames) in
    record {
      frames = l.frames;
      rest = rest;
      ending = ended (end_line count (length stream));
      each = l.each;
      spelled = l.spelled;
      ends = (none, ap (λ (n : ℕ). ended (end_line n (length stream))) l.counted ∙ ap (λ (t : List ℕ). ended (end_line (length l.frames) (length t))) bytes);
      whole = added ∙ ap (λ (t : List ℕ). t ++ ended (end_line count (length stream))) l.lines;
    }

-- a fault was met
pub Listed-fault : (stream rest text own new : List ℕ) (count : ℕ) (fault : Bad) → Listed stream rest text count → IsFault (length stream - length rest) rest own fault
    → new ≡ text ++ own → (listing : Listing) → (listing.text ≡ new ++ ended (fault_line fault)) × (listing.fault ≡ Some fault) → IsListing stream listing.text listing.fault
Listed-fault stream rest text own new count fault l is added listing (last, told) = subst (IsListing stream listing.text) (sym told) (record {
  frames = l.frames;
  rest = rest;
  ending = own ++ ended (fault_line fault);
  each = l.each;
  spelled = l.spelled;
  ends = (own, subst (λ (p : ℕ). IsFault p rest own fault) (listed_place stream rest text count l) is, refl);
  whole = last ∙ ap (λ (t : List ℕ). t ++ ended (fault_line fault)) (added ∙ ap (λ (t : List ℕ). t ++ own) l.lines) ∙ append_assoc (lines_of 0 l.frames) own (ended (fault_line fault));
})
