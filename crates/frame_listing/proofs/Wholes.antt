-- A message has no fault exactly where it is whole, and a fault lies in it, or at its end.
use Rattle.std.proofs.Common.{◌≡◌, ℕ, ◌+◌, ◌≤◌, ◌⊎◌, inl, inr, List, [], ◌++◌, length, drop, Result, Ok, Err, Option, Some, None, refl, sym, ap, subst, ◌∙◌, append-nil, arith}
use Rattle.std.proofs.lemmas.List.{drop_at}
use Rattle.std.specs.Option.{option_map}
use Rattle.wire_core.specs.declared.bad.Bad.{Bad}
use Rattle.wire_core.specs.Part.{Part, part, end_of}
use Rattle.wire_core.specs.Spelling.{AreBytes}
use Rattle.wire_core.specs.Layout.{Follows}
use Rattle.wire_core.specs.Reading as reading
use Rattle.wire_core.specs.Laws.Steps.{AreBytes-follows, end-follows, ok_is}
use Rattle.wire_core.specs.Laws.Words.{ended_ok, ended_err}
use Rattle.forwarding_header.specs.declared.header.Header.{Header}
use Rattle.forwarding_header.specs.Header.{header, message_at, IsMessage}
use Rattle.forwarding_header.proofs.Messages.{message_takes, message_again, message_within}
use Rattle.message_bodies.specs.Contents.{contents, contents_at}
use Rattle.message_bodies.specs.Laws.Contents.{contents_laid}
use Rattle.security_block.specs.Block.{block, block_at}
use Rattle.security_block.specs.Laws.Blocks.{block_laid}
use Rattle.link_framing.specs.declared.frame.Frame.{Frame}
use Rattle.link_framing.specs.declared.frame.Frame.TheVariants.{Payload, Ack}
use Rattle.link_framing.specs.Framing.{IsFrame}
use Rattle.frame_listing.specs.declared.listing.Listing.{Listing}
use Rattle.frame_listing.specs.Lines.{message_line, contents_line, security_line}
use Rattle.frame_listing.specs.Messages.{no_kinds, listed, filled, headed, from, message_listing, frame_listing}
use Rattle.frame_listing.specs.Listing.{IsWholeMessage, IsWholeFrame}

-- ---- what it says that no fault was listed, or one was

listed_none : {A : Type 0} (r : Result (A × Part) Bad) (line : A → List ℕ) (next : Part → Listing) → (listed r line next).fault ≡ None → (x : A) × (q : Part) × (r ≡ Ok (x, q)) × ((next q).fault ≡ None)
listed_none (Ok x) line next e = (x.0, x.1, refl, e)
listed_none (Err bad) line next e = absurd cc

listed_fault : {A : Type 0} (r : Result (A × Part) Bad) (line : A → List ℕ) (next : Part → Listing) (bad : Bad) → (listed r line next).fault ≡ Some bad
    → (r ≡ Err bad) ⊎ ((x : A) × (q : Part) × (r ≡ Ok (x, q)) × ((next q).fault ≡ Some bad))
listed_fault (Ok x) line next bad e = inr (x.0, x.1, refl, e)
listed_fault (Err found) line next bad e = let same : found ≡ bad = cc in inl (ap (λ (b : Bad). Err b) same)

filled_none : (r : Result (Unit {0} × Part) Bad) → (filled r).fault ≡ None → (x : Unit {0} × Part) × (r ≡ Ok x)
filled_none (Ok x) e = (x, refl)
filled_none (Err bad) e = absurd cc

filled_fault : (r : Result (Unit {0} × Part) Bad) (bad : Bad) → (filled r).fault ≡ Some bad → r ≡ Err bad
filled_fault (Ok x) bad e = absurd cc
filled_fault (Err found) bad e = let same : found ≡ bad = cc in ap (λ (b : Bad). Err b) same

headed_ok : (bytes : List ℕ) (r : Result (Header × ℕ) Bad) (h : Header) (q : Part) → headed bytes r ≡ Ok (h, q) → (place : ℕ) × (r ≡ Ok (h, place)) × (q ≡ part place (drop place bytes))
headed_ok bytes (Ok x) h q e =
    let same = ok_is (x.0, part x.1 (drop x.1 bytes)) (h, q) e in
    (x.1, ap (λ (y : Header × Part). Ok (y.0, x.1)) same, sym (ap (λ (y : Header × Part). y.1) same))
headed_ok bytes (Err bad) h q e = absurd cc

headed_err : (bytes : List ℕ) (r : Result (Header × ℕ) Bad) (bad : Bad) → headed bytes r ≡ Err bad → r ≡ Err bad
headed_err bytes (Ok x) bad e = absurd cc
headed_err bytes (Err found) bad e = let same : found ≡ bad = cc in ap (λ (b : Bad). Err b) same

-- what is behind a header
behind : (bytes : List ℕ) (h : Header) (q : Part) → AreBytes bytes → headed bytes (message_at bytes) ≡ Ok (h, q) → IsMessage h bytes × Follows (part 0 bytes) (header h) q
behind bytes h q fits e =
    let a = headed_ok bytes (message_at bytes) h q e in
    let t = message_takes bytes (h, a.0) fits a.1 in
    let rest : drop a.0 bytes ≡ t.0.begins.0 = ap (drop a.0) t.0.begins.1 ∙ drop_at (header h) t.0.begins.0 a.0 (sym t.1) in
    let left : q.bytes ≡ t.0.begins.0 = ap (λ (p : Part). p.bytes) a.2 ∙ rest in (
      t.0,
      record {
        bytes = t.0.begins.1 ∙ ap (λ (text : List ℕ). header h ++ text) (sym left);
        place = ap (λ (p : Part). p.place) a.2 ∙ t.1 ∙ let e : length (header h) ≡ 0 + length (header h) = omega arith in e;
      },
    )

-- ---- a message without a fault is whole

pub read_whole : (bytes : List ℕ) → AreBytes bytes → (message_listing bytes).fault ≡ None → IsWholeMessage bytes
unfolding message_listing
read_whole bytes fits none =
    let a = listed_none (headed bytes (message_at bytes)) message_line _ none in
    let b = listed_none (contents_at no_kinds a.1) contents_line _ a.3 in
    let c = listed_none (block_at b.1) security_line _ b.3 in
    let d = filled_none (reading.ended c.1) c.3 in
    let end = ended_ok c.1 (λ x q. Ok (x, q)) d.0 (ap (λ r. reading.and_then r (λ x q. Ok (x, q))) d.1) in
    let t = behind bytes a.0 a.1 fits a.2 in
    let in_a = AreBytes-follows (part 0 bytes) (header a.0) a.1 fits t.1 in
    let u = (contents_laid no_kinds).takes a.1 b.0 b.1 in_a b.2 in
    let in_b = AreBytes-follows a.1 (contents b.0) b.1 in_a u.1 in
    let v = block_laid.takes b.1 c.0 c.1 in_b c.2 in
    let last : b.1.bytes ≡ block c.0 = v.1.bytes ∙ ap (λ (text : List ℕ). block c.0 ++ text) end.0 ∙ append-nil (block c.0) in
    record {
      h = a.0;
      c = b.0;
      b = c.0;
      headed = t.0;
      fits = record { is_spelled = u.0.0; in_range = u.0.1.0; belongs = u.0.1.1; block_is_spelled = v.0.0; block_in_range = v.0.1 };
      spelled = t.1.bytes ∙ ap (λ (text : List ℕ). header a.0 ++ text) (u.1.bytes ∙ ap (λ (text : List ℕ). contents b.0 ++ text) last);
    }

-- ---- a whole message has no fault

whole_parts : (h : Header) (bytes rest : List ℕ) → IsMessage h bytes → bytes ≡ header h ++ rest → headed bytes (message_at bytes) ≡ Ok (h, part (length (header h)) rest)
whole_parts h bytes rest m e =
    ap (headed bytes) (message_again bytes h m) ∙ ap (λ (text : List ℕ). Ok (h, part (length (header h)) text)) (ap (drop (length (header h))) e ∙ drop_at (header h) rest (length (header h)) refl)

pub whole_read : (bytes : List ℕ) → IsWholeMessage bytes → (message_listing bytes).fault ≡ None
unfolding message_listing reading.allowed
whole_read bytes w =
    let a = whole_parts w.h bytes (contents w.c ++ block w.b) w.headed w.spelled in
    let b = (contents_laid no_kinds).again (length (header w.h)) w.c (block w.b) (w.fits.is_spelled, (w.fits.in_range, w.fits.belongs)) in
    let at = length (header w.h) + length (contents w.c) in
    let c = subst (λ (text : List ℕ). block_at (part at text) ≡ Ok (w.b, part (at + length (block w.b)) [])) (append-nil (block w.b)) (block_laid.again at w.b [] (w.fits.block_is_spelled, w.fits.block_in_range)) in
    rw (a, b, c) refl

-- ---- where a fault lies

pub fault_within : (bytes : List ℕ) (bad : Bad) → AreBytes bytes → (message_listing bytes).fault ≡ Some bad → bad.place ≤ length bytes
unfolding message_listing
fault_within bytes bad fits e =
    elim (listed_fault (headed bytes (message_at bytes)) message_line _ bad e) [
      | inl first ↦ message_within bytes bad fits (headed_err bytes (message_at bytes) bad first)
      | inr a ↦
          let t = (behind bytes a.0 a.1 fits a.2).1 in
          let in_a = AreBytes-follows (part 0 bytes) (header a.0) a.1 fits t in
          let end_a : end_of a.1 ≡ length bytes = omega (arith, end-follows (part 0 bytes) (header a.0) a.1 t) in
          elim (listed_fault (contents_at no_kinds a.1) contents_line _ bad a.3) [
            | inl second ↦ omega (arith, (contents_laid no_kinds).within a.1 bad in_a second, end_a)
            | inr b ↦
                let u = ((contents_laid no_kinds).takes a.1 b.0 b.1 in_a b.2).1 in
                let in_b = AreBytes-follows a.1 (contents b.0) b.1 in_a u in
                let end_b : end_of b.1 ≡ length bytes = end-follows a.1 (contents b.0) b.1 u ∙ end_a in
                elim (listed_fault (block_at b.1) security_line _ bad b.3) [
                  | inl third ↦ omega (arith, block_laid.within b.1 bad in_b third, end_b)
                  | inr c ↦
                      let v = (block_laid.takes b.1 c.0 c.1 in_b c.2).1 in
                      let last = ended_err c.1 bad (filled_fault (reading.ended c.1) bad c.3) in
                      omega (arith, last, end-follows b.1 (block c.0) c.1 v, end_b)
                ]
          ]
    ]

-- ---- frames

map_none : (place : ℕ) (fault : Option Bad) → option_map (from place) fault ≡ None → fault ≡ None
map_none place None e = refl
map_none place (Some bad) e = absurd cc

pub frame_whole : (place : ℕ) (f : Frame) → IsFrame f → (frame_listing place f).fault ≡ None → IsWholeFrame f
frame_whole place (Payload s m) fits e = (fits, read_whole m fits.2 (map_none (place + 8) (message_listing m).fault e))
frame_whole place (Ack s r) fits e = (fits, tt)

pub whole_frame : (place : ℕ) (f : Frame) → IsWholeFrame f → (frame_listing place f).fault ≡ None
whole_frame place (Payload s m) w = ap (option_map (from (place + 8))) (whole_read m w.1)
whole_frame place (Ack s r) w = refl

pub whole_fits : (f : Frame) → IsWholeFrame f → IsFrame f
whole_fits f w = w.0
