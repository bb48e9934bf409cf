-- Whole messages and their headers.
use Rattle.std.proofs.Common.{◌≡◌, ℕ, ◌+◌, ◌^◌, ◌<◌, ◌≤◌, List, [], ◌++◌, length, Result, Ok, Err, sym, ap, subst, ◌∙◌, append_assoc, length-append, lit<, arith}
use Rattle.std.specs.Prelude.{IfOk}
use Rattle.std.proofs.lemmas.List.{append-nil, nil_from_length}
use Rattle.wire_core.specs.declared.bad.Bad.{Bad}
use Rattle.wire_core.specs.declared.bad.DecodeFault.{DecodeFault}
use Rattle.wire_core.specs.Part.{Part, part}
use Rattle.wire_core.specs.Spelling.{AreBytes, number}
use Rattle.wire_core.specs.Reading.{Gives}
use Rattle.wire_core.specs.Laws.Bytes.{number-in_front}
use Rattle.wire_core.specs.Laws.Steps.{ok_is}
use Rattle.wire_core.specs.declared.limits.TheConstants.{MAX_MESSAGE}
use Rattle.forwarding_header.specs.declared.header.TheConstants.{TOKEN, VERSION, WHOLE}
use Rattle.forwarding_header.specs.declared.header.Header.{Header}
use Rattle.forwarding_header.specs.Header.{fixed, lists, header, header_at, placed_behind, message_at, IsMessage, IsHeaderInRange}
use Rattle.forwarding_header.proofs.HeaderLaw.{header_laid, FitsBefore}

-- a header and the place behind it come from a reading
read_before : (r : Result (Header × Part) Bad) (x : Header × ℕ) → placed_behind r ≡ Ok x → (p : Part) × (r ≡ Ok (x.0, p)) × (p.place ≡ x.1)
read_before (Ok y) x e = let same : (y.0, y.1.place) ≡ x = ok_is _ x e in (y.1, ap (λ (h : Header × ℕ). Ok (h.0, y.1)) same, ap (λ (h : Header × ℕ). h.1) same)
read_before (Err bad) x e = absurd cc

-- what is read is the header of the message
pub message_takes : (bytes : List ℕ) (x : Header × ℕ) → AreBytes bytes → message_at bytes ≡ Ok x → IsMessage x.0 bytes × (x.1 ≡ length (header x.0))
unfolding message_at
message_takes bytes x fits e =
    let r = read_before (header_at (length bytes) (part 0 bytes)) x e in
    let t = (header_laid {n = length bytes} (length bytes) (omega arith)).takes (part 0 bytes) x.0 r.0 fits (omega arith) r.1 in
    let f = t.1 in
    (record { is_spelled = f.is_spelled; in_range = f.in_range; length_is = f.length_is; within = f.within; begins = (r.0.bytes, t.2.bytes) }, omega (arith, t.2.place, r.2))

-- a fault lies in the message, or at its end
fault_of : (r : Result (Header × Part) Bad) (bad : Bad) → placed_behind r ≡ Err bad → r ≡ Err bad
fault_of (Ok x) bad e = absurd cc
fault_of (Err found) bad e = let same : found ≡ bad = cc in ap (λ (b : Bad). Err b) same

pub message_within : (bytes : List ℕ) (bad : Bad) → AreBytes bytes → message_at bytes ≡ Err bad → bad.place ≤ length bytes
unfolding message_at
message_within bytes bad fits e =
    let n = length bytes in
    (header_laid {n = n} n (omega arith)).within (part 0 bytes) bad fits (omega arith) (fault_of (header_at n (part 0 bytes)) bad e)

-- the header of a message is read
pub message_again : (bytes : List ℕ) (h : Header) → IsMessage h bytes → message_at bytes ≡ Ok (h, length (header h))
unfolding message_at
message_again bytes h m =
    let fits : FitsBefore (length bytes) h = record { is_spelled = m.is_spelled; in_range = m.in_range; length_is = m.length_is; within = m.within } in
    let a = (header_laid {n = length bytes} (length bytes) (omega arith)).again 0 h m.begins.0 (omega (arith, ap length m.begins.1, length-append (header h) m.begins.0)) tt fits tt in
    let text : header h ++ m.begins.0 ≡ bytes = sym m.begins.1 in
    let read : header_at (length bytes) (part 0 bytes) ≡ Ok (h, part (0 + length (header h)) m.begins.0) = subst (λ (b : List ℕ). header_at (length bytes) (part 0 b) ≡ Ok (h, part (0 + length (header h)) m.begins.0)) text a in
    let place : 0 + length (header h) ≡ length (header h) = omega arith in
    ap placed_behind read ∙ ap (λ (n : ℕ). Ok (h, n)) place

pub is_found : (bytes : List ℕ) (r : Result (Header × ℕ) DecodeFault) → AreBytes bytes → Gives r (message_at bytes) → IfOk r (λ x. IsMessage x.0 bytes × (x.1 ≡ length (header x.0)))
is_found bytes (Ok x) fits given = message_takes bytes x fits given
is_found bytes (Err e) fits given = tt

-- the number in front of two lists of bytes that are the same
peeled : (n x y : ℕ) (a b r t : List ℕ) → (number n x ++ a) ++ r ≡ (number n y ++ b) ++ t → x < 256 ^ n → y < 256 ^ n → (x ≡ y) × (a ++ r ≡ b ++ t)
peeled n x y a b r t e = number-in_front n x y (a ++ r) (b ++ t) (sym (append_assoc (number n x) a r) ∙ e ∙ append_assoc (number n y) b t)

-- messages that begin alike have one length
same_length : (g h : Header) (r t : List ℕ) → IsHeaderInRange g → IsHeaderInRange h → g.length ≤ MAX_MESSAGE → h.length ≤ MAX_MESSAGE → fixed g ++ r ≡ fixed h ++ t → g.length ≡ h.length
unfolding fixed
same_length g h r t m n le lf e =
    let a = peeled 4 TOKEN TOKEN _ _ r t e (lit< tt) (lit< tt) in
    let b = peeled 4 g.overlay h.overlay _ _ r t a.1 m.overlay n.overlay in
    let c = peeled 2 g.sequence h.sequence _ _ r t b.1 m.sequence n.sequence in
    let d = peeled 1 VERSION VERSION _ _ r t c.1 (lit< tt) (lit< tt) in
    let f = peeled 1 g.ttl h.ttl _ _ r t d.1 m.ttl n.ttl in
    let w = peeled 4 WHOLE WHOLE _ _ r t f.1 (lit< tt) (lit< tt) in
    (peeled 4 g.length h.length _ _ r t w.1 (omega (arith, le)) (omega (arith, lf))).0

-- no message is a front of another, and a message has one header
pub one_message : (g h : Header) (x y z : List ℕ) → IsMessage g x → IsMessage h y → x ++ z ≡ y → (z ≡ []) × (g ≡ h)
one_message g h x y z m n e =
    let r = m.begins.0 in
    let t = n.begins.0 in
    let front : fixed g ++ (lists g ++ (r ++ z)) ≡ fixed h ++ (lists h ++ t) =
    sym (append_assoc (fixed g) (lists g) (r ++ z)) ∙ sym (append_assoc (header g) r z) ∙ ap (λ (b : List ℕ). b ++ z) (sym m.begins.1) ∙ e ∙ n.begins.1 ∙ append_assoc (fixed h) (lists h) t in
    let len = same_length g h (lists g ++ (r ++ z)) (lists h ++ t) m.in_range n.in_range m.within n.within front in
    let none : z ≡ [] = nil_from_length z (omega (arith, len, m.length_is, n.length_is, length-append x z, ap length e)) in
    let same : x ≡ y = sym (append-nil x) ∙ ap (λ (b : List ℕ). x ++ b) (sym none) ∙ e in
    let read = sym (message_again x g m) ∙ ap message_at same ∙ message_again y h n in
    (none, ap (λ (v : Header × ℕ). v.0) (ok_is (g, length (header g)) (h, length (header h)) read))
