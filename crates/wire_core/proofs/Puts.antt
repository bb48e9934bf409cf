-- What is spelled, and bytes that begin with what was there.
use Rattle.std.proofs.Common.{◌≡◌, ℕ, ◌-◌, ◌^◌, ◌<◌, ◌≤◌, List, ◌++◌, length, min, take, drop, refl, sym, ap, ◌∙◌, append_assoc, length-append, take-append-drop, arith}
use Rattle.std.proofs.Math.Nat.{pow-le-pow_right}
use Rattle.std.proofs.lemmas.List.{take_at}
use Rattle.wire_core.specs.Laws.Bytes.{length-number}
use Rattle.wire_core.specs.Spelling.{number, vector}

-- what begins with a text begins with its front
pub kept : (front more text : List ℕ) → take (length (front ++ more)) text ≡ front ++ more → (take (length (front ++ more)) text ≡ front ++ more) × (take (length front) text ≡ front)
kept front more text e =
    let all : text ≡ front ++ (more ++ drop (length (front ++ more)) text) =
    sym (take-append-drop (length (front ++ more)) text) ∙ ap (λ (t : List ℕ). t ++ drop (length (front ++ more)) text) e ∙ append_assoc front more _ in
    (e, ap (take (length front)) all ∙ take_at front _ (length front) refl)

-- a length for which its width has room isn't cut
uncut : (width n : ℕ) → width ≤ 4 → n < 256 ^ width → min n (2 ^ 64 - 1) ≡ n
uncut width n le lt =
    let top : 256 ^ width ≤ 256 ^ 4 = pow-le-pow_right {n = 256} (omega arith) {i = width} {j = 4} le in
    omega arith

-- a length and its content are a vector
pub length_then : (width len : ℕ) (old mid new content : List ℕ) → width ≤ 4 → length content < 256 ^ width → len ≡ min (length content) (2 ^ 64 - 1)
    → mid ≡ old ++ number width len → new ≡ mid ++ content → new ≡ old ++ vector width content
length_then width len old mid new content le lt e f g =
    let whole : min (length content) (2 ^ 64 - 1) ≡ length content = uncut width (length content) le lt in
    rw (g, f, e, whole, append_assoc) refl

pub ruleset fronts = kept

-- how long what is spelled is
pub ruleset lengths = (length-number, length-append)
