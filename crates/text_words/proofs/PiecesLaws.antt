-- The pieces of some bytes are the only ones without the separator that make them.
use Rattle.std.proofs.Common.{◌≡◌, ◌≢◌, ℕ, suc, Bool, true, false, List, [], ◌∷◌, ◌++◌, length, drop, Option, Some, None, refl, sym, ap, ◌∙◌, inl, inr, eq-eqb, ne_eqb, arith}
use Rattle.std.specs.Prelude.{◌==◌, not, is_some, option_map}
use Rattle.std.specs.List.{flat_map, AllByRecursion}
use Rattle.std.proofs.lemmas.Bool.{cases_eq}
use Rattle.std.proofs.lemmas.List.{append-nil}
use Rattle.std.proofs.lemmas.Option.{some_pair_parts}
use Rattle.text_words.specs.Separator.{Lacks, joined, onto_pieces, pieces_left, pieces_of, upto}
use Rattle.text_words.specs.Steps.{first_of}
use Rattle.text_words.proofs.SeparatorLaws.{Lacks-nil, Lacks-cons, Lacks-head, upto-takes, upto-none}

-- the separator at the front stands behind an empty piece
pieces_of-separator : (byte : ℕ) (bytes : List ℕ) → pieces_of byte (byte ∷ bytes) ≡ [] ∷ pieces_of byte bytes
unfolding pieces_of
pieces_of-separator byte bytes = rw (eq-eqb byte byte refl) refl

-- any other byte stands before the first piece
pieces_of-other : (byte first : ℕ) (bytes : List ℕ) → first ≢ byte → pieces_of byte (first ∷ bytes) ≡ onto_pieces first (pieces_of byte bytes)
unfolding pieces_of
pieces_of-other byte first bytes other = rw (ne_eqb first byte other) refl

-- a piece at the front is the first
pub pieces_of-piece : (byte : ℕ) (piece bytes : List ℕ) → Lacks byte piece → pieces_of byte (piece ++ byte ∷ bytes) ≡ piece ∷ pieces_of byte bytes
pieces_of-piece byte [] bytes lacks = pieces_of-separator byte bytes
pieces_of-piece byte (first ∷ piece) bytes lacks =
    let parts = Lacks-head byte first piece lacks in
    pieces_of-other byte first (piece ++ byte ∷ bytes) parts.0 ∙ ap (onto_pieces first) (pieces_of-piece byte piece bytes parts.1)

-- bytes without the separator are one piece
pub pieces_of-lone : (byte : ℕ) (piece : List ℕ) → Lacks byte piece → pieces_of byte piece ≡ piece ∷ []
unfolding pieces_of
pieces_of-lone byte [] lacks = refl
pieces_of-lone byte (first ∷ piece) lacks =
    let parts = Lacks-head byte first piece lacks in
    pieces_of-other byte first piece parts.0 ∙ ap (onto_pieces first) (pieces_of-lone byte piece parts.1)

-- the pieces by what stands round the first separator
pub pieces_of-some : (byte : ℕ) (bytes piece rest : List ℕ) → upto byte bytes ≡ Some (piece, rest) → pieces_of byte bytes ≡ piece ∷ pieces_of byte rest
pieces_of-some byte bytes piece rest e =
    let parts = upto-takes byte bytes piece rest e in
    ap (pieces_of byte) parts.0 ∙ pieces_of-piece byte piece rest parts.1

pub pieces_of-none : (byte : ℕ) (bytes : List ℕ) → upto byte bytes ≡ None → pieces_of byte bytes ≡ bytes ∷ []
pieces_of-none byte bytes e = pieces_of-lone byte bytes (upto-none byte bytes e)

-- pieces each behind a separator
abbrev pub behind_each : ℕ → List (List ℕ) → List ℕ
behind_each byte pieces = flat_map (λ other. byte ∷ other) pieces

-- what pieces make
pub joined-cons : (byte : ℕ) (piece : List ℕ) (pieces : List (List ℕ)) → joined byte (piece ∷ pieces) ≡ piece ++ behind_each byte pieces
unfolding joined
joined-cons byte piece pieces = refl

-- a byte in front of pieces stands in front of what they make
joined-onto : (byte first : ℕ) (pieces : List (List ℕ)) → joined byte (onto_pieces first pieces) ≡ first ∷ joined byte pieces
unfolding joined
joined-onto byte first [] = refl
joined-onto byte first (piece ∷ pieces) = refl

-- there is always a piece
pub pieces_of-cons : (byte : ℕ) (bytes : List ℕ) → (piece : List ℕ) × (pieces : List (List ℕ)) × (pieces_of byte bytes ≡ piece ∷ pieces)
unfolding pieces_of
pieces_of-cons byte [] = ([], [], refl)
pieces_of-cons byte (first ∷ bytes) =
    let later = pieces_of-cons byte bytes in
    elim (cases_eq first byte) [
      | inl same ↦ ([], pieces_of byte bytes, rw (eq-eqb first byte same) refl)
      | inr other ↦ (first ∷ later.0, later.1, rw (ne_eqb first byte other) (ap (onto_pieces first) later.2))
    ]

-- the separator in front of what pieces make
joined-empty : (byte : ℕ) (bytes : List ℕ) (pieces : List (List ℕ)) → (piece : List ℕ) × (more : List (List ℕ)) × (pieces ≡ piece ∷ more) → joined byte pieces ≡ bytes → joined byte ([] ∷ pieces) ≡ byte ∷ bytes
unfolding joined
joined-empty byte bytes pieces (piece, more, is) e = ap (λ (ps : List (List ℕ)). joined byte ([] ∷ ps)) is ∙ ap (λ (text : List ℕ). byte ∷ text) (sym (ap (joined byte) is) ∙ e)

-- the pieces of bytes make them
pub joined-pieces_of : (byte : ℕ) (bytes : List ℕ) → joined byte (pieces_of byte bytes) ≡ bytes
unfolding pieces_of joined
joined-pieces_of byte [] = refl
joined-pieces_of byte (first ∷ bytes) =
    elim (cases_eq first byte) [
      | inl same ↦ rw same (ap (joined byte) (pieces_of-separator byte bytes) ∙ joined-empty byte bytes (pieces_of byte bytes) (pieces_of-cons byte bytes) (joined-pieces_of byte bytes))
      | inr other ↦ ap (joined byte) (pieces_of-other byte first bytes other) ∙ joined-onto byte first (pieces_of byte bytes) ∙ ap (λ (text : List ℕ). first ∷ text) (joined-pieces_of byte bytes)
    ]

-- no piece holds the separator
abbrev pub AllLack : ℕ → List (List ℕ) → Type 0
AllLack byte pieces = AllByRecursion (Lacks byte) pieces

-- pieces that a separator joins: at least one, and none that holds it
abbrev pub AreJoined : ℕ → List (List ℕ) → Type 0
AreJoined byte [] = ⊥
AreJoined byte (piece ∷ pieces) = Lacks byte piece × AllLack byte pieces

-- a byte that is no separator keeps pieces pieces
onto-lacks : (byte first : ℕ) (pieces : List (List ℕ)) → first ≢ byte → AllLack byte pieces → AllLack byte (onto_pieces first pieces)
onto-lacks byte first [] other each = (Lacks-cons byte first [] other (Lacks-nil byte), tt)
onto-lacks byte first (piece ∷ pieces) other each = (Lacks-cons byte first piece other each.0, each.1)

-- no piece of bytes holds the separator
pub pieces_of-lack : (byte : ℕ) (bytes : List ℕ) → AllLack byte (pieces_of byte bytes)
unfolding pieces_of
pieces_of-lack byte [] = (Lacks-nil byte, tt)
pieces_of-lack byte (first ∷ bytes) =
    elim (cases_eq first byte) [
      | inl same ↦ rw (eq-eqb first byte same) (Lacks-nil byte, pieces_of-lack byte bytes)
      | inr other ↦ rw (ne_eqb first byte other) (onto-lacks byte first (pieces_of byte bytes) other (pieces_of-lack byte bytes))
    ]

-- such pieces are those of what they make
pieces_of-joined : (byte : ℕ) (piece : List ℕ) (pieces : List (List ℕ)) → Lacks byte piece → AllLack byte pieces → pieces_of byte (joined byte (piece ∷ pieces)) ≡ piece ∷ pieces
unfolding joined
pieces_of-joined byte piece [] first each = ap (pieces_of byte) (append-nil piece) ∙ pieces_of-lone byte piece first
pieces_of-joined byte piece (next ∷ pieces) first each =
    pieces_of-piece byte piece (next ++ behind_each byte pieces) first
    ∙ ap (λ (ps : List (List ℕ)). piece ∷ ps) (pieces_of-joined byte next pieces each.0 each.1)

pub pieces_of-are : (byte : ℕ) (pieces : List (List ℕ)) → AreJoined byte pieces → pieces_of byte (joined byte pieces) ≡ pieces
pieces_of-are byte [] none = absurd none
pieces_of-are byte (piece ∷ pieces) are = pieces_of-joined byte piece pieces are.0 are.1

-- ---- taking the first

-- the pieces of what is left
left_is : {Part : Type 0} (now : Part → List ℕ) (byte : ℕ) (rest : Option Part) (part : Part) (all : List (List ℕ)) → pieces_left byte (option_map now rest) ≡ all → rest ≡ Some part → pieces_of byte (now part) ≡ all
left_is {Part = Part} now byte rest part all left e = ap (λ (r : Option Part). pieces_left byte (option_map now r)) (sym e) ∙ left

pub takes_piece : {Part : Type 0} (now : Part → List ℕ) (byte : ℕ) (rest : Option Part) (part : Part) (all : List (List ℕ)) (piece behind : List ℕ) → pieces_left byte (option_map now rest) ≡ all → rest ≡ Some part → upto byte (now part) ≡ Some (piece, behind) → ◌≡◌ {A = Option (List ℕ × List (List ℕ))} (Some (piece, pieces_of byte behind)) (first_of all)
takes_piece now byte rest part all piece behind left e found =
    ap first_of (sym (pieces_of-some byte (now part) piece behind found) ∙ left_is now byte rest part all left e)

pub takes_last : {Part : Type 0} (now : Part → List ℕ) (byte : ℕ) (rest : Option Part) (part : Part) (all : List (List ℕ)) → pieces_left byte (option_map now rest) ≡ all → rest ≡ Some part → upto byte (now part) ≡ None → ◌≡◌ {A = Option (List ℕ × List (List ℕ))} (Some (now part, [])) (first_of all)
takes_last now byte rest part all left e none =
    ap first_of (sym (pieces_of-none byte (now part) none) ∙ left_is now byte rest part all left e)

-- what is left behind the first
pub left_behind : (all : List (List ℕ)) (piece : List ℕ) (rest : List (List ℕ)) → ◌≡◌ {A = Option (List ℕ × List (List ℕ))} (Some (piece, rest)) (first_of all) → rest ≡ drop 1 all
left_behind [] piece rest e = absurd cc
left_behind (first ∷ all) piece rest e = (some_pair_parts piece first rest all e).1

-- the first piece, where it stays
pub first_piece : {Part : Type 0} (now : Part → List ℕ) (byte : ℕ) (rest : Option Part) (part : Part) (all : List (List ℕ)) (piece behind : List ℕ) → pieces_left byte (option_map now rest) ≡ all → rest ≡ Some part → upto byte (now part) ≡ Some (piece, behind) → Some piece ≡ option_map (λ (found : List ℕ × List (List ℕ)). found.0) (first_of all)
first_piece now byte rest part all piece behind left e found =
    ap (option_map (λ (f : List ℕ × List (List ℕ)). f.0)) (takes_piece now byte rest part all piece behind left e found)

pub first_last : {Part : Type 0} (now : Part → List ℕ) (byte : ℕ) (rest : Option Part) (part : Part) (all : List (List ℕ)) → pieces_left byte (option_map now rest) ≡ all → rest ≡ Some part → upto byte (now part) ≡ None → Some (now part) ≡ option_map (λ (found : List ℕ × List (List ℕ)). found.0) (first_of all)
first_last now byte rest part all left e none =
    ap (option_map (λ (f : List ℕ × List (List ℕ)). f.0)) (takes_last now byte rest part all left e none)

-- a test whose opposite is known
not_true : (b : Bool) → true ≡ not b → b ≡ false
not_true true e = cc
not_true false e = refl

not_false : (b : Bool) → false ≡ not b → b ≡ true
not_false true e = refl
not_false false e = cc

some_length : (piece : List ℕ) (pieces all : List (List ℕ)) → all ≡ piece ∷ pieces → (length all == 0) ≡ false
some_length piece pieces all e = rw e (ne_eqb (suc (length pieces)) 0 (omega arith))

-- pieces are left exactly where bytes are
pub none_left : {Part : Type 0} (now : Part → List ℕ) (byte : ℕ) (rest : Option Part) (all : List (List ℕ)) (empty : Bool) → pieces_left byte (option_map now rest) ≡ all → is_some rest ≡ not empty → empty ≡ (length all == 0)
none_left now byte None all empty left e = not_false empty e ∙ ap (λ (ps : List (List ℕ)). length ps == 0) left
none_left now byte (Some part) all empty left e =
    let some = pieces_of-cons byte (now part) in
    not_true empty e ∙ sym (some_length some.0 some.1 all (sym left ∙ some.2))
