-- What stands before and behind a separator, and where there is none.
use Rattle.std.proofs.Common.{◌≡◌, ◌≢◌, ℕ, zero, suc, ◌+◌, ◌<◌, ◌≤◌, Bool, true, false, cond, List, [], ◌∷◌, ◌++◌, length, take, drop, get_or, Option, Some, None, refl, sym, ap, add-one, eq-eqb, ◌∙◌, arith}
use Rattle.std.specs.Prelude.{◌==◌, nat_lt, position, option_map, IfSome, IfNone}
use Rattle.std.specs.List.{position_or_len}
use Rattle.std.specs.Str.{bytes_eq}
use Rattle.std.proofs.lemmas.Bool.{eqb-true}
use Rattle.std.proofs.lemmas.Bool.Decides.{nat_tests}
use Rattle.std.proofs.lemmas.List.{take_at, drop_at, take-append-drop, drop_more, get_or_default, get_or-take, get_or_at, get_or_append_left, length-take, length-append}
use Rattle.std.proofs.lemmas.List.Folds.{list_any_none}
use Rattle.std.proofs.lemmas.List.Quantifiers.{position-Some}
use Rattle.std.proofs.lemmas.List.Sums.{position_or_len_is, fails_before_first}
use Rattle.std.proofs.lemmas.Option.{cond_some, some_pair_parts}
use Rattle.std.proofs.lemmas.Slice.Eq.{bytes_eq-Decides}
use Rattle.text_words.specs.Separator.{behind, upto, Lacks}
use Rattle.text_words.proofs.StepsLaws.{bind_some, bind_none}

-- ---- a fixed text

-- a fixed text and what follows it make the whole
pub behind-takes : (text bytes rest : List ℕ) → behind text bytes ≡ Some rest → bytes ≡ text ++ rest
unfolding behind
behind-takes text bytes rest e =
    let found = cond_some (bytes_eq (take (length text) bytes) text) (drop (length text) bytes) rest e in
    let front = (bytes_eq-Decides (take (length text) bytes) text).0 found.0 in
    sym (take-append-drop (length text) bytes) ∙ ap (λ front. front ++ drop (length text) bytes) front ∙ ap (λ rest. text ++ rest) found.1

-- what follows a fixed text is found
pub behind-append : (text rest : List ℕ) → behind text (text ++ rest) ≡ Some rest
unfolding behind
behind-append text rest = rw (take_at text rest (length text) refl, (bytes_eq-Decides text text).1 refl, drop_at text rest (length text) refl) refl

-- the same of the parts that a reader lends
pub behind_found : {Part : Type 0} (now : Part → List ℕ) (text bytes : List ℕ) (found : Option Part) → option_map now found ≡ behind text bytes → IfSome found (λ rest. bytes ≡ text ++ now rest)
behind_found now text bytes None e = tt
behind_found now text bytes (Some rest) e = behind-takes text bytes (now rest) (sym e)

-- ---- bytes that a word lacks

-- no byte is in the empty word
pub Lacks-nil : (byte : ℕ) → Lacks byte []
unfolding Lacks
Lacks-nil byte = refl

-- another byte in front of a word that lacks it
pub Lacks-cons : (byte first : ℕ) (word : List ℕ) → first ≢ byte → Lacks byte word → Lacks byte (first ∷ word)
unfolding Lacks
Lacks-cons byte first word other lacks = grind (arith, nat_tests)

-- what lacks a byte doesn't begin with it, nor does the rest hold it
pub Lacks-head : (byte first : ℕ) (word : List ℕ) → Lacks byte (first ∷ word) → (first ≢ byte) × Lacks byte word
unfolding Lacks
Lacks-head byte first word lacks = (λ same. grind (arith, nat_tests), grind (arith, nat_tests))

-- two words that lack it, one behind the other
pub Lacks-append : (byte : ℕ) (front back : List ℕ) → Lacks byte front → Lacks byte back → Lacks byte (front ++ back)
Lacks-append byte [] back no_front no_back = no_back
Lacks-append byte (first ∷ front) back no_front no_back =
    let parts = Lacks-head byte first front no_front in
    Lacks-cons byte first (front ++ back) parts.0 (Lacks-append byte front back parts.1 no_back)

-- the parts of a text lack what the whole lacks
pub Lacks-parts : (byte : ℕ) (front back : List ℕ) → Lacks byte (front ++ back) → Lacks byte front × Lacks byte back
Lacks-parts byte [] back lacks = (Lacks-nil byte, lacks)
Lacks-parts byte (first ∷ front) back lacks =
    let parts = Lacks-head byte first (front ++ back) lacks in
    let later = Lacks-parts byte front back parts.1 in
    (Lacks-cons byte first front parts.0 later.0, later.1)

-- a byte that none of the places holds
pub Lacks-from_places : (byte : ℕ) (word : List ℕ) → ((k : ℕ) (d : ℕ) → k < length word → (get_or word k d == byte) ≡ false) → Lacks byte word
unfolding Lacks
Lacks-from_places byte word each = list_any_none (λ b. b == byte) word each

-- no place holds it
pub places_from_Lacks : (byte : ℕ) (word : List ℕ) (k d : ℕ) → Lacks byte word → k < length word → (get_or word k d == byte) ≡ false
places_from_Lacks byte [] k d lacks below = absurd (omega arith)
places_from_Lacks byte (first ∷ word) zero d lacks below = let other = (Lacks-head byte first word lacks).0 in grind (arith, nat_tests)
places_from_Lacks byte (first ∷ word) (suc k) d lacks below = places_from_Lacks byte word k d (Lacks-head byte first word lacks).1 (omega arith)

-- ---- the first byte of a value

-- a place that is within the list is answered
chosen : (at most : ℕ) → at < most → cond (nat_lt at most) (Some at) None ≡ Some at
chosen at most below = grind (arith, nat_tests)

-- a place that isn't answered is past the list
not_chosen : (at most : ℕ) → cond (nat_lt at most) (Some at) None ≡ None → most ≤ at
not_chosen at most e = grind (arith, nat_tests)

-- what is left behind a front and one byte
drop_cons : (before : List ℕ) (byte : ℕ) (behind : List ℕ) → drop (suc (length before)) (before ++ byte ∷ behind) ≡ behind
drop_cons [] byte behind = refl
drop_cons (first ∷ before) byte behind = drop_cons before byte behind

-- where the first element that passes stands
position_found : (test : ℕ → Bool) (bytes : List ℕ) (at : ℕ) → position_or_len test bytes ≡ at → at < length bytes → position test bytes ≡ Some at
position_found test bytes at e below = rw e (chosen at (length bytes) below)

-- no element passes
position_missed : (test : ℕ → Bool) (bytes : List ℕ) → position test bytes ≡ None → length bytes ≤ position_or_len test bytes
position_missed test bytes e = not_chosen (position_or_len test bytes) (length bytes) e

-- what stands behind the first byte of the back
drop_behind : (before : List ℕ) (byte : ℕ) (behind : List ℕ) → drop (length before + 1) (before ++ byte ∷ behind) ≡ behind
drop_behind before byte behind = rw add-one (drop_cons before byte behind)

-- what stands round the first such byte
pub upto-takes : (byte : ℕ) (bytes before behind : List ℕ) → upto byte bytes ≡ Some (before, behind) → (bytes ≡ before ++ byte ∷ behind) × Lacks byte before
unfolding upto
upto-takes byte bytes before behind e =
    let test : ℕ → Bool = λ b. b == byte in
    let round : ℕ → Option (List ℕ × List ℕ) = λ at. Some (take at bytes, drop (at + 1) bytes) in
    let step = bind_some (position test bytes) round (before, behind) e in
    let at = step.0 in
    let first = position-Some test bytes at byte step.1 in
    let parts = some_pair_parts (take at bytes) before (drop (at + 1) bytes) behind step.2 in
    let here = eqb-true (get_or bytes at byte) byte first.1 in
    let whole : bytes ≡ take at bytes ++ byte ∷ drop (at + 1) bytes =
    sym (take-append-drop at bytes) ∙ ap (λ rest. take at bytes ++ rest) (drop_more bytes at byte first.0 ∙ ap (λ b. b ∷ drop (at + 1) bytes) here) in
    let lacks = Lacks-from_places byte (take at bytes) (λ k d below.
    let within : k < at = omega (arith, length-take at bytes) in
    let first_fails = ap test (get_or_default bytes k d byte (omega arith)) ∙ first.2 k within in
    ap test (get_or-take at bytes k d within) ∙ first_fails) in
    (whole ∙ ap (λ front. front ++ byte ∷ drop (at + 1) bytes) parts.0 ∙ ap (λ back. before ++ byte ∷ back) parts.1, rw (← parts.0) lacks)

-- such parts are found
pub upto-append : (byte : ℕ) (before behind : List ℕ) → Lacks byte before → upto byte (before ++ byte ∷ behind) ≡ Some (before, behind)
unfolding upto
upto-append byte before behind lacks =
    let test : ℕ → Bool = λ b. b == byte in
    let bytes : List ℕ = before ++ byte ∷ behind in
    let long : length bytes ≡ length before + suc (length behind) = length-append before (byte ∷ behind) in
    let at : position_or_len test bytes ≡ length before = position_or_len_is test bytes (length before) 0 (omega (arith, long))
    (λ k below. ap test (get_or_append_left before (byte ∷ behind) 0 k below) ∙ places_from_Lacks byte before k 0 lacks below)
    (λ within. ap test (get_or_at before byte behind 0 (length before) refl) ∙ eq-eqb byte byte refl) in
    let found : position test bytes ≡ Some (length before) = position_found test bytes (length before) at (omega (arith, long)) in
    rw found (rw (take_at before (byte ∷ behind) (length before) refl, drop_behind before byte behind) refl)

-- where nothing is found there is no such byte
pub upto-none : (byte : ℕ) (bytes : List ℕ) → upto byte bytes ≡ None → Lacks byte bytes
unfolding upto
upto-none byte bytes e =
    let test : ℕ → Bool = λ b. b == byte in
    let none = bind_none (position test bytes) (λ at. (take at bytes, drop (at + 1) bytes)) e in
    let past = position_missed test bytes none in
    Lacks-from_places byte bytes (λ k d below. fails_before_first test bytes k d (omega arith))

-- a find in a text without the byte is none
none_found : (byte : ℕ) (bytes : List ℕ) (found : Option (List ℕ × List ℕ)) → Lacks byte bytes → upto byte bytes ≡ found → found ≡ None
none_found byte bytes None lacks e = refl
none_found byte bytes (Some (before, behind)) lacks e =
    let parts = upto-takes byte bytes before behind e in
    let both = Lacks-parts byte before (byte ∷ behind) (rw (← parts.0) lacks) in
    absurd ((Lacks-head byte byte behind both.1).0 refl)

-- where there is no such byte nothing is found
pub upto-lacks : (byte : ℕ) (bytes : List ℕ) → Lacks byte bytes → upto byte bytes ≡ None
upto-lacks byte bytes lacks = none_found byte bytes (upto byte bytes) lacks refl

-- the parts that a reader lends, round that byte, make the whole
pub upto_found : {Part : Type 0} (before behind : Part → List ℕ) (byte : ℕ) (bytes : List ℕ) (found : Option Part) → option_map (λ p. (before p, behind p)) found ≡ upto byte bytes → IfSome found (λ p. bytes ≡ before p ++ byte ∷ behind p)
upto_found before behind byte bytes None e = tt
upto_found before behind byte bytes (Some p) e = (upto-takes byte bytes (before p) (behind p) (sym e)).0

-- the part before holds no such byte
pub upto_first : {Part : Type 0} (before behind : Part → List ℕ) (byte : ℕ) (bytes : List ℕ) (found : Option Part) → option_map (λ p. (before p, behind p)) found ≡ upto byte bytes → IfSome found (λ p. Lacks byte (before p))
upto_first before behind byte bytes None e = tt
upto_first before behind byte bytes (Some p) e = (upto-takes byte bytes (before p) (behind p) (sym e)).1

-- where a reader answers nothing there is no such byte
pub upto_missed : {Part : Type 0} (before behind : Part → List ℕ) (byte : ℕ) (bytes : List ℕ) (found : Option Part) → option_map (λ p. (before p, behind p)) found ≡ upto byte bytes → IfNone found (Lacks byte bytes)
upto_missed before behind byte bytes None e = upto-none byte bytes (sym e)
upto_missed before behind byte bytes (Some p) e = tt

-- a fixed text isn't at the front of a word that lacks its first byte
pub behind-other : (first : ℕ) (text word : List ℕ) → Lacks first word → behind (first ∷ text) word ≡ None
behind-other first text word lacks = by_found (behind (first ∷ text) word) refl
  where
    by_found : (found : Option (List ℕ)) → behind (first ∷ text) word ≡ found → found ≡ None
    by_found None e = refl
    by_found (Some rest) e =
        let is = behind-takes (first ∷ text) word rest e in
        let parts = Lacks-head first first (text ++ rest) (rw (← is) lacks) in
        absurd (parts.0 refl)

-- nor is such a word that text
pub bytes_eq-other : (first : ℕ) (text word : List ℕ) → Lacks first word → bytes_eq word (first ∷ text) ≡ false
bytes_eq-other first text word lacks = by_test (bytes_eq word (first ∷ text)) refl
  where
    by_test : (same : Bool) → bytes_eq word (first ∷ text) ≡ same → same ≡ false
    by_test false e = refl
    by_test true e = absurd ((Lacks-head first first text (rw ((bytes_eq-Decides word (first ∷ text)).0 e) at lacks)).0 refl)
