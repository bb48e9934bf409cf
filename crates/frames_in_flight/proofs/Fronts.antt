-- Lists whose front has nothing that passes a test.
use Rattle.std.proofs.Common.{◌≡◌, ◌≢◌, ℕ, zero, suc, ◌+◌, ◌-◌, ◌<◌, ◌≤◌, Bool, true, false, cond, not, List, [], ◌∷◌, ◌++◌, length, drop, refl, sym, ap, ◌∙◌, arith}
use Rattle.std.specs.Prelude.{Some, None, nat_lt, position, slice_set}
use Rattle.std.specs.List.{position_or_len}
use Rattle.std.proofs.lemmas.Bool.{lt-ltb, le-ltb, ltb-true, ltb-false}
use Rattle.std.proofs.lemmas.List.{length-drop}
use Rattle.run_model.specs.declared.flight.Fate.{Fate}
use Rattle.run_model.specs.declared.flight.Fate.TheVariants.{Waiting, Delivered, Lost}
use Rattle.frames_in_flight.specs.Flying.{waits}

-- ---- the answer of `position`, by the length of the front and that of the list

found_at : (a b k : ℕ) (t : Bool) → Some k ≡ cond t (Some a) None → k ≡ a
found_at a b k true e = cc
found_at a b k false e = absurd (cc)

found_below : (a b k : ℕ) (t : Bool) → nat_lt a b ≡ t → Some k ≡ cond t (Some a) None → a < b
found_below a b k true lt e = ltb-true a b lt
found_below a b k false lt e = absurd (cc)

found_nowhere : (a b : ℕ) (t : Bool) → nat_lt a b ≡ t → None ≡ cond t (Some a) None → b ≤ a
found_nowhere a b true lt e = absurd (cc)
found_nowhere a b false lt e = ltb-false a b lt

at_of : (a b k : ℕ) → k ≡ a → a < b → Some k ≡ cond (nat_lt a b) (Some a) None
at_of a b k e lt = ap (λ n. Some n) e ∙ sym (ap (λ t. cond t (Some a) None) (lt-ltb a b lt))

nowhere_of : (a b : ℕ) → b ≤ a → None ≡ cond (nat_lt a b) (Some a) None
nowhere_of a b le = sym (ap (λ t. cond t (Some a) None) (le-ltb a b le))

-- ---- fronts

module _ {X : Type 0} (p : X → Bool) where
  -- a front is no longer than the list
  pub front_within : (xs : List X) → position_or_len p xs ≤ length xs
  front_within [] = omega arith
  front_within (x ∷ xs) =
      let later = front_within xs in
      elim (p x) as (λ b. cond (not b) (1 + position_or_len p xs) 0 ≤ suc (length xs)) [
        | true ↦ omega arith
        | false ↦ omega arith
      ]

  -- behind a part of it the rest of the front is left
  pub front_behind : (n : ℕ) (xs : List X) → n ≤ position_or_len p xs → position_or_len p xs ≡ n + position_or_len p (drop n xs)
  front_behind zero xs h = omega arith
  front_behind (suc n) [] h = absurd (omega arith)
  front_behind (suc n) (x ∷ xs) h =
      elim (p x) as (λ b. suc n ≤ cond (not b) (1 + position_or_len p xs) 0 → cond (not b) (1 + position_or_len p xs) 0 ≡ suc n + position_or_len p (drop n xs)) [
        | true ↦ λ g. absurd (omega arith)
        | false ↦ λ g. let later = front_behind n xs (omega arith) in omega arith
      ] h

  -- it is no shorter where more follows
  pub front_before : (xs ys : List X) → position_or_len p xs ≤ position_or_len p (xs ++ ys)
  front_before [] ys = omega arith
  front_before (x ∷ xs) ys =
      let later = front_before xs ys in
      elim (p x) as (λ b. cond (not b) (1 + position_or_len p xs) 0 ≤ cond (not b) (1 + position_or_len p (xs ++ ys)) 0) [
        | true ↦ omega arith
        | false ↦ omega arith
      ]

  -- and where an item is replaced by one that doesn't pass
  pub front_replaced : (xs : List X) (i : ℕ) (y : X) → p y ≡ false → position_or_len p xs ≤ position_or_len p (slice_set xs i y)
  front_replaced [] i y e = omega arith
  front_replaced (x ∷ xs) zero y e =
      let first = ap (λ b. cond (not b) (1 + position_or_len p xs) 0) e in
      elim (p x) as (λ b. cond (not b) (1 + position_or_len p xs) 0 ≤ cond (not (p y)) (1 + position_or_len p xs) 0) [
        | true ↦ omega arith
        | false ↦ omega (arith, first)
      ]
  front_replaced (x ∷ xs) (suc i) y e =
      let later = front_replaced xs i y e in
      elim (p x) as (λ b. cond (not b) (1 + position_or_len p xs) 0 ≤ cond (not b) (1 + position_or_len p (slice_set xs i y)) 0) [
        | true ↦ omega arith
        | false ↦ omega arith
      ]

  -- where the first is behind a part of the front, and where there is none
  pub found_behind : (n more : ℕ) (xs ys : List X) → n ≤ position_or_len p xs → ys ≡ drop n xs → Some more ≡ position p ys → (n + more ≡ position_or_len p xs) × (Some (n + more) ≡ position p xs)
  found_behind n more xs ys h e found =
      let at : more ≡ position_or_len p ys = found_at (position_or_len p ys) (length ys) more (nat_lt (position_or_len p ys) (length ys)) found in
      let below : position_or_len p ys < length ys = found_below (position_or_len p ys) (length ys) more (nat_lt (position_or_len p ys) (length ys)) refl found in
      let front : position_or_len p ys ≡ position_or_len p (drop n xs) = ap (λ l. position_or_len p l) e in
      let len : length ys ≡ length xs - n = ap (λ (l : List X). length l) e ∙ length-drop n xs in
      let whole = front_behind n xs h in
      let is : n + more ≡ position_or_len p xs = omega arith in
      (is, at_of (position_or_len p xs) (length xs) (n + more) is (omega arith))

  pub none_behind : (n : ℕ) (xs ys : List X) → n ≤ position_or_len p xs → ys ≡ drop n xs → None ≡ position p ys → (length xs ≡ position_or_len p xs) × (None ≡ position p xs)
  none_behind n xs ys h e none =
      let le : length ys ≤ position_or_len p ys = found_nowhere (position_or_len p ys) (length ys) (nat_lt (position_or_len p ys) (length ys)) refl none in
      let front : position_or_len p ys ≡ position_or_len p (drop n xs) = ap (λ l. position_or_len p l) e in
      let len : length ys ≡ length xs - n = ap (λ (l : List X). length l) e ∙ length-drop n xs in
      let whole = front_behind n xs h in
      let within = front_within xs in
      let is : length xs ≡ position_or_len p xs = omega arith in
      (is, nowhere_of (position_or_len p xs) (length xs) (omega arith))

-- ---- fates

-- a front that is settled stays so where more follows
pub front_added : (n : ℕ) (xs ys zs : List Fate) → n ≤ position_or_len waits xs → zs ≡ xs ++ ys → n ≤ position_or_len waits zs
front_added n xs ys zs le e =
    let more = front_before waits xs ys in
    let same : position_or_len waits zs ≡ position_or_len waits (xs ++ ys) = ap (λ l. position_or_len waits l) e in
    omega (arith, le, more, same)

waits_no_more : (fate : Fate) → fate ≢ Waiting → waits fate ≡ false
waits_no_more Waiting h = absurd (h refl)
waits_no_more Delivered h = refl
waits_no_more Lost h = refl

pub front_settled : (n : ℕ) (xs : List Fate) (i : ℕ) (fate : Fate) → n ≤ position_or_len waits xs → fate ≢ Waiting → n ≤ position_or_len waits (slice_set xs i fate)
front_settled n xs i fate le h =
    let kept = front_replaced waits xs i fate (waits_no_more fate h) in
    omega (arith, le, kept)
