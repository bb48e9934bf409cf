-- Which numbers lie between two others on the ring.
use Rattle.std.proofs.Common.{◌≡◌, refl, ℕ, ◌<◌, ◌≤◌, ◌+◌, ◌-◌, ◌%◌, ◌^◌, true, false, not, arith, ap, sym, ◌∙◌, ⊎_elim}
use Rattle.std.proofs.lemmas.Bool.Decides.{nat_tests}
use Rattle.std.proofs.lemmas.Bool.{cases_lt}
use Rattle.std.proofs.Math.Bool.{not-not}
use Rattle.reload_ids.specs.Ring.{distance, between}

-- the way on to a greater number, and round to a lesser
pub on : (a r : ℕ) → a ≤ r → r < 2 ^ 128 → distance a r ≡ r - a
on a r le h = omega arith

pub round : (a r : ℕ) → r < a → a < 2 ^ 128 → distance a r ≡ r + 2 ^ 128 - a
round a r lt h = omega arith

pub between-same : (a r b : ℕ) → a ≡ b → between a r b ≡ true
between-same a r b is = grind (arith, nat_tests)

-- where a is less than b
pub between-before : (a r b : ℕ) → a < b → b < 2 ^ 128 → r ≤ a → between a r b ≡ false
between-before a r b lt small le = grind (arith, nat_tests, on a b, on a r, round a r)

pub between-within : (a r b : ℕ) → a < r → b < 2 ^ 128 → r ≤ b → between a r b ≡ true
between-within a r b lt small le = grind (arith, nat_tests, on a b, on a r)

pub between-beyond : (a r b : ℕ) → a < b → r < 2 ^ 128 → b < r → between a r b ≡ false
between-beyond a r b lt small le = grind (arith, nat_tests, on a b, on a r)

-- where it is greater, and the ring goes on behind its greatest number at 0
pub between-low : (a r b : ℕ) → b < a → a < 2 ^ 128 → r ≤ b → between a r b ≡ true
between-low a r b lt small le = grind (arith, nat_tests, round a b, round a r)

pub between-outside : (a r b : ℕ) → b < r → a < 2 ^ 128 → r ≤ a → between a r b ≡ false
between-outside a r b lt small le = grind (arith, nat_tests, round a b, round a r, on a r)

pub between-high : (a r b : ℕ) → b < a → a < r → r < 2 ^ 128 → between a r b ≡ true
between-high a r b lt above small = grind (arith, nat_tests, round a b, on a r)

-- behind b up to a lies what doesn't lie behind a up to b
turned : (a r b : ℕ) → a < b → b < 2 ^ 128 → r < 2 ^ 128 → between a r b ≡ not (between b r a)
turned a r b lt small fits =
    ⊎_elim
    (λ above. ⊎_elim
    (λ beyond. rw (between-beyond a r b lt fits beyond, between-high b r a lt beyond fits) refl)
    (λ le. rw (between-within a r b above small le, between-outside b r a above small le) refl)
    (cases_lt b r))
    (λ le. rw (between-before a r b lt small le, between-low b r a lt small le) refl)
    (cases_lt a r)

between-mod : (a r b : ℕ) → a < 2 ^ 128 → between a r b ≡ between a (r % 2 ^ 128) b
between-mod a r b small =
    let e : distance a r ≡ distance a (r % 2 ^ 128) = omega arith in
    rw e refl

pub complement : (a r b : ℕ) → ¬ (a ≡ b) → a < 2 ^ 128 → b < 2 ^ 128
    → not (between a r b) ≡ between b r a
complement a r b apart a_fits b_fits =
    let u = r % 2 ^ 128 in
    let fits : u < 2 ^ 128 = omega arith in
    rw (between-mod a r b a_fits, between-mod b r a b_fits)
    (⊎_elim (λ lt. ap not (turned a u b lt b_fits fits) ∙ not-not (between b u a))
    (λ le. sym (turned b u a (omega arith) a_fits fits)) (cases_lt a b))
