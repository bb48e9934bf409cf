-- Numbers from 1 on, tried one after the other.
use Rattle.std.proofs.Common.{◌≡◌, ℕ, zero, suc, ◌+◌, ◌<◌, ◌||◌, Bool, true, false, refl, add-one, inl, inr, arith}
use Rattle.std.proofs.lemmas.Bool.{cases_lt}
use Rattle.access_policy.specs.Policies.{some_from_one}

or-true : (b : Bool) → (b || true) ≡ true
or-true true = refl
or-true false = refl

pub some_from_one-zero : (test : ℕ → Bool) → some_from_one test 0 ≡ false
unfolding some_from_one
some_from_one-zero test = refl

-- one that fails changes nothing
pub some_from_one-fails : (test : ℕ → Bool) (n : ℕ) → test (n + 1) ≡ false → some_from_one test n ≡ false → some_from_one test (n + 1) ≡ false
unfolding some_from_one
some_from_one-fails test n fails none =
    let last : test (suc n) ≡ false = rw add-one at fails in
    rw add-one (rw (none, last) refl)

-- one that passes is some
pub some_from_one-passes : (test : ℕ → Bool) (n i : ℕ) → i < n → test (i + 1) ≡ true → some_from_one test n ≡ true
unfolding some_from_one
some_from_one-passes test zero i lt passes = absurd (omega arith)
some_from_one-passes test (suc n) i lt passes =
    elim (cases_lt i n) [
      | inl less ↦ let before : some_from_one test n ≡ true = some_from_one-passes test n i less passes in rw before refl
      | inr last ↦ let e : i + 1 ≡ suc n = omega arith in rw (← e, passes) (or-true (some_from_one test n))
    ]

pub ruleset laws = (some_from_one-zero, some_from_one-fails, some_from_one-passes)
