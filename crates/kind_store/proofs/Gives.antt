-- What a Fetch is given: rounding up, and sizes that aren't counted to their end.
use Rattle.std.proofs.Common.{◌≡◌, ℕ, ◌+◌, ◌/◌, ◌%◌, min, arith}
use Rattle.std.proofs.lemmas.Bool.Decides.{nat_tests}
use Rattle.storage_model.specs.Fetches.{is_too_long}

-- whole seconds, rounded up
pub rounded_up : (n : ℕ) → n / 1000 + min 1 (n % 1000) ≡ (n + 999) / 1000
rounded_up n = omega arith

-- a size past the limit of every answer needn't be known
pub too_long_at_enough : (max n : ℕ) → is_too_long max (min n 200001) ≡ is_too_long max n
unfolding is_too_long
too_long_at_enough max n = grind (arith, nat_tests)
