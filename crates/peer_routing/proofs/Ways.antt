-- Distinct ids lie at distinct ways.
use Rattle.std.proofs.Common.{◌≡◌, ℕ, ◌+◌, ◌-◌, ◌%◌, ◌^◌, ◌<◌, ap, arith}
use Rattle.reload_ids.specs.Ring.{distance}

-- a node is at its own place
pub no_way : (me : ℕ) → me < 2 ^ 128 → distance me me ≡ 0
no_way me lt = ap (λ n. n % 2 ^ 128) (let e : me + 2 ^ 128 - me ≡ 2 ^ 128 = omega arith in e)

-- ids at one way are one
pub one_way : (me a b : ℕ) → me < 2 ^ 128 → a < 2 ^ 128 → b < 2 ^ 128
    → distance me a ≡ distance me b → a ≡ b
one_way me a b m l r e = omega arith
