-- The ring of the 2^128 ids, on which places are numbers modulo 2^128.
use Rattle.std.specs.Prelude.{ℕ, ◌+◌, ◌-◌, ◌*◌, ◌/◌, ◌%◌, ◌^◌, ◌==◌, ◌&&◌, ◌||◌, Bool, nat_lt, nat_le}

-- the way from a on to b, for a and b below 2^128 (RFC 6940, 10.1)
abbrev pub distance : ℕ → ℕ → ℕ
distance a b = (b + 2 ^ 128 - a) % 2 ^ 128

-- k comes after a, up to and including b; where a is b, that is the whole ring (this profile)
abbrev pub between : ℕ → ℕ → ℕ → Bool
between a k b = (a == b) || (nat_lt 0 (distance a k) && nat_le (distance a k) (distance a b))

-- a range's share of the ring in parts of 10^9, rounded down by its low 32 bits first (RFC 6940,
-- 6.4.2.5)
abbrev pub ppb : ℕ → ℕ
ppb range = range / 2 ^ 32 * 1_000_000_000 / 2 ^ 96
