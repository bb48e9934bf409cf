-- A part: a stretch of the input that is still to be read.
use Rattle.std.specs.Prelude.{ℕ, ◌+◌, List, length, drop}

-- the place of its first byte in the whole input, and its bytes
pub record Part : Type 0 where
  pub place : ℕ
  pub bytes : List ℕ

-- the place behind its last byte
abbrev pub end_of : Part → ℕ
end_of p = p.place + length p.bytes

-- what is left of it behind its first n bytes
abbrev pub behind : ℕ → Part → Part
behind n p = record { place = p.place + n; bytes = drop n p.bytes }

-- a part with these bytes
abbrev pub part : ℕ → List ℕ → Part
part place bytes = record { place = place; bytes = bytes }
