-- Ids in their order.
use Rattle.std.specs.Prelude.{ℕ, ◌<◌, List}
use Rattle.std.specs.List.{AllPairs}

-- each id is less than those behind it
abbrev pub IsRising : List ℕ → Type 0
IsRising ids = AllPairs (λ x y. x < y) ids
