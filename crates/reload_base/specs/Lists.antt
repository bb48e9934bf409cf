-- What the calls of a list do to it.
use Rattle.std.specs.Prelude.{ℕ, List, [], ◌∷◌, ◌++◌, length, drop, nat_lt, if◌then◌else◌}

-- the item at the end of at most `most` of them: where there are that many, the oldest leaves
unfoldable pub pushed_within : {X : Type 0} → ℕ → List X → X → List X
pushed_within most items item =
    (if nat_lt (length items) most then items else drop 1 items) ++ item ∷ []
