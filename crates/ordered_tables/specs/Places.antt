-- Where a key stands among rows.
use Rattle.std.specs.Prelude.{◌≡◌, ℕ, ◌<◌, ◌≤◌, T, List, length, Result, Ok, Err}
use Rattle.std.specs.List.{AllWithin, HoldsAt}
use Rattle.std.specs.Ordering.{nat_cmp}
use Rattle.std.specs.FinMap.{is_sorted}

-- the keys of rows rise
abbrev pub Rises : {X : Type 0} → List (ℕ × X) → Type 0
Rises rows = T (is_sorted nat_cmp rows)

-- the key stands there, or else below all from there on, and above all before
abbrev pub IsPlace : {X : Type 0} → ℕ → List (ℕ × X) → Result ℕ ℕ → Type 0
IsPlace key rows (Ok i) = (i < length rows) × HoldsAt (λ row. row.0 ≡ key) rows i
IsPlace key rows (Err i) =
    (i ≤ length rows) × AllWithin (λ row. row.0 < key) rows 0 i
    × AllWithin (λ row. key < row.0) rows i (length rows)
