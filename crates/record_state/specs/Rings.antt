-- Answers in a ring.
use Rattle.std.specs.Prelude.{◌≤◌, ◌-◌, List, [], ◌∷◌, length, take, Option, Some, None}
use Rattle.circular_buffer.specs.Buffer.{Buffer}
use Rattle.storage_model.specs.declared.limits.TheConstants.{MAX_KEPT}
use Rattle.storage_model.specs.declared.record.Kept.{Kept}

-- the answers of a ring, none where there is no ring yet
abbrev pub kept_in : Option (Buffer Kept) → List Kept
kept_in None = []
kept_in (Some ring) = ring.items

-- a ring has room for no more answers than are kept
abbrev pub IsWithin : Option (Buffer Kept) → Type 0
IsWithin None = Unit {0}
IsWithin (Some ring) = ring.capacity ≤ MAX_KEPT

-- the oldest answer before the others, where it left
abbrev pub with_oldest : Option Kept → List Kept → List Kept
with_oldest None kept = kept
with_oldest (Some oldest) kept = oldest ∷ kept

-- answers once the last is taken back, with the oldest that left for it
unfoldable pub taken_back : Option Kept → List Kept → List Kept
taken_back oldest [] = []
taken_back oldest (k ∷ kept) = with_oldest oldest (take (length (k ∷ kept) - 1) (k ∷ kept))
