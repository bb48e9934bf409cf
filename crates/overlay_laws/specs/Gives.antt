-- What Fetches are given in a run, what is held, and when.
use Rattle.std.specs.Prelude.{◌≡◌, ℕ, ◌≤◌, List, [], ◌∷◌, ◌++◌, Some}
use Rattle.std.specs.List.{AllByRecursion}
use Rattle.std.specs.FinMap.{empty}
use Rattle.data_models.specs.declared.stored_data.SlotKey.{SlotKey}
use Rattle.data_models.specs.Stored.{key_of}
use Rattle.storage_model.specs.declared.record.Held.{Held}
use Rattle.storage_model.specs.Records.{slot_in}
use Rattle.storage_model.specs.Fetches.{given_for}
use Rattle.storage_model.specs.Laws.{WasPermitted, map_of, kind_at, last_put}
use Rattle.storage_model.specs.Decisions.{Decision, puts_from, puts_in}

-- at a clock a Fetch is given for each slot the value that an acting Store last put there, if that
-- hasn't expired, else a gap
abbrev pub GivesLastPut : List Decision → ℕ → Type 0
GivesLastPut ds now = (resource kind : ℕ) (key : SlotKey)
    → given_for now key (slot_in (kind_at (map_of ds) resource kind).slots (key_of key)).held
    ≡ given_for now key (last_put (puts_in resource kind (key_of key) (puts_from empty ds)))

-- and so it is at any moment
abbrev pub GivesLastPuts : List Decision → Type 0
GivesLastPuts ds = (before after : List Decision) → before ++ after ≡ ds
    → (now : ℕ) → AllByRecursion (λ d. d.time ≤ now) before → GivesLastPut before now

-- and at the clock of each decision
abbrev pub GivesAtDecisions : List Decision → Type 0
GivesAtDecisions ds = (before after : List Decision) (d : Decision)
    → before ++ d ∷ after ≡ ds → GivesLastPut before d.time

-- no value is ever held that wasn't permitted
abbrev pub HoldsPermitted : List Decision → Type 0
HoldsPermitted ds = (before after : List Decision) → before ++ after ≡ ds
    → (resource kind : ℕ) (key : List ℕ) (held : Held)
    → (slot_in (kind_at (map_of before) resource kind).slots key).held ≡ Some held
    → WasPermitted before resource kind held

-- the clocks of decisions never fall
unfoldable pub InTime : List Decision → Type 0
InTime [] = Unit {0}
InTime (d ∷ ds) = AllByRecursion (λ e. d.time ≤ e.time) ds × InTime ds
