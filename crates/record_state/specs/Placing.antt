-- Values that are put one by one into the slots of a kind.
use Rattle.std.specs.Prelude.{ℕ, fold, if◌then◌else◌}
use Rattle.data_models.specs.Stored.{key_of}
use Rattle.storage_model.specs.declared.request.Value.{Value}
use Rattle.storage_model.specs.Records.{Kinds}
use Rattle.storage_model.specs.Requests.{is_end}
use Rattle.storage_model.specs.Puts.{ValuesAt, slot_of}
use Rattle.record_state.specs.Undo.{slot_put}

-- values put into their slots of one kind, each with the same counters of the kind
unfoldable pub put_into : ℕ → ℕ → ℕ × ℕ → Kinds → ValuesAt → Kinds
put_into now id counters kinds values =
    fold (λ kinds v. slot_put kinds id counters.0 counters.1 v.0 (slot_of now v.1)) kinds values

-- a value put into its slot, where it has one
unfoldable pub placed_on : ℕ → ℕ → ℕ × ℕ → Kinds → Value → Kinds
placed_on now id counters kinds v =
    if is_end v.stored.key then kinds
    else slot_put kinds id counters.0 counters.1 (key_of v.stored.key) (slot_of now v)
