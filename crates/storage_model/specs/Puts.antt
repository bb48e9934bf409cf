-- What an accepted Store makes of a record's kinds (RFC 6940, 7.4.1).
use Rattle.std.specs.Prelude.{ℕ, ◌+◌, ◌*◌, List, [], ◌∷◌, ◌++◌, map, fold, Some, if◌then◌else◌}
use Rattle.std.specs.Int.{w32, to_be_bytes}
use Rattle.std.specs.FinMap.{insert}
use Rattle.data_models.specs.Stored.{key_of}
use Rattle.storage_model.specs.declared.record.Held.{Held}
use Rattle.storage_model.specs.declared.request.Value.{Value}
use Rattle.storage_model.specs.declared.request.AskedKind.{AskedKind}
use Rattle.storage_model.specs.Records.{SlotEntry, Slots, KindEntry, Kinds, kind_in, next_index, all_swept}
use Rattle.storage_model.specs.Requests.{values_of, puts, placed, appended}

-- a value once it is held: it expires 1,000 ms a second after its decision
abbrev pub held_of : ℕ → Value → Held
held_of now v = record {
  storage_time = v.stored.storage_time;
  present = v.stored.present;
  value = v.stored.value;
  signature = v.stored.signature;
  size = v.size;
  expiry = now + 1000 * v.stored.lifetime;
}

-- its slot: the floor is the storage time that was accepted
abbrev pub slot_of : ℕ → Value → SlotEntry
slot_of now v = record { floor = v.stored.storage_time; held = Some (held_of now v) }

-- values with the keys of their slots as bytes
abbrev pub ValuesAt : Type 0
ValuesAt = List (List ℕ × Value)

-- values that have a slot
unfoldable pub at_keys : List Value → ValuesAt
at_keys values = map (λ v. (key_of v.stored.key, v)) values

-- values that are appended, each one behind the other from an index on
unfoldable pub at_end : ℕ → List Value → ValuesAt
at_end next [] = []
at_end next (v ∷ vs) = (to_be_bytes w32 next, v) ∷ at_end (next + 1) vs

-- values put into their slots, one after the other
unfoldable pub put_all : ℕ → Slots → ValuesAt → Slots
put_all now slots values = fold (λ slots v. insert slots v.0 (slot_of now v.1)) slots values

-- where the values of a Store go: those that have a slot first, and then the appends, from the
-- index behind the greatest that the array ever held
unfoldable pub places : ℕ → Slots → List Value → ValuesAt
places now slots values =
    let first = at_keys (placed values) in
    first ++ at_end (next_index (put_all now slots first)) (appended values)

-- the greatest storage time that was appended, after further appends in their order
unfoldable pub append_floor_after : ℕ → List Value → ℕ
append_floor_after floor values = fold (λ before v. v.stored.storage_time) floor values

-- a kind after its values were put: the generation counter rises by 1
unfoldable pub kind_after : ℕ → KindEntry → List Value → KindEntry
kind_after now k values = record {
  generation = k.generation + 1;
  append_floor = append_floor_after k.append_floor (appended values);
  slots = put_all now k.slots (places now k.slots values);
}

-- kinds after the values of one kind were put, if there are some
abbrev pub put_kind : ℕ → Kinds → AskedKind → Kinds
put_kind now kinds a =
    if puts a
    then insert kinds a.kind (kind_after now (kind_in kinds a.kind) (values_of a))
    else kinds

-- kinds after a Store was accepted: expired values leave, and then its values are put
unfoldable pub kinds_after : ℕ → Kinds → List AskedKind → Kinds
kinds_after now kinds asked = fold (put_kind now) (all_swept now kinds) asked
