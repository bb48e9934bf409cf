use Rattle.std.proofs.Common.{◌≡◌, map, take}
use Rattle.data_models.specs.declared.stored_data.SlotKey.TheVariants as keys
use Rattle.kind_store.specs.Gathered.{with_keys}
use Rattle.kind_store.proofs.gathering.Gathering.add_named.Given as goal

-- the values of the names so far were gathered
abbrev pub invariant-loop-name : goal.invariant-loop-name
invariant-loop-name l = l.self ≡ with_keys l.now l.slots l.initial.self (map keys.Name (take l.name-index l.names))
