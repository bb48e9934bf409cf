use Rattle.std.proofs.Common.{◌≡◌, ◌≤◌, ◌-◌, ◌^◌, ℕ, map}
use Rattle.std.specs.List.{range_with_len}
use Rattle.data_models.specs.declared.stored_data.SlotKey.TheVariants as keys
use Rattle.kind_store.specs.Gathered.{with_keys}
use Rattle.kind_store.proofs.gathering.Gathering.add_range.Given as goal

-- with the indices that are left, the values are those of all
abbrev pub invariant-indices : goal.invariant-indices
invariant-indices l = (l.end ≤ 2 ^ 32) × (with_keys l.now l.slots l.self (map keys.Index (range_with_len l.index (l.end - l.index))) ≡ with_keys l.now l.slots l.initial.self (map keys.Index (range_with_len l.first (l.end - l.first))))

abbrev pub decreases-indices : goal.decreases-indices
decreases-indices l = l.end - l.index
