use Rattle.std.proofs.Common.{◌≡◌, ◌++◌, map, filter, is_some}
use Rattle.storage_model.specs.Records.{unexpired}
use Rattle.storage_model.specs.Fetches.{live_names}
use Rattle.ordered_tables.specs.Seen.{shown}
use Rattle.kind_store.proofs.gathering.live_names.Given as goal

-- with the names that are left, the names are all those whose values aren't expired
abbrev pub invariant-loop-name : goal.invariant-loop-name
invariant-loop-name l = l.names ++ map (λ s. s.0) (filter (λ s. is_some (unexpired l.now s.1.held)) (shown (λ k. k.items) l.name-iterator)) ≡ live_names l.now l.slots
