use Rattle.std.proofs.Common.{◌≡◌, ◌≤◌, ◌+◌, ◌^◌, drop}
use Rattle.storage_model.specs.Requests.{appended}
use Rattle.storage_model.specs.Puts.{at_end}
use Rattle.record_state.specs.Placing.{put_into}
use Rattle.record_state.proofs.puts.put_appended.Given as goal

abbrev pub invariant-loop-value : goal.invariant-loop-value
invariant-loop-value l = record {
  before : l.draft.before ≡ l.initial.draft.before;
  small : l.next ≤ 2 ^ 32 + l.value-index;
  kinds : put_into l.now l.id l.counters l.draft.kinds (at_end l.next (appended (drop l.value-index l.values)))
      ≡ put_into l.now l.id l.counters l.initial.draft.kinds (at_end l.initial.next (appended l.values));
}
