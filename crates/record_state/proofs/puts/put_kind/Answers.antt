use Rattle.std.proofs.Common.{sym, ◌∙◌}
use Rattle.std.proofs.lemmas.Result.{on_ok_weaker}
use Rattle.record_state.proofs.PutKinds.{put_kind_with}
use Rattle.record_state.proofs.puts.put_kind.Goals as goal

pub returns-clause-ok : goal.returns-clause-ok
returns-clause-ok c =
    on_ok_weaker c.put_appended.result
    (put_kind_with c.args.now c.args.draft.now.kinds c.put_placed.new.draft.kinds c.put_appended.new.draft.kinds c.args.asked.now c.values_in-values.result.now _ _
    c.values_in-values.ensures (sym c.puts.ensures ∙ c.if-not-puts.false) c.counters_after-counters.ensures.generation c.counters_after-counters.ensures.floor c.in_ok-put_placed.ensures.ok)
    c.put_appended.ensures.ok
