use Rattle.std.proofs.Common.{◌∙◌}
use Rattle.std.proofs.lemmas.Result.{on_ok_weaker}
use Rattle.record_state.proofs.Placed.{placed_into}
use Rattle.record_state.proofs.puts.put_placed.Goals as goal

pub returns-clause-ok : goal.returns-clause-ok
returns-clause-ok c = on_ok_weaker c.put_each.result (λ e. e ∙ placed_into c.args.now c.args.id c.args.counters c.args.draft.now.kinds c.args.values.now) c.put_each.ensures.ok
