use Rattle.std.proofs.Common.{◌++◌, ap, sym, subst, ◌∙◌}
use Rattle.std.specs.Prelude.{fold}
use Rattle.std.proofs.lemmas.Result.{on_ok_weaker}
use Rattle.storage_model.specs.Records.{KindEntry}
use Rattle.record_state.specs.Light.{IsNoSooner}
use Rattle.record_state.specs.Sweep.{swept_on}
use Rattle.ordered_tables.proofs.Trees.{joined_at}
use Rattle.record_state.proofs.Sweeps.{kind_left_out, not_due}
use Rattle.record_state.proofs.expired.note_due.Goals as goal

pub returns-then-now-soonest : goal.returns-then-now-soonest
returns-then-now-soonest c = λ kinds rest there.
    let idle = not_due c.args.now c.soonest.result c.args.kind.now (subst (λ (k : KindEntry). IsNoSooner c.soonest.result k.slots) c.kind.view_is c.soonest.ensures) c.if-now-soonest.true in
    sym (kind_left_out c.args.now kinds c.args.ids.now c.args.id rest c.args.kind.now there idle)

pub returns : goal.returns
returns c = λ kinds rest there.
    on_ok_weaker c.push.result
    (λ pushed. ap (λ ids. fold (swept_on c.args.now) kinds (ids ++ rest)) pushed ∙ ap (fold (swept_on c.args.now) kinds) (joined_at c.args.ids.now c.args.id rest))
    c.push.ensures.ok
