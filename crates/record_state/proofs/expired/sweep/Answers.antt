use Rattle.std.proofs.Common.{◌≡◌, ap, subst, ◌∙◌}
use Rattle.std.specs.Prelude.{fold}
use Rattle.storage_model.specs.Records.{all_swept}
use Rattle.std.proofs.lemmas.Result.{on_ok_weaker}
use Rattle.record_state.specs.Sweep.{swept_on}
use Rattle.record_state.proofs.expired.sweep.Goals as goal

pub returns-clause-ok : goal.returns-clause-ok
returns-clause-ok c =
    on_ok_weaker c.sweep_all.result
    (λ e. e ∙ ap (fold (swept_on c.args.now) c.args.draft.now.kinds) c.as_slice.ensures
    ∙ subst (λ ks. fold (swept_on c.args.now) ks c.in_ok-ids.ids ≡ all_swept c.args.now ks) c.kinds.ensures c.in_ok-ids.ensures)
    c.sweep_all.ensures.ok
