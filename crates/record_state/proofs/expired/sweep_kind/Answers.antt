use Rattle.std.proofs.Common.{◌≡◌, ap, sym, subst, ◌∙◌}
use Rattle.std.specs.Prelude.{fold}
use Rattle.std.specs.Option.{option_copied}
use Rattle.std.specs.FinMap.{get}
use Rattle.storage_model.specs.Records.{KindEntry, map_values, swept_slot}
use Rattle.record_state.specs.Undo.{Drafted}
use Rattle.record_state.specs.Sweep.{emptied_at}
use Rattle.record_state.proofs.Sweeps.{none_swept, swept_by}
use Rattle.record_state.proofs.expired.sweep_kind.Goals as goal

pub returns-in_default-clause-ok : goal.returns-in_default-clause-ok
returns-in_default-clause-ok c = none_swept c.args.now c.args.id c.args.draft.now.kinds (ap option_copied (sym c.in_default.is) ∙ c.get.ensures ∙ ap (λ ks. get ks c.args.id) c.kinds.ensures)

pub returns-clause-ok : goal.returns-clause-ok
returns-clause-ok c =
    ap (λ (d : Drafted). d.kinds) c.renew_soonest.ensures ∙ c.in_ok-empty_all.ensures.ok
    ∙ swept_by c.args.now c.args.id c.args.draft.now.kinds c.in-Some.kind.now c.in_ok-keys.keys (c.in-Some.ensures ∙ ap (λ ks. get ks c.args.id) c.kinds.ensures)
    (subst (λ (k : KindEntry). fold (emptied_at c.args.now) k.slots c.in_ok-keys.keys ≡ map_values (swept_slot c.args.now) k.slots) c.kind.view_is c.in_ok-keys.ensures)
