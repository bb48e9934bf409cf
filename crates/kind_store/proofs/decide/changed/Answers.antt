use Rattle.std.proofs.Common.{◌≡◌, ◌<◌, ◌^◌, sym, subst}
use Rattle.storage_model.specs.Records.{Kinds, kind_in}
use Rattle.record_state.proofs.PutKinds.{swept_counted}
use Rattle.kind_store.proofs.decide.changed.Goals as goal

pub put_kinds-requires-clause-counted : goal.put_kinds-requires-clause-counted
put_kinds-requires-clause-counted c kind = subst (λ (ks : Kinds). (kind_in ks kind).generation < 2 ^ 63) (sym c.in_ok-sweep.ensures.ok) (swept_counted c.args.now c.args.draft.now.kinds c.requires.counted kind)
