use Rattle.std.proofs.Common.{◌≡◌, ◌≤◌, ◌+◌, true, subst}
use Rattle.storage_model.specs.declared.limits.TheConstants.{MAX_WEIGHT}
use Rattle.storage_model.specs.Records.{Record, weight}
use Rattle.kind_store.specs.declared.undo.RecordUndo.TheVariants.{Joined}
use Rattle.kind_store.specs.Undoing.{IsRecordUndo}
use Rattle.kind_store.proofs.Undoings.{record_with, nothing_back, joined_back}
use Rattle.kind_store.proofs.record.Record.set_joined.Goals as goal

pub returns-then-self-clause-undo : goal.returns-then-self-clause-undo
returns-then-self-clause-undo c =
    nothing_back c.args.self.now (subst (λ (x : Record). weight x.kinds ≤ MAX_WEIGHT) c.self.view_is c.self.invariant)

pub returns-clause-undo : goal.returns-clause-undo
returns-clause-undo c =
    let i = c.self.inside in
    subst (λ (x : Record). IsRecordUndo Joined (record_with (i.turn + 1) true i.kinds i.kept) x) c.self.view_is
    (joined_back i.turn i.joined i.kinds i.kept c.if-self.false c.self.invariant)
