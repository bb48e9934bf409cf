use Rattle.std.proofs.Common.{◌≡◌, ◌+◌, subst}
use Rattle.storage_model.specs.Records.{Record}
use Rattle.kind_store.specs.declared.undo.RecordUndo.TheVariants.{Noted}
use Rattle.kind_store.specs.Undoing.{IsRecordUndo}
use Rattle.kind_store.proofs.Undoings.{record_with, noted_back}
use Rattle.kind_store.proofs.record.Record.note.Goals as goal

pub returns-clause-undo : goal.returns-clause-undo
returns-clause-undo c =
    let i = c.self.inside in
    let undo = c.nothing-kinds.result in
    subst (λ (x : Record). IsRecordUndo (Noted undo c.in_ok-oldest.oldest) (record_with (i.turn + 1) i.joined i.kinds c.keep.new.kept) x) c.self.view_is
    (noted_back i.turn i.joined i.kinds i.kinds c.keep.new.kept i.kept undo c.in_ok-oldest.oldest (c.nothing-kinds.ensures i.kinds) c.in_ok-oldest.ensures.oldest c.self.invariant)
