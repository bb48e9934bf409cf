use Rattle.std.proofs.Common.{ap, sym, ◌∙◌}
use Rattle.kind_store.specs.Undoing.{change_undone}
use Rattle.kind_store.proofs.Undoings.{light_at}
use Rattle.kind_store.proofs.shelf.Shelf.undo.Goals as goal

pub undo_there-requires : goal.undo_there-requires
undo_there-requires c = light_at c.args.self.now c.requires.0 c.args.undo c.in-There.undo c.in-There.is c.requires.1

pub returns-in-There : goal.returns-in-There
returns-in-There c = λ before is.
    c.undo_there.ensures ∙ ap (λ change. change_undone change c.args.undo.resource.0 c.args.self.now) (sym c.in-There.is) ∙ is.back

pub returns-in-Added : goal.returns-in-Added
returns-in-Added c = λ before is.
    c.undo_added.ensures ∙ ap (λ change. change_undone change c.args.undo.resource.0 c.args.self.now) (sym c.in-Added.is) ∙ is.back
