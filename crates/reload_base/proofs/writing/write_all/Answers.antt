use Rattle.reload_base.proofs.Pieces.{Adds-more}
use Rattle.reload_base.proofs.writing.write_all.Goals as goal

pub pieces-preserved : goal.pieces-preserved
pieces-preserved g c =
    let before = c.pieces.invariant in
    Adds-more _ _ _ before.0 c.pieces.rest.now _ _ c.in-Some.n before.1 c.split_at.ensures.back before.2 c.in-Some.ensures.2
