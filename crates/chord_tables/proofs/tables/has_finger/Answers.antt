use Rattle.std.proofs.Common.{◌∙◌, refl}
use Rattle.chord_tables.proofs.Naming.{any_finger}
use Rattle.chord_tables.proofs.tables.has_finger.Goals as goal

pub returns : goal.returns
returns c =
    c.contains.ensures.value ∙ any_finger c.args.node.0 _ refl (λ n. refl) c.args.fingers.now
