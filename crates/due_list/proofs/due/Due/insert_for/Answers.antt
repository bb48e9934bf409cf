use Rattle.std.proofs.Common.{◌≡◌, sym, subst, ap, ◌∙◌}
use Rattle.due_list.specs.Entries.{AreInOrder, entry_of}
use Rattle.due_list.proofs.Vectors.{in_order_new}
use Rattle.due_list.proofs.due.Due.insert_for.Goals as goal

pub returns-clause-sound : goal.returns-clause-sound
returns-clause-sound c =
    let new : entry_of c.args.id c.args.self.now.entries ≡ _ = c.requires in
    subst AreInOrder (sym c.in_ok-put.ensures.ok) (in_order_new (record { due = c.args.due; id = c.args.id; owner = c.args.owner }) _ c.self.invariant (ap (λ d. entry_of c.args.id d.entries) c.self.view_is ∙ new))

pub invariant_of-self-2 : goal.invariant_of-self-2
invariant_of-self-2 c = returns-clause-sound c
