use Rattle.std.proofs.Common.{ap, sym, ◌∙◌}
use Rattle.due_list.specs.Entries.{entry_at, entry_of}
use Rattle.due_list.proofs.Vectors.{at_of}
use Rattle.due_list.proofs.due.Due.place_of.Goals as goal

pub returns-clause-place : goal.returns-clause-place
returns-clause-place c =
    ap (λ n. entry_at n c.args.self.now.entries) c.of.ensures
    ∙ ap (λ d. entry_at c.args.id d.entries) (sym c.self.view_is)
    ∙ at_of c.args.id _
    ∙ ap (λ d. entry_of c.args.id d.entries) c.self.view_is
