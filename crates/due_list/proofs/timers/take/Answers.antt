use Rattle.std.proofs.Common.{sym, subst, ◌∙◌}
use Rattle.std.specs.Prelude.{IsSome}
use Rattle.due_list.proofs.Vectors.{has_index, taken_at}
use Rattle.due_list.proofs.timers.take.Goals as goal

pub unwrap-index-requires : goal.unwrap-index-requires
unwrap-index-requires c = subst IsSome (sym c.index_of.ensures) (has_index c.args.place c.args.timers.now.items c.requires _ _ c.id.ensures c.as_slice.ensures.value)

pub returns-clause-entry : goal.returns-clause-entry
returns-clause-entry c =
    (taken_at c.args.place _ _ c.args.timers.now.items _ _ c.remove.result c.id.ensures c.as_slice.ensures.value (sym c.index_of.ensures ∙ c.unwrap-index.ensures) c.remove.ensures.value c.remove.ensures.items).0

pub returns-clause-rest : goal.returns-clause-rest
returns-clause-rest c =
    (taken_at c.args.place _ _ c.args.timers.now.items _ _ c.remove.result c.id.ensures c.as_slice.ensures.value (sym c.index_of.ensures ∙ c.unwrap-index.ensures) c.remove.ensures.value c.remove.ensures.items).1
