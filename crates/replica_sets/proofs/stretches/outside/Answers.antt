use Rattle.std.proofs.Common.{sym, ◌∙◌, ap, not, arith}
use Rattle.std.proofs.lemmas.List.Elements.{filter_agree}
use Rattle.reload_ids.specs.Ring.{between}
use Rattle.replica_sets.proofs.Arcs.{between-same, complement}
use Rattle.replica_sets.proofs.Lists.{filter_none}
use Rattle.replica_sets.proofs.stretches.outside.Goals as goal

pub returns-then-from-to : goal.returns-then-from-to
returns-then-from-to c =
    sym (filter_none (λ r. not (between c.args.from r.0 c.args.to)) _
    (λ k d lt. ap not (between-same _ _ _ c.if-from-to.true)))

pub returns : goal.returns
returns c =
    c.behind.ensures
    ∙ filter_agree (λ r. between c.args.to r.0 c.args.from)
    (λ r. not (between c.args.from r.0 c.args.to))
    (λ r. sym (complement _ _ _ c.if-from-to.false (omega arith) (omega arith))) _
