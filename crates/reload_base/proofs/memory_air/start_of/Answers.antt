use Rattle.std.proofs.Common.{◌≡◌, suc, ◌-◌, ℕ, refl, sym, ap, ◌∙◌, arith}
use Rattle.reload_base.specs.Heads.{start_from}
use Rattle.reload_base.proofs.Heads.{start_behind}
use Rattle.reload_base.proofs.memory_air.start_of.Goals as goal

pub returns-then-at-eq0 : goal.returns-then-at-eq0
unfolding start_from
returns-then-at-eq0 c = rw c.if-at-eq0.true refl

pub returns : goal.returns
returns c =
    let before : suc (c.args.at - 1) ≡ c.args.at = omega arith in
    sym (start_behind 0 c.args.heads.now (c.args.at - 1) _ (omega arith)) ∙ ap (start_from 0 c.args.heads.now) before
