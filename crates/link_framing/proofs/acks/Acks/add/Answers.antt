use Rattle.std.proofs.Common.{ap, ◌∙◌}
use Rattle.std.specs.FinSet as set
use Rattle.link_framing.specs.Acked.{heard_up_to}
use Rattle.link_framing.proofs.Heard.{keys_insert, heard_next, heard_other}
use Rattle.link_framing.proofs.acks.Acks.add.Goals as goal

pub returns-then-follows-clause-ok : goal.returns-then-follows-clause-ok
returns-then-follows-clause-ok c =
    heard_next c.self.inside.front c.args.n (set.from_list c.self.inside.others.keys) (c.follows.ensures c.if-follows.true)
    ∙ ap (λ s. set.insert s c.args.n) c.self.view_is

pub returns-clause-ok : goal.returns-clause-ok
returns-clause-ok c =
    ap (heard_up_to c.self.inside.front) (keys_insert c.self.inside.others.keys c.insert.new.self.keys c.args.n c.in_ok-insert.ensures.updates.0)
    ∙ heard_other c.self.inside.front c.args.n (set.from_list c.self.inside.others.keys)
    ∙ ap (λ s. set.insert s c.args.n) c.self.view_is
