use Rattle.std.proofs.Common.{ap, sym, ◌∙◌}
use Rattle.std.specs.FinSet as set
use Rattle.link_framing.proofs.Heard.{keys_contain, heard_there, heard_elsewhere}
use Rattle.link_framing.proofs.acks.Acks.has.Goals as goal

pub returns-then-is_within : goal.returns-then-is_within
returns-then-is_within c =
    let within = c.is_within.ensures.there c.if-is_within.true in
    sym (heard_there c.self.inside.front (set.from_list c.self.inside.others.keys) c.args.n within.0 within.1)
    ∙ ap (λ s. set.contains s c.args.n) c.self.view_is

pub returns : goal.returns
returns c =
    c.contains.ensures ∙ keys_contain c.self.inside.others.keys c.args.n
    ∙ sym (heard_elsewhere c.self.inside.front (set.from_list c.self.inside.others.keys) c.args.n (c.is_within.ensures.elsewhere c.if-is_within.false))
    ∙ ap (λ s. set.contains s c.args.n) c.self.view_is
