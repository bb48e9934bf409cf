use Rattle.std.proofs.Common.{◌≡◌, true, is_some, [], ap, ◌∙◌}
use Rattle.transaction_table.specs.Tables.{outstanding}
use Rattle.node_model.specs.Clients.{Client}
use Rattle.overlay_client.proofs.Sounds.{heard_sound, taken_at}
use Rattle.overlay_client.proofs.client.Client.takes.Goals as goal

pub invariant_of-self-2 : goal.invariant_of-self-2
invariant_of-self-2 c =
    let i = c.self.inside in
    let there : is_some (outstanding c.args.from.0 c.args.id i.table) ≡ true =
    ap (λ (x : Client). is_some (outstanding c.args.from.0 c.args.id x.txns)) c.self.view_is
    ∙ c.requires.there in
    taken_at c.args.now c.args.from c.args.id c.hear.new.self i.table c.forget.new.table i.questions
    c.forget.new.questions (heard_sound c.args.from c.args.sequence [] i.node c.hear.new.self
    i.table i.questions c.self.invariant c.in_ok-frames.ensures.ok) there c.forget.ensures.table
    c.forget.ensures.questions
