use Rattle.std.proofs.Common.{Some, None, sym, ap, ◌∙◌}
use Rattle.link_framing.specs.declared.frame.FrameView.{FrameView}
use Rattle.link_framing.specs.Views.{seen}
use Rattle.node_links.proofs.Payloads.{carried_by, payload_is}
use Rattle.node_links.proofs.hearing.payload_in.Goals as goal

pub returns-in-Some-Payload-clause-exact : goal.returns-in-Some-Payload-clause-exact
returns-in-Some-Payload-clause-exact c =
    sym (ap (λ (v : FrameView). carried_by (Some (seen v))) c.in-Some-Payload.field-0-is)
    ∙ payload_is c.args.bytes.now (Some (seen c.in-Some-Payload.field-0)) c.in-Some-Payload.ensures.exact

pub returns-in-Some-Ack-clause-exact : goal.returns-in-Some-Ack-clause-exact
returns-in-Some-Ack-clause-exact c =
    sym (ap (λ (v : FrameView). carried_by (Some (seen v))) c.in-Some-Ack.field-0-is)
    ∙ payload_is c.args.bytes.now (Some (seen c.in-Some-Ack.field-0)) c.in-Some-Ack.ensures.exact

pub returns-in-None-clause-exact : goal.returns-in-None-clause-exact
returns-in-None-clause-exact c = payload_is c.args.bytes.now None c.in-None.ensures.exact
