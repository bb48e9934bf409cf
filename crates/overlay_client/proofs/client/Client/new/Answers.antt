use Rattle.overlay_client.proofs.Sounds.{new_sound}
use Rattle.overlay_client.proofs.client.Client.new.Goals as goal

pub invariant_of-result : goal.invariant_of-result
invariant_of-result c =
    new_sound c.args.number c.args.about.now c.args.config.now c.in_ok-new.field-0 c.new-2.result
    c.new-3.result c.requires.client c.in_ok-new.ensures c.new-2.ensures.outboxes
    c.new-2.ensures.issued c.new-3.ensures
