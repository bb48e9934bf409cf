use Rattle.overlay_laws.proofs.Payloads.{carried_message, no_message}
use Rattle.overlay_laws.proofs.laws.payloads_carry_their_messages.Goals as goal

pub returns-clause-payloads : goal.returns-clause-payloads
returns-clause-payloads c = carried_message

pub returns-clause-acks : goal.returns-clause-acks
returns-clause-acks c = no_message
