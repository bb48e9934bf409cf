use Rattle.overlay_laws.proofs.PeerSources.{sent_by_peer}
use Rattle.overlay_laws.proofs.ClientSources.{sent_by_client}
use Rattle.overlay_laws.proofs.laws.nodes_send_what_they_make_hear_or_keep.Goals as goal

pub returns-clause-peers : goal.returns-clause-peers
returns-clause-peers c = sent_by_peer

pub returns-clause-clients : goal.returns-clause-clients
returns-clause-clients c = sent_by_client
