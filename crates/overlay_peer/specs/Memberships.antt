-- What a peer is to its overlay, as the meaning of peers has it.
use Rattle.node_model.specs.Peers as model
use Rattle.overlay_peer.specs.declared.membership.Membership.{Membership}
use Rattle.overlay_peer.specs.declared.membership.Membership.TheVariants as states

abbrev pub membership_of : Membership → model.Membership
membership_of states.Seeking = model.Seeking
membership_of (states.Member since) = model.Member since
membership_of (states.Admitting since joiner) = model.Admitting since joiner
membership_of (states.Leaving since) = model.Leaving since
membership_of states.Gone = model.Gone
