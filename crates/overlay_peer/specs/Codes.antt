-- The codes of what a peer is to its overlay, for the type that contracts see as it.
use Rattle.std.specs.Prelude.{ℕ, ◌≡◌, refl}
use Rattle.std.specs.Coded.{Coded, code_by, coded×, coded_ℕ}
use Rattle.node_model.specs.declared.peer_state.PeerState.{PeerState}
use Rattle.node_model.specs.declared.peer_state.PeerState.TheVariants as states
use Rattle.node_model.specs.contracts.peer_state.PeerState as of_state
use Rattle.node_model.specs.Peers.{Membership, Seeking, Member, Admitting, Leaving, Gone}

-- a membership as its state, a clock and a Node-ID
abbrev pub parts_of : Membership → PeerState × (ℕ × ℕ)
parts_of Seeking = (states.Seeking, (0, 0))
parts_of (Member since) = (states.Member, (since, 0))
parts_of (Admitting since joiner) = (states.Admitting, (since, joiner.0))
parts_of (Leaving since) = (states.Leaving, (since, 0))
parts_of Gone = (states.Gone, (0, 0))

-- the membership of these
abbrev pub of_parts : PeerState → ℕ → ℕ → Membership
of_parts states.Seeking since joiner = Seeking
of_parts states.Member since joiner = Member since
of_parts states.Admitting since joiner = Admitting since (record { 0 = joiner })
of_parts states.Leaving since joiner = Leaving since
of_parts states.Gone since joiner = Gone

-- the one gives the other back
abbrev pub of_parts-parts_of : (m : Membership)
    → of_parts (parts_of m).0 (parts_of m).1.0 (parts_of m).1.1 ≡ m
of_parts-parts_of Seeking = refl
of_parts-parts_of (Member since) = refl
of_parts-parts_of (Admitting since joiner) = refl
of_parts-parts_of (Leaving since) = refl
of_parts-parts_of Gone = refl

-- a membership as these
abbrev pub membership_code : Coded Membership
membership_code = code_by (PeerState × (ℕ × ℕ))
    (coded× of_state.the_row.coded (coded× coded_ℕ coded_ℕ)) parts_of
    (λ p. of_parts p.0 p.1.0 p.1.1) of_parts-parts_of
