-- The way of a request: each peer hands it nearer to the owner, and the owner keeps it.
use Rattle.std.proofs.Common.{◌≡◌, ◌≢◌, ℕ, ◌^◌, ◌<◌, List, [], ◌∷◌, Bool, true, false, cond, refl, sym, ap, ◌∙◌}
use Rattle.std.specs.List.{list_any}
use Rattle.std.proofs.lemmas.Bool.{le-ltb, lt-leb}
use Rattle.reload_ids.specs.declared.NodeId.{NodeId}
use Rattle.reload_ids.specs.declared.ResourceId.{ResourceId}
use Rattle.reload_ids.specs.Ring.{distance}
use Rattle.chord_tables.specs.Tables.{Tables, owns}
use Rattle.peer_routing.specs.declared.Hop.TheVariants.{To}
use Rattle.peer_routing.specs.Routes.{next_hop}
use Rattle.ring_laws.specs.Members.{IsAmong, AreMembers, IsOwner, IsExact}
use Rattle.ring_laws.proofs.Hops.{other-nearer}
use Rattle.ring_laws.proofs.Owners.{owner_one, owns_own}
use Rattle.forwarding_header.specs.declared.header.Header.{Header}
use Rattle.forwarding_header.specs.declared.destination.Destination.TheVariants as to
use Rattle.forwarding_header.specs.declared.forwarding_option.TheConstants.{FORWARD_CRITICAL}
use Rattle.node_model.specs.declared.course.Course.TheVariants.{Owned, Forwarded}
use Rattle.node_model.specs.declared.limits.TheConstants.{MAX_REQUEST}
use Rattle.node_model.specs.declared.peer_state.PeerState.TheVariants.{Member}
use Rattle.node_model.specs.Heard.{ttl_of}
use Rattle.node_model.specs.Ways.{has_flag}
use Rattle.node_model.specs.Courses.{without_own, onward, forwarded, course_in_ring, course}
use Rattle.overlay_laws.specs.Ways.{IsRouted}

in_ring : (from : NodeId) (t : Tables) (size : ℕ) (r : ResourceId) (h : Header) → IsRouted size r h
    → course from t Member size h ≡ cond (owns t r.0) (Owned r) (forwarded from t true h (to.Resource r ∷ []) r.0)
unfolding course_in_ring without_own
in_ring from t size r h w = rw (le-ltb MAX_REQUEST size w.small, w.dest) refl

handed_on : (from : NodeId) (t : Tables) (r : ResourceId) (h : Header) (x : ℕ) → list_any (has_flag FORWARD_CRITICAL) h.options ≡ false → 1 < ttl_of h
    → next_hop t true r.0 ≡ To (record { 0 = x }) → forwarded from t true h (to.Resource r ∷ []) r.0 ≡ Forwarded (record { 0 = x }) (onward from h (to.Resource r ∷ []))
unfolding forwarded
handed_on from t r h x plain hops next = rw (plain, lt-leb (ttl_of h) 1 hops, next) refl

pub owner_keeps : (members : List ℕ) (from : NodeId) (t : Tables) (size : ℕ) (r : ResourceId) (h : Header) → AreMembers members → r.0 < 2 ^ 128 → IsExact members t → IsRouted size r h
    → IsOwner members r.0 t.me → course from t Member size h ≡ Owned r
owner_keeps members from t size r h d small exact w own =
    let mine : owns t r.0 ≡ true = (owns_own members t r.0 d small exact).1 own in
    in_ring from t size r h w ∙ rw mine refl

not_mine : (members : List ℕ) (t : Tables) (k o : ℕ) → AreMembers members → k < 2 ^ 128 → IsExact members t → IsOwner members k o → t.me ≢ o → (b : Bool) → owns t k ≡ b → b ≡ false
not_mine members t k o d small exact own other true e = absurd (other (owner_one members k t.me o d small ((owns_own members t k d small exact).0 e) own))
not_mine members t k o d small exact own other false e = refl

pub others_hand_on : (members : List ℕ) (from : NodeId) (t : Tables) (size : ℕ) (r : ResourceId) (h : Header) (o : ℕ) → AreMembers members → r.0 < 2 ^ 128 → IsExact members t → IsRouted size r h
    → 1 < ttl_of h → IsOwner members r.0 o → t.me ≢ o
    → (next : ℕ) × (course from t Member size h ≡ Forwarded (record { 0 = next }) (onward from h h.dest)) × IsAmong next members × (distance next o < distance t.me o)
others_hand_on members from t size r h o d small exact w hops own other =
    let n = other-nearer members t r.0 o d small exact own other in
    let off : owns t r.0 ≡ false = not_mine members t r.0 o d small exact own other (owns t r.0) refl in
    let way : course from t Member size h ≡ forwarded from t true h (to.Resource r ∷ []) r.0 = in_ring from t size r h w ∙ rw off refl in
    (n.0, way ∙ handed_on from t r h n.0 w.plain hops n.1 ∙ ap (λ ds. Forwarded (record { 0 = n.0 }) (onward from h ds)) (sym w.dest), n.2, n.3)
