-- What a step of a peer decides, and what it leaves as it was.
use Rattle.std.proofs.Common.{◌≡◌, ℕ, List, [], ◌∷◌, length, Bool, true, false, cond, Option, Some, None, refl, subst, ◌∙◌}
use Rattle.std.specs.Prelude.{◌&&◌, ◌==◌, not, nat_lt, nat_le}
use Rattle.std.specs.Option.{option_map_or}
use Rattle.std.specs.List.{list_any}
use Rattle.std.proofs.lemmas.Bool.{and_parts}
use Rattle.reload_ids.specs.declared.NodeId.{NodeId}
use Rattle.reload_ids.specs.declared.ResourceId.{ResourceId}
use Rattle.chord_tables.specs.Tables.{Tables, owns}
use Rattle.peer_routing.specs.declared.Hop.{Hop}
use Rattle.peer_routing.specs.declared.Hop.TheVariants as hops
use Rattle.peer_routing.specs.Routes.{next_hop}
use Rattle.forwarding_header.specs.declared.header.Header.{Header}
use Rattle.forwarding_header.specs.declared.destination.Destination.{Destination}
use Rattle.forwarding_header.specs.declared.destination.Destination.TheVariants as to
use Rattle.forwarding_header.specs.declared.forwarding_option.TheConstants.{FORWARD_CRITICAL, DESTINATION_CRITICAL}
use Rattle.node_messages.specs.declared.message.Message.{Message}
use Rattle.node_messages.specs.Signed.{SignerWords}
use Rattle.storage_model.specs.Decisions.{changed}
use Rattle.storage_model.specs.declared.refusal.Refusal.TheVariants.{NotFound, UnsupportedForwardingOption, TtlExceeded, MessageTooLarge, InvalidMessage}
use Rattle.storage_model.specs.declared.request.Asked.{Asked}
use Rattle.node_model.specs.declared.course.AnswerCourse.{AnswerCourse}
use Rattle.node_model.specs.declared.course.AnswerCourse.TheVariants as answers
use Rattle.node_model.specs.declared.course.Course.{Course}
use Rattle.node_model.specs.declared.course.Course.TheVariants.{Dropped, Refused, Here, Owned, Forwarded}
use Rattle.node_model.specs.declared.limits.TheConstants.{MAX_REQUEST}
use Rattle.node_model.specs.declared.notice.Notice.TheVariants as notices
use Rattle.node_model.specs.declared.peer_state.PeerState.{PeerState}
use Rattle.node_model.specs.declared.peer_state.PeerState.TheVariants as states
use Rattle.node_model.specs.Nodes.{Step, Cause, Framed, Clocked, Commanded, node_after, counted}
use Rattle.node_model.specs.Heard.{Envelope, ttl_of, payload_in, heard_in, is_answer, message_in}
use Rattle.node_model.specs.Ways.{has_flag, answer_course}
use Rattle.node_model.specs.Courses.{is_alone, without_own, onward, sent_on, forwarded, course_to, course_in_ring, course}
use Rattle.node_model.specs.Askings.{is_decided, asked_in, origin_of}
use Rattle.node_model.specs.Peers.{Peer, Reaction, state_of, is_gone, effect_at, sends, ends, decides, handled, by_course, by_answer_course, reaction, reaction_to, hears, idles, framed, clocked, peer_step}
use Rattle.node_model.specs.Clocks.{node_clocked}
use Rattle.node_model.specs.Ends.{is_ended_by}

-- ---- a request is for a resource only where the peer owns that

abbrev pub OwnsIt : Tables → Course → Type 0
OwnsIt t (Owned r) = owns t r.0 ≡ true
OwnsIt t _ = Unit {0}

owns_if : (t : Tables) (b : Bool) (c d : Course) → (b ≡ true → OwnsIt t c) → OwnsIt t d → OwnsIt t (cond b c d)
owns_if t true c d yes_ no_ = yes_ refl
owns_if t false c d yes_ no_ = no_

owns_on : (t : Tables) (hop : Hop) (h : Header) → OwnsIt t (sent_on hop h)
owns_on t hops.Here h = tt
owns_on t (hops.To next) h = tt
owns_on t hops.NoRoute h = tt

owns_forwarded : (from : NodeId) (t : Tables) (owning : Bool) (h : Header) (ds : List Destination) (id : ℕ) → OwnsIt t (forwarded from t owning h ds id)
unfolding forwarded
owns_forwarded from t owning h ds id =
    owns_if t (list_any (has_flag FORWARD_CRITICAL) h.options) (Refused UnsupportedForwardingOption) _ (λ _. tt)
    (owns_if t (nat_le (ttl_of h) 1) (Refused TtlExceeded) _ (λ _. tt) (owns_on t (next_hop t owning id) (onward from h ds)))

owns_to : (from : NodeId) (t : Tables) (owning : Bool) (h : Header) (ds : List Destination) → OwnsIt t (course_to from t owning h ds)
owns_to from t owning h [] = tt
owns_to from t owning h (to.Opaque bytes ∷ rest) = tt
owns_to from t owning h (to.Short n ∷ rest) = tt
owns_to from t owning h (to.Node node ∷ rest) =
    owns_if t (node.0 == t.me) Here _ (λ _. tt)
    (owns_if t (owning && owns t node.0) (Refused NotFound) _ (λ _. tt) (owns_forwarded from t owning h (to.Node node ∷ rest) node.0))
owns_to from t owning h (to.Resource r ∷ []) =
    owns_if t (owning && owns t r.0) (Owned r) _ (λ (e : owning && owns t r.0 ≡ true). (and_parts owning (owns t r.0) e).1) (owns_forwarded from t owning h (to.Resource r ∷ []) r.0)
owns_to from t owning h (to.Resource r ∷ next ∷ rest) =
    owns_if t (owning && owns t r.0) (Refused InvalidMessage) _ (λ _. tt) (owns_forwarded from t owning h (to.Resource r ∷ next ∷ rest) r.0)

owns_in_ring : (from : NodeId) (t : Tables) (owning : Bool) (size : ℕ) (h : Header) → OwnsIt t (course_in_ring from t owning size h)
unfolding course_in_ring
owns_in_ring from t owning size h =
    owns_if t (nat_lt MAX_REQUEST size && not (is_alone t.me h.dest)) (Refused MessageTooLarge) _ (λ _. tt) (owns_to from t owning h (without_own t.me h.dest))

owns_course : (from : NodeId) (t : Tables) (state : PeerState) (size : ℕ) (h : Header) → OwnsIt t (course from t state size h)
owns_course from t states.Seeking size h = owns_if t (is_alone t.me h.dest) Here Dropped (λ _. tt) tt
owns_course from t states.Member size h = owns_in_ring from t true size h
owns_course from t states.Admitting size h = owns_in_ring from t true size h
owns_course from t states.Leaving size h = owns_in_ring from t false size h
owns_course from t states.Gone size h = tt

-- ---- what a message makes a peer decide

-- what a peer is to the overlay, what it knows of it, and its configuration stay
pub record Still (p q : Peer) : Type 0 where
  pub tables : q.tables ≡ p.tables
  pub membership : q.membership ≡ p.membership
  pub config : q.node.config ≡ p.node.config

itself : (p : Peer) → Still p p
itself p = record { tables = refl; membership = refl; config = refl }

-- nothing is decided and no record changes, or the peer decides on a resource that it owns
pub data Deed (now : ℕ) (p : Peer) (x : Reaction) : Type 0 where
  Silent : Still p x.peer → x.peer.records ≡ p.records → x.notices ≡ [] → Deed now p x
  Decides : (r : ResourceId) (origin : NodeId) (id : ℕ) (q : Asked)
      → Still p x.peer
      → owns p.tables r.0 ≡ true
      → x.peer.records ≡ changed p.records r.0 (effect_at p now r origin id q).next
      → x.notices ≡ notices.Decision now r origin id q (effect_at p now r origin id q).answer (effect_at p now r origin id q).acted ∷ []
      → Deed now p x

deed_if : (now : ℕ) (p : Peer) (b : Bool) (x y : Reaction) → Deed now p x → Deed now p y → Deed now p (cond b x y)
deed_if now p true x y first other = first
deed_if now p false x y first other = other

deed_refuses : (words : SignerWords) (now : ℕ) (p : Peer) (from : NodeId) (e : Envelope) (m : Message) (r : ResourceId) → owns p.tables r.0 ≡ true → Deed now p (decides words p now from e.header r m)
unfolding decides
deed_refuses words now p from e m r own = Decides r (origin_of m) e.header.id (asked_in words p.node.config r m) (record { tables = refl; membership = refl; config = refl }) own refl refl

deed_handled : (words : SignerWords) (now : ℕ) (p : Peer) (from : NodeId) (o : Option ResourceId) (e : Envelope) → ((r : ResourceId) → o ≡ Some r → owns p.tables r.0 ≡ true) → Deed now p (handled words p now from o e)
unfolding handled
deed_handled words now p from None e own =
    deed_if now p (list_any (has_flag DESTINATION_CRITICAL) e.header.options) _ _ (Silent (itself p) refl refl) (Silent (itself p) refl refl)
deed_handled words now p from (Some r) e own =
    deed_if now p (list_any (has_flag DESTINATION_CRITICAL) e.header.options) _ _ (Silent (itself p) refl refl)
    (deed_if now p (is_decided e.code) _ _ (deed_refuses words now p from e (message_in p.node.config words e) r (own r refl)) (Silent (itself p) refl refl))

deed_course : (words : SignerWords) (now : ℕ) (p : Peer) (from : NodeId) (e : Envelope) (c : Course) → OwnsIt p.tables c → Deed now p (by_course words p now from e c)
deed_course words now p from e Dropped own = Silent (itself p) refl refl
deed_course words now p from e (Refused cause) own = Silent (itself p) refl refl
deed_course words now p from e Here own = deed_handled words now p from None e (λ r no_. absurd cc)
deed_course words now p from e (Owned resource) own =
    deed_handled words now p from (Some resource) e
    (λ r (same : Some resource ≡ Some r). let is : resource ≡ r = cc in subst (λ (x : ResourceId). owns p.tables x.0 ≡ true) is own)
deed_course words now p from e (Forwarded next h) own = Silent (itself p) refl refl

deed_ends : (now : ℕ) (p : Peer) (from : NodeId) (id : ℕ) → Deed now p (ends p now from id)
unfolding ends
deed_ends now p from id = Silent (record { tables = refl; membership = refl; config = refl }) refl refl

deed_answer : (words : SignerWords) (now : ℕ) (p : Peer) (from : NodeId) (e : Envelope) (c : AnswerCourse) → Deed now p (by_answer_course words p now from e c)
deed_answer words now p from e answers.Ignored = Silent (itself p) refl refl
deed_answer words now p from e (answers.Passed next h) = Silent (itself p) refl refl
deed_answer words now p from e answers.Mine =
    deed_if now p (is_ended_by (message_in p.node.config words e) from e p.txns) _ _ (deed_ends now p from e.header.id) (Silent (itself p) refl refl)

deed_reaction : (words : SignerWords) (now : ℕ) (p : Peer) (from : NodeId) (size : ℕ) (e : Envelope) → Deed now p (reaction words p now from size e)
unfolding reaction
deed_reaction words now p from size e =
    deed_if now p (is_answer e) _ _ (deed_answer words now p from e (answer_course p.node.about.node.0 e.header))
    (deed_course words now p from e (course from p.tables (state_of p.membership) size e.header) (owns_course from p.tables (state_of p.membership) size e.header))

deed_opened : (words : SignerWords) (now : ℕ) (p : Peer) (from : NodeId) (size : ℕ) (o : Option Envelope) → Deed now p (option_map_or (reaction words p now from size) o (sends p []))
deed_opened words now p from size None = Silent (itself p) refl refl
deed_opened words now p from size (Some e) = deed_reaction words now p from size e

pub deed_message : (words : SignerWords) (now : ℕ) (p : Peer) (from : NodeId) (message : List ℕ) → Deed now p (reaction_to words p now from message)
unfolding reaction_to
deed_message words now p from message = deed_opened words now p from (length message) (heard_in p.node.config message)

-- ---- what a step of a peer decides

-- its tables, what it is to the overlay and its configuration stay; and it decides nothing, or on a
-- resource that it owns
pub record Acts (now : ℕ) (p : Peer) (s : Step Peer) : Type 0 where
  pub tables : s.node.tables ≡ p.tables
  pub membership : s.node.membership ≡ p.membership
  pub config : s.node.node.config ≡ p.node.config
  pub deed : Deed now p (record { peer = s.node; posts = []; notices = s.outputs.notices })

still_in : (now : ℕ) (p : Peer) (x : Reaction) → Deed now p x → Still p x.peer
still_in now p x (Silent still records told) = still
still_in now p x (Decides r origin id q still own records told) = still

-- what is sent makes no difference
same_deed : (now : ℕ) (p y : Peer) (x : Reaction) → Still p y → y.records ≡ x.peer.records → Deed now p x → Deed now p (record { peer = y; posts = []; notices = x.notices })
same_deed now p y x stays same (Silent still records told) = Silent stays (same ∙ records) told
same_deed now p y x stays same (Decides r origin id q still own records told) = Decides r origin id q stays own (same ∙ records) told

acts_idly : (now : ℕ) (p : Peer) → Acts now p (idles p)
unfolding idles counted
acts_idly now p = record { tables = refl; membership = refl; config = refl; deed = Silent (record { tables = refl; membership = refl; config = refl }) refl refl }

acts_hearing : (words : SignerWords) (now : ℕ) (from : NodeId) (sequence : ℕ) (message : List ℕ) (p : Peer) → Acts now p (hears words now from sequence message p)
unfolding hears node_after
acts_hearing words now from sequence message p =
    let r = reaction_to words p now from message in
    let d = deed_message words now p from message in
    let s = still_in now p r d in
    let stays : Still p (hears words now from sequence message p).node = record { tables = s.tables; membership = s.membership; config = s.config } in
    record {
      tables = s.tables;
      membership = s.membership;
      config = s.config;
      deed = same_deed now p (hears words now from sequence message p).node r stays refl d;
    }

acts_clocked : (now : ℕ) (p : Peer) → Acts now p (clocked now p)
unfolding clocked node_clocked
acts_clocked now p = record {
  tables = refl;
  membership = refl;
  config = refl;
  deed = Silent (record { tables = refl; membership = refl; config = refl }) refl refl;
}

acts_if : (now : ℕ) (p : Peer) (b : Bool) (s t : Step Peer) → Acts now p s → Acts now p t → Acts now p (cond b s t)
acts_if now p true s t first other = first
acts_if now p false s t first other = other

acts_payload : (words : SignerWords) (now : ℕ) (from : NodeId) (p : Peer) (o : Option (ℕ × List ℕ)) → Acts now p (option_map_or (λ x. hears words now from x.0 x.1 p) o (idles p))
acts_payload words now from p None = acts_idly now p
acts_payload words now from p (Some x) = acts_hearing words now from x.0 x.1 p

acts_framed : (words : SignerWords) (now : ℕ) (from : NodeId) (bytes : List ℕ) (p : Peer) → Acts now p (framed words now from bytes p)
unfolding framed
acts_framed words now from bytes p = acts_if now p (is_gone p.membership) (idles p) _ (acts_idly now p) (acts_payload words now from p (payload_in bytes))

pub acts_peer : (words : SignerWords) (now : ℕ) (cause : Cause) (p : Peer) → Acts now p (peer_step words now cause p)
acts_peer words now (Framed from bytes) p = acts_framed words now from bytes p
acts_peer words now Clocked p = acts_clocked now p
acts_peer words now (Commanded command) p = acts_idly now p
