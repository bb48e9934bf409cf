-- What a node sends it made, heard or keeps.
use Rattle.std.proofs.Common.{◌≡◌, ℕ, List, [], ◌∷◌, Bool, true, false, cond, Option, Some, None, refl, ap}
use Rattle.std.specs.Prelude.{◌&&◌, ◌==◌, not, nat_lt, nat_le, IfSome, option_to_list}
use Rattle.std.specs.Option.{option_map, option_and_then}
use Rattle.std.specs.List.{AllByRecursion, list_any, filter_map, cons_option}
use Rattle.std.specs.FinMap.{get}
use Rattle.reload_ids.specs.declared.NodeId.{NodeId}
use Rattle.security_block.specs.declared.about.About.{About}
use Rattle.data_models.specs.declared.config.Config.{Config}
use Rattle.chord_tables.specs.Tables.{Tables, owns}
use Rattle.peer_routing.specs.declared.Hop.{Hop}
use Rattle.peer_routing.specs.declared.Hop.TheVariants as hops
use Rattle.peer_routing.specs.Routes.{next_hop}
use Rattle.forwarding_header.specs.declared.header.Header.{Header}
use Rattle.forwarding_header.specs.declared.destination.Destination.{Destination}
use Rattle.forwarding_header.specs.declared.destination.Destination.TheVariants as to
use Rattle.forwarding_header.specs.declared.forwarding_option.TheConstants.{FORWARD_CRITICAL}
use Rattle.message_bodies.specs.declared.contents.Contents.{Contents}
use Rattle.node_messages.specs.Signed.{SignerWords}
use Rattle.node_messages.specs.Making.{made, whole}
use Rattle.storage_model.specs.declared.refusal.Refusal.TheVariants.{NotFound, UnsupportedForwardingOption, TtlExceeded, MessageTooLarge, InvalidMessage}
use Rattle.transaction_table.specs.declared.txn.Txn.{Txn}
use Rattle.transaction_table.specs.declared.txn.Outstanding.{Outstanding}
use Rattle.transaction_table.specs.declared.outbox.Outbox.{Outbox}
use Rattle.transaction_table.specs.declared.spot.Spot.{Spot}
use Rattle.transaction_table.specs.declared.spot.Spot.TheVariants.{Head}
use Rattle.transaction_table.specs.Sends.{is_over}
use Rattle.transaction_table.specs.Tables.{Txns, txn_at, head_txn}
use Rattle.node_model.specs.declared.course.AnswerCourse.{AnswerCourse}
use Rattle.node_model.specs.declared.course.AnswerCourse.TheVariants as answers
use Rattle.node_model.specs.declared.course.Course.{Course}
use Rattle.node_model.specs.declared.course.Course.TheVariants.{Dropped, Refused, Here, Owned, Forwarded}
use Rattle.node_model.specs.declared.limits.TheConstants.{MAX_REQUEST}
use Rattle.node_model.specs.declared.peer_state.PeerState.{PeerState}
use Rattle.node_model.specs.declared.peer_state.PeerState.TheVariants as states
use Rattle.node_model.specs.Links.{Links, ack_to, payload_to, next_sequence, heard_from, mask_of}
use Rattle.node_model.specs.Nodes.{Post, Cause, spelling_of, frames_of, links_after, frames_of_all}
use Rattle.node_model.specs.Clocks.{post_again, posts_again}
use Rattle.node_model.specs.Ends.{head_post}
use Rattle.node_model.specs.Heard.{Envelope, ttl_of, is_answer}
use Rattle.node_model.specs.Ways.{has_flag, is_node, passed, answer_by, answer_course}
use Rattle.node_model.specs.Courses.{is_alone, without_own, onward, sent_on, forwarded, course_to, course_in_ring, course}
use Rattle.overlay_laws.specs.Sources.{IsBack, IsHeardIn, AreKeptIn, Source, Made, PassedOn, PassedBack, KeptBefore, KeptAfter, Origin, Acks, Carries}
use Rattle.overlay_laws.proofs.Lists.{all_both}

-- ---- headers that go on

abbrev pub GoesOn : NodeId → Header → Course → Type 0
GoesOn from h (Forwarded next k) = k ≡ onward from h k.dest
GoesOn from h _ = Unit {0}

goes_if : (from : NodeId) (h : Header) (b : Bool) (c d : Course) → GoesOn from h c → GoesOn from h d → GoesOn from h (cond b c d)
goes_if from h true c d one other = one
goes_if from h false c d one other = other

goes_hop : (from : NodeId) (h : Header) (ds : List Destination) (hop : Hop) → GoesOn from h (sent_on hop (onward from h ds))
unfolding onward
goes_hop from h ds hops.Here = tt
goes_hop from h ds (hops.To next) = refl
goes_hop from h ds hops.NoRoute = tt

goes_forwarded : (from : NodeId) (t : Tables) (owning : Bool) (h : Header) (ds : List Destination) (id : ℕ) → GoesOn from h (forwarded from t owning h ds id)
unfolding forwarded
goes_forwarded from t owning h ds id =
    goes_if from h (list_any (has_flag FORWARD_CRITICAL) h.options) (Refused UnsupportedForwardingOption) _ tt
    (goes_if from h (nat_le (ttl_of h) 1) (Refused TtlExceeded) _ tt (goes_hop from h ds (next_hop t owning id)))

goes_to : (from : NodeId) (t : Tables) (owning : Bool) (h : Header) (ds : List Destination) → GoesOn from h (course_to from t owning h ds)
goes_to from t owning h [] = tt
goes_to from t owning h (to.Opaque bytes ∷ rest) = tt
goes_to from t owning h (to.Short n ∷ rest) = tt
goes_to from t owning h (to.Node node ∷ rest) =
    goes_if from h (node.0 == t.me) Here _ tt
    (goes_if from h (owning && owns t node.0) (Refused NotFound) _ tt (goes_forwarded from t owning h (to.Node node ∷ rest) node.0))
goes_to from t owning h (to.Resource r ∷ []) =
    goes_if from h (owning && owns t r.0) (Owned r) _ tt (goes_forwarded from t owning h (to.Resource r ∷ []) r.0)
goes_to from t owning h (to.Resource r ∷ next ∷ rest) =
    goes_if from h (owning && owns t r.0) (Refused InvalidMessage) _ tt (goes_forwarded from t owning h (to.Resource r ∷ next ∷ rest) r.0)

goes_in_ring : (from : NodeId) (t : Tables) (owning : Bool) (size : ℕ) (h : Header) → GoesOn from h (course_in_ring from t owning size h)
unfolding course_in_ring
goes_in_ring from t owning size h =
    goes_if from h (nat_lt MAX_REQUEST size && not (is_alone t.me h.dest)) (Refused MessageTooLarge) _ tt (goes_to from t owning h (without_own t.me h.dest))

pub goes_course : (from : NodeId) (t : Tables) (state : PeerState) (size : ℕ) (h : Header) → GoesOn from h (course from t state size h)
goes_course from t states.Seeking size h = goes_if from h (is_alone t.me h.dest) Here Dropped tt tt
goes_course from t states.Member size h = goes_in_ring from t true size h
goes_course from t states.Admitting size h = goes_in_ring from t true size h
goes_course from t states.Leaving size h = goes_in_ring from t false size h
goes_course from t states.Gone size h = tt

abbrev pub GoesBack : Header → AnswerCourse → Type 0
GoesBack h (answers.Passed next k) = IsBack h k
GoesBack h _ = Unit {0}

back_if : (h : Header) (b : Bool) (c d : AnswerCourse) → GoesBack h c → GoesBack h d → GoesBack h (cond b c d)
back_if h true c d one other = one
back_if h false c d one other = other

back_passed : (h : Header) (ds : List Destination) → GoesBack h (passed h ds)
back_passed h [] = tt
back_passed h (to.Node next ∷ rest) = back_if h (nat_lt 1 (ttl_of h)) _ answers.Ignored refl tt
back_passed h (to.Resource r ∷ rest) = tt
back_passed h (to.Opaque bytes ∷ rest) = tt
back_passed h (to.Short n ∷ rest) = tt

back_by : (me : ℕ) (h : Header) (ds : List Destination) → GoesBack h (answer_by me h ds)
back_by me h [] = tt
back_by me h (first ∷ rest) = back_if h (is_node me first) _ answers.Ignored (back_passed h rest) tt

pub back_course : (me : ℕ) (h : Header) → GoesBack h (answer_course me h)
unfolding answer_course
back_course me h = back_by me h h.dest

-- ---- frames of what is sent

abbrev pub PostFrom : (List ℕ → Type 0) → Post → Type 0
PostFrom P p = IfSome p.message P

module _ (P : List ℕ → Type 0) where
  pub frame_from : (links : Links) (to : NodeId) (o : Option (List ℕ)) → IfSome o P → AllByRecursion (Origin P) (frames_of links (Some (record { to = to; message = o })))
  unfolding frames_of payload_to
  frame_from links to None is = tt
  frame_from links to (Some message) is = (Carries to (next_sequence links to.0) message refl is, tt)

  pub frames_from : (links : Links) (ps : List Post) → AllByRecursion (PostFrom P) ps → AllByRecursion (Origin P) (frames_of_all links ps)
  unfolding frames_of_all
  frames_from links [] all = tt
  frames_from links (p ∷ ps) all =
      all_both (Origin P) (frames_of links (Some p)) (frames_of_all (links_after (Some p) links) ps) (frame_from links p.to p.message all.0) (frames_from (links_after (Some p) links) ps all.1)

  pub ack_from : (from : NodeId) (sequence : ℕ) (links : Links) → Origin P (ack_to from sequence links)
  unfolding ack_to
  ack_from from sequence links = Acks from sequence (mask_of (heard_from links from.0) sequence) refl

-- ---- messages that are kept

kept_spelling : (P : List ℕ → Type 0) (bytes : List ℕ) → P bytes → IfSome (spelling_of bytes) P
kept_spelling P [] is = tt
kept_spelling P (b ∷ bs) is = is

-- the head of an outbox
head_kept : (t : Txns) (from : NodeId) (o : Option Outbox) → get t.outboxes from.0 ≡ o → AllByRecursion (PostFrom (AreKeptIn t)) (option_to_list (option_map (λ (b : Outbox). record { to = from; message = spelling_of b.head.bytes }) o))
head_kept t from None at = tt
head_kept t from (Some b) at = (kept_spelling (AreKeptIn t) b.head.bytes (Head from.0, head_txn from.0 b, ap (option_map (head_txn from.0)) at, refl), tt)

pub heads_kept : (t : Txns) (from : NodeId) → AllByRecursion (PostFrom (AreKeptIn t)) (option_to_list (head_post from t))
unfolding head_post
heads_kept t from = head_kept t from (get t.outboxes from.0) refl

-- what is sent again
again_kept : (limit : Option ℕ) (t : Txns) (s : Spot) (o : Option (Txn Outstanding)) → txn_at s t ≡ o → IfSome (option_and_then (post_again limit) o) (PostFrom (AreKeptIn t))
again_kept limit t s None at = tt
again_kept limit t s (Some x) at =
    elim (is_over limit x.sends) as (λ b. IfSome (cond b None (Some (record { to = x.peer; message = spelling_of x.message }))) (PostFrom (AreKeptIn t))) [
      | true ↦ tt
      | false ↦ kept_spelling (AreKeptIn t) x.message (s, x, at, refl)
    ]

cons_kept : (P : Post → Type 0) (o : Option Post) (ps : List Post) → IfSome o P → AllByRecursion P ps → AllByRecursion P (cons_option o ps)
cons_kept P None ps is all = all
cons_kept P (Some p) ps is all = (is, all)

all_again : (limit : Option ℕ) (t : Txns) (ss : List Spot) → AllByRecursion (PostFrom (AreKeptIn t)) (filter_map (λ s. option_and_then (post_again limit) (txn_at s t)) ss)
all_again limit t [] = tt
all_again limit t (s ∷ ss) = cons_kept (PostFrom (AreKeptIn t)) _ _ (again_kept limit t s (txn_at s t) refl) (all_again limit t ss)

pub again_from : (limit : Option ℕ) (t : Txns) (ss : List Spot) → AllByRecursion (PostFrom (AreKeptIn t)) (posts_again limit t ss)
unfolding posts_again
again_from limit t ss = all_again limit t ss

weaker : {X : Type 0} (P Q : X → Type 0) → ((x : X) → P x → Q x) → (xs : List X) → AllByRecursion P xs → AllByRecursion Q xs
weaker P Q f [] all = tt
weaker P Q f (x ∷ xs) all = (f x all.0, weaker P Q f xs all.1)

if_weaker : (P Q : List ℕ → Type 0) → ((m : List ℕ) → P m → Q m) → (p : Post) → PostFrom P p → PostFrom Q p
if_weaker P Q f p is = by p.message is
  where
    by : (o : Option (List ℕ)) → IfSome o P → IfSome o Q
    by None h = tt
    by (Some m) h = f m h

-- ---- a node

module _ (words : SignerWords) (who : About) (config : Config) (cause : Cause) (before after : Txns) (makes : Contents → Type 0) where
  abbrev From : List ℕ → Type 0
  From = Source words who config cause before after makes

  made_by : (h : Header) (c : Contents) → makes c → (o : Option (List ℕ)) → made words who h c ≡ o → IfSome o From
  made_by h c it None is = tt
  made_by h c it (Some m) is = Made h c it is

  pub made_from : (h : Header) (c : Contents) → makes c → IfSome (made words who h c) From
  made_from h c it = made_by h c it (made words who h c) refl

  pub kept_before : (ps : List Post) → AllByRecursion (PostFrom (AreKeptIn before)) ps → AllByRecursion (PostFrom From) ps
  kept_before ps all = weaker (PostFrom (AreKeptIn before)) (PostFrom From) (λ p is. if_weaker (AreKeptIn before) From (λ m k. KeptBefore k) p is) ps all

  pub kept_after : (ps : List Post) → AllByRecursion (PostFrom (AreKeptIn after)) ps → AllByRecursion (PostFrom From) ps
  kept_after ps all = weaker (PostFrom (AreKeptIn after)) (PostFrom From) (λ p is. if_weaker (AreKeptIn after) From (λ m k. KeptAfter k) p is) ps all

  -- a request goes on
  pub passed_from : (from : NodeId) (e : Envelope) (next : NodeId) (h : Header) → IsHeardIn config cause from e → is_answer e ≡ false → h ≡ onward from e.header h.dest
      → AllByRecursion (PostFrom From) (record { to = next; message = Some (whole h e.behind) } ∷ [])
  passed_from from e next h heard request on = (PassedOn from e h heard request on refl, tt)

  -- an answer goes back
  pub back_from : (from : NodeId) (e : Envelope) (next : NodeId) (h : Header) → IsHeardIn config cause from e → is_answer e ≡ true → IsBack e.header h
      → AllByRecursion (PostFrom From) (record { to = next; message = Some (whole h e.behind) } ∷ [])
  back_from from e next h heard answer back = (PassedBack from e h heard answer back refl, tt)
