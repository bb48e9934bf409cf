-- The headers with which messages go on fit.
use Rattle.std.proofs.Common.{◌≡◌, ℕ, ◌+◌, ◌-◌, ◌^◌, ◌<◌, ◌≤◌, Bool, true, false, not, ◌&&◌, ◌==◌, nat_lt, nat_le, List, [], ◌∷◌, ◌++◌, cond, length, IfOk, Result, Ok, Err, refl, sym, subst, arith}
use Rattle.std.specs.List.{list_any}
use Rattle.std.proofs.lemmas.Bool.{cond_both, false≢true}
use Rattle.std.proofs.lemmas.Bool.Decides.{nat_tests}
use Rattle.std.proofs.lemmas.List.Elements.{All-push}
use Rattle.reload_ids.specs.declared.NodeId.{NodeId}
use Rattle.chord_tables.specs.Tables.{Tables, owns}
use Rattle.peer_routing.specs.declared.Hop.{Hop}
use Rattle.peer_routing.specs.declared.Hop.TheVariants as hops
use Rattle.peer_routing.specs.Routes.{next_hop}
use Rattle.forwarding_header.specs.declared.header.Header.{Header}
use Rattle.forwarding_header.specs.declared.header.TheConstants.{MAX_HEADER_LIST}
use Rattle.forwarding_header.specs.declared.destination.Destination.{Destination}
use Rattle.forwarding_header.specs.declared.destination.Destination.TheVariants as to
use Rattle.forwarding_header.specs.declared.forwarding_option.TheConstants.{FORWARD_CRITICAL}
use Rattle.forwarding_header.specs.Destinations.{destinations, IsSpelledDestination, IsDestinationInRange}
use Rattle.forwarding_header.specs.Header.{IsSpelledHeader, IsHeaderInRange}
use Rattle.node_messages.proofs.Wholes.{length-whole}
use Rattle.storage_model.specs.declared.refusal.Refusal.TheVariants.{MessageTooLarge}
use Rattle.node_model.specs.declared.course.Course.TheVariants.{Refused}
use Rattle.node_model.specs.declared.peer_state.PeerState.{PeerState}
use Rattle.node_model.specs.declared.peer_state.PeerState.TheVariants as states
use Rattle.node_model.specs.declared.limits.TheConstants.{MAX_VIA, MAX_REQUEST}
use Rattle.node_model.specs.Heard.{ttl_of}
use Rattle.node_model.specs.Ways.{is_node, has_flag, passed, answer_by, answer_course}
use Rattle.node_model.specs.Courses.{is_alone, without_own, onward, sent_on, forwarded, course_to, course_in_ring, course}
use Rattle.message_courses.specs.Fits.{IsNextOf, IsPassedOn, IsOnward, IsForwardedOn}
use Rattle.message_courses.proofs.Sizes.{length-header, length-longer}
use Rattle.message_courses.proofs.Lists.{AreFit, IsPart, IsPart-tail, IsPart-without_own}

-- what a call answers has what its value has
pub along : {A E : Type 0} (P : A → Type 0) (r : Result A E) (v : A) → IfOk r (λ x. x ≡ v) → P v
    → IfOk r P
along P (Ok x) v e f = subst P (sym e) f
along P (Err bad) v e f = tt

-- a header whose TTL and lists take the place of others
next_fits : (more ttl : ℕ) (h : Header) (via dest : List Destination) → IsSpelledHeader h
    → IsHeaderInRange h → ttl < 256 → AreFit via → IsPart h.dest dest
    → length (destinations via) ≤ MAX_HEADER_LIST
    → length (destinations via) ≤ length (destinations h.via) + more
    → IsNextOf more h (record h { ttl = ttl; via = via; dest = dest })
next_fits more ttl h via dest s r lt f p le longer =
    let next : Header = record h { ttl = ttl; via = via; dest = dest } in
    record {
      is_spelled = record {
        each_via = f.spelled;
        each_dest = p.fit.spelled;
        each_option = s.each_option;
        via_length = le;
        dest_length = omega (arith, p.shorter, s.dest_length);
        options_length = s.options_length;
      };
      in_range = record {
        overlay = r.overlay;
        sequence = r.sequence;
        ttl = omega (arith, lt);
        id = r.id;
        max_response = r.max_response;
        via = f.in_range;
        dest = p.fit.in_range;
        options = r.options;
      };
      longer = omega (arith, length-header h, length-header next, p.shorter, longer);
    }

via_fits : (h : Header) → IsSpelledHeader h → IsHeaderInRange h → AreFit h.via
via_fits h s r = record { spelled = s.each_via; in_range = r.via }

dest_fits : (h : Header) → IsSpelledHeader h → IsHeaderInRange h → AreFit h.dest
dest_fits h s r = record { spelled = s.each_dest; in_range = r.dest }

-- ---- answers

passed_fits : (h : Header) (rest : List Destination) → IsSpelledHeader h → IsHeaderInRange h
    → IsPart h.dest rest → IsPassedOn h (passed h rest)
passed_fits h [] s r p = tt
passed_fits h (to.Node next ∷ rest) s r p =
    cond_both (nat_lt 1 (ttl_of h)) _ _ (IsPassedOn h)
    (λ live. next_fits 0 (ttl_of h - 1) h h.via (to.Node next ∷ rest) s r (omega arith)
    (via_fits h s r) p s.via_length (omega arith))
    (λ over. tt)
passed_fits h (to.Resource resource ∷ rest) s r p = tt
passed_fits h (to.Opaque bytes ∷ rest) s r p = tt
passed_fits h (to.Short n ∷ rest) s r p = tt

answer_fits_by : (me : ℕ) (h : Header) (dest : List Destination) → IsSpelledHeader h
    → IsHeaderInRange h → h.dest ≡ dest → IsPassedOn h (answer_by me h dest)
answer_fits_by me h [] s r e = tt
answer_fits_by me h (first ∷ rest) s r e =
    cond_both (is_node me first) _ _ (IsPassedOn h)
    (λ own. passed_fits h rest s r (subst (λ (ds : List Destination). IsPart ds rest) (sym e)
    (IsPart-tail first rest (subst AreFit e (dest_fits h s r)))))
    (λ other. tt)

-- the header with which an answer is passed on
pub answer_fits : (me : ℕ) (h : Header) → IsSpelledHeader h → IsHeaderInRange h
    → IsPassedOn h (answer_course me h)
unfolding answer_course
answer_fits me h s r = answer_fits_by me h h.dest s r refl

-- ---- requests

-- what is known of a request that may go on
record MayGoOn (from : NodeId) (size : ℕ) (h : Header) : Type 0 where
  spelled : IsSpelledHeader h
  in_range : IsHeaderInRange h
  is_id : from.0 < 2 ^ 128
  via : length (destinations h.via) ≤ MAX_VIA

onward_fits : (from : NodeId) (size : ℕ) (h : Header) (dest : List Destination)
    → MayGoOn from size h → size ≤ MAX_REQUEST → IsPart h.dest dest
    → IsOnward size h (onward from h dest)
unfolding onward
onward_fits from size h dest m le p =
    let via : List Destination = h.via ++ to.Node from ∷ [] in
    let grown : length (destinations via) ≡ length (destinations h.via) + 18 =
    length-longer h.via from in
    let fit : AreFit via = record {
      spelled = All-push IsSpelledDestination h.via (to.Node from) m.spelled.each_via tt;
      in_range = All-push IsDestinationInRange h.via (to.Node from) m.in_range.via m.is_id;
    } in
    let next : Header = record h { ttl = ttl_of h - 1; via = via; dest = dest } in
    let fits : IsNextOf 18 h next = next_fits 18 (ttl_of h - 1) h via dest m.spelled m.in_range
    (omega arith) fit p (omega (arith, grown, m.via)) (omega (arith, grown)) in
    record {
      fits = fits;
      within = λ behind is. omega (arith, length-whole next behind, fits.longer, le, is);
    }

sent_on_fits : (size : ℕ) (h next : Header) (hop : Hop) → IsOnward size h next
    → IsForwardedOn size h (sent_on hop next)
sent_on_fits size h next (hops.To to) f = f
sent_on_fits size h next hops.Here f = tt
sent_on_fits size h next hops.NoRoute f = tt

forwarded_fits : (from : NodeId) (t : Tables) (owning : Bool) (size : ℕ) (h : Header)
    (dest : List Destination) (id : ℕ) → MayGoOn from size h → size ≤ MAX_REQUEST
    → IsPart h.dest dest → IsForwardedOn size h (forwarded from t owning h dest id)
unfolding forwarded
forwarded_fits from t owning size h dest id m le p =
    cond_both (list_any (has_flag FORWARD_CRITICAL) h.options) _ _ (IsForwardedOn size h)
    (λ critical. tt) (λ known.
    cond_both (nat_le (ttl_of h) 1) _ _ (IsForwardedOn size h) (λ over. tt) (λ live.
    sent_on_fits size h (onward from h dest) (next_hop t owning id)
    (onward_fits from size h dest m le p)))

course_to_fits : (from : NodeId) (t : Tables) (owning : Bool) (size : ℕ) (h : Header)
    (dest : List Destination) → MayGoOn from size h → size ≤ MAX_REQUEST
    → IsPart h.dest dest → IsForwardedOn size h (course_to from t owning h dest)
course_to_fits from t owning size h [] m le p = tt
course_to_fits from t owning size h (to.Opaque bytes ∷ rest) m le p = tt
course_to_fits from t owning size h (to.Short n ∷ rest) m le p = tt
course_to_fits from t owning size h (to.Node node ∷ rest) m le p =
    cond_both (node.0 == t.me) _ _ (IsForwardedOn size h) (λ own. tt) (λ other.
    cond_both (owning && owns t node.0) _ _ (IsForwardedOn size h) (λ missing. tt) (λ far.
    forwarded_fits from t owning size h (to.Node node ∷ rest) node.0 m le p))
course_to_fits from t owning size h (to.Resource resource ∷ []) m le p =
    cond_both (owning && owns t resource.0) _ _ (IsForwardedOn size h) (λ own. tt) (λ far.
    forwarded_fits from t owning size h (to.Resource resource ∷ []) resource.0 m le p)
course_to_fits from t owning size h (to.Resource resource ∷ next ∷ rest) m le p =
    cond_both (owning && owns t resource.0) _ _ (IsForwardedOn size h) (λ own. tt) (λ far.
    forwarded_fits from t owning size h (to.Resource resource ∷ next ∷ rest) resource.0 m le p)

-- what is to the node itself alone doesn't go on
alone_stays : (from : NodeId) (t : Tables) (owning : Bool) (size : ℕ) (h : Header)
    (dest : List Destination) → is_alone t.me dest ≡ true
    → IsForwardedOn size h (course_to from t owning h (without_own t.me dest))
unfolding without_own
alone_stays from t owning size h [] e = absurd (false≢true e)
alone_stays from t owning size h (to.Node node ∷ []) e = rw e tt
alone_stays from t owning size h (to.Resource resource ∷ []) e = absurd (false≢true e)
alone_stays from t owning size h (to.Opaque bytes ∷ []) e = absurd (false≢true e)
alone_stays from t owning size h (to.Short n ∷ []) e = absurd (false≢true e)
alone_stays from t owning size h (first ∷ next ∷ rest) e = absurd (false≢true e)

-- a request that isn't too large, or is to the node itself alone
sized_fits : (from : NodeId) (t : Tables) (owning : Bool) (size : ℕ) (h : Header) (alone : Bool)
    → MayGoOn from size h → is_alone t.me h.dest ≡ alone
    → IsForwardedOn size h (cond (nat_lt MAX_REQUEST size && not alone) (Refused MessageTooLarge)
    (course_to from t owning h (without_own t.me h.dest)))
sized_fits from t owning size h true m e =
    cond_both (nat_lt MAX_REQUEST size && false) _ _ (IsForwardedOn size h) (λ never. tt)
    (λ _. alone_stays from t owning size h h.dest e)
sized_fits from t owning size h false m e =
    cond_both (nat_lt MAX_REQUEST size && true) _ _ (IsForwardedOn size h) (λ large. tt) (λ small.
    course_to_fits from t owning size h (without_own t.me h.dest) m (within size small)
    (IsPart-without_own t.me h.dest (dest_fits h m.spelled m.in_range)))
  where
    within : (size : ℕ) → nat_lt MAX_REQUEST size && true ≡ false → size ≤ MAX_REQUEST
    within size e = grind (arith, nat_tests, e)

ring_fits : (from : NodeId) (t : Tables) (owning : Bool) (size : ℕ) (h : Header)
    → MayGoOn from size h → IsForwardedOn size h (course_in_ring from t owning size h)
unfolding course_in_ring
ring_fits from t owning size h m =
    sized_fits from t owning size h (is_alone t.me h.dest) m refl

-- the header with which a request goes on
pub course_fits : (from : NodeId) (t : Tables) (state : PeerState) (size : ℕ) (h : Header)
    → IsSpelledHeader h → IsHeaderInRange h → from.0 < 2 ^ 128
    → length (destinations h.via) ≤ MAX_VIA → IsForwardedOn size h (course from t state size h)
course_fits from t states.Seeking size h s r is via =
    cond_both (is_alone t.me h.dest) _ _ (IsForwardedOn size h) (λ own. tt) (λ other. tt)
course_fits from t states.Gone size h s r is via = tt
course_fits from t states.Member size h s r is via =
    ring_fits from t true size h (record { spelled = s; in_range = r; is_id = is; via = via })
course_fits from t states.Admitting size h s r is via =
    ring_fits from t true size h (record { spelled = s; in_range = r; is_id = is; via = via })
course_fits from t states.Leaving size h s r is via =
    ring_fits from t false size h (record { spelled = s; in_range = r; is_id = is; via = via })
