-- What the end of a head leaves.
use Rattle.std.proofs.Common.{◌≡◌, ℕ, [], Bool, true, false, cond, Option, Some, None, refl, sym, ap, ◌∙◌, arith}
use Rattle.std.specs.Prelude.{◌==◌, ◌&&◌, option_to_list}
use Rattle.std.specs.Option.{option_map, option_map_or}
use Rattle.std.specs.Ordering.{nat_cmp}
use Rattle.std.specs.Cmp.{nat_cmp_total}
use Rattle.std.specs.FinMap.{FinMap, get, remove, get-remove}
use Rattle.ordered_tables.proofs.Finite.{get-insert_there}
use Rattle.std.proofs.lemmas.Bool.{eqb-true}
use Rattle.std.proofs.lemmas.Bool.Decides.{nat_tests}
use Rattle.storage_model.proofs.Truths.{key_same}
use Rattle.reload_ids.specs.declared.NodeId.{NodeId}
use Rattle.node_messages.specs.Signed.{SignerWords}
use Rattle.transaction_table.specs.declared.outbox.Outbox.{Outbox}
use Rattle.transaction_table.specs.declared.spot.Spot.{Spot}
use Rattle.transaction_table.specs.declared.spot.Spot.TheVariants.{Head}
use Rattle.node_model.specs.declared.limits.TheConstants.{MAX_TTL}
use Rattle.transaction_table.specs.Outboxes.{next_in, replaced}
use Rattle.transaction_table.specs.Tables.{Txns, spot_of, either_spot, head_spot, request_spot, after_answer, ended}
use Rattle.node_links.specs.Sendings.{posted}
use Rattle.node_model.specs.declared.course.AnswerCourse.TheVariants.{Mine}
use Rattle.node_model.specs.Heard.{Envelope, message_in, ttl_of}
use Rattle.node_model.specs.Nodes.{Post, spelling_of}
use Rattle.node_model.specs.Ends.{is_answered_by, is_end_of, is_ended_by, is_of_peer, head_post}
use Rattle.node_model.specs.Peers.{Peer, Reaction, sends, ends, by_answer_course}
use Rattle.overlay_peer.specs.Plans.{IsHead}

-- what a peer does with an answer to itself, by whether it may end a head and by who signed it
own_by : (words : SignerWords) (p : Peer) (now : ℕ) (from : NodeId) (e : Envelope) (ended signed : Bool) → ended ≡ option_map_or (is_end_of e) (get p.txns.outboxes from.0) false → signed ≡ is_of_peer (message_in p.node.config words e)
    → cond (ended && signed) (ends p now from e.header.id) (sends p []) ≡ by_answer_course words p now from e Mine
unfolding is_ended_by
own_by words p now from e ended signed may by =
    ap (λ b. cond (b && signed) (ends p now from e.header.id) (sends p [])) may
    ∙ ap (λ b. cond (option_map_or (is_end_of e) (get p.txns.outboxes from.0) false && b) (ends p now from e.header.id) (sends p [])) by

pub own_unended : (words : SignerWords) (p : Peer) (now : ℕ) (from : NodeId) (e : Envelope) → false ≡ option_map_or (is_end_of e) (get p.txns.outboxes from.0) false → sends p [] ≡ by_answer_course words p now from e Mine
own_unended words p now from e may = own_by words p now from e false _ may refl

pub own_signed : (words : SignerWords) (p : Peer) (now : ℕ) (from : NodeId) (e : Envelope) → true ≡ option_map_or (is_end_of e) (get p.txns.outboxes from.0) false → true ≡ is_of_peer (message_in p.node.config words e)
    → ends p now from e.header.id ≡ by_answer_course words p now from e Mine
own_signed words p now from e may by = own_by words p now from e true true may by

pub own_unsigned : (words : SignerWords) (p : Peer) (now : ℕ) (from : NodeId) (e : Envelope) → true ≡ option_map_or (is_end_of e) (get p.txns.outboxes from.0) false → false ≡ is_of_peer (message_in p.node.config words e)
    → sends p [] ≡ by_answer_course words p now from e Mine
own_unsigned words p now from e may by = own_by words p now from e true false may by

first_of : (a b c : Bool) → (a && b && c) ≡ true → a ≡ true
first_of true b c e = refl
first_of false b c e = absurd cc

-- it is the head that may end
head_at : (e : Envelope) (o : Option Outbox) → true ≡ option_map_or (is_end_of e) o false → (x : Outbox) × (o ≡ Some x) × (x.head.id ≡ e.header.id)
unfolding is_end_of
head_at e None is = absurd cc
head_at e (Some x) is = (x, refl, eqb-true x.head.id e.header.id (first_of (x.head.id == e.header.id) (ttl_of e.header == MAX_TTL) (is_answered_by e.code x.head.bytes) (sym is)))

pub own_head : (t : Txns) (from : NodeId) (e : Envelope) → true ≡ option_map_or (is_end_of e) (get t.outboxes from.0) false → IsHead t from e.header.id
own_head t from e is = head_at e (get t.outboxes from.0) is

-- ---- the next message is the head

taken_there : (m : FinMap nat_cmp Outbox) (peer : ℕ) → get (remove m peer) peer ≡ None
taken_there m peer = get-remove nat_cmp_total m peer peer ∙ ap (λ b. cond b None (get m peer)) (key_same peer)

replaced_head : (peer : ℕ) (m : FinMap nat_cmp Outbox) (o : Option Outbox) → get (replaced peer m o) peer ≡ o
replaced_head peer m None = taken_there m peer
replaced_head peer m (Some o) = get-insert_there nat_cmp_total m peer o

same_id : (n id : ℕ) → n ≡ id → (n == id) ≡ true
same_id n id e = grind (arith, nat_tests, e)

spot_there : (t : Txns) (from : NodeId) (id : ℕ) → IsHead t from id → spot_of from.0 id t ≡ Some (Head from.0)
spot_there t from id h =
    ap (λ o. either_spot (head_spot from.0 id o) (request_spot from.0 id (get t.issued id))) h.1
    ∙ ap (λ b. either_spot (cond b (Some (Head from.0)) None) (request_spot from.0 id (get t.issued id))) (same_id h.0.head.id id h.2)

next_head : (now : ℕ) (t : Txns) (from : NodeId) (id : ℕ) → IsHead t from id → get (after_answer now from.0 id t).outboxes from.0 ≡ next_in now (get t.outboxes from.0)
next_head now t from id h =
    let after : Option Spot → Txns = λ o. elim o [ None ↦ t | Some s ↦ ended now s t ] in
    ap (λ (o : Option Spot). get (after o).outboxes from.0) (spot_there t from id h)
    ∙ replaced_head from.0 t.outboxes (next_in now (get t.outboxes from.0))

next_post : (now : ℕ) (t : Txns) (from : NodeId) (id : ℕ) (o : Option Post) → IsHead t from id → o ≡ option_map (λ b. posted from (spelling_of b.head.bytes)) (next_in now (get t.outboxes from.0)) → o ≡ head_post from (after_answer now from.0 id t)
unfolding head_post
next_post now t from id o h is =
    is ∙ ap (option_map (λ b. posted from (spelling_of b.head.bytes))) (sym (next_head now t from id h))

-- a peer whose head ended, and what it sends
abbrev pub ended_with : Peer → ℕ → NodeId → ℕ → Option Post → Reaction
ended_with p now from id o = record { peer = record p { txns = after_answer now from.0 id p.txns }; posts = option_to_list o; notices = [] }

pub end_is : (p : Peer) (now : ℕ) (from : NodeId) (id : ℕ) (o : Option Post) → IsHead p.txns from id → o ≡ option_map (λ b. posted from (spelling_of b.head.bytes)) (next_in now (get p.txns.outboxes from.0))
    → ended_with p now from id o ≡ ends p now from id
unfolding ends
end_is p now from id o h is = ap (ended_with p now from id) (next_post now p.txns from id o h is)
