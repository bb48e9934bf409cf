-- What a peer sends it made, heard or keeps.
use Rattle.std.proofs.Common.{◌≡◌, ℕ, List, [], ◌∷◌, length, Bool, true, false, cond, Option, Some, None, refl}
use Rattle.std.specs.Prelude.{◌==◌}
use Rattle.std.specs.Option.{option_map_or}
use Rattle.std.specs.List.{AllByRecursion, list_any}
use Rattle.reload_ids.specs.declared.NodeId.{NodeId}
use Rattle.reload_ids.specs.declared.ResourceId.{ResourceId}
use Rattle.chord_tables.specs.Tables.{mirrors}
use Rattle.forwarding_header.specs.declared.header.Header.{Header}
use Rattle.forwarding_header.specs.declared.forwarding_option.TheConstants.{DESTINATION_CRITICAL}
use Rattle.message_bodies.specs.declared.body.Body.{Body}
use Rattle.message_bodies.specs.declared.body.Body.TheVariants as bodies
use Rattle.storage_model.specs.declared.answer.Answer.{Answer}
use Rattle.storage_model.specs.declared.answer.Answer.TheVariants.{Decided, Found, Joined}
use Rattle.node_messages.specs.declared.message.Message.{Message}
use Rattle.node_messages.specs.Signed.{SignerWords}
use Rattle.transaction_table.specs.Tables.{Txns, after_answer, due_spots}
use Rattle.node_model.specs.declared.course.AnswerCourse.{AnswerCourse}
use Rattle.node_model.specs.declared.course.AnswerCourse.TheVariants as answers
use Rattle.node_model.specs.declared.course.Course.{Course}
use Rattle.node_model.specs.declared.course.Course.TheVariants.{Dropped, Refused, Here, Owned, Forwarded}
use Rattle.node_model.specs.Nodes.{Step, Cause, Framed, Clocked, Commanded}
use Rattle.node_model.specs.Ends.{is_ended_by}
use Rattle.node_model.specs.Heard.{Envelope, payload_in, heard_in, is_answer, message_in}
use Rattle.node_model.specs.Ways.{has_flag, answer_course}
use Rattle.node_model.specs.Courses.{course}
use Rattle.node_model.specs.Askings.{is_decided, asked_in, origin_of}
use Rattle.node_model.specs.Replies.{body_of, responses, error_info, reply}
use Rattle.node_model.specs.Peers.{Peer, Reaction, nodes_of, effect_at, state_of, is_gone, sends, decides, handled, by_course, ends, by_answer_course, reaction, reaction_to, hears, idles, framed, clocked, peer_step}
use Rattle.overlay_laws.specs.Sources.{IsAnswerOf, IsHeardIn, Source, Origin}
use Rattle.overlay_laws.proofs.Sourcing.{GoesOn, goes_course, GoesBack, back_course, PostFrom, frames_from, ack_from, heads_kept, again_from, made_from, kept_before, kept_after, passed_from, back_from}

-- what is sent of what a peer makes of a message comes from somewhere
abbrev AreFrom : SignerWords → Peer → Cause → Reaction → Type 0
AreFrom words p cause r = AllByRecursion (PostFrom (Source words p.node.about p.node.config cause p.txns r.peer.txns IsAnswerOf)) r.posts

-- a decision's body is an answer
is_answer_of : (replicas : List NodeId) (answer : Answer) → IsAnswerOf (record { body = body_of replicas answer; extensions = [] })
is_answer_of replicas (Decided code counters) =
    elim (code == 0) as (λ b. IsAnswerOf (record { body = cond b (bodies.StoreAns (responses replicas counters)) (bodies.Error code (error_info code counters)); extensions = [] })) [
      | true ↦ tt
      | false ↦ tt
    ]
is_answer_of replicas (Found kinds) = tt
is_answer_of replicas Joined = tt

module _ (words : SignerWords) (p : Peer) (now : ℕ) (from : NodeId) (cause : Cause) where
  from_if : (b : Bool) (x y : Reaction) → AreFrom words p cause x → AreFrom words p cause y → AreFrom words p cause (cond b x y)
  from_if true x y one other = one
  from_if false x y one other = other

  from_reply : (after : Txns) (h : Header) (body : Body) → IsAnswerOf (record { body = body; extensions = [] }) → AllByRecursion (PostFrom (Source words p.node.about p.node.config cause p.txns after IsAnswerOf)) (reply words p.node.about from h body ∷ [])
  unfolding reply
  from_reply after h body it = (made_from words p.node.about p.node.config cause p.txns after IsAnswerOf _ _ it, tt)

  from_decides : (h : Header) (r : ResourceId) (m : Message) → AreFrom words p cause (decides words p now from h r m)
  unfolding decides
  from_decides h r m =
      let effect = effect_at p now r (origin_of m) h.id (asked_in words p.node.config r m) in
      from_reply p.txns h _ (is_answer_of (nodes_of (mirrors p.node.config.replicas p.tables)) effect.answer)

  from_handled : (o : Option ResourceId) (e : Envelope) → AreFrom words p cause (handled words p now from o e)
  unfolding handled
  from_handled None e =
      from_if (list_any (has_flag DESTINATION_CRITICAL) e.header.options) _ _ (from_reply p.txns e.header _ tt) (from_reply p.txns e.header _ tt)
  from_handled (Some r) e =
      from_if (list_any (has_flag DESTINATION_CRITICAL) e.header.options) _ _ (from_reply p.txns e.header _ tt)
      (from_if (is_decided e.code) _ _ (from_decides e.header r (message_in p.node.config words e)) (from_reply p.txns e.header _ tt))

  module _ (e : Envelope) (heard : IsHeardIn p.node.config cause from e) where
    from_course : (c : Course) → is_answer e ≡ false → GoesOn from e.header c → AreFrom words p cause (by_course words p now from e c)
    from_course Dropped request on = tt
    from_course (Refused why) request on = from_reply p.txns e.header _ tt
    from_course Here request on = from_handled None e
    from_course (Owned r) request on = from_handled (Some r) e
    from_course (Forwarded next h) request on = passed_from words p.node.about p.node.config cause p.txns p.txns IsAnswerOf from e next h heard request on

    from_ends : (id : ℕ) → AreFrom words p cause (ends p now from id)
    unfolding ends
    from_ends id =
        let after = after_answer now from.0 id p.txns in
        kept_after words p.node.about p.node.config cause p.txns after IsAnswerOf _ (heads_kept after from)

    from_answer : (c : AnswerCourse) → is_answer e ≡ true → GoesBack e.header c → AreFrom words p cause (by_answer_course words p now from e c)
    from_answer answers.Ignored answer back = tt
    from_answer (answers.Passed next h) answer back = back_from words p.node.about p.node.config cause p.txns p.txns IsAnswerOf from e next h heard answer back
    from_answer answers.Mine answer back =
        from_if (is_ended_by (message_in p.node.config words e) from e p.txns) _ _ (from_ends e.header.id) tt

    from_kind : (b : Bool) (x y : Reaction) → is_answer e ≡ b → (is_answer e ≡ true → AreFrom words p cause x) → (is_answer e ≡ false → AreFrom words p cause y) → AreFrom words p cause (cond b x y)
    from_kind true x y is one other = one is
    from_kind false x y is one other = other is

    from_reaction : (size : ℕ) → AreFrom words p cause (reaction words p now from size e)
    unfolding reaction
    from_reaction size =
        from_kind (is_answer e) _ _ refl
        (λ answer. from_answer (answer_course p.node.about.node.0 e.header) answer (back_course p.node.about.node.0 e.header))
        (λ request. from_course (course from p.tables (state_of p.membership) size e.header) request (goes_course from p.tables (state_of p.membership) size e.header))

  from_opened : (message : List ℕ) (o : Option Envelope) → ((e : Envelope) → o ≡ Some e → IsHeardIn p.node.config cause from e) → AreFrom words p cause (option_map_or (reaction words p now from (length message)) o (sends p []))
  from_opened message None heard = tt
  from_opened message (Some e) heard = from_reaction e (heard e refl) (length message)

  from_message : (message : List ℕ) → ((e : Envelope) → heard_in p.node.config message ≡ Some e → IsHeardIn p.node.config cause from e) → AreFrom words p cause (reaction_to words p now from message)
  unfolding reaction_to
  from_message message heard = from_opened message (heard_in p.node.config message) heard

-- each frame that a step of a peer sends comes from somewhere
abbrev AreSent : SignerWords → Peer → Cause → Step Peer → Type 0
AreSent words p cause s = AllByRecursion (Origin (Source words p.node.about p.node.config cause p.txns s.node.txns IsAnswerOf)) s.outputs.frames

sent_idly : (words : SignerWords) (p : Peer) (cause : Cause) → AreSent words p cause (idles p)
unfolding idles
sent_idly words p cause = tt

sent_hearing : (words : SignerWords) (now : ℕ) (from : NodeId) (bytes : List ℕ) (x : ℕ × List ℕ) (p : Peer) → payload_in bytes ≡ Some x → AreSent words p (Framed from bytes) (hears words now from x.0 x.1 p)
unfolding hears
sent_hearing words now from bytes x p at =
    let r = reaction_to words p now from x.1 in
    let P = Source words p.node.about p.node.config (Framed from bytes) p.txns r.peer.txns IsAnswerOf in (
      ack_from P from x.0 r.peer.node.links,
      frames_from P r.peer.node.links r.posts (from_message words p now from (Framed from bytes) x.1 (λ e is. (refl, x, at, is))),
    )

sent_payload : (words : SignerWords) (now : ℕ) (from : NodeId) (bytes : List ℕ) (p : Peer) (o : Option (ℕ × List ℕ)) → payload_in bytes ≡ o → AreSent words p (Framed from bytes) (option_map_or (λ x. hears words now from x.0 x.1 p) o (idles p))
sent_payload words now from bytes p None at = sent_idly words p (Framed from bytes)
sent_payload words now from bytes p (Some x) at = sent_hearing words now from bytes x p at

sent_framed : (words : SignerWords) (now : ℕ) (from : NodeId) (bytes : List ℕ) (p : Peer) → AreSent words p (Framed from bytes) (framed words now from bytes p)
unfolding framed
sent_framed words now from bytes p =
    elim (is_gone p.membership) as (λ b. AreSent words p (Framed from bytes) (cond b (idles p) (option_map_or (λ x. hears words now from x.0 x.1 p) (payload_in bytes) (idles p)))) [
      | true ↦ sent_idly words p (Framed from bytes)
      | false ↦ sent_payload words now from bytes p (payload_in bytes) refl
    ]

sent_clocked : (words : SignerWords) (now : ℕ) (p : Peer) → AreSent words p Clocked (clocked now p)
unfolding clocked
sent_clocked words now p =
    let after = (clocked now p).node.txns in
    let P = Source words p.node.about p.node.config Clocked p.txns after IsAnswerOf in
    frames_from P p.node.links _ (kept_before words p.node.about p.node.config Clocked p.txns after IsAnswerOf _ (again_from None p.txns (due_spots now p.txns)))

pub sent_by_peer : (words : SignerWords) (now : ℕ) (cause : Cause) (p : Peer) → AreSent words p cause (peer_step words now cause p)
sent_by_peer words now (Framed from bytes) p = sent_framed words now from bytes p
sent_by_peer words now Clocked p = sent_clocked words now p
sent_by_peer words now (Commanded command) p = sent_idly words p (Commanded command)
