-- What a client sends it made, heard or keeps.
use Rattle.std.proofs.Common.{◌≡◌, ℕ, List, [], Bool, true, false, cond, Option, Some, None, refl}
use Rattle.std.specs.Option.{option_map_or}
use Rattle.std.specs.List.{AllByRecursion}
use Rattle.reload_ids.specs.declared.NodeId.{NodeId}
use Rattle.node_messages.specs.Signed.{SignerWords}
use Rattle.transaction_table.specs.Tables.{due_spots}
use Rattle.node_model.specs.declared.command.Command.{Command}
use Rattle.node_model.specs.declared.command.Command.TheVariants as commands
use Rattle.node_model.specs.declared.course.AnswerCourse.{AnswerCourse}
use Rattle.node_model.specs.declared.course.AnswerCourse.TheVariants as answers
use Rattle.node_model.specs.declared.limits.TheConstants.{MAX_SENDS}
use Rattle.node_model.specs.declared.notice.Told.{Told}
use Rattle.node_model.specs.Nodes.{Node, Step, Cause, Framed, Clocked, Commanded}
use Rattle.node_model.specs.Heard.{Envelope, payload_in, heard_in, is_answer}
use Rattle.node_model.specs.Ways.{answer_course}
use Rattle.node_model.specs.Requests.{Request, store_request, fetch_request}
use Rattle.node_model.specs.Clients.{Client, Reaction, is_busy, request_of, asks, idles, commanded, taken_from, sends, takes, by_course, reaction, reaction_to, hears, framed, clocked, client_step}
use Rattle.overlay_laws.specs.Sources.{IsRequestOf, IsHeardIn, Source, Origin}
use Rattle.overlay_laws.proofs.Sourcing.{GoesBack, back_course, PostFrom, frames_from, frame_from, ack_from, again_from, made_from, kept_before, back_from}

-- what is sent of what a client makes of a message comes from somewhere
abbrev AreFrom : SignerWords → Client → Cause → Reaction → Type 0
AreFrom words c cause r = AllByRecursion (PostFrom (Source words c.node.about c.node.config cause c.txns r.txns IsRequestOf)) r.posts

module _ (words : SignerWords) (c : Client) (now : ℕ) (from : NodeId) (cause : Cause) where
  from_taken : (id : ℕ) (o : Option Told) → AreFrom words c cause (option_map_or (takes c now from id) o (sends c []))
  unfolding takes
  from_taken id None = tt
  from_taken id (Some told) = tt

  from_course : (e : Envelope) (k : AnswerCourse) → IsHeardIn c.node.config cause from e → is_answer e ≡ true → GoesBack e.header k → AreFrom words c cause (by_course words c now from e k)
  from_course e answers.Ignored heard answer back = tt
  from_course e (answers.Passed next h) heard answer back = back_from words c.node.about c.node.config cause c.txns c.txns IsRequestOf from e next h heard answer back
  from_course e answers.Mine heard answer back = from_taken e.header.id (taken_from words from e c)

  from_kind : (e : Envelope) (b : Bool) (x y : Reaction) → is_answer e ≡ b → (is_answer e ≡ true → AreFrom words c cause x) → AreFrom words c cause y → AreFrom words c cause (cond b x y)
  from_kind e true x y is one other = one is
  from_kind e false x y is one other = other

  from_reaction : (e : Envelope) → IsHeardIn c.node.config cause from e → AreFrom words c cause (reaction words c now from e)
  unfolding reaction
  from_reaction e heard =
      from_kind e (is_answer e) _ _ refl
      (λ answer. from_course e (answer_course c.node.about.node.0 e.header) heard answer (back_course c.node.about.node.0 e.header)) tt

  from_opened : (o : Option Envelope) → ((e : Envelope) → o ≡ Some e → IsHeardIn c.node.config cause from e) → AreFrom words c cause (option_map_or (reaction words c now from) o (sends c []))
  from_opened None heard = tt
  from_opened (Some e) heard = from_reaction e (heard e refl)

  from_message : (message : List ℕ) → ((e : Envelope) → heard_in c.node.config message ≡ Some e → IsHeardIn c.node.config cause from e) → AreFrom words c cause (reaction_to words c now from message)
  unfolding reaction_to
  from_message message heard = from_opened (heard_in c.node.config message) heard

-- each frame that a step of a client sends comes from somewhere
abbrev AreSent : SignerWords → Client → Cause → Step Client → Type 0
AreSent words c cause s = AllByRecursion (Origin (Source words c.node.about c.node.config cause c.txns s.node.txns IsRequestOf)) s.outputs.frames

sent_idly : (words : SignerWords) (c : Client) (cause : Cause) → AreSent words c cause (idles c)
unfolding idles
sent_idly words c cause = tt

sent_hearing : (words : SignerWords) (now : ℕ) (from : NodeId) (bytes : List ℕ) (x : ℕ × List ℕ) (c : Client) → payload_in bytes ≡ Some x → AreSent words c (Framed from bytes) (hears words now from x.0 x.1 c)
unfolding hears
sent_hearing words now from bytes x c at =
    let r = reaction_to words c now from x.1 in
    let P = Source words c.node.about c.node.config (Framed from bytes) c.txns r.txns IsRequestOf in (
      ack_from P from x.0 c.node.links,
      frames_from P c.node.links r.posts (from_message words c now from (Framed from bytes) x.1 (λ e is. (refl, x, at, is))),
    )

sent_payload : (words : SignerWords) (now : ℕ) (from : NodeId) (bytes : List ℕ) (c : Client) (o : Option (ℕ × List ℕ)) → payload_in bytes ≡ o → AreSent words c (Framed from bytes) (option_map_or (λ x. hears words now from x.0 x.1 c) o (idles c))
sent_payload words now from bytes c None at = sent_idly words c (Framed from bytes)
sent_payload words now from bytes c (Some x) at = sent_hearing words now from bytes x c at

sent_framed : (words : SignerWords) (now : ℕ) (from : NodeId) (bytes : List ℕ) (c : Client) → AreSent words c (Framed from bytes) (framed words now from bytes c)
unfolding framed
sent_framed words now from bytes c = sent_payload words now from bytes c (payload_in bytes) refl

sent_asking : (words : SignerWords) (now : ℕ) (command : Command) (r : Request) (c : Client) → IsRequestOf (record { body = r.body; extensions = [] }) → AreSent words c (Commanded command) (asks words now r c)
unfolding asks
sent_asking words now command r c it =
    let after = (asks words now r c).node.txns in
    let P = Source words c.node.about c.node.config (Commanded command) c.txns after IsRequestOf in
    frame_from P c.node.links r.peer _ (made_from words c.node.about c.node.config (Commanded command) c.txns after IsRequestOf r.header (record { body = r.body; extensions = [] }) it)

is_request_of : (words : SignerWords) (n : Node) (command : Command) → IsRequestOf (record { body = (request_of words n command).body; extensions = [] })
unfolding store_request fetch_request
is_request_of words n (commands.Store c) = refl
is_request_of words n (commands.Fetch c) = tt

sent_commanded : (words : SignerWords) (now : ℕ) (command : Command) (c : Client) → AreSent words c (Commanded command) (commanded words now command c)
unfolding commanded
sent_commanded words now command c =
    elim (is_busy c) as (λ b. AreSent words c (Commanded command) (cond b (idles c) (asks words now (request_of words c.node command) c))) [
      | true ↦ sent_idly words c (Commanded command)
      | false ↦ sent_asking words now command (request_of words c.node command) c (is_request_of words c.node command)
    ]

sent_clocked : (words : SignerWords) (now : ℕ) (c : Client) → AreSent words c Clocked (clocked now c)
unfolding clocked
sent_clocked words now c =
    let after = (clocked now c).node.txns in
    let P = Source words c.node.about c.node.config Clocked c.txns after IsRequestOf in
    frames_from P c.node.links _ (kept_before words c.node.about c.node.config Clocked c.txns after IsRequestOf _ (again_from (Some MAX_SENDS) c.txns (due_spots now c.txns)))

pub sent_by_client : (words : SignerWords) (now : ℕ) (cause : Cause) (c : Client) → AreSent words c cause (client_step words now cause c)
sent_by_client words now (Framed from bytes) c = sent_framed words now from bytes c
sent_by_client words now Clocked c = sent_clocked words now c
sent_by_client words now (Commanded command) c = sent_commanded words now command c
