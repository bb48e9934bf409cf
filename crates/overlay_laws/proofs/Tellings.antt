-- A client tells of answers and of requests that timed out, and of nothing else.
use Rattle.std.proofs.Common.{◌≡◌, ℕ, List, [], ◌∷◌, map, Bool, true, false, cond, Option, Some, None, refl}
use Rattle.std.specs.Option.{option_map_or}
use Rattle.reload_ids.specs.declared.NodeId.{NodeId}
use Rattle.node_messages.specs.Signed.{SignerWords}
use Rattle.node_model.specs.declared.command.Command.{Command}
use Rattle.node_model.specs.declared.course.AnswerCourse.{AnswerCourse}
use Rattle.node_model.specs.declared.course.AnswerCourse.TheVariants.{Ignored, Passed, Mine}
use Rattle.node_model.specs.declared.notice.Notice.{Notice}
use Rattle.node_model.specs.declared.notice.Notice.TheVariants as notices
use Rattle.node_model.specs.declared.notice.Told.{Told}
use Rattle.node_model.specs.Nodes.{Cause, Framed, Clocked, Commanded}
use Rattle.node_model.specs.Heard.{Envelope, payload_in, heard_in, is_answer}
use Rattle.node_model.specs.Ways.{answer_course}
use Rattle.node_model.specs.Clients.{Client, Reaction, is_busy, request_of, asks, idles, commanded, taken_from, sends, takes, by_course, reaction, reaction_to, hears, framed, clocked, client_step}

-- nothing is told, or one answer, or that requests timed out
pub data TellsAnswers (told : List Notice) : Type 0 where
  Nothing : told ≡ [] → TellsAnswers told
  Answer : (id : ℕ) (what : Told) → told ≡ notices.Answered id what ∷ [] → TellsAnswers told
  Ends : (ids : List ℕ) → told ≡ map notices.TimedOut ids → TellsAnswers told

tells_taken : (c : Client) (now : ℕ) (from : NodeId) (id : ℕ) (o : Option Told) → TellsAnswers (option_map_or (takes c now from id) o (sends c [])).notices
unfolding takes
tells_taken c now from id None = Nothing refl
tells_taken c now from id (Some told) = Answer id told refl

tells_course : (words : SignerWords) (c : Client) (now : ℕ) (from : NodeId) (e : Envelope) (course : AnswerCourse) → TellsAnswers (by_course words c now from e course).notices
tells_course words c now from e Ignored = Nothing refl
tells_course words c now from e (Passed next h) = Nothing refl
tells_course words c now from e Mine = tells_taken c now from e.header.id (taken_from words from e c)

tells_if : (b : Bool) (x y : Reaction) → TellsAnswers x.notices → TellsAnswers y.notices → TellsAnswers (cond b x y).notices
tells_if true x y first other = first
tells_if false x y first other = other

tells_reaction : (words : SignerWords) (c : Client) (now : ℕ) (from : NodeId) (e : Envelope) → TellsAnswers (reaction words c now from e).notices
unfolding reaction
tells_reaction words c now from e =
    tells_if (is_answer e) _ _ (tells_course words c now from e (answer_course c.node.about.node.0 e.header)) (Nothing refl)

tells_opened : (words : SignerWords) (c : Client) (now : ℕ) (from : NodeId) (o : Option Envelope) → TellsAnswers (option_map_or (reaction words c now from) o (sends c [])).notices
tells_opened words c now from None = Nothing refl
tells_opened words c now from (Some e) = tells_reaction words c now from e

tells_hearing : (words : SignerWords) (now : ℕ) (from : NodeId) (sequence : ℕ) (message : List ℕ) (c : Client) → TellsAnswers (hears words now from sequence message c).outputs.notices
unfolding hears reaction_to
tells_hearing words now from sequence message c = tells_opened words c now from (heard_in c.node.config message)

tells_payload : (words : SignerWords) (now : ℕ) (from : NodeId) (c : Client) (o : Option (ℕ × List ℕ)) → TellsAnswers (option_map_or (λ x. hears words now from x.0 x.1 c) o (idles c)).outputs.notices
unfolding idles
tells_payload words now from c None = Nothing refl
tells_payload words now from c (Some x) = tells_hearing words now from x.0 x.1 c

tells_command : (words : SignerWords) (now : ℕ) (command : Command) (c : Client) → TellsAnswers (commanded words now command c).outputs.notices
unfolding commanded asks idles
tells_command words now command c =
    elim (is_busy c) as (λ b. TellsAnswers (cond b (idles c) (asks words now (request_of words c.node command) c)).outputs.notices) [
      | true ↦ Nothing refl
      | false ↦ Nothing refl
    ]

pub tells_client : (words : SignerWords) (now : ℕ) (cause : Cause) (c : Client) → TellsAnswers (client_step words now cause c).outputs.notices
unfolding framed idles clocked
tells_client words now (Framed from bytes) c = tells_payload words now from c (payload_in bytes)
tells_client words now Clocked c = Ends _ refl
tells_client words now (Commanded command) c = tells_command words now command c
