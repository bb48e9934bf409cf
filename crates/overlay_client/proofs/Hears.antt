-- What a client makes of what it hears.
use Rattle.std.proofs.Common.{◌≡◌, ℕ, ◌≤◌, Bool, true, false, cond, List, [], length, Option, Some, None, is_some, Result, Ok, Err, IfOk, refl, sym, ap, subst, ◌∙◌, arith}
use Rattle.std.specs.Prelude.{OnOk}
use Rattle.std.specs.Option.{option_and_then}
use Rattle.std.specs.FinMap.{get}
use Rattle.wire_core.specs.declared.limits.TheConstants.{MAX_MESSAGE}
use Rattle.reload_ids.specs.declared.NodeId.{NodeId}
use Rattle.forwarding_header.specs.declared.header.Header.{Header}
use Rattle.forwarding_header.specs.Header.{IsSpelledHeader}
use Rattle.transaction_table.specs.Tables.{outstanding}
use Rattle.node_messages.specs.Signed.{SignerWords}
use Rattle.node_messages.specs.Making.{whole}
use Rattle.node_messages.specs.Reading.{read_coded}
use Rattle.node_messages.proofs.Wholes.{length-whole}
use Rattle.node_model.specs.declared.course.AnswerCourse.{AnswerCourse}
use Rattle.node_model.specs.declared.input.Outputs.{Outputs}
use Rattle.node_model.specs.declared.question.Question.{Question}
use Rattle.node_model.specs.declared.notice.Told.{Told}
use Rattle.node_model.specs.Heard.{Envelope, is_answer, message_in}
use Rattle.node_model.specs.Nodes.{me}
use Rattle.node_model.specs.Ways.{answer_course}
use Rattle.node_model.specs.Clients.{Client, Reaction, hears, reaction, reaction_to, by_course, sends, taken_from, told_in}
use Rattle.message_courses.specs.Fits.{IsNextOf}
use Rattle.node_messages.specs.declared.message.Message.{Message}
use Rattle.overlay_client.specs.Reactions.{IsWhole, heard}

-- what is done of a reaction is done of the message
pub heard_ok : {E : Type 0} (r : Result Outputs E) (new : Client) (words : SignerWords)
    (now : ℕ) (from : NodeId) (sequence : ℕ) (message : List ℕ) (c : Client) (x : Reaction)
    → x ≡ reaction_to words c now from message
    → OnOk r (new ≡ (heard from sequence x c).node)
    → OnOk r (new ≡ (hears words now from sequence message c).node)
unfolding heard hears
heard_ok r new words now from sequence message c x e done =
    subst (λ (y : Reaction). OnOk r (new ≡ (heard from sequence y c).node)) e done

pub heard_out : {E : Type 0} (r : Result Outputs E) (words : SignerWords) (now : ℕ)
    (from : NodeId) (sequence : ℕ) (message : List ℕ) (c : Client) (x : Reaction)
    → x ≡ reaction_to words c now from message
    → IfOk r (λ o. o ≡ (heard from sequence x c).outputs)
    → IfOk r (λ o. o ≡ (hears words now from sequence message c).outputs)
unfolding heard hears
heard_out r words now from sequence message c x e done =
    subst (λ (y : Reaction). IfOk r (λ o. o ≡ (heard from sequence y c).outputs)) e done

-- it drops a request
pub request_is : (words : SignerWords) (c : Client) (now : ℕ) (from : NodeId) (e : Envelope)
    → is_answer e ≡ false → sends c [] ≡ reaction words c now from e
unfolding reaction
request_is words c now from e f =
    sym (ap (λ (b : Bool). cond b
    (by_course words c now from e (answer_course (me c.node) e.header)) (sends c [])) f)

-- and looks at the course of an answer
pub answer_is : (words : SignerWords) (c : Client) (now : ℕ) (from : NodeId) (e : Envelope)
    (k : AnswerCourse) → is_answer e ≡ true → k ≡ answer_course (me c.node) e.header
    → by_course words c now from e k ≡ reaction words c now from e
unfolding reaction
answer_is words c now from e k f g =
    ap (λ (l : AnswerCourse). by_course words c now from e l) g
    ∙ sym (ap (λ (b : Bool). cond b
    (by_course words c now from e (answer_course (me c.node) e.header)) (sends c [])) f)

-- what is passed on can be sent
pub passed_sending : (e : Envelope) (next : Header) → IsWhole e → IsNextOf 0 e.header next
    → IsSpelledHeader next × (length (whole next e.behind) ≤ MAX_MESSAGE)
passed_sending e next w n =
    (n.is_spelled, omega (arith, length-whole next e.behind, n.longer, w.within))

taken_if : {A : Type 0} (b : Bool) (x : Option A) (y : A) → Some y ≡ cond b x None → b ≡ true
taken_if true x y e = refl
taken_if false x y e = absurd cc

-- what is taken answers a request that is outstanding
pub taken_there : (words : SignerWords) (from : NodeId) (e : Envelope) (c : Client)
    (told : Told) → Some told ≡ taken_from words from e c
    → is_some (outstanding from.0 e.header.id c.txns) ≡ true
unfolding taken_from
taken_there words from e c told is =
    taken_if (is_some (outstanding from.0 e.header.id c.txns)) _ told is

-- what a message tells is what is taken from it
pub taken_is : (words : SignerWords) (from : NodeId) (e : Envelope) (c : Client)
    (question : Question) (m : Message) → is_some (outstanding from.0 e.header.id c.txns) ≡ true
    → get c.questions e.header.id ≡ Some question
    → m ≡ read_coded c.node.config words e.header e.behind (Ok e.code)
    → told_in question m ≡ taken_from words from e c
unfolding taken_from message_in
taken_is words from e c question m there asked is =
    ap (told_in question) is
    ∙ sym (ap (λ (b : Bool). cond b (option_and_then
    (λ (q : Question). told_in q (message_in c.node.config words e))
    (get c.questions e.header.id)) None) there
    ∙ ap (option_and_then (λ (q : Question). told_in q (message_in c.node.config words e))) asked)

-- what a call answers is the same by an equation
pub value_along : {A B E : Type 0} (f : A → B) (r : Result A E) (x y : B) → x ≡ y
    → IfOk r (λ a. f a ≡ x) → IfOk r (λ a. f a ≡ y)
value_along f (Ok a) x y e h = h ∙ e
value_along f (Err bad) x y e h = tt
