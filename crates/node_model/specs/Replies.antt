-- What a peer answers.
use Rattle.std.specs.Prelude.{ℕ, ◌==◌, List, [], map, Some, None, if◌then◌else◌}
use Rattle.reload_ids.specs.declared.NodeId.{NodeId}
use Rattle.security_block.specs.declared.about.About.{About}
use Rattle.forwarding_header.specs.declared.header.Header.{Header}
use Rattle.message_bodies.specs.declared.body.Body.{Body}
use Rattle.message_bodies.specs.declared.body.Body.TheVariants as bodies
use Rattle.message_bodies.specs.declared.store_ans.StoreKindResponse.{StoreKindResponse}
use Rattle.message_bodies.specs.StoreAns.{store_ans}
use Rattle.node_messages.specs.declared.message.Message.{Message}
use Rattle.node_messages.specs.declared.message.Message.TheVariants as messages
use Rattle.node_messages.specs.Signed.{SignerWords}
use Rattle.node_messages.specs.Making.{made}
use Rattle.storage_model.specs.declared.answer.Answer.{Answer}
use Rattle.storage_model.specs.declared.answer.Answer.TheVariants.{Decided, Found, Joined}
use Rattle.storage_model.specs.declared.refusal.Refusal.{Refusal}
use Rattle.storage_model.specs.declared.refusal.Refusal.TheVariants.{Forbidden, GenerationCounterTooLow, UnknownExtension, InvalidMessage}
use Rattle.storage_model.specs.Refusals.{error_code}
use Rattle.node_model.specs.Nodes.{Post}
use Rattle.node_model.specs.Askings.{has_critical}
use Rattle.node_model.specs.Ways.{reply_header}

-- kinds with their generation counters, and who holds their replicas
unfoldable pub responses : List NodeId → List (ℕ × ℕ) → List StoreKindResponse
responses replicas counters =
    map (λ c. record { kind = c.0; generation = c.1; replicas = replicas }) counters

-- what is said of an error: the stored generation counters where others were asked for, without
-- replicas
abbrev pub error_info : ℕ → List (ℕ × ℕ) → List ℕ
error_info code counters =
    if code == error_code GenerationCounterTooLow then store_ans (responses [] counters) else []

-- the body that tells a decision's answer; a Store's names those that hold the replicas
abbrev pub body_of : List NodeId → Answer → Body
body_of replicas (Decided code counters) =
    if code == 0 then bodies.StoreAns (responses replicas counters)
    else bodies.Error code (error_info code counters)
body_of replicas (Found kinds) = bodies.FetchAns kinds
body_of replicas Joined = bodies.JoinAns []

-- the body of an error of which nothing is said
abbrev pub refusal_body : Refusal → Body
refusal_body cause = bodies.Error (error_code cause) []

-- the answer to a request that came from a node, with this body
unfoldable pub reply : SignerWords → About → NodeId → Header → Body → Post
reply words about from h body = record {
  to = from;
  message = made words about (reply_header from h) (record { body = body; extensions = [] });
}

-- why a request to the peer itself, or one that no owner decides, is refused: this profile's peers
-- answer no such request yet
abbrev pub refusal_of : Message → Refusal
refusal_of (messages.Whole h c certificates None) = Forbidden
refusal_of (messages.Whole h c certificates (Some who)) =
    if has_critical c.extensions then UnknownExtension else InvalidMessage
refusal_of _ = InvalidMessage
