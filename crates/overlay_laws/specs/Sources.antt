-- Where the frames come from that a node sends.
use Rattle.std.specs.Prelude.{true, false, ◌-◌, ◌≡◌, ℕ, List, Some}
use Rattle.reload_ids.specs.declared.NodeId.{NodeId}
use Rattle.security_block.specs.declared.about.About.{About}
use Rattle.link_framing.specs.declared.frame.Frame.TheVariants.{Payload, Ack}
use Rattle.link_framing.specs.Framing.{frame}
use Rattle.forwarding_header.specs.declared.header.Header.{Header}
use Rattle.message_bodies.specs.declared.contents.Contents.{Contents}
use Rattle.message_bodies.specs.declared.body.Body.TheVariants as bodies
use Rattle.data_models.specs.declared.config.Config.{Config}
use Rattle.node_messages.specs.Signed.{SignerWords}
use Rattle.node_messages.specs.Making.{made, whole}
use Rattle.transaction_table.specs.declared.txn.Txn.{Txn}
use Rattle.transaction_table.specs.declared.txn.Outstanding.{Outstanding}
use Rattle.transaction_table.specs.declared.spot.Spot.{Spot}
use Rattle.transaction_table.specs.Tables.{Txns, txn_at}
use Rattle.node_model.specs.Links.{Sent}
use Rattle.node_model.specs.Nodes.{Cause, Framed, Clocked, Commanded}
use Rattle.node_model.specs.Heard.{Envelope, payload_in, heard_in, is_answer, ttl_of}
use Rattle.node_model.specs.Courses.{onward}

-- the header with which an answer goes on along its destination list
abbrev pub IsBack : Header → Header → Type 0
IsBack h k = k ≡ record h { ttl = ttl_of h - 1; dest = k.dest }

-- a node hears this message of its overlay in an input, over the link from a node
abbrev pub IsHeardIn : Config → Cause → NodeId → Envelope → Type 0
IsHeardIn config (Framed sender bytes) from e =
    (sender ≡ from)
    × (x : ℕ × List ℕ) × (payload_in bytes ≡ Some x) × (heard_in config x.1 ≡ Some e)
IsHeardIn config Clocked from e = ⊥
IsHeardIn config (Commanded command) from e = ⊥

-- what a peer makes: answers to Stores, Fetches and Joins, and errors
abbrev pub IsAnswerOf : Contents → Type 0
IsAnswerOf c = elim (c.body) [
  | bodies.StoreAns kinds ↦ Unit {0}
  | bodies.FetchAns kinds ↦ Unit {0}
  | bodies.JoinAns more ↦ Unit {0}
  | bodies.Error code info ↦ Unit {0}
  | _ ↦ ⊥
]

-- what a client makes: Stores that are no copies, and Fetches
abbrev pub IsRequestOf : Contents → Type 0
IsRequestOf c = elim (c.body) [
  | bodies.Store resource replica kinds ↦ replica ≡ 0
  | bodies.Fetch resource specifiers ↦ Unit {0}
  | _ ↦ ⊥
]

-- bytes are those of an outstanding transaction
abbrev pub AreKeptIn : Txns → List ℕ → Type 0
AreKeptIn t bytes =
    (s : Spot) × (x : Txn Outstanding) × (txn_at s t ≡ Some x) × (x.message ≡ bytes)

-- where a message comes from: the node made it, it passes a request on that it heard, behind the
-- node that it came from, or an answer, or it keeps it, before the input or behind it
pub data Source (words : SignerWords) (who : About) (config : Config) (cause : Cause)
    (before after : Txns) (makes : Contents → Type 0) (message : List ℕ) : Type 0 where
  Made : (h : Header) (c : Contents) → makes c → made words who h c ≡ Some message
      → Source words who config cause before after makes message
  PassedOn : (from : NodeId) (e : Envelope) (h : Header) → IsHeardIn config cause from e
      → is_answer e ≡ false → h ≡ onward from e.header h.dest → message ≡ whole h e.behind
      → Source words who config cause before after makes message
  PassedBack : (from : NodeId) (e : Envelope) (h : Header) → IsHeardIn config cause from e
      → is_answer e ≡ true → IsBack e.header h → message ≡ whole h e.behind
      → Source words who config cause before after makes message
  KeptBefore : AreKeptIn before message → Source words who config cause before after makes message
  KeptAfter : AreKeptIn after message → Source words who config cause before after makes message

-- what a frame is: an ack, or a payload whose message comes from somewhere
pub data Origin (P : List ℕ → Type 0) (f : Sent) : Type 0 where
  Acks : (to : NodeId) (sequence mask : ℕ) → f ≡ (to, frame (Ack sequence mask)) → Origin P f
  Carries : (to : NodeId) (sequence : ℕ) (message : List ℕ)
      → f ≡ (to, frame (Payload sequence message)) → P message → Origin P f
