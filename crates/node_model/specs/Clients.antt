-- A client, and what it does with what it is given (RFC 6940, 6.2 and 7.4).
use Rattle.std.specs.Prelude.{ℕ, ◌+◌, ◌==◌, Bool, List, [], ◌∷◌, fold, length, map, nat_le, Option, Some, None, is_some, unwrap_or, Result, Ok, if◌then◌else◌}
use Rattle.std.specs.Option.{option_map_or, option_and_then}
use Rattle.std.specs.Ordering.{nat_cmp}
use Rattle.std.specs.FinMap.{FinMap, get, insert, remove, empty, len}
use Rattle.reload_ids.specs.declared.NodeId.{NodeId}
use Rattle.wire_core.specs.declared.bad.Bad.{Bad}
use Rattle.wire_core.specs.Reading.{whole_of}
use Rattle.data_models.specs.declared.config.Config.{Config}
use Rattle.security_block.specs.declared.about.About.{About}
use Rattle.message_bodies.specs.declared.body.Body.{Body}
use Rattle.message_bodies.specs.declared.body.Body.TheVariants as bodies
use Rattle.message_bodies.specs.declared.store_ans.StoreKindResponse.{StoreKindResponse}
use Rattle.message_bodies.specs.StoreAns.{store_ans_at}
use Rattle.transaction_table.specs.declared.txn.Txn.{Txn}
use Rattle.transaction_table.specs.declared.txn.Queued.{Queued}
use Rattle.transaction_table.specs.Tables.{Txns, issued, outstanding, after_answer, due_spots, renewed}
use Rattle.node_messages.specs.declared.message.Message.{Message}
use Rattle.node_messages.specs.declared.message.Message.TheVariants as messages
use Rattle.node_messages.specs.Signed.{SignerWords}
use Rattle.node_messages.specs.Making.{made, whole}
use Rattle.storage_model.specs.declared.refusal.Refusal.TheVariants.{GenerationCounterTooLow}
use Rattle.storage_model.specs.Refusals.{error_code}
use Rattle.node_model.specs.declared.command.Command.{Command}
use Rattle.node_model.specs.declared.command.Command.TheVariants as commands
use Rattle.node_model.specs.declared.question.Question.{Question}
use Rattle.node_model.specs.declared.question.Question.TheVariants as questions
use Rattle.node_model.specs.declared.notice.Told.{Told}
use Rattle.node_model.specs.declared.notice.Told.TheVariants.{Stored, Fetched, Failed}
use Rattle.node_model.specs.declared.notice.Notice.{Notice}
use Rattle.node_model.specs.declared.notice.Notice.TheVariants as notices
use Rattle.node_model.specs.declared.limits.TheConstants.{MAX_OUTSTANDING, MAX_SENDS}
use Rattle.node_model.specs.Links.{ack_to}
use Rattle.node_model.specs.Nodes.{Node, Post, Step, Cause, Framed, Clocked, Commanded, new_node, me, work, counted, silent, frames_of, frames_of_all, links_after, node_after}
use Rattle.node_model.specs.Clocks.{posts_again, ids_over, node_clocked}
use Rattle.node_model.specs.Heard.{Envelope, payload_in, heard_in, is_answer, message_in}
use Rattle.node_model.specs.declared.course.AnswerCourse.{AnswerCourse}
use Rattle.node_model.specs.declared.course.AnswerCourse.TheVariants.{Ignored, Passed, Mine}
use Rattle.node_model.specs.Ways.{answer_course}
use Rattle.node_model.specs.Requests.{Request, store_request, fetch_request}

-- a client: what it has as a node, its transactions, and by transaction id what each asks for
pub record Client : Type 0 where
  pub node : Node
  pub txns : Txns
  pub questions : FinMap nat_cmp Question

-- a client that did nothing yet
abbrev pub new_client : ℕ → About → Config → Client
new_client number about config = record {
  node = new_node number about config;
  txns = record { outboxes = empty; issued = empty };
  questions = empty;
}

-- its load: what it handled, sent and used
abbrev pub load : Client → ℕ
load c = work c.node

-- whether as many of its requests wait for answers as may
abbrev pub is_busy : Client → Bool
is_busy c = nat_le MAX_OUTSTANDING (len c.txns.issued)

-- ---- requests

-- a request as a transaction that isn't sent yet; without a spelling it has no bytes
abbrev pub txn_of : Request → Option (List ℕ) → Txn Queued
txn_of r message = record {
  state = record {};
  peer = r.peer;
  id = r.header.id;
  message = unwrap_or message [];
  sends = 0;
  due = 0;
}

-- a node that issued its next request, and sent it
unfoldable pub node_asking : Post → Node → Node
node_asking post n = record n {
  links = links_after (Some post) n.links;
  ids = n.ids + 1;
  inputs = n.inputs + 1;
  frames = n.frames + length (frames_of n.links (Some post));
}

-- a client issues a request
unfoldable pub asks : SignerWords → ℕ → Request → Client → Step Client
asks words now r c =
    let message = made words c.node.about r.header (record { body = r.body; extensions = [] }) in
    let post : Post = record { to = r.peer; message = message } in
    record {
      node = record {
        node = node_asking post c.node;
        txns = issued now (txn_of r message) c.txns;
        questions = insert c.questions r.header.id r.question;
      };
      outputs = record { frames = frames_of c.node.links (Some post); notices = [] };
    }

-- an input that a client does nothing with
unfoldable pub idles : Client → Step Client
idles c = record { node = record c { node = counted c.node }; outputs = silent }

-- the request that a command is for
abbrev pub request_of : SignerWords → Node → Command → Request
request_of words n (commands.Store c) = store_request words n c
request_of words n (commands.Fetch c) = fetch_request n c

-- a client is told to ask something; a busy one doesn't
unfoldable pub commanded : SignerWords → ℕ → Command → Client → Step Client
commanded words now command c =
    if is_busy c then idles c else asks words now (request_of words c.node command) c

-- ---- answers

-- the generation counters of a Store's answer
unfoldable pub counters_of : List StoreKindResponse → List (ℕ × ℕ)
counters_of rs = map (λ r. (r.kind, r.generation)) rs

-- the generation counters that a body says, where it is that of a Store's answer
abbrev pub counters_said : Result Body Bad → List (ℕ × ℕ)
counters_said (Ok (bodies.StoreAns rs)) = counters_of rs
counters_said _ = []

-- the generation counters that are said of an error of this code
unfoldable pub counters_in : ℕ → List ℕ → List (ℕ × ℕ)
counters_in code info =
    if code == error_code GenerationCounterTooLow then counters_said (whole_of store_ans_at info)
    else []

-- what a body tells who asked this, if it answers that
abbrev pub told_by : Question → Body → Option Told
told_by questions.Store (bodies.StoreAns rs) = Some (Stored (counters_of rs))
told_by questions.Fetch (bodies.FetchAns kinds) = Some (Fetched kinds)
told_by question (bodies.Error code info) = Some (Failed code (counters_in code info))
told_by question _ = None

-- what a message tells who asked this, if it answers that and a peer signed it
abbrev pub told_in : Question → Message → Option Told
told_in question (messages.Whole h contents certificates (Some who)) =
    if who.peer then told_by question contents.body else None
told_in question _ = None

-- what an answer from a node tells the client: there must be an outstanding transaction with that
-- node and id, and a question that it answers
unfoldable pub taken_from : SignerWords → NodeId → Envelope → Client → Option Told
taken_from words from e c =
    if is_some (outstanding from.0 e.header.id c.txns)
    then option_and_then (λ question. told_in question (message_in c.node.config words e))
    (get c.questions e.header.id)
    else None

-- what a client makes of a message: its transactions and questions afterwards, what it sends, and
-- what is to be told
pub record Reaction : Type 0 where
  pub txns : Txns
  pub questions : FinMap nat_cmp Question
  pub posts : List Post
  pub notices : List Notice

-- nothing but what is sent
abbrev pub sends : Client → List Post → Reaction
sends c posts = record { txns = c.txns; questions = c.questions; posts = posts; notices = [] }

-- it takes an answer: the transaction ends
unfoldable pub takes : Client → ℕ → NodeId → ℕ → Told → Reaction
takes c now from id told = record {
  txns = after_answer now from.0 id c.txns;
  questions = remove c.questions id;
  posts = [];
  notices = notices.Answered id told ∷ [];
}

-- what a client does with an answer by its course
abbrev pub by_course : SignerWords → Client → ℕ → NodeId → Envelope → AnswerCourse → Reaction
by_course words c now from e Ignored = sends c []
by_course words c now from e (Passed next h) =
    sends c (record { to = next; message = Some (whole h e.behind) } ∷ [])
by_course words c now from e Mine =
    option_map_or (takes c now from e.header.id) (taken_from words from e c) (sends c [])

-- what it makes of a message that it looks at; it drops every request
unfoldable pub reaction : SignerWords → Client → ℕ → NodeId → Envelope → Reaction
reaction words c now from e =
    if is_answer e then by_course words c now from e (answer_course (me c.node) e.header)
    else sends c []

-- what it makes of a message, if it looks at it
unfoldable pub reaction_to : SignerWords → Client → ℕ → NodeId → List ℕ → Reaction
reaction_to words c now from message =
    option_map_or (reaction words c now from) (heard_in c.node.config message) (sends c [])

-- a client that heard a payload: the ack leaves first, and then what it makes of the message
unfoldable pub hears : SignerWords → ℕ → NodeId → ℕ → List ℕ → Client → Step Client
hears words now from sequence message c =
    let r = reaction_to words c now from message in
    record {
      node = record {
        node = node_after from sequence r.posts c.node;
        txns = r.txns;
        questions = r.questions;
      };
      outputs = record {
        frames = ack_to from sequence c.node.links ∷ frames_of_all c.node.links r.posts;
        notices = r.notices;
      };
    }

-- bytes that came over a link from a node
unfoldable pub framed : SignerWords → ℕ → NodeId → List ℕ → Client → Step Client
framed words now from bytes c =
    option_map_or (λ x. hears words now from x.0 x.1 c) (payload_in bytes) (idles c)

-- the clock moved on: what is due is sent again, or ends where it was sent MAX_SENDS times, and then
-- that is told
unfoldable pub clocked : ℕ → Client → Step Client
clocked now c =
    let due = due_spots now c.txns in
    let posts = posts_again (Some MAX_SENDS) c.txns due in
    let ended = ids_over (Some MAX_SENDS) c.txns due in
    record {
      node = record {
        node = node_clocked posts c.node;
        txns = fold (renewed now (Some MAX_SENDS)) c.txns due;
        questions = fold remove c.questions ended;
      };
      outputs = record {
        frames = frames_of_all c.node.links posts;
        notices = map notices.TimedOut ended;
      };
    }

-- what an input makes of a client at a clock
abbrev pub client_step : SignerWords → ℕ → Cause → Client → Step Client
client_step words now (Framed from bytes) c = framed words now from bytes c
client_step words now Clocked c = clocked now c
client_step words now (Commanded command) c = commanded words now command c
