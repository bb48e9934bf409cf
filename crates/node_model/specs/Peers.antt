-- A peer, and what it does with what it is given (RFC 6940, 6.1 and 7.4).
use Rattle.std.specs.Prelude.{ℕ, ◌+◌, ◌==◌, ◌&&◌, Bool, true, false, List, [], ◌∷◌, fold, length, map, Option, Some, None, option_to_list, if◌then◌else◌}
use Rattle.std.specs.Ordering.{nat_cmp}
use Rattle.std.specs.FinMap.{FinMap, empty, len}
use Rattle.std.specs.Option.{option_map_or}
use Rattle.std.specs.List.{list_any}
use Rattle.reload_ids.specs.declared.NodeId.{NodeId}
use Rattle.reload_ids.specs.declared.ResourceId.{ResourceId}
use Rattle.data_models.specs.declared.config.Config.{Config}
use Rattle.security_block.specs.declared.about.About.{About}
use Rattle.chord_tables.specs.Tables.{Tables, mirrors}
use Rattle.transaction_table.specs.Tables.{Txns, after_answer, due_spots, renewed}
use Rattle.forwarding_header.specs.declared.header.Header.{Header}
use Rattle.forwarding_header.specs.declared.forwarding_option.TheConstants.{DESTINATION_CRITICAL}
use Rattle.node_messages.specs.declared.message.Message.{Message}
use Rattle.node_messages.specs.Signed.{SignerWords}
use Rattle.node_messages.specs.Making.{whole}
use Rattle.storage_model.specs.declared.refusal.Refusal.{Refusal}
use Rattle.storage_model.specs.declared.refusal.Refusal.TheVariants.{UnsupportedForwardingOption}
use Rattle.storage_model.specs.Records.{Map, record_in}
use Rattle.storage_model.specs.Decisions.{Effect, effect_of, changed}
use Rattle.storage_model.specs.declared.request.Asked.{Asked}
use Rattle.node_model.specs.declared.peer_state.PeerState.{PeerState}
use Rattle.node_model.specs.declared.peer_state.PeerState.TheVariants as states
use Rattle.node_model.specs.declared.notice.Notice.{Notice}
use Rattle.node_model.specs.declared.notice.Notice.TheVariants as notices
use Rattle.node_model.specs.Links.{ack_to}
use Rattle.node_model.specs.Nodes.{Node, Post, Step, Cause, Framed, Clocked, Commanded, new_node, me, work, counted, silent, frames_of_all, node_after}
use Rattle.node_model.specs.Clocks.{posts_again, node_clocked}
use Rattle.node_model.specs.Ends.{is_ended_by, head_post}
use Rattle.node_model.specs.Heard.{Envelope, payload_in, heard_in, is_answer, message_in}
use Rattle.node_model.specs.declared.course.AnswerCourse.{AnswerCourse}
use Rattle.node_model.specs.declared.course.AnswerCourse.TheVariants.{Ignored, Passed, Mine}
use Rattle.node_model.specs.declared.course.Course.{Course}
use Rattle.node_model.specs.declared.course.Course.TheVariants.{Dropped, Refused, Here, Owned, Forwarded}
use Rattle.node_model.specs.Ways.{has_flag, answer_course}
use Rattle.node_model.specs.Courses.{course}
use Rattle.node_model.specs.Askings.{is_decided, asked_in, origin_of}
use Rattle.node_model.specs.Replies.{body_of, refusal_body, reply, refusal_of}

-- what a peer is to its overlay: since which clock it is a Member, and whom it admits
pub data Membership : Type 0 where
  Seeking : Membership
  Member : (since : ℕ) → Membership
  Admitting : (since : ℕ) (joiner : NodeId) → Membership
  Leaving : (since : ℕ) → Membership
  Gone : Membership

-- the state of a peer
abbrev pub state_of : Membership → PeerState
state_of Seeking = states.Seeking
state_of (Member since) = states.Member
state_of (Admitting since joiner) = states.Admitting
state_of (Leaving since) = states.Leaving
state_of Gone = states.Gone

-- a peer: what it has as a node, what it is to its overlay, its tables, its records, its
-- transactions, and by Node-ID the numbers of the last channel messages that it took from there and
-- that it queued to there
pub record Peer : Type 0 where
  pub node : Node
  pub membership : Membership
  pub tables : Tables
  pub records : Map
  pub txns : Txns
  pub taken : FinMap nat_cmp ℕ
  pub queued : FinMap nat_cmp ℕ

-- no transaction waits
abbrev pub no_txns : Txns
no_txns = record { outboxes = empty; issued = empty }

-- a peer that did nothing yet
abbrev pub new_peer : ℕ → About → Config → Membership → Tables → Peer
new_peer number about config membership tables = record {
  node = new_node number about config;
  membership = membership;
  tables = tables;
  records = empty;
  txns = no_txns;
  taken = empty;
  queued = empty;
}

-- its load: what it handled, sent and used, and the records that it holds
abbrev pub load : Peer → ℕ
load p = work p.node + len p.records

-- whether it waits for no answer: its outboxes are empty, and so are its own requests
unfoldable pub is_idle : Peer → Bool
is_idle p = (len p.txns.outboxes == 0) && (len p.txns.issued == 0)

-- what a peer makes of a message: the peer that it leaves, before anything is sent, what that sends,
-- in order, and what is to be told
pub record Reaction : Type 0 where
  pub peer : Peer
  pub posts : List Post
  pub notices : List Notice

-- nothing but what is sent
abbrev pub sends : Peer → List Post → Reaction
sends p posts = record { peer = p; posts = posts; notices = [] }

-- the message behind a header goes on to a node
abbrev pub passed_on : Peer → NodeId → Header → List ℕ → Reaction
passed_on p next h behind =
    sends p (record { to = next; message = Some (whole h behind) } ∷ [])

-- a request is refused
abbrev pub refuses : SignerWords → Peer → NodeId → Header → Refusal → Reaction
refuses words p from h cause =
    sends p (reply words p.node.about from h (refusal_body cause) ∷ [])

-- the Node-IDs of ids
abbrev pub nodes_of : List ℕ → List NodeId
nodes_of ids = map (λ id. record { 0 = id }) ids

-- what a peer makes of a request for a resource that it owns, at a clock
abbrev pub effect_at : Peer → ℕ → ResourceId → NodeId → ℕ → Asked → Effect
effect_at p now resource origin id request =
    effect_of p.node.config now resource.0 (record_in p.records resource.0) origin id request

-- it decides: its record changes, the answer leaves, and the decision is told
unfoldable pub decides : SignerWords → Peer → ℕ → NodeId → Header → ResourceId → Message → Reaction
decides words p now from h resource message =
    let request = asked_in words p.node.config resource message in
    let origin = origin_of message in
    let effect = effect_at p now resource origin h.id request in
    let replicas = nodes_of (mirrors p.node.config.replicas p.tables) in
    record {
      peer = record p { records = changed p.records resource.0 effect.next };
      posts = reply words p.node.about from h (body_of replicas effect.answer) ∷ [];
      notices = notices.Decision now resource origin h.id request effect.answer effect.acted ∷ [];
    }

-- a request that the peer handles, for itself or for a resource that it owns
unfoldable pub handled :
    SignerWords → Peer → ℕ → NodeId → Option ResourceId → Envelope → Reaction
handled words p now from resource e =
    let message = message_in p.node.config words e in
    if list_any (has_flag DESTINATION_CRITICAL) e.header.options
    then refuses words p from e.header UnsupportedForwardingOption
    else elim resource [
      | None ↦ refuses words p from e.header (refusal_of message)
      | Some r ↦ if is_decided e.code then decides words p now from e.header r message
          else refuses words p from e.header (refusal_of message)
    ]

-- what a peer does with a request by its course
abbrev pub by_course : SignerWords → Peer → ℕ → NodeId → Envelope → Course → Reaction
by_course words p now from e Dropped = sends p []
by_course words p now from e (Refused cause) = refuses words p from e.header cause
by_course words p now from e Here = handled words p now from None e
by_course words p now from e (Owned resource) = handled words p now from (Some resource) e
by_course words p now from e (Forwarded next h) = passed_on p next h e.behind

-- the head of the outbox to a node ended: the next message there, if one waits, is sent
unfoldable pub ends : Peer → ℕ → NodeId → ℕ → Reaction
ends p now from id =
    let txns = after_answer now from.0 id p.txns in
    record {
      peer = record p { txns = txns };
      posts = option_to_list (head_post from txns);
      notices = [];
    }

-- what a peer does with an answer by its course: one to itself may end the head of an outbox; it
-- asks nothing outside its outboxes yet
abbrev pub by_answer_course : SignerWords → Peer → ℕ → NodeId → Envelope → AnswerCourse → Reaction
by_answer_course words p now from e Ignored = sends p []
by_answer_course words p now from e (Passed next h) = passed_on p next h e.behind
by_answer_course words p now from e Mine =
    if is_ended_by (message_in p.node.config words e) from e p.txns
    then ends p now from e.header.id
    else sends p []

-- what a peer makes of a message of so many bytes that it looks at
unfoldable pub reaction : SignerWords → Peer → ℕ → NodeId → ℕ → Envelope → Reaction
reaction words p now from size e =
    if is_answer e then by_answer_course words p now from e (answer_course (me p.node) e.header)
    else by_course words p now from e
    (course from p.tables (state_of p.membership) size e.header)

-- what it makes of a message, if it looks at it
unfoldable pub reaction_to : SignerWords → Peer → ℕ → NodeId → List ℕ → Reaction
reaction_to words p now from message =
    option_map_or (reaction words p now from (length message)) (heard_in p.node.config message)
    (sends p [])

-- a peer that heard a payload: the ack leaves first, and then what it makes of the message
unfoldable pub hears : SignerWords → ℕ → NodeId → ℕ → List ℕ → Peer → Step Peer
hears words now from sequence message p =
    let r = reaction_to words p now from message in
    record {
      node = record r.peer { node = node_after from sequence r.posts r.peer.node };
      outputs = record {
        frames = ack_to from sequence r.peer.node.links
            ∷ frames_of_all r.peer.node.links r.posts;
        notices = r.notices;
      };
    }

-- an input that a peer does nothing with
unfoldable pub idles : Peer → Step Peer
idles p = record { node = record p { node = counted p.node }; outputs = silent }

-- whether a peer is gone
abbrev pub is_gone : Membership → Bool
is_gone Gone = true
is_gone _ = false

-- bytes that came over a link from a node; a peer that is gone hears nothing
unfoldable pub framed : SignerWords → ℕ → NodeId → List ℕ → Peer → Step Peer
framed words now from bytes p =
    if is_gone p.membership then idles p
    else option_map_or (λ x. hears words now from x.0 x.1 p) (payload_in bytes) (idles p)

-- the clock moved on: what is due is sent again, as often as it takes
unfoldable pub clocked : ℕ → Peer → Step Peer
clocked now p =
    let due = due_spots now p.txns in
    let posts = posts_again None p.txns due in
    record {
      node = record p {
        node = node_clocked posts p.node;
        txns = fold (renewed now None) p.txns due;
      };
      outputs = record { frames = frames_of_all p.node.links posts; notices = [] };
    }

-- what an input makes of a peer at a clock; it isn't told to do anything yet
abbrev pub peer_step : SignerWords → ℕ → Cause → Peer → Step Peer
peer_step words now (Framed from bytes) p = framed words now from bytes p
peer_step words now Clocked p = clocked now p
peer_step words now (Commanded command) p = idles p
