-- Each frame that a node sends has a byte.
use Rattle.std.proofs.Common.{ℕ, ◌++◌, List, [], ◌∷◌, true, false, cond, arith}
use Rattle.std.specs.Prelude.{All, Option, Some, None}
use Rattle.std.specs.Option.{option_map_or}
use Rattle.std.proofs.lemmas.List.{length-append}
use Rattle.std.proofs.lemmas.List.Elements.{All-nil, All-cons, All-append}
use Rattle.reload_ids.specs.declared.NodeId.{NodeId}
use Rattle.wire_core.specs.Spelling.{number, vector}
use Rattle.wire_core.specs.Laws.Bytes.{length-number}
use Rattle.link_framing.specs.Framing.{frame}
use Rattle.node_messages.specs.Signed.{SignerWords}
use Rattle.node_messages.specs.Making.{made}
use Rattle.node_model.specs.Links.{Links, Sent, heard_from, mask_of, next_sequence, ack_to, payload_to}
use Rattle.node_model.specs.Nodes.{Post, Cause, Framed, Clocked, Commanded, frames_of, links_after, frames_of_all}
use Rattle.node_model.specs.declared.command.Command.{Command}
use Rattle.node_model.specs.Requests.{Request}
use Rattle.node_model.specs.Peers as peers
use Rattle.node_model.specs.Clients as clients
use Rattle.node_model.specs.Heard.{payload_in}
use Rattle.run_model.specs.Worlds.{Actor, APeer, AClient, acts}
use Rattle.overlay_world.specs.Sendings.{HasBytes}

ack_some : (from : NodeId) (sequence : ℕ) (links : Links) → HasBytes (ack_to from sequence links)
unfolding ack_to frame
ack_some from sequence links =
    let mask = mask_of (heard_from links from.0) sequence in
    omega (arith, length-append (number 1 129) (number 4 sequence ++ number 4 mask), length-number 1 129)

payload_some : (to : NodeId) (message : List ℕ) (links : Links) → HasBytes (payload_to to message links)
unfolding payload_to frame
payload_some to message links =
    let sequence = next_sequence links to.0 in
    omega (arith, length-append (number 1 128) (number 4 sequence ++ vector 3 message), length-number 1 128)

post_some : (links : Links) (post : Option Post) → All HasBytes (frames_of links post)
unfolding frames_of
post_some links None = All-nil HasBytes
post_some links (Some p) =
    elim (p.message) as (λ m. All HasBytes (elim m as (λ n. List Sent) [ None ↦ [] | Some message ↦ payload_to p.to message links ∷ [] ])) [
      | None ↦ All-nil HasBytes
      | Some message ↦ All-cons HasBytes (payload_to p.to message links) [] (payload_some p.to message links) (All-nil HasBytes)
    ]

posts_some : (links : Links) (posts : List Post) → All HasBytes (frames_of_all links posts)
unfolding frames_of_all
posts_some links [] = All-nil HasBytes
posts_some links (p ∷ ps) =
    All-append HasBytes (frames_of links (Some p)) (frames_of_all (links_after (Some p) links) ps) (post_some links (Some p)) (posts_some (links_after (Some p) links) ps)

-- ---- peers

peer_hears : (words : SignerWords) (now : ℕ) (from : NodeId) (sequence : ℕ) (message : List ℕ) (p : peers.Peer) → All HasBytes (peers.hears words now from sequence message p).outputs.frames
unfolding peers.hears
peer_hears words now from sequence message p =
    let r = peers.reaction_to words p now from message in
    let links = r.peer.node.links in
    All-cons HasBytes (ack_to from sequence links) (frames_of_all links r.posts) (ack_some from sequence links) (posts_some links r.posts)

peer_idles : (p : peers.Peer) → All HasBytes (peers.idles p).outputs.frames
unfolding peers.idles
peer_idles p = All-nil HasBytes

peer_payload : (words : SignerWords) (now : ℕ) (from : NodeId) (p : peers.Peer) (o : Option (ℕ × List ℕ)) → All HasBytes (option_map_or (λ x. peers.hears words now from x.0 x.1 p) o (peers.idles p)).outputs.frames
peer_payload words now from p None = peer_idles p
peer_payload words now from p (Some x) = peer_hears words now from x.0 x.1 p

peer_framed : (words : SignerWords) (now : ℕ) (from : NodeId) (bytes : List ℕ) (p : peers.Peer) → All HasBytes (peers.framed words now from bytes p).outputs.frames
unfolding peers.framed
peer_framed words now from bytes p =
    elim (peers.is_gone p.membership) as (λ b. All HasBytes (cond b (peers.idles p) (option_map_or (λ x. peers.hears words now from x.0 x.1 p) (payload_in bytes) (peers.idles p))).outputs.frames) [
      | true ↦ peer_idles p
      | false ↦ peer_payload words now from p (payload_in bytes)
    ]

peer_clocked : (now : ℕ) (p : peers.Peer) → All HasBytes (peers.clocked now p).outputs.frames
unfolding peers.clocked
peer_clocked now p = posts_some p.node.links _

peer_some : (words : SignerWords) (now : ℕ) (cause : Cause) (p : peers.Peer) → All HasBytes (peers.peer_step words now cause p).outputs.frames
peer_some words now (Framed from bytes) p = peer_framed words now from bytes p
peer_some words now Clocked p = peer_clocked now p
peer_some words now (Commanded command) p = peer_idles p

-- ---- clients

client_hears : (words : SignerWords) (now : ℕ) (from : NodeId) (sequence : ℕ) (message : List ℕ) (c : clients.Client) → All HasBytes (clients.hears words now from sequence message c).outputs.frames
unfolding clients.hears
client_hears words now from sequence message c =
    let posts = (clients.reaction_to words c now from message).posts in
    All-cons HasBytes (ack_to from sequence c.node.links) (frames_of_all c.node.links posts) (ack_some from sequence c.node.links) (posts_some c.node.links posts)

client_idles : (c : clients.Client) → All HasBytes (clients.idles c).outputs.frames
unfolding clients.idles
client_idles c = All-nil HasBytes

client_payload : (words : SignerWords) (now : ℕ) (from : NodeId) (c : clients.Client) (o : Option (ℕ × List ℕ)) → All HasBytes (option_map_or (λ x. clients.hears words now from x.0 x.1 c) o (clients.idles c)).outputs.frames
client_payload words now from c None = client_idles c
client_payload words now from c (Some x) = client_hears words now from x.0 x.1 c

client_framed : (words : SignerWords) (now : ℕ) (from : NodeId) (bytes : List ℕ) (c : clients.Client) → All HasBytes (clients.framed words now from bytes c).outputs.frames
unfolding clients.framed
client_framed words now from bytes c = client_payload words now from c (payload_in bytes)

client_asks : (words : SignerWords) (now : ℕ) (r : Request) (c : clients.Client) → All HasBytes (clients.asks words now r c).outputs.frames
unfolding clients.asks
client_asks words now r c =
    let post : Post = record { to = r.peer; message = made words c.node.about r.header (record { body = r.body; extensions = [] }) } in
    post_some c.node.links (Some post)

client_commanded : (words : SignerWords) (now : ℕ) (command : Command) (c : clients.Client) → All HasBytes (clients.commanded words now command c).outputs.frames
unfolding clients.commanded
client_commanded words now command c =
    elim (clients.is_busy c) as (λ b. All HasBytes (cond b (clients.idles c) (clients.asks words now (clients.request_of words c.node command) c)).outputs.frames) [
      | true ↦ client_idles c
      | false ↦ client_asks words now (clients.request_of words c.node command) c
    ]

client_clocked : (now : ℕ) (c : clients.Client) → All HasBytes (clients.clocked now c).outputs.frames
unfolding clients.clocked
client_clocked now c = posts_some c.node.links _

client_some : (words : SignerWords) (now : ℕ) (cause : Cause) (c : clients.Client) → All HasBytes (clients.client_step words now cause c).outputs.frames
client_some words now (Framed from bytes) c = client_framed words now from bytes c
client_some words now Clocked c = client_clocked now c
client_some words now (Commanded command) c = client_commanded words now command c

-- ---- both

pub acts_some : (words : SignerWords) (now : ℕ) (cause : Cause) (a : Actor) → All HasBytes (acts words now cause a).outputs.frames
acts_some words now cause (APeer p) = peer_some words now cause p
acts_some words now cause (AClient c) = client_some words now cause c
