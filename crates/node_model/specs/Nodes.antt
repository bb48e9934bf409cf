-- What peers and clients have in common, and what both do with a message that they send.
use Rattle.std.specs.Prelude.{ℕ, ◌+◌, ◌*◌, ◌^◌, List, [], ◌∷◌, ◌++◌, length, Option, Some, None}
use Rattle.reload_ids.specs.declared.NodeId.{NodeId}
use Rattle.reload_ids.specs.Ids.{overlay_id}
use Rattle.data_models.specs.declared.config.Config.{Config}
use Rattle.security_block.specs.declared.about.About.{About}
use Rattle.node_model.specs.declared.command.Command.{Command}
use Rattle.node_model.specs.declared.input.Input.{Input}
use Rattle.node_model.specs.declared.input.Input.TheVariants as inputs
use Rattle.node_model.specs.declared.input.Outputs.{Outputs}
use Rattle.node_model.specs.Links.{Links, Sent, no_links, with_sent, with_heard, payload_to}

-- what a peer and a client have: its number, whom its certificate is about, its configuration, its
-- links, and how many transaction ids it used, inputs it handled and frames it sent
pub record Node : Type 0 where
  pub number : ℕ
  pub about : About
  pub config : Config
  pub links : Links
  pub ids : ℕ
  pub inputs : ℕ
  pub frames : ℕ

-- a node that did nothing yet
abbrev pub new_node : ℕ → About → Config → Node
new_node number about config = record {
  number = number;
  about = about;
  config = config;
  links = no_links;
  ids = 0;
  inputs = 0;
  frames = 0;
}

-- its Node-ID
abbrev pub me : Node → ℕ
me n = n.about.node.0

-- the number of its overlay
abbrev pub overlay_of : Node → ℕ
overlay_of n = overlay_id n.config.name

-- the id of its next transaction: its number times 2^32, and a counter from 1 (this profile)
abbrev pub next_id : Node → ℕ
next_id n = n.number * 2 ^ 32 + (n.ids + 1)

-- what it handled, sent and used, without the records that a peer holds
abbrev pub work : Node → ℕ
work n = n.inputs + n.frames + n.ids

-- an input more was handled
unfoldable pub counted : Node → Node
counted n = record n { inputs = n.inputs + 1 }

-- what a node is to handle, as a plain value
pub data Cause : Type 0 where
  Framed : (from : NodeId) (bytes : List ℕ) → Cause
  Clocked : Cause
  Commanded : Command → Cause

-- an input as such a value
abbrev pub cause_of : Input → Cause
cause_of (inputs.Frame from bytes) = Framed from bytes.now
cause_of inputs.Clock = Clocked
cause_of (inputs.Command command) = Commanded command

-- what an input makes of a node: the node afterwards, and what it puts out
pub record Step (N : Type 0) : Type 0 where
  pub node : N
  pub outputs : Outputs

-- nothing is put out
abbrev pub silent : Outputs
silent = record { frames = []; notices = [] }

-- a message that a node sends to another one, none where it has no spelling
pub record Post : Type 0 where
  pub to : NodeId
  pub message : Option (List ℕ)

-- a message that is kept with its bytes, of which there are none where it has no spelling
abbrev pub spelling_of : List ℕ → Option (List ℕ)
spelling_of [] = None
spelling_of (b ∷ bs) = Some (b ∷ bs)

-- the frames of what is sent: there is none for a message without a spelling
unfoldable pub frames_of : Links → Option Post → List Sent
frames_of links None = []
frames_of links (Some p) = elim (p.message) [
  | None ↦ []
  | Some message ↦ payload_to p.to message links ∷ []
]

-- the links once it is sent: its sequence is used, also where there is no frame
unfoldable pub links_after : Option Post → Links → Links
links_after None links = links
links_after (Some p) links = with_sent p.to.0 links

-- the frames of messages that are sent one after the other
unfoldable pub frames_of_all : Links → List Post → List Sent
frames_of_all links [] = []
frames_of_all links (p ∷ ps) =
    frames_of links (Some p) ++ frames_of_all (links_after (Some p) links) ps

-- the links once they are sent
unfoldable pub links_after_all : List Post → Links → Links
links_after_all [] links = links
links_after_all (p ∷ ps) links = links_after_all ps (links_after (Some p) links)

-- a node that heard a payload over a link, acked it, and sent what it sends
unfoldable pub node_after : NodeId → ℕ → List Post → Node → Node
node_after from sequence posts n = record n {
  links = with_heard from.0 sequence (links_after_all posts n.links);
  inputs = n.inputs + 1;
  frames = n.frames + 1 + length (frames_of_all n.links posts);
}
