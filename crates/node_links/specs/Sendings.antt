-- What a node sends, and the front of the frame in which it goes.
use Rattle.std.specs.Prelude.{ℕ, ◌≤◌, List, ◌++◌, length, Option, Some, None, IfSome}
use Rattle.wire_core.specs.Spelling.{number}
use Rattle.wire_core.specs.declared.limits.TheConstants.{MAX_MESSAGE}
use Rattle.reload_ids.specs.declared.NodeId.{NodeId}
use Rattle.forwarding_header.specs.Header.{IsSpelledHeader}
use Rattle.node_messages.specs.Making.{whole}
use Rattle.node_model.specs.Nodes.{Post, spelling_of}
use Rattle.node_links.specs.declared.sending.Sending.{Sending}
use Rattle.node_links.specs.declared.sending.Sending.TheVariants.{Made, Kept, Onward}

-- a message that is for a node
abbrev pub posted : NodeId → Option (List ℕ) → Post
posted to message = record { to = to; message = message }

-- what is sent, as a plain value
abbrev pub post_of : Sending → Post
post_of (Made to message) = posted to message
post_of (Kept to bytes) = posted to (spelling_of bytes.now)
post_of (Onward to header behind) = posted to (Some (whole header behind.now))

-- the node that something is for
abbrev pub receiver_of : Option Post → Option NodeId
receiver_of None = None
receiver_of (Some post) = Some post.to

-- Its message, if it has one, isn't too large, and a header that is passed on has a spelling.
abbrev pub IsSending : Sending → Type 0
IsSending (Made to message) = IfSome message (λ m. length m ≤ MAX_MESSAGE)
IsSending (Kept to bytes) = length bytes.now ≤ MAX_MESSAGE
IsSending (Onward to header behind) =
    IsSpelledHeader header × (length (whole header behind.now) ≤ MAX_MESSAGE)

-- what stands in front of a payload's message of so many bytes (RFC 6940, 6.6.2)
unfoldable pub payload_front : ℕ → ℕ → List ℕ
payload_front sequence len = number 1 128 ++ (number 4 sequence ++ number 3 len)
