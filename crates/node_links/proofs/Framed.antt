-- The frames of what a node sends, and what is counted of them.
use Rattle.std.proofs.Common.{◌≡◌, ℕ, ◌≤◌, List, ◌++◌, length, refl, ap, ◌∙◌, append_assoc, arith}
use Rattle.std.specs.Prelude.{Option, Some, None}
use Rattle.wire_core.specs.Spelling.{number}
use Rattle.link_framing.specs.declared.frame.Frame.TheVariants.{Payload}
use Rattle.link_framing.specs.Framing.{frame}
use Rattle.forwarding_header.specs.declared.header.Header.{Header}
use Rattle.forwarding_header.specs.Header.{header, IsSpelledHeader}
use Rattle.node_messages.specs.Making.{with_length, whole}
use Rattle.node_messages.proofs.Wholes.{with_length-whole}
use Rattle.node_model.specs.Links.{Links}
use Rattle.node_model.specs.Nodes.{Post, frames_of, links_after}
use Rattle.node_links.specs.Noted.{sent_on}
use Rattle.node_links.specs.Sendings.{receiver_of, payload_front}

-- a front and a message are a frame
pub framed : (sequence : ℕ) (message : List ℕ) → payload_front sequence (length message) ++ message ≡ frame (Payload sequence message)
unfolding payload_front frame
framed sequence message =
    let code = number 1 128 in
    let place = number 4 sequence in
    let size = number 3 (length message) in
    append_assoc code (place ++ size) message ∙ ap (λ t. code ++ t) (append_assoc place size message)

-- so are a front, a header and what follows it
pub framed_whole : (sequence : ℕ) (h : Header) (behind : List ℕ) → (payload_front sequence (with_length h behind).length ++ header (with_length h behind)) ++ behind ≡ frame (Payload sequence (whole h behind))
unfolding whole
framed_whole sequence h behind =
    append_assoc (payload_front sequence (with_length h behind).length) (header (with_length h behind)) behind
    ∙ ap (λ n. payload_front sequence n ++ (header (with_length h behind) ++ behind)) (with_length-whole h behind)
    ∙ framed sequence (whole h behind)

pub spelled_with_length : (h : Header) (behind : List ℕ) → IsSpelledHeader h → IsSpelledHeader (with_length h behind)
unfolding with_length
spelled_with_length h behind s = record { each_via = s.each_via; each_dest = s.each_dest; each_option = s.each_option; via_length = s.via_length; dest_length = s.dest_length; options_length = s.options_length }

-- one frame leaves at the most
few_for : (links : Links) (post : Post) → length (frames_of links (Some post)) ≤ 1
unfolding frames_of
few_for links post = elim post.message as (λ m. length (frames_of links (Some (record post { message = m }))) ≤ 1) [
  | None ↦ omega arith
  | Some message ↦ omega arith
]

pub few_frames : (links : Links) (post : Option Post) → length (frames_of links post) ≤ 1
unfolding frames_of
few_frames links None = omega arith
few_frames links (Some post) = few_for links post

-- the links once it is sent
pub sent_after : (post : Option Post) (links : Links) → sent_on (receiver_of post) links ≡ links_after post links
unfolding links_after
sent_after None links = refl
sent_after (Some post) links = refl
