-- What a node counts, and what becomes of it.
use Rattle.std.proofs.Common.{◌≡◌, ℕ, ◌+◌, ◌≤◌, List, ◌∷◌, length, refl, sym, ap, ◌∙◌, arith}
use Rattle.std.proofs.lemmas.List.{append-nil}
use Rattle.std.specs.Prelude.{Option, Some, None, option_to_list}
use Rattle.reload_ids.specs.declared.NodeId.{NodeId}
use Rattle.node_model.specs.Links.{Links, Sent, with_sent, with_heard, ack_to}
use Rattle.node_model.specs.Nodes.{Node, Post, frames_of, frames_of_all, links_after, links_after_all, node_after}
use Rattle.node_model.specs.Clients.{node_asking}
use Rattle.node_links.specs.Kept.{node_of}
use Rattle.node_links.specs.Noted.{noted}
use Rattle.node_links.specs.Sendings.{receiver_of}
use Rattle.node_links.proofs.Framed.{few_frames, sent_after}

-- so many frames leave
pub few_asked : (fs : List Sent) (len : ℕ) (links : Links) (post : Post) → fs ≡ frames_of links (Some post) → len ≡ length fs → len ≤ 1
few_asked fs len links post is count = omega (arith, ap length is, count, few_frames links (Some post))

-- what is sent, if anything is
pub frames_alone : (links : Links) (post : Option Post) → frames_of links post ≡ frames_of_all links (option_to_list post)
unfolding frames_of frames_of_all
frames_alone links None = refl
frames_alone links (Some post) = sym (append-nil (frames_of links (Some post)))

links_alone : (links : Links) (post : Option Post) → links_after post links ≡ links_after_all (option_to_list post) links
unfolding links_after links_after_all
links_alone links None = refl
links_alone links (Some post) = refl

pub few_heard : (fs : List Sent) (len : ℕ) (ack : Sent) (links : Links) (post : Option Post) → fs ≡ ack ∷ frames_of_all links (option_to_list post) → len ≡ length fs → len ≤ 2
few_heard fs len ack links post is count = omega (arith, ap length is, count, ap length (frames_alone links post), few_frames links post)

pub asked : (n : Node) (post : Post) (links : Links) (fs : List Sent) (len : ℕ) → links ≡ with_sent post.to.0 n.links → fs ≡ frames_of n.links (Some post) → len ≡ length fs
    → node_of n.number n.about n.config links (n.ids + 1) (n.inputs + 1) (n.frames + len) ≡ node_asking post n
unfolding node_asking links_after
asked n post links fs len sent is count =
    ap (λ l. node_of n.number n.about n.config l (n.ids + 1) (n.inputs + 1) (n.frames + len)) sent
    ∙ ap (λ k. node_of n.number n.about n.config (with_sent post.to.0 n.links) (n.ids + 1) (n.inputs + 1) (n.frames + k)) (count ∙ ap length is)

pub heard : (n : Node) (from : NodeId) (sequence : ℕ) (post : Option Post) (to : Option NodeId) (links : Links) (fs : List Sent) (len : ℕ)
    → to ≡ receiver_of post → links ≡ noted from sequence to n.links → fs ≡ ack_to from sequence n.links ∷ frames_of_all n.links (option_to_list post) → len ≡ length fs
    → node_of n.number n.about n.config links n.ids (n.inputs + 1) (n.frames + len) ≡ node_after from sequence (option_to_list post) n
unfolding node_after
heard n from sequence post to links fs len for known is count =
    let left : n.frames + len ≡ n.frames + 1 + length (frames_of_all n.links (option_to_list post)) = omega (arith, ap length is, count) in
    let after : links ≡ with_heard from.0 sequence (links_after_all (option_to_list post) n.links) = known ∙ ap (λ t. noted from sequence t n.links) for ∙ ap (with_heard from.0 sequence) (sent_after post n.links ∙ links_alone n.links post) in
    ap (λ l. node_of n.number n.about n.config l n.ids (n.inputs + 1) (n.frames + len)) after
    ∙ ap (λ k. node_of n.number n.about n.config (with_heard from.0 sequence (links_after_all (option_to_list post) n.links)) n.ids (n.inputs + 1) k) left
