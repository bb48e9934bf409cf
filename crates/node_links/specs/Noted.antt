-- What links know after a payload was heard, and perhaps one was sent.
use Rattle.std.specs.Prelude.{ℕ, Option, Some, None}
use Rattle.reload_ids.specs.declared.NodeId.{NodeId}
use Rattle.node_model.specs.Links.{Links, with_sent, with_heard}

-- a payload was sent to a node, if to any
abbrev pub sent_on : Option NodeId → Links → Links
sent_on None links = links
sent_on (Some to) links = with_sent to.0 links

-- a payload was sent to a node, if to any, and one was heard from a node
abbrev pub noted : NodeId → ℕ → Option NodeId → Links → Links
noted from sequence to links = with_heard from.0 sequence (sent_on to links)
