-- The links of a node (RFC 6940, 6.6): what was sent and heard over each.
use Rattle.std.specs.Prelude.{ℕ, zero, suc, ◌+◌, ◌-◌, ◌^◌, min, List, unwrap_or, if◌then◌else◌}
use Rattle.std.specs.Ordering.{nat_cmp}
use Rattle.std.specs.FinMap.{FinMap, get, insert, empty}
use Rattle.std.specs.FinSet as set
use Rattle.reload_ids.specs.declared.NodeId.{NodeId}
use Rattle.link_framing.specs.declared.frame.Frame.TheVariants.{Payload, Ack}
use Rattle.link_framing.specs.Framing.{frame}
use Rattle.link_framing.specs.Acked.{heard_before}

-- by Node-ID the sequence of the last payload that was sent there, and the sequences of those that
-- were heard from there
pub record Links : Type 0 where
  pub sent : FinMap nat_cmp ℕ
  pub heard : FinMap nat_cmp (set.FinSet nat_cmp)

-- nothing was sent or heard
abbrev pub no_links : Links
no_links = record { sent = empty; heard = empty }

-- the sequences that were heard from a node
abbrev pub heard_from : Links → ℕ → set.FinSet nat_cmp
heard_from links from = unwrap_or (get links.heard from) set.empty

-- the sequence of the next payload to a node: they count from 1, and stay at the greatest
unfoldable pub next_sequence : Links → ℕ → ℕ
next_sequence links to = min (unwrap_or (get links.sent to) 0 + 1) (2 ^ 32 - 1)

-- the next payload to a node took its sequence
unfoldable pub with_sent : ℕ → Links → Links
with_sent to links = record links { sent = insert links.sent to (next_sequence links to) }

-- a payload from a node was heard
unfoldable pub with_heard : ℕ → ℕ → Links → Links
with_heard from sequence links =
    record links { heard = insert links.heard from (set.insert (heard_from links from) sequence) }

-- the bits of an ack's mask up to bit k, and none at 0
unfoldable pub mask_up_to : set.FinSet nat_cmp → ℕ → ℕ → ℕ
mask_up_to heard n zero = 0
mask_up_to heard n (suc k) =
    mask_up_to heard n k + (if heard_before heard n (suc k) then 2 ^ suc k else 0)

-- an ack's mask: bit k, 1 to 31, is set exactly where the payload k before it was heard (this
-- profile)
abbrev pub mask_of : set.FinSet nat_cmp → ℕ → ℕ
mask_of heard n = mask_up_to heard n 31

-- a frame for a node
abbrev pub Sent : Type 0
Sent = NodeId × List ℕ

-- the ack of a payload that was heard from a node
unfoldable pub ack_to : NodeId → ℕ → Links → Sent
ack_to from sequence links =
    (from, frame (Ack sequence (mask_of (heard_from links from.0) sequence)))

-- the payload in which a message goes to a node
unfoldable pub payload_to : NodeId → List ℕ → Links → Sent
payload_to to message links = (to, frame (Payload (next_sequence links to.0) message))
