-- The way of an answer: back along the destination list, to the node that asked (RFC 6940, 6.2.2).
use Rattle.std.specs.Prelude.{ℕ, ◌-◌, ◌==◌, Bool, false, not, List, [], ◌∷◌, map, filter, reverse, nat_lt, bit_and, if◌then◌else◌}
use Rattle.reload_ids.specs.declared.NodeId.{NodeId}
use Rattle.forwarding_header.specs.declared.header.Header.{Header}
use Rattle.forwarding_header.specs.declared.destination.Destination.{Destination}
use Rattle.forwarding_header.specs.declared.destination.Destination.TheVariants as to
use Rattle.forwarding_header.specs.declared.forwarding_option.ForwardingOption.{ForwardingOption}
use Rattle.forwarding_header.specs.declared.forwarding_option.TheConstants.{RESPONSE_COPY, OTHER_FLAGS}
use Rattle.node_model.specs.declared.course.AnswerCourse.{AnswerCourse}
use Rattle.node_model.specs.declared.course.AnswerCourse.TheVariants.{Ignored, Passed, Mine}
use Rattle.node_model.specs.declared.limits.TheConstants.{MAX_TTL}
use Rattle.node_model.specs.Heard.{ttl_of}

-- whether a destination is the node with this id
abbrev pub is_node : ℕ → Destination → Bool
is_node id (to.Node node) = node.0 == id
is_node id _ = false

-- behind the node itself: with more destinations the next must be a node, and the TTL over 1
abbrev pub passed : Header → List Destination → AnswerCourse
passed h [] = Mine
passed h (to.Node next ∷ rest) =
    if nat_lt 1 (ttl_of h)
    then Passed next (record h { ttl = ttl_of h - 1; dest = to.Node next ∷ rest })
    else Ignored
passed h (_ ∷ rest) = Ignored

-- the course of an answer by its destination list
abbrev pub answer_by : ℕ → Header → List Destination → AnswerCourse
answer_by me h [] = Ignored
answer_by me h (first ∷ rest) = if is_node me first then passed h rest else Ignored

-- the course of an answer at a node: its first destination must be that node
unfoldable pub answer_course : ℕ → Header → AnswerCourse
answer_course me h = answer_by me h h.dest

-- whether an option has a flag
unfoldable pub has_flag : ℕ → ForwardingOption → Bool
has_flag flag o = not (bit_and o.flags flag == 0)

-- an option with none of the three flags
unfoldable pub cleared : ForwardingOption → ForwardingOption
cleared o = record o { flags = bit_and o.flags OTHER_FLAGS }

-- the options that an answer has of its request: those that are to be copied, with none of the
-- three flags (this profile)
unfoldable pub copied : List ForwardingOption → List ForwardingOption
copied os = map cleared (filter (has_flag RESPONSE_COPY) os)

-- the header of the answer to a request that came over the link from a node; its length is that of
-- nothing yet
unfoldable pub reply_header : NodeId → Header → Header
reply_header from h = record {
  overlay = h.overlay;
  sequence = h.sequence;
  ttl = MAX_TTL;
  length = 0;
  id = h.id;
  max_response = 0;
  via = [];
  dest = to.Node from ∷ reverse h.via;
  options = copied h.options;
}
