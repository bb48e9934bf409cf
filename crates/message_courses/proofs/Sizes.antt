-- How long headers and destination lists are.
use Rattle.std.proofs.Common.{◌≡◌, ◌+◌, List, [], ◌∷◌, ◌++◌, length, length-append, ap, arith}
use Rattle.std.proofs.lemmas.Grind.{flat_map-append}
use Rattle.wire_core.specs.Laws.Bytes.{length-number}
use Rattle.reload_ids.specs.declared.NodeId.{NodeId}
use Rattle.forwarding_header.specs.declared.header.Header.{Header}
use Rattle.forwarding_header.specs.declared.destination.Destination.{Destination}
use Rattle.forwarding_header.specs.declared.destination.Destination.TheVariants as to
use Rattle.forwarding_header.specs.Destinations.{destination, destinations}
use Rattle.forwarding_header.specs.Options.{options}
use Rattle.forwarding_header.specs.Header.{fixed, lists, header}

-- a header has 38 bytes and its lists
pub length-header : (h : Header) → length (header h)
    ≡ 38 + length (destinations h.via) + length (destinations h.dest) + length (options h.options)
unfolding fixed lists
length-header h = simp (length-append, length-number) (omega arith)

-- a node has 18 bytes as a destination
pub length-node : (n : NodeId) → length (destination (to.Node n)) ≡ 18
unfolding destination
length-node n = simp (length-append, length-number)

-- a via list with one node more
pub length-longer : (via : List Destination) (n : NodeId)
    → length (destinations (via ++ to.Node n ∷ [])) ≡ length (destinations via) + 18
length-longer via n = omega (
  arith,
  length-node n,
  ap length (flat_map-append destination via (to.Node n ∷ [])),
  length-append (destinations via) (destinations (to.Node n ∷ [])),
  length-append (destination (to.Node n)) [],
)
