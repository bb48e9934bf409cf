-- Destinations: their spelling, and how they are read.
use Rattle.std.specs.Prelude.{ℕ, ◌+◌, ◌*◌, ◌<◌, ◌≤◌, ◌^◌, ◌==◌, List, ◌++◌, length, nat_le, if◌then◌else◌}
use Rattle.std.specs.List.{flat_map}
use Rattle.wire_core.specs.declared.bad.Reason.TheVariants.{BadValue}
use Rattle.wire_core.specs.Spelling.{AreBytes, number, vector}
use Rattle.reload_ids.specs.declared.TheConstants.{ID_LENGTH}
use Rattle.wire_core.specs.declared.limits.TheConstants.{RESOURCE_ID_LENGTH}
use Rattle.wire_core.specs.Ids.{node_id, resource_id, IsNodeIdInRange, IsResourceIdInRange, node_id_at, resource_id_at}
use Rattle.wire_core.specs.Reading.{Reader, ◌>>=◌, ◌>>◌, done, refused, allowed, place_at, left_at, rest_at, number_at, vector_at, sized_at}
use Rattle.forwarding_header.specs.declared.destination.TheConstants.{MAX_OPAQUE, SHORT}
use Rattle.forwarding_header.specs.declared.destination.Destination.{Destination}
use Rattle.forwarding_header.specs.declared.destination.Destination.TheVariants.{Node, Resource, Opaque, Short}

-- a destination's bytes (RFC 6940, 6.3.2.2)
unfoldable pub destination : Destination → List ℕ
destination (Node node) = number 1 1 ++ vector 1 (node_id node)
destination (Resource resource) = number 1 2 ++ vector 1 (resource_id resource)
destination (Opaque bytes) = number 1 3 ++ vector 1 (vector 1 bytes)
destination (Short n) = number 2 n

-- the destinations of a list, one after the other
abbrev pub destinations : List Destination → List ℕ
destinations ds = flat_map destination ds

-- Opaque bytes leave room for the length within the length. A short destination has its top bit
-- set.
abbrev pub IsSpelledDestination : Destination → Type 0
IsSpelledDestination (Node node) = Unit {0}
IsSpelledDestination (Resource resource) = Unit {0}
IsSpelledDestination (Opaque bytes) = length bytes ≤ MAX_OPAQUE
IsSpelledDestination (Short n) = SHORT ≤ n

-- each number fits its field
abbrev pub IsDestinationInRange : Destination → Type 0
IsDestinationInRange (Node node) = IsNodeIdInRange node
IsDestinationInRange (Resource resource) = IsResourceIdInRange resource
IsDestinationInRange (Opaque bytes) = AreBytes bytes
IsDestinationInRange (Short n) = n < 2 ^ 16

-- opaque bytes behind their length, up to the end of the part
unfoldable pub opaque_bytes_at : Reader (List ℕ)
opaque_bytes_at = do
  place ← place_at
  len ← number_at 1
  left ← left_at
  allowed (len == left) place BadValue
  rest_at

-- a node behind its code: its length, any other of which is a bad value, and its id
unfoldable pub node_at : Reader Destination
node_at = do
  node ← sized_at 1 ID_LENGTH node_id_at
  done (Node node)

-- the same for a resource
unfoldable pub resource_at : Reader Destination
resource_at = do
  resource ← sized_at 1 RESOURCE_ID_LENGTH resource_id_at
  done (Resource resource)

-- opaque bytes behind their code: a length that is one more than theirs
unfoldable pub opaque_at : Reader Destination
opaque_at = do
  bytes ← vector_at 1 opaque_bytes_at
  done (Opaque bytes)

-- a short destination behind its first byte
unfoldable pub short_at : ℕ → Reader Destination
short_at high = do
  low ← number_at 1
  done (Short (high * 256 + low))

-- what follows a destination's first byte, which stands at a place
unfoldable pub destination_of : ℕ → ℕ → Reader Destination
destination_of place code =
    if nat_le 128 code then short_at code
    else (if code == 1 then node_at
    else (if code == 2 then resource_at
    else (if code == 3 then opaque_at
    else refused place BadValue)))

-- a destination
unfoldable pub destination_at : Reader Destination
destination_at = do
  place ← place_at
  code ← number_at 1
  destination_of place code
