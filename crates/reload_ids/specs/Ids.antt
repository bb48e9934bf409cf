-- Node-IDs and Resource-IDs as numbers below 2^128, and overlays as numbers below 2^32.
use Rattle.std.specs.Prelude.{ℕ, List, take, drop}
use Rattle.std.specs.Int.{w32, w128, from_be_bytes}
use Rattle.sha1.specs.Sha1.{sha1}
use Rattle.reload_ids.specs.declared.TheConstants.{ID_LENGTH}

-- the Resource-ID of a name: as many first bytes of its SHA-1 as an id has, big-endian (RFC 6940,
-- 10.2, at 128 bits)
unfoldable pub resource_id : List ℕ → ℕ
resource_id name = from_be_bytes w128 (take ID_LENGTH (sha1 name))

-- the number of an overlay: the last 4 bytes of the SHA-1 of its name, big-endian (RFC 6940, 6.3.2)
unfoldable pub overlay_id : List ℕ → ℕ
overlay_id name = from_be_bytes w32 (drop 16 (sha1 name))
