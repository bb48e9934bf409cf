-- A message that is put together of its parts.
use Rattle.std.specs.Prelude.{◌≡◌, ℕ, ◌<◌, ◌≤◌, ◌⊎◌, List, ◌++◌, length, Option, Some, None}
use Rattle.wire_core.specs.declared.limits.TheConstants.{MAX_MESSAGE}
use Rattle.security_block.specs.declared.block.SecurityBlock.{SecurityBlock}
use Rattle.security_block.specs.Block.{block, IsSpelledBlock}
use Rattle.forwarding_header.specs.declared.header.Header.{Header}
use Rattle.node_messages.specs.Making.{whole}

-- These are the bytes of a message with spelled contents, or there are none, as its block has no
-- spelling or all of it is too long.
abbrev pub IsAssembled : Header → List ℕ → SecurityBlock → Option (List ℕ) → Type 0
IsAssembled h contents b (Some bytes) =
    IsSpelledBlock b × (bytes ≡ whole h (contents ++ block b)) × (length bytes ≤ MAX_MESSAGE)
IsAssembled h contents b None =
    (¬ IsSpelledBlock b) ⊎ (MAX_MESSAGE < length (whole h (contents ++ block b)))
