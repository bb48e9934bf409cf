-- What a node reads of a message.
use Rattle.std.specs.Prelude.{ℕ, List, drop, Result, Ok, Err}
use Rattle.wire_core.specs.declared.bad.Bad.{Bad}
use Rattle.wire_core.specs.Part.{part}
use Rattle.wire_core.specs.Reading.{value_of, whole_of, number_at}
use Rattle.data_models.specs.declared.config.Config.{Config}
use Rattle.security_block.specs.declared.block.SecurityBlock.{SecurityBlock}
use Rattle.forwarding_header.specs.declared.header.Header.{Header}
use Rattle.forwarding_header.specs.Header as headers
use Rattle.message_bodies.specs.declared.contents.Contents.{Contents}
use Rattle.message_bodies.specs.Messages as messages
use Rattle.node_messages.specs.declared.message.Message.{Message}
use Rattle.node_messages.specs.declared.message.Message.TheVariants as found
use Rattle.node_messages.specs.Signed.{SignerWords, signed, signer_by}

-- the parts of a message behind its header, and who signed it; or that they have a fault
abbrev pub read_parts : SignerWords → Header → ℕ → Result (Contents × SecurityBlock) Bad → Message
read_parts words h code (Ok parts) =
    found.Whole h parts.0 parts.1.certificates (signer_by words (signed h parts.0) parts.1)
read_parts words h code (Err fault) = found.Bad h code

-- what is behind a header, which begins with a message code
abbrev pub read_coded : Config → SignerWords → Header → List ℕ → Result ℕ Bad → Message
read_coded config words h behind (Ok code) =
    read_parts words h code (whole_of (messages.message_at config) behind)
read_coded config words h behind (Err fault) = found.Unspelt

-- a message whose header was read, or has a fault
abbrev pub read_headed : Config → SignerWords → List ℕ → Result (Header × ℕ) Bad → Message
read_headed config words bytes (Ok headed) =
    let behind = drop headed.1 bytes in
    read_coded config words headed.0 behind (value_of (number_at 2 (part 0 behind)))
read_headed config words bytes (Err fault) = found.Unspelt

-- what a node with a configuration reads of the bytes of a message
unfoldable pub read : Config → SignerWords → List ℕ → Message
read config words bytes = read_headed config words bytes (headers.message_at bytes)
