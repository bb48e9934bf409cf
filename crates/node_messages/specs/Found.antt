-- What bytes are to a node that reads them as a message (RFC 6940, 6.3).
use Rattle.std.specs.Prelude.{◌≡◌, ◌≢◌, ℕ, ◌<◌, ◌^◌, List, ◌++◌, length, Option}
use Rattle.wire_core.specs.declared.signature.Signature.{Signature}
use Rattle.wire_core.specs.Spelling.{number}
use Rattle.data_models.specs.declared.config.Config.{Config}
use Rattle.security_block.specs.declared.about.About.{About}
use Rattle.security_block.specs.declared.certificate.Certificate.{Certificate}
use Rattle.security_block.specs.declared.block.SecurityBlock.{SecurityBlock}
use Rattle.forwarding_header.specs.declared.header.Header.{Header}
use Rattle.forwarding_header.specs.Header.{header, IsMessage}
use Rattle.message_bodies.specs.declared.contents.Contents.{Contents}
use Rattle.message_bodies.specs.Messages.{message, IsSpelledMessage}
use Rattle.node_messages.specs.declared.message.Message.{Message}
use Rattle.node_messages.specs.declared.message.Message.TheVariants as found
use Rattle.node_messages.specs.Signed.{SignerWords, signed, signer_by}

-- They are as long as this header says, and this stands behind it.
pub record IsHeaded (h : Header) (behind bytes : List ℕ) : Type 0 where
  pub is_message : IsMessage h bytes
  pub parts : bytes ≡ header h ++ behind

-- They have no header, or fewer than two bytes behind it.
abbrev pub IsUnspelt : List ℕ → Type 0
IsUnspelt bytes = (h : Header) (behind : List ℕ) → IsHeaded h behind bytes → length behind < 2

-- Behind the header stands this code, but no contents and security block up to the end.
pub record IsBad (config : Config) (h : Header) (code : ℕ) (bytes : List ℕ) : Type 0 where
  pub behind : List ℕ
  pub headed : IsHeaded h behind bytes
  pub in_range : code < 2 ^ 16
  pub coded : (more : List ℕ) × (behind ≡ number 2 code ++ more)
  pub no_parts : (c : Contents) (b : SecurityBlock) → IsSpelledMessage config c b
      → behind ≢ message c b

-- Behind the header stand these contents and this security block, and nothing more.
pub record IsWhole (config : Config) (h : Header) (c : Contents) (b : SecurityBlock)
    (bytes : List ℕ) : Type 0 where
  pub headed : IsHeaded h (message c b) bytes
  pub is_spelled : IsSpelledMessage config c b

-- These bytes are this message, and its signer is whom the signature tells.
abbrev pub IsFound : Config → SignerWords → List ℕ → Message → Type 0
IsFound config words bytes found.Unspelt = IsUnspelt bytes
IsFound config words bytes (found.Bad h code) = IsBad config h code bytes
IsFound config words bytes (found.Whole h c certificates signer) =
    (s : Signature) × let b : SecurityBlock = record { certificates = certificates; signature = s }
    in IsWhole config h c b bytes × (signer ≡ signer_by words (signed h c) b)
