-- The lines of a listing, without the line feeds that end them (this profile).
use Rattle.std.specs.Prelude.{ℕ, List, ◌++◌, length, codes}
use Rattle.std.specs.Fmt.{decimal}
use Rattle.text_words.specs.Hex.{number_in_hex}
use Rattle.text_words.specs.Transaction.{transaction_text}
use Rattle.wire_core.specs.declared.bad.Bad.{Bad}
use Rattle.wire_core.specs.declared.signature.SignerIdentity.{SignerIdentity}
use Rattle.wire_core.specs.declared.signature.SignerIdentity.TheVariants as signers
use Rattle.forwarding_header.specs.declared.header.Header.{Header}
use Rattle.message_bodies.specs.declared.contents.Contents.{Contents}
use Rattle.message_bodies.specs.Bodies.{code_of, bytes_of}
use Rattle.security_block.specs.declared.block.SecurityBlock.{SecurityBlock}
use Rattle.frame_listing.specs.declared.label.Label.{Label}
use Rattle.frame_listing.specs.declared.label.Label.TheVariants as labels
use Rattle.frame_listing.specs.Texts.{text_of, name_of}

-- a decimal behind its label
unfoldable pub field : Label → ℕ → List ℕ
field label n = text_of label ++ decimal n

-- frame PLACE payload SEQ LENGTH
unfoldable pub payload_line : ℕ → ℕ → ℕ → List ℕ
payload_line place sequence length =
    field labels.Frame place ++ field labels.Payload sequence ++ codes " " ++ decimal length

-- frame PLACE ack SEQ MASK
unfoldable pub ack_line : ℕ → ℕ → ℕ → List ℕ
ack_line place sequence received =
    field labels.Frame place ++ field labels.Ack sequence
    ++ codes " " ++ number_in_hex received

-- seq=N ttl=N length=N id=H.L max=N
unfoldable pub fixed_fields : Header → List ℕ
fixed_fields h =
    field labels.Sequence h.sequence ++ field labels.TimeToLive h.ttl
    ++ field labels.Length h.length ++ text_of labels.Transaction ++ transaction_text h.id
    ++ field labels.MaxResponse h.max_response

-- the numbers of a header's entries: via=N dest=N options=N
unfoldable pub entry_fields : Header → List ℕ
entry_fields h =
    field labels.Via (length h.via) ++ field labels.Destination (length h.dest)
    ++ field labels.Options (length h.options)

-- message overlay=HEX seq=N ttl=N length=N id=H.L max=N via=N dest=N options=N
unfoldable pub message_line : Header → List ℕ
message_line h =
    text_of labels.Message ++ number_in_hex h.overlay ++ fixed_fields h ++ entry_fields h

-- contents code=N body=LENGTH extensions=N
unfoldable pub contents_line : Contents → List ℕ
contents_line c =
    field labels.Contents (code_of c.body) ++ field labels.Body (length (bytes_of c.body))
    ++ field labels.Extensions (length c.extensions)

-- the byte that says which identity it is
unfoldable pub type_of : SignerIdentity → ℕ
type_of (signers.CertHash alg hash) = 1
type_of (signers.CertHashNodeId alg hash) = 2
type_of signers.None = 3

-- security certificates=N identity=N value=LENGTH
unfoldable pub security_line : SecurityBlock → List ℕ
security_line b =
    field labels.Security (length b.certificates)
    ++ field labels.Identity (type_of b.signature.identity)
    ++ field labels.Value (length b.signature.value)

-- end FRAMES BYTES
unfoldable pub end_line : ℕ → ℕ → List ℕ
end_line frames bytes = field labels.End frames ++ codes " " ++ decimal bytes

-- bad PLACE REASON
unfoldable pub fault_line : Bad → List ℕ
fault_line fault = field labels.Bad fault.place ++ codes " " ++ name_of fault.reason
