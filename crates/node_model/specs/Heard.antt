-- What a node hears in the bytes that come over a link (RFC 6940, 6.6 and 6.3.2).
use Rattle.std.specs.Prelude.{ℕ, ◌==◌, ◌&&◌, ◌||◌, ◌%◌, Bool, List, length, drop, min, nat_le, Option, Some, None, Result, Ok, Err, if◌then◌else◌}
use Rattle.std.specs.Option.{option_and_then}
use Rattle.wire_core.specs.declared.bad.Bad.{Bad}
use Rattle.wire_core.specs.Part.{part}
use Rattle.wire_core.specs.Reading.{value_of, whole_of, number_at}
use Rattle.reload_ids.specs.Ids.{overlay_id}
use Rattle.data_models.specs.declared.config.Config.{Config}
use Rattle.link_framing.specs.declared.frame.Frame.{Frame}
use Rattle.link_framing.specs.declared.frame.Frame.TheVariants.{Payload, Ack}
use Rattle.link_framing.specs.Reading.{frame_at}
use Rattle.forwarding_header.specs.declared.header.Header.{Header}
use Rattle.forwarding_header.specs.Destinations.{destinations}
use Rattle.forwarding_header.specs.Header as headers
use Rattle.message_bodies.specs.declared.code.TheConstants.{ERROR}
use Rattle.node_messages.specs.declared.message.Message.{Message}
use Rattle.node_messages.specs.Signed.{SignerWords}
use Rattle.node_messages.specs.Reading.{read_coded}
use Rattle.node_model.specs.declared.limits.TheConstants.{MAX_TTL, MAX_VIA}

-- the sequence and the message of a payload
abbrev pub carried : Result Frame Bad → Option (ℕ × List ℕ)
carried (Ok (Payload sequence message)) = Some (sequence, message)
carried (Ok (Ack sequence received)) = None
carried (Err fault) = None

-- the payload that bytes are, where they are exactly one frame and no ack
unfoldable pub payload_in : List ℕ → Option (ℕ × List ℕ)
payload_in bytes = carried (whole_of frame_at bytes)

-- a message that is addressed: its header, the message code behind it, and all that is behind the
-- header
pub record Envelope : Type 0 where
  pub header : Header
  pub code : ℕ
  pub behind : List ℕ

-- what is behind a header, where it begins with a message code
abbrev pub enveloped : Header → List ℕ → Result ℕ Bad → Option Envelope
enveloped h behind (Ok code) = Some (record { header = h; code = code; behind = behind })
enveloped h behind (Err fault) = None

-- the envelope of a message whose header was read, or has a fault
abbrev pub opened : List ℕ → Result (Header × ℕ) Bad → Option Envelope
opened message (Ok headed) =
    let behind = drop headed.1 message in
    enveloped headed.0 behind (value_of (number_at 2 (part 0 behind)))
opened message (Err fault) = None

-- the envelope that a message is, where it has a header and a message code behind it
unfoldable pub envelope_of : List ℕ → Option Envelope
envelope_of message = opened message (headers.message_at message)

-- whether a message is one of this overlay, and didn't come too long a way
unfoldable pub is_ours : Config → Envelope → Bool
is_ours config e =
    (e.header.overlay == overlay_id config.name)
    && nat_le (length (destinations e.header.via)) MAX_VIA

-- the message that a node looks at further, if it does
unfoldable pub heard_in : Config → List ℕ → Option Envelope
heard_in config message =
    option_and_then (λ e. if is_ours config e then Some e else None) (envelope_of message)

-- answers have even codes, or that of an error
abbrev pub is_answer : Envelope → Bool
is_answer e = (e.code % 2 == 0) || (e.code == ERROR)

-- the TTL that counts
abbrev pub ttl_of : Header → ℕ
ttl_of h = min h.ttl MAX_TTL

-- what a node reads in a message that is for it
unfoldable pub message_in : Config → SignerWords → Envelope → Message
message_in config words e = read_coded config words e.header e.behind (Ok e.code)
