-- What is listed of a message and its frame: a line for each part, up to the first fault.
use Rattle.std.specs.Prelude.{ℕ, ◌+◌, List, [], ◌++◌, length, drop, codes, Some, None, Result, Ok, Err}
use Rattle.std.specs.Option.{option_map}
use Rattle.text_words.specs.Lines.{ended}
use Rattle.wire_core.specs.declared.bad.Bad.{Bad}
use Rattle.wire_core.specs.Part.{Part, part}
use Rattle.wire_core.specs.Reading as reading
use Rattle.data_models.specs.declared.config.Config.{Config}
use Rattle.forwarding_header.specs.declared.header.Header.{Header}
use Rattle.forwarding_header.specs.Header.{message_at}
use Rattle.message_bodies.specs.Contents.{contents_at}
use Rattle.security_block.specs.Block.{block_at}
use Rattle.link_framing.specs.declared.frame.Frame.{Frame}
use Rattle.link_framing.specs.declared.frame.Frame.TheVariants.{Payload, Ack}
use Rattle.frame_listing.specs.declared.listing.Listing.{Listing}
use Rattle.frame_listing.specs.Lines.{payload_line, ack_line, message_line, contents_line, security_line}

-- a configuration to which all kinds are unknown
unfoldable pub no_kinds : Config
no_kinds = record { name = codes "show"; sequence = 1; replicas = 0; kinds = [] }

-- the line of what was read and then what follows, or the fault
abbrev pub listed : {A : Type 0} → Result (A × Part) Bad → (A → List ℕ) → (Part → Listing) → Listing
listed (Ok x) line next = record {
  text = ended (line x.0) ++ (next x.1).text;
  fault = (next x.1).fault;
}
listed (Err bad) line next = record { text = []; fault = Some bad }

-- no more lines, but a fault where bytes are left
abbrev pub filled : Result (Unit {0} × Part) Bad → Listing
filled (Ok x) = record { text = []; fault = None }
filled (Err bad) = record { text = []; fault = Some bad }

-- a message's header and what is behind it, or the fault of the header
abbrev pub headed : List ℕ → Result (Header × ℕ) Bad → Result (Header × Part) Bad
headed bytes (Ok x) = Ok (x.0, part x.1 (drop x.1 bytes))
headed bytes (Err bad) = Err bad

-- what is listed of a message: its header, its contents and its security block
unfoldable pub message_listing : List ℕ → Listing
message_listing bytes =
    listed (headed bytes (message_at bytes)) message_line (λ p.
    listed (contents_at no_kinds p) contents_line (λ q.
    listed (block_at q) security_line (λ r. filled (reading.ended r))))

-- a fault of what stands at a place, by its place there
abbrev pub from : ℕ → Bad → Bad
from place fault = record fault { place = place + fault.place }

-- what is listed of a frame that stands at a place
abbrev pub frame_listing : ℕ → Frame → Listing
frame_listing place (Payload sequence message) = record {
  text = ended (payload_line place sequence (length message)) ++ (message_listing message).text;
  fault = option_map (from (place + 8)) (message_listing message).fault;
}
frame_listing place (Ack sequence received) = record {
  text = ended (ack_line place sequence received);
  fault = None;
}
