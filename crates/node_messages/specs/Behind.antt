-- What is read behind the header of a message.
use Rattle.std.specs.Prelude.{ℕ}
use Rattle.forwarding_header.specs.declared.header.Header.{Header}
use Rattle.node_messages.specs.declared.message.Behind.{Behind}
use Rattle.node_messages.specs.declared.message.Behind.TheVariants as behind
use Rattle.node_messages.specs.declared.message.Message.{Message}
use Rattle.node_messages.specs.declared.message.Message.TheVariants as found

-- the message that has a header, a message code and behind them what was read
abbrev pub message_of : Header → ℕ → Behind → Message
message_of h code behind.Bad = found.Bad h code
message_of h code (behind.Whole contents certificates signer) =
    found.Whole h contents certificates signer
