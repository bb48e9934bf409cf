-- What a peer makes of a message, by the case that it is.
use Rattle.std.proofs.Common.{◌≡◌, ℕ, true, false, List, [], Option, Some, Ok, length, ap, sym, ◌∙◌}
use Rattle.std.specs.Prelude.{if◌then◌else◌}
use Rattle.std.specs.List.{list_any}
use Rattle.std.specs.Option.{option_map_or}
use Rattle.reload_ids.specs.declared.NodeId.{NodeId}
use Rattle.reload_ids.specs.declared.ResourceId.{ResourceId}
use Rattle.forwarding_header.specs.declared.forwarding_option.TheConstants.{DESTINATION_CRITICAL}
use Rattle.node_messages.specs.declared.message.Message.{Message}
use Rattle.node_messages.specs.Reading.{read_coded}
use Rattle.node_messages.specs.Signed.{SignerWords}
use Rattle.storage_model.specs.declared.refusal.Refusal.TheVariants.{UnsupportedForwardingOption}
use Rattle.node_model.specs.Heard.{Envelope, heard_in, is_answer, message_in}
use Rattle.node_model.specs.Ways.{has_flag, answer_course}
use Rattle.node_model.specs.Courses.{course}
use Rattle.node_model.specs.Askings.{is_decided}
use Rattle.node_model.specs.Replies.{refusal_of}
use Rattle.node_model.specs.Nodes.{me}
use Rattle.node_model.specs.Peers.{Peer, state_of, sends, refuses, decides, handled, by_course, by_answer_course, reaction, reaction_to}

module _ (words : SignerWords) (p : Peer) (now : ℕ) (from : NodeId) where
  reacts : (message : List ℕ) (e : Envelope) → heard_in p.node.config message ≡ Some e → reaction_to words p now from message ≡ reaction words p now from (length message) e
  unfolding reaction_to
  reacts message e is = ap (λ o. option_map_or (reaction words p now from (length message)) o (sends p [])) is

  -- a message that is an answer
  pub reacts_to_answer : (message : List ℕ) (e : Envelope) → heard_in p.node.config message ≡ Some e → is_answer e ≡ true → reaction_to words p now from message ≡ by_answer_course words p now from e (answer_course (me p.node) e.header)
  unfolding reaction
  reacts_to_answer message e is so =
      reacts message e is
      ∙ ap (λ b. if b then by_answer_course words p now from e (answer_course (me p.node) e.header) else by_course words p now from e (course from p.tables (state_of p.membership) (length message) e.header)) so

  -- a message that is a request
  pub reacts_to_request : (message : List ℕ) (e : Envelope) → heard_in p.node.config message ≡ Some e → is_answer e ≡ false
      → reaction_to words p now from message ≡ by_course words p now from e (course from p.tables (state_of p.membership) (length message) e.header)
  unfolding reaction
  reacts_to_request message e is so =
      reacts message e is
      ∙ ap (λ b. if b then by_answer_course words p now from e (answer_course (me p.node) e.header) else by_course words p now from e (course from p.tables (state_of p.membership) (length message) e.header)) so

  handled_some : (e : Envelope) (resource : ResourceId) (m : Message) → list_any (has_flag DESTINATION_CRITICAL) e.header.options ≡ false → is_decided e.code ≡ true
      → m ≡ read_coded p.node.config words e.header e.behind (Ok e.code) → handled words p now from (Some resource) e ≡ decides words p now from e.header resource m
  unfolding handled message_in
  handled_some e resource m none decided is =
      let M = read_coded p.node.config words e.header e.behind (Ok e.code) in
      ap (λ b. if b then refuses words p from e.header UnsupportedForwardingOption else (if is_decided e.code then decides words p now from e.header resource M else refuses words p from e.header (refusal_of M))) none
      ∙ ap (λ b. if b then decides words p now from e.header resource M else refuses words p from e.header (refusal_of M)) decided
      ∙ ap (λ (x : Message). decides words p now from e.header resource x) (sym is)

  -- a request that is decided
  pub handled_decides : (e : Envelope) (asked : Option ResourceId) (resource : ResourceId) (m : Message) → asked ≡ Some resource → list_any (has_flag DESTINATION_CRITICAL) e.header.options ≡ false → is_decided e.code ≡ true
      → m ≡ read_coded p.node.config words e.header e.behind (Ok e.code) → handled words p now from asked e ≡ decides words p now from e.header resource m
  handled_decides e asked resource m some none decided is = ap (λ o. handled words p now from o e) some ∙ handled_some e resource m none decided is
