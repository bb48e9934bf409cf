-- A message that goes on is read as it was, behind its new header.
use Rattle.std.proofs.Common.{◌≡◌, ℕ, ◌≤◌, List, ◌++◌, drop, length, Some, Ok, refl, ap, ◌∙◌}
use Rattle.std.proofs.Transfers.{drop-appended}
use Rattle.wire_core.specs.declared.limits.TheConstants.{MAX_MESSAGE}
use Rattle.wire_core.specs.Part.{part}
use Rattle.wire_core.specs.Reading.{value_of, number_at}
use Rattle.forwarding_header.specs.declared.header.Header.{Header}
use Rattle.forwarding_header.specs.Header.{header, message_at, IsSpelledHeader, IsHeaderInRange}
use Rattle.forwarding_header.proofs.Messages.{message_again}
use Rattle.node_messages.specs.Making.{with_length, whole}
use Rattle.node_messages.proofs.Wholes.{whole_is_message}
use Rattle.node_model.specs.Heard.{Envelope, enveloped, opened, envelope_of}

module _ (h : Header) (e : Envelope) (spelled : IsSpelledHeader h) (in_range : IsHeaderInRange h) (within : length (whole h e.behind) ≤ MAX_MESSAGE) (coded : value_of (number_at 2 (part 0 e.behind)) ≡ Ok e.code) where
  headed : message_at (whole h e.behind) ≡ Ok (with_length h e.behind, length (header (with_length h e.behind)))
  headed = message_again (whole h e.behind) (with_length h e.behind) (whole_is_message h e.behind spelled in_range within)

  left : drop (length (header (with_length h e.behind))) (whole h e.behind) ≡ e.behind
  unfolding whole
  left = drop-appended (header (with_length h e.behind)) (header (with_length h e.behind) ++ e.behind) e.behind refl

  pub read_on : envelope_of (whole h e.behind) ≡ Some (record e { header = with_length h e.behind })
  unfolding envelope_of
  read_on =
      ap (opened (whole h e.behind)) headed
      ∙ ap (λ (behind : List ℕ). enveloped (with_length h e.behind) behind (value_of (number_at 2 (part 0 behind)))) left
      ∙ ap (enveloped (with_length h e.behind) e.behind) coded
