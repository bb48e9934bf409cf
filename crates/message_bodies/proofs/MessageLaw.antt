-- The contents and the security block of a message are read as they are spelled.
use Rattle.std.proofs.Common.{◌≡◌, ℕ, ◌+◌, List, ◌++◌, length, Ok, sym, ap, ◌∙◌}
use Rattle.wire_core.specs.Part.{Part, part}
use Rattle.wire_core.specs.Layout.{IsLayout}
use Rattle.wire_core.specs.Laws.Steps.{ok_is, pair_is_layout}
use Rattle.security_block.specs.declared.block.SecurityBlock.{SecurityBlock}
use Rattle.security_block.specs.Block.{IsSpelledBlock, IsBlockInRange}
use Rattle.security_block.specs.Laws.Blocks.{block_laid}
use Rattle.data_models.specs.declared.config.Config.{Config}
use Rattle.message_bodies.specs.declared.contents.Contents.{Contents}
use Rattle.message_bodies.specs.Contents.{IsSpelledContents, IsContentsInRange, IsContentsOf}
use Rattle.message_bodies.specs.Messages.{message, message_at, IsSpelledMessage}
use Rattle.message_bodies.specs.Laws.Contents.{contents_laid}

abbrev MessageFits : Config → Contents × SecurityBlock → Type 0
MessageFits config m = (IsSpelledContents m.0 × IsSpelledBlock m.1)
    × ((IsContentsInRange m.0 × IsContentsOf config m.0) × IsBlockInRange m.1)

message_laid : (config : Config) → IsLayout (MessageFits config) (λ m. message m.0 m.1) (message_at config)
message_laid config = pair_is_layout (contents_laid config) block_laid

fits : (config : Config) (c : Contents) (b : SecurityBlock) → IsSpelledMessage config c b → MessageFits config (c, b)
fits config c b m = ((m.is_spelled, m.block_is_spelled), ((m.in_range, m.belongs), m.block_in_range))

pub message_again : (config : Config) (c : Contents) (b : SecurityBlock) (place : ℕ) (rest : List ℕ)
    → IsSpelledMessage config c b
    → message_at config (part place (message c b ++ rest)) ≡ Ok ((c, b), part (place + length (message c b)) rest)
message_again config c b place rest m = (message_laid config).again place (c, b) rest (fits config c b m)

pub one_message : (config : Config) (c d : Contents) (a b : SecurityBlock) (x y : List ℕ)
    → IsSpelledMessage config c a → IsSpelledMessage config d b → message c a ++ x ≡ message d b ++ y
    → (c ≡ d) × (a ≡ b) × (x ≡ y)
one_message config c d a b x y m o e =
    let read = sym (message_again config c a 0 x m) ∙ ap (λ (t : List ℕ). message_at config (part 0 t)) e
    ∙ message_again config d b 0 y o in
    let same = ok_is ((c, a), part (0 + length (message c a)) x) ((d, b), part (0 + length (message d b)) y) read in (
      ap (λ (r : (Contents × SecurityBlock) × Part). r.0.0) same,
      ap (λ (r : (Contents × SecurityBlock) × Part). r.0.1) same,
      ap (λ (r : (Contents × SecurityBlock) × Part). r.1.bytes) same,
    )
