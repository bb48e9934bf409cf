-- What a node sends of a header and contents.
use Rattle.std.specs.Prelude.{ℕ, ◌+◌, ◌≤◌, List, ◌++◌, length, Option, Some, None}
use Rattle.std.proofs.Math.Decide.{map_dec, dec_le}
use Rattle.wire_core.specs.declared.limits.TheConstants.{MAX_MESSAGE}
use Rattle.security_block.specs.declared.about.About.{About}
use Rattle.security_block.specs.declared.block.SecurityBlock.{SecurityBlock}
use Rattle.security_block.specs.Block.{IsSpelledBlock, IsBlockInRange}
use Rattle.security_block.specs.Signers.{alone}
use Rattle.forwarding_header.specs.declared.header.Header.{Header}
use Rattle.forwarding_header.specs.Header.{header, IsSpelledHeader}
use Rattle.message_bodies.specs.declared.contents.Contents.{Contents}
use Rattle.message_bodies.specs.Contents.{IsSpelledContents}
use Rattle.message_bodies.specs.Messages.{message}
use Rattle.node_messages.specs.Signed.{SignerWords, signed}
use Rattle.node_messages.specs.Laws.Bodies.{contents_spelled}
use Rattle.node_messages.specs.Laws.Decided.{both}
use Rattle.node_messages.specs.Laws.Parts.{header_spelled, block_spelled, block_in_range}

-- a maker's security block: its own certificate, and its signature
unfoldable pub own_block : SignerWords → About → Header → Contents → SecurityBlock
own_block words who h c = record {
  certificates = alone (words.certificate_of who);
  signature = words.signature_of (words.certificate_of who) (signed h c);
}

-- a header whose length is that of the whole message, where this follows it
unfoldable pub with_length : Header → List ℕ → Header
with_length h behind = record h { length = length (header h) + length behind }

-- the bytes of a message with a header whose length is filled in
unfoldable pub whole : Header → List ℕ → List ℕ
whole h behind = header (with_length h behind) ++ behind

-- the bytes of a maker's message
abbrev pub sent : SignerWords → About → Header → Contents → List ℕ
sent words who h c = whole h (message c (own_block words who h c))

-- Each part has a spelling, and the whole is no longer than a message may be.
pub record IsSendable (words : SignerWords) (who : About) (h : Header) (c : Contents) : Type 0 where
  pub header : IsSpelledHeader h
  pub contents : IsSpelledContents c
  pub block : IsSpelledBlock (own_block words who h c)
  pub block_in_range : IsBlockInRange (own_block words who h c)
  pub within : length (sent words who h c) ≤ MAX_MESSAGE

-- whether a message can be sent
unfoldable pub is_sendable : (words : SignerWords) (who : About) (h : Header) (c : Contents)
    → Dec (IsSendable words who h c)
is_sendable words who h c =
    map_dec (λ p. record {
      header = p.0;
      contents = p.1.0;
      block = p.1.1.0;
      block_in_range = p.1.1.1.0;
      within = p.1.1.1.1;
    })
    (λ s. (s.header, (s.contents, (s.block, (s.block_in_range, s.within)))))
    (both (header_spelled h) (both (contents_spelled c)
    (both (block_spelled (own_block words who h c)) (both (block_in_range (own_block words who h c))
    (dec_le (length (sent words who h c)) MAX_MESSAGE)))))

-- bytes that are sent, if they can be
abbrev pub sent_if : {P : Type 0} → Dec P → List ℕ → Option (List ℕ)
sent_if (yes can) bytes = Some bytes
sent_if (no never) bytes = None

-- the bytes that a maker sends for a header and contents, if it can
unfoldable pub made : SignerWords → About → Header → Contents → Option (List ℕ)
made words who h c = sent_if (is_sendable words who h c) (sent words who h c)
