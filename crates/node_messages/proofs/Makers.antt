-- What is made is read as its maker's.
use Rattle.std.proofs.Common.{◌≡◌, ℕ, Bool, true, List, length, Option, Some, refl, sym, ap, subst, ◌∙◌}
use Rattle.security_block.specs.declared.about.About.{About}
use Rattle.security_block.specs.declared.certificate.Certificate.{Certificate}
use Rattle.security_block.specs.declared.block.SecurityBlock.{SecurityBlock}
use Rattle.security_block.specs.Signers.{alone}
use Rattle.security_block.proofs.OwnSignature.{signer_among-alone}
use Rattle.data_models.specs.declared.config.Config.{Config}
use Rattle.forwarding_header.specs.declared.header.Header.{Header}
use Rattle.forwarding_header.specs.Header.{IsHeaderInRange}
use Rattle.message_bodies.specs.declared.contents.Contents.{Contents}
use Rattle.message_bodies.specs.Contents.{IsContentsInRange, IsContentsOf}
use Rattle.message_bodies.specs.Messages as messages
use Rattle.node_messages.specs.declared.message.Message.{Message}
use Rattle.node_messages.specs.declared.message.Message.TheVariants as found
use Rattle.node_messages.specs.Signed.{SignerWords, signed, signer_by}
use Rattle.node_messages.specs.Making.{own_block, with_length, whole, sent, IsSendable, made}
use Rattle.node_messages.specs.Reading.{read}
use Rattle.node_messages.specs.Found.{IsWhole}
use Rattle.node_messages.proofs.Readers.{whole_read}
use Rattle.node_messages.proofs.Wholes.{with_length-whole, made-some, whole_is_message}

-- who signed what a maker signs, where its signature verifies
signer-own : (words : SignerWords) (who : About) (h : Header) (c : Contents) (behind : List ℕ)
    → words.verifies (words.certificate_of who) (signed h c) (words.signature_of (words.certificate_of who) (signed h c)) ≡ true → words.about_of (words.certificate_of who) ≡ Some who
    → signer_by words (signed (with_length h behind) c) (own_block words who h c) ≡ Some who
unfolding signer_by signed own_block with_length
signer-own words who h c behind verifies about = signer_among-alone _ words.about_of (words.certificate_of who) verifies ∙ about

-- what is sent is whole, and its maker's wherever its signature verifies
sent_whole : (config : Config) (words : SignerWords) (who : About) (h : Header) (c : Contents) → IsHeaderInRange h → IsContentsInRange c → IsContentsOf config c → IsSendable words who h c
    → IsWhole config (with_length h (messages.message c (own_block words who h c))) c (own_block words who h c) (sent words who h c)
unfolding whole
sent_whole config words who h c r in_range belongs can = record {
  headed = record { is_message = whole_is_message h (messages.message c (own_block words who h c)) can.header r can.within; parts = refl };
  is_spelled = record { is_spelled = can.contents; in_range = in_range; belongs = belongs; block_is_spelled = can.block; block_in_range = can.block_in_range };
}

-- what a maker sends is read as its maker's, wherever its signature verifies
own_read : (config : Config) (words : SignerWords) (who : About) (h : Header) (c : Contents) → IsHeaderInRange h → IsContentsInRange c → IsContentsOf config c
    → words.verifies (words.certificate_of who) (signed h c) (words.signature_of (words.certificate_of who) (signed h c)) ≡ true → words.about_of (words.certificate_of who) ≡ Some who
    → IsSendable words who h c
    → read config words (sent words who h c) ≡ found.Whole (record h { length = length (sent words who h c) }) c (alone (words.certificate_of who)) (Some who)
unfolding own_block with_length
own_read config words who h c r in_range belongs verifies about can =
    let b = own_block words who h c in
    let behind = messages.message c b in
    whole_read config words (sent words who h c) (with_length h behind) c b (Some who) (sent_whole config words who h c r in_range belongs can) (sym (signer-own words who h c behind verifies about))
    ∙ ap (λ (n : ℕ). found.Whole (record h { length = n }) c b.certificates (Some who)) (with_length-whole h behind)

pub made_read : (config : Config) (words : SignerWords) (who : About) (h : Header) (c : Contents) (bytes : List ℕ) → IsHeaderInRange h → IsContentsInRange c → IsContentsOf config c
    → words.verifies (words.certificate_of who) (signed h c) (words.signature_of (words.certificate_of who) (signed h c)) ≡ true → words.about_of (words.certificate_of who) ≡ Some who
    → made words who h c ≡ Some bytes
    → read config words bytes ≡ found.Whole (record h { length = length bytes }) c (alone (words.certificate_of who)) (Some who)
made_read config words who h c bytes r in_range belongs verifies about e =
    let m = made-some words who h c bytes e in
    let P : List ℕ → Type 0 = λ t. read config words t ≡ found.Whole (record h { length = length t }) c (alone (words.certificate_of who)) (Some who) in
    subst P m.1 (own_read config words who h c r in_range belongs verifies about m.0)

-- a message is read as one
pub read_as_one : (m : Message) (n : ℕ) (who other : About) (h k : Header) (c d : Contents) (cs ds : List Certificate)
    → m ≡ found.Whole (record h { length = n }) c cs (Some who) → m ≡ found.Whole (record k { length = n }) d ds (Some other) → (who ≡ other) × (record h { length = 0 } ≡ record k { length = 0 }) × (c ≡ d)
read_as_one m n who other h k c d cs ds e f =
    let maker : who ≡ other = cc in
    let headed : record h { length = n } ≡ record k { length = n } = cc in
    let said : c ≡ d = cc in
    (maker, ap (λ (x : Header). record x { length = 0 }) headed, said)
