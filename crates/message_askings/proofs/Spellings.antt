-- What is read as contents is spelled so.
use Rattle.std.proofs.Common.{◌≡◌, ℕ, List, Result, Ok, Err, IfOk, subst, refl}
use Rattle.wire_core.specs.declared.bad.Bad.{Bad}
use Rattle.wire_core.specs.Layout.{IsLayout}
use Rattle.wire_core.specs.Spelling.{AreBytes}
use Rattle.wire_core.specs.Reading.{whole_of}
use Rattle.wire_core.specs.Laws.Steps.{pair_is_layout}
use Rattle.wire_core.proofs.Decoders.{whole_takes}
use Rattle.data_models.specs.declared.config.Config.{Config}
use Rattle.security_block.specs.declared.block.SecurityBlock.{SecurityBlock}
use Rattle.security_block.specs.Block.{IsSpelledBlock, IsBlockInRange}
use Rattle.security_block.specs.Laws.Blocks.{block_laid}
use Rattle.forwarding_header.specs.declared.header.Header.{Header}
use Rattle.message_bodies.specs.declared.contents.Contents.{Contents}
use Rattle.std.specs.Prelude.{All}
use Rattle.reload_ids.specs.declared.ResourceId.{ResourceId}
use Rattle.data_models.specs.declared.fetched.StoreKind.{StoreKind}
use Rattle.data_models.specs.StoreKinds.{IsSpelledStoreKind}
use Rattle.message_bodies.specs.declared.body.Body.{Body}
use Rattle.message_bodies.specs.declared.body.Body.TheVariants as bodies
use Rattle.message_bodies.specs.Bodies.{IsSpelledBody}
use Rattle.message_bodies.specs.Store.{IsSpelledKinds}
use Rattle.message_bodies.specs.Contents.{IsSpelledContents, IsContentsInRange, IsContentsOf}
use Rattle.message_bodies.specs.Messages as messages
use Rattle.message_bodies.specs.Laws.Contents.{contents_laid}
use Rattle.node_messages.specs.declared.message.Behind.{Behind}
use Rattle.node_messages.specs.declared.message.Behind.TheVariants.{Bad as NoParts, Whole}
use Rattle.node_messages.specs.Behind.{message_of}
use Rattle.node_messages.specs.Reading.{read_parts, read_coded}
use Rattle.node_messages.specs.Signed.{SignerWords}
use Rattle.message_askings.specs.Spelled.{IsSpelledBehind}

abbrev PartsFit : Config → Contents × SecurityBlock → Type 0
PartsFit config m = (IsSpelledContents m.0 × IsSpelledBlock m.1) × ((IsContentsInRange m.0 × IsContentsOf config m.0) × IsBlockInRange m.1)

parts_laid : (config : Config) → IsLayout (PartsFit config) (λ m. messages.message m.0 m.1) (messages.message_at config)
parts_laid config = pair_is_layout (contents_laid config) block_laid

parts_spelled : (config : Config) (words : SignerWords) (h : Header) (code : ℕ) (bytes : List ℕ) (b : Behind) (r : Result (Contents × SecurityBlock) Bad) → AreBytes bytes
    → whole_of (messages.message_at config) bytes ≡ r → message_of h code b ≡ read_parts words h code r → IsSpelledBehind b
parts_spelled config words h code bytes NoParts r are e m = tt
parts_spelled config words h code bytes (Whole c certificates who) (Ok parts) are e m =
    let t = whole_takes (parts_laid config) bytes parts are e in
    let same : parts.0 ≡ c = cc in
    subst IsSpelledContents same t.0.0.0
parts_spelled config words h code bytes (Whole c certificates who) (Err bad) are e m = absurd cc

pub is_spelled : {E : Type 0} (config : Config) (words : SignerWords) (h : Header) (code : ℕ) (bytes : List ℕ) (r : Result Behind E) → AreBytes bytes
    → IfOk r (λ b. message_of h code b ≡ read_coded config words h bytes (Ok code)) → IfOk r IsSpelledBehind
is_spelled config words h code bytes (Ok b) are e = parts_spelled config words h code bytes b (whole_of (messages.message_at config) bytes) are refl e
is_spelled config words h code bytes (Err none) are e = tt

-- the kinds of a Store with a spelling have one
pub store_spelled : (b : Body) (resource : ResourceId) (replica : ℕ) (kinds : List StoreKind) → IsSpelledBody b → b ≡ bodies.Store resource replica kinds → All IsSpelledStoreKind kinds
unfolding IsSpelledBody
store_spelled b resource replica kinds s e = let of_kinds : IsSpelledKinds kinds = subst IsSpelledBody e s in of_kinds.each
