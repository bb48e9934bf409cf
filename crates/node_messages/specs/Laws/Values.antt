-- It is decided whether stored values, and what is asked for, have a spelling.
use Rattle.std.proofs.Common.{◌≡◌, ℕ, ◌<◌, ◌^◌, Bool, true, false, List, [], ◌∷◌, length, All, refl}
use Rattle.std.proofs.Math.Decide.{map_dec, dec_lt}
use Rattle.wire_core.specs.declared.signature.Signature.{Signature}
use Rattle.wire_core.specs.declared.signature.SignerIdentity.{SignerIdentity}
use Rattle.wire_core.specs.declared.signature.SignerIdentity.TheVariants as signers
use Rattle.wire_core.specs.Signature.{IsSpelledIdentity, IsSpelledSignature}
use Rattle.data_models.specs.declared.stored_data.TheConstants.{END_INDEX}
use Rattle.data_models.specs.declared.stored_data.SlotKey.{SlotKey}
use Rattle.data_models.specs.declared.stored_data.SlotKey.TheVariants as keys
use Rattle.data_models.specs.declared.stored_data.StoredData.{StoredData}
use Rattle.data_models.specs.Stored.{stored_content, IsSpelledKey, IsSpelledData, IsSpelledValue, IsSpelledStored}
use Rattle.data_models.specs.declared.fetched.KindValues.{KindValues}
use Rattle.data_models.specs.declared.fetched.KindValues.TheVariants as kinds
use Rattle.data_models.specs.declared.fetched.StoreKind.{StoreKind}
use Rattle.data_models.specs.StoreKinds.{values, AreSpelledValues, IsSpelledStoreKind}
use Rattle.data_models.specs.declared.fetched.Selector.{Selector}
use Rattle.data_models.specs.declared.fetched.Selector.TheVariants as selectors
use Rattle.data_models.specs.declared.fetched.Specifier.{Specifier}
use Rattle.data_models.specs.Specifiers.{ranges, names, selector, IsSpelledSelector, IsSpelledSpecifier}
use Rattle.node_messages.specs.Laws.Decided.{both, each, fewer, is_false}

identity_spelled : (s : SignerIdentity) → Dec (IsSpelledIdentity s)
identity_spelled (signers.CertHash alg hash) = fewer hash (2 ^ 8)
identity_spelled (signers.CertHashNodeId alg hash) = fewer hash (2 ^ 8)
identity_spelled signers.None = yes tt

pub signature_spelled : (s : Signature) → Dec (IsSpelledSignature s)
signature_spelled s = both (identity_spelled s.identity) (fewer s.value (2 ^ 16))

key_spelled : (k : SlotKey) → Dec (IsSpelledKey k)
key_spelled keys.Whole = yes tt
key_spelled (keys.Index index) = dec_lt index END_INDEX
key_spelled keys.End = yes tt
key_spelled (keys.Name name) = fewer name (2 ^ 16)

-- a value that doesn't exist has no bytes
absent_spelled : (present : Bool) (value : List ℕ) → Dec (present ≡ false → value ≡ [])
absent_spelled true value = yes (λ e. cc)
absent_spelled false [] = yes (λ e. refl)
absent_spelled false (b ∷ bytes) = no (λ h. let e = h refl in cc)

data_spelled : (datum : Bool × List ℕ) → Dec (IsSpelledData datum)
data_spelled datum =
    map_dec (λ p. record { fits = p.0; absent = p.1 }) (λ s. (s.fits, s.absent))
    (both (fewer datum.1 (2 ^ 32)) (absent_spelled datum.0 datum.1))

value_spelled : (v : StoredData) → Dec (IsSpelledValue v)
value_spelled v =
    map_dec (λ p. record { key = p.0; datum = p.1 }) (λ s. (s.key, s.datum))
    (both (key_spelled v.key) (data_spelled (v.present, v.value)))

pub stored_spelled : (v : StoredData) → Dec (IsSpelledStored v)
stored_spelled v =
    map_dec (λ p. record { value = p.0; signature = p.1.0; fits = p.1.1 })
    (λ s. (s.value, (s.signature, s.fits)))
    (both (value_spelled v) (both (signature_spelled v.signature)
    (fewer (stored_content v) (2 ^ 32))))

values_spelled : (v : KindValues) → Dec (AreSpelledValues v)
values_spelled (kinds.Known list) = each IsSpelledStored stored_spelled list
values_spelled (kinds.Raw bytes) = yes tt

pub store_kind_spelled : (v : StoreKind) → Dec (IsSpelledStoreKind v)
store_kind_spelled v =
    map_dec (λ p. record { each = p.0; fits = p.1 }) (λ s. (s.each, s.fits))
    (both (values_spelled v.values) (fewer (values v.values) (2 ^ 32)))

selector_spelled : (s : Selector) → Dec (IsSpelledSelector s)
selector_spelled selectors.Whole = yes tt
selector_spelled (selectors.Ranges list) = fewer (ranges list) (2 ^ 16)
selector_spelled (selectors.Names list) =
    both (fewer (names list) (2 ^ 16)) (each (λ name. length name < 2 ^ 16)
    (λ name. fewer name (2 ^ 16)) list)
selector_spelled (selectors.Raw bytes) = yes tt

pub specifier_spelled : (v : Specifier) → Dec (IsSpelledSpecifier v)
specifier_spelled v =
    map_dec (λ p. record { part = p.0; fits = p.1 }) (λ s. (s.part, s.fits))
    (both (selector_spelled v.selector) (fewer (selector v.selector) (2 ^ 16)))
