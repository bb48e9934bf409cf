-- How long stored values are.
use Rattle.std.proofs.Common.{◌≡◌, ℕ, ◌+◌, length, refl, length-append, arith}
use Rattle.wire_core.specs.Spelling.{number}
use Rattle.wire_core.specs.Signature.{signature, identity}
use Rattle.wire_core.specs.Laws.Bytes.{length-number}
use Rattle.data_models.specs.declared.stored_data.TheConstants.{END_INDEX}
use Rattle.data_models.specs.declared.stored_data.SlotKey.{SlotKey}
use Rattle.data_models.specs.declared.stored_data.SlotKey.TheVariants.{Whole, Index, End, Name}
use Rattle.data_models.specs.declared.stored_data.StoredData.{StoredData}
use Rattle.data_models.specs.declared.fetched.StoreKind.{StoreKind}
use Rattle.data_models.specs.declared.fetched.Specifier.{Specifier}
use Rattle.data_models.specs.StoreKinds.{values, store_kind}
use Rattle.data_models.specs.Specifiers.{selector, specifier}
use Rattle.data_models.specs.Stored.{key_part, key_size, data_value, stored_value, stored_content, stored, stored_size, gap}

pub length-key_part : (key : SlotKey) → length (key_part key) ≡ key_size key
unfolding key_part
length-key_part Whole = refl
length-key_part (Index index) = length-number 4 index
length-key_part End = length-number 4 END_INDEX
length-key_part (Name name) = omega (arith, length-append (number 2 (length name)) name, length-number 2 (length name))

pub length-stored_content : (v : StoredData) → length (stored_content v) ≡ 17 + key_size v.key + length v.value + length (signature v.signature)
unfolding stored_content stored_value data_value
length-stored_content v = omega (arith, length-key_part v.key, length-number, length-append {A = ℕ})

pub length-stored : (v : StoredData) → length (stored v) ≡ 4 + length (stored_content v)
unfolding stored
length-stored v = omega (arith, length-append {A = ℕ}, length-number)

pub stored_size-parts : (v : StoredData) → stored_size v ≡ 21 + key_size v.key + length v.value + length (signature v.signature)
stored_size-parts v = omega (arith, length-stored v, length-stored_content v)

pub stored_size-gap : (key : SlotKey) → stored_size (gap key) ≡ 28 + key_size key
unfolding gap signature identity
stored_size-gap key = omega (arith, stored_size-parts (gap key), length-number, length-append {A = ℕ})

pub length-store_kind : (v : StoreKind) → length (store_kind v) ≡ 16 + length (values v.values)
unfolding store_kind
length-store_kind v = omega (arith, length-append {A = ℕ}, length-number)

pub length-specifier : (v : Specifier) → length (specifier v) ≡ 14 + length (selector v.selector)
unfolding specifier
length-specifier v = omega (arith, length-append {A = ℕ}, length-number)

pub ruleset laws = (length-key_part, length-stored_content, length-stored, stored_size-gap, length-store_kind, length-specifier)
