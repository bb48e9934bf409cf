-- Values signed by who has a certificate.
use Rattle.std.specs.Prelude.{ℕ, List, map, All}
use Rattle.data_models.specs.declared.stored_data.StoredData.{StoredData}
use Rattle.data_models.specs.declared.fetched.StoreKind.{StoreKind}
use Rattle.data_models.specs.declared.fetched.KindValues.{KindValues}
use Rattle.data_models.specs.declared.fetched.KindValues.TheVariants.{Known, Raw}
use Rattle.data_models.specs.Stored.{signed_part, IsSpelledValue}
use Rattle.node_messages.specs.Signed.{SignerWords}

-- each value of a kind has a spelling, whatever its signature
abbrev pub AreSpelled : KindValues → Type 0
AreSpelled (Known vs) = All IsSpelledValue vs
AreSpelled (Raw bytes) = Unit {0}

-- a value, signed by who has a certificate
unfoldable pub value_by : SignerWords → List ℕ → ℕ → ℕ → StoredData → StoredData
value_by words certificate resource kind v =
    record v { signature = words.signature_of certificate (signed_part resource kind v) }

-- the values of a kind, each signed
abbrev pub values_by : SignerWords → List ℕ → ℕ → ℕ → KindValues → KindValues
values_by words certificate resource kind (Known vs) =
    Known (map (value_by words certificate resource kind) vs)
values_by words certificate resource kind (Raw bytes) = Raw bytes

-- a kind, whose values are signed
unfoldable pub kind_by : SignerWords → List ℕ → ℕ → StoreKind → StoreKind
kind_by words certificate resource k =
    record k { values = values_by words certificate resource k.kind k.values }
