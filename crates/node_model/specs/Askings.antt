-- What a message asks of the peer that owns its resource.
use Rattle.std.specs.Prelude.{ℕ, ◌==◌, ◌&&◌, ◌||◌, Bool, false, not, List, map, Option, Some, None, is_some, if◌then◌else◌}
use Rattle.std.specs.List.{list_any}
use Rattle.reload_ids.specs.declared.NodeId.{NodeId}
use Rattle.reload_ids.specs.declared.ResourceId.{ResourceId}
use Rattle.data_models.specs.declared.config.Config.{Config}
use Rattle.data_models.specs.declared.stored_data.StoredData.{StoredData}
use Rattle.data_models.specs.declared.fetched.Specifier.{Specifier}
use Rattle.data_models.specs.declared.fetched.StoreKind.{StoreKind}
use Rattle.data_models.specs.declared.fetched.KindValues.{KindValues}
use Rattle.data_models.specs.declared.fetched.KindValues.TheVariants as kinds
use Rattle.data_models.specs.Stored.{signed_part, stored_size}
use Rattle.security_block.specs.declared.about.About.{About}
use Rattle.security_block.specs.declared.certificate.Certificate.{Certificate}
use Rattle.security_block.specs.Signers.{signer_among}
use Rattle.forwarding_header.specs.declared.header.Header.{Header}
use Rattle.message_bodies.specs.declared.body.Body.{Body}
use Rattle.message_bodies.specs.declared.body.Body.TheVariants as bodies
use Rattle.message_bodies.specs.declared.code.TheConstants.{STORE, FETCH, JOIN}
use Rattle.message_bodies.specs.declared.extension.Extension.{Extension}
use Rattle.node_messages.specs.declared.message.Message.{Message}
use Rattle.node_messages.specs.declared.message.Message.TheVariants as messages
use Rattle.node_messages.specs.Signed.{SignerWords}
use Rattle.storage_model.specs.declared.request.Value.{Value}
use Rattle.storage_model.specs.declared.request.AskedKind.{AskedKind}
use Rattle.storage_model.specs.declared.request.AskedValues.{AskedValues}
use Rattle.storage_model.specs.declared.request.AskedValues.TheVariants as values
use Rattle.storage_model.specs.declared.request.StoreAsked.{StoreAsked}
use Rattle.storage_model.specs.declared.request.FetchAsked.{FetchAsked}
use Rattle.storage_model.specs.declared.request.Asked.{Asked}
use Rattle.storage_model.specs.declared.request.Asked.TheVariants as asked
use Rattle.storage_model.specs.Requests.{is_sound, is_sound_fetch}

-- whether a request with this code is decided by the owner of its resource
abbrev pub is_decided : ℕ → Bool
is_decided code = (code == STORE) || (code == FETCH) || (code == JOIN)

-- whether contents have a critical extension; none is known where a resource is asked for
unfoldable pub has_critical : List Extension → Bool
has_critical es = list_any (λ e. e.critical) es

-- who signed a stored value with one of these certificates (RFC 6940, 7.1)
unfoldable pub value_signer : SignerWords → List Certificate → ℕ → ℕ → StoredData → Option About
value_signer words certificates resource kind v =
    signer_among (λ c. words.verifies c (signed_part resource kind v) v.signature)
    words.about_of certificates

-- a value of a Store for a resource, with its signer and its size
unfoldable pub asked_value : SignerWords → List Certificate → ℕ → ℕ → StoredData → Value
asked_value words certificates resource kind v = record {
  stored = v;
  signer = value_signer words certificates resource kind v;
  size = stored_size v;
}

-- the values of a kind, or the bytes of those of a kind without a definition
abbrev pub asked_values : SignerWords → List Certificate → ℕ → ℕ → KindValues → AskedValues
asked_values words certificates resource kind (kinds.Known vs) =
    values.Known (map (asked_value words certificates resource kind) vs)
asked_values words certificates resource kind (kinds.Raw bytes) = values.Raw bytes

-- a kind of a Store for a resource
unfoldable pub asked_kind : SignerWords → List Certificate → ℕ → StoreKind → AskedKind
asked_kind words certificates resource k = record {
  kind = k.kind;
  generation = k.generation;
  values = asked_values words certificates resource k.kind k.values;
}

-- a request that makes sense, where it is signed as it must be
abbrev pub asked_if : Bool → Bool → Asked → Asked
asked_if sound signed request =
    if not sound then asked.Bad else (if signed then request else asked.Unsigned)

-- a Store, as the owner of the resource is asked it
unfoldable pub store_asked : SignerWords → Header → List Extension → List Certificate
    → ResourceId → List StoreKind → StoreAsked
store_asked words h es certificates resource ks = record {
  strange = has_critical es;
  sequence = h.sequence;
  kinds = map (asked_kind words certificates resource.0) ks;
}

-- a Fetch, as the owner of the resource is asked it
unfoldable pub fetch_asked : Header → List Extension → List Specifier → FetchAsked
fetch_asked h es ss = record {
  strange = has_critical es;
  sequence = h.sequence;
  max = h.max_response;
  specifiers = ss;
}

-- whether a peer with this id signed
abbrev pub is_peer : ℕ → Option About → Bool
is_peer id None = false
is_peer id (Some who) = who.peer && (who.node.0 == id)

-- what a whole message asks of the owner of a resource
abbrev pub asked_by : SignerWords → Config → ResourceId → Header → List Extension
    → List Certificate → Option About → Body → Asked
asked_by words config resource h es certificates signer (bodies.Store r replica ks) =
    let request = store_asked words h es certificates resource ks in
    asked_if ((r.0 == resource.0) && (replica == 0) && is_sound config request) (is_some signer)
    (asked.Store request)
asked_by words config resource h es certificates signer (bodies.Fetch r ss) =
    let request = fetch_asked h es ss in
    asked_if ((r.0 == resource.0) && is_sound_fetch request) (is_some signer) (asked.Fetch request)
asked_by words config resource h es certificates signer (bodies.Join joiner more) =
    asked_if (joiner.0 == resource.0) (is_peer resource.0 signer)
    (asked.Join (record { strange = has_critical es; sequence = h.sequence }))
asked_by words config resource h es certificates signer _ = asked.Bad

-- what a message asks of the owner of a resource
unfoldable pub asked_in : SignerWords → Config → ResourceId → Message → Asked
asked_in words config resource (messages.Whole h c certificates signer) =
    asked_by words config resource h c.extensions certificates signer c.body
asked_in words config resource _ = asked.Bad

-- who asks: the signer, or the id 0 where there is none
abbrev pub origin_of : Message → NodeId
origin_of (messages.Whole h c certificates (Some who)) = who.node
origin_of _ = record { 0 = 0 }
