-- What a peer reads in bytes and decides on makes sense.
use Rattle.std.proofs.Common.{◌≡◌, ℕ, List, [], ◌∷◌, map, drop, Bool, true, false, cond, Option, Some, None, All, refl, sym, ap, ◌∙◌, subst}
use Rattle.std.specs.Prelude.{◌&&◌, ◌==◌, is_some, Result, Ok, Err}
use Rattle.std.specs.Option.{option_map, option_and_then}
use Rattle.std.specs.List.{AllByRecursion}
use Rattle.std.proofs.lemmas.Bool.{and_parts, eqb-true}
use Rattle.std.proofs.lemmas.List.Elements.{All-head, All-tail}
use Rattle.reload_ids.specs.declared.ResourceId.{ResourceId}
use Rattle.wire_core.specs.declared.bad.Bad.{Bad}
use Rattle.wire_core.specs.Part.{part}
use Rattle.wire_core.specs.Spelling.{AreBytes}
use Rattle.wire_core.specs.Reading.{value_of, whole_of, number_at}
use Rattle.wire_core.proofs.Decoders.{whole_takes}
use Rattle.data_models.specs.declared.config.Config.{Config}
use Rattle.data_models.specs.declared.config.KindDef.{KindDef}
use Rattle.data_models.specs.declared.config.DataModel.{DataModel}
use Rattle.data_models.specs.declared.stored_data.SlotKey.{SlotKey}
use Rattle.data_models.specs.declared.stored_data.SlotKey.TheVariants.{Whole, Index, End, Name}
use Rattle.data_models.specs.declared.stored_data.StoredData.{StoredData}
use Rattle.data_models.specs.declared.fetched.KindValues.{KindValues}
use Rattle.data_models.specs.declared.fetched.KindValues.TheVariants as kinds
use Rattle.data_models.specs.declared.fetched.StoreKind.{StoreKind}
use Rattle.data_models.specs.Configs.{kind_of, model_in}
use Rattle.data_models.specs.Stored.{model_of, IsSpelledKey, IsSpelledStored, IsStoredOf}
use Rattle.data_models.specs.StoreKinds.{IsSpelledStoreKind, AreSpelledValues, AreValuesOf, IsStoreKindOf}
use Rattle.security_block.specs.declared.about.About.{About}
use Rattle.security_block.specs.declared.certificate.Certificate.{Certificate}
use Rattle.link_framing.specs.declared.frame.Frame.{Frame}
use Rattle.link_framing.specs.declared.frame.Frame.TheVariants.{Payload, Ack}
use Rattle.link_framing.specs.Reading.{frame_at}
use Rattle.link_framing.proofs.Layouts.{frame_laid}
use Rattle.forwarding_header.specs.declared.header.Header.{Header}
use Rattle.forwarding_header.specs.Header as headers
use Rattle.message_bodies.specs.declared.body.Body.{Body}
use Rattle.message_bodies.specs.declared.body.Body.TheVariants as bodies
use Rattle.message_bodies.specs.declared.extension.Extension.{Extension}
use Rattle.message_bodies.specs.Bodies.{IsSpelledBody, IsBodyOf}
use Rattle.message_bodies.specs.Contents.{IsSpelledContents, IsContentsOf}
use Rattle.node_messages.specs.declared.message.Message.{Message}
use Rattle.node_messages.specs.declared.message.Message.TheVariants as messages
use Rattle.node_messages.specs.Signed.{SignerWords}
use Rattle.node_messages.specs.Reading.{read_coded, read_headed, read}
use Rattle.node_messages.specs.Found.{IsFound}
use Rattle.node_messages.proofs.Readers.{read_found}
use Rattle.storage_model.specs.declared.request.Value.{Value}
use Rattle.storage_model.specs.declared.request.AskedKind.{AskedKind}
use Rattle.storage_model.specs.declared.request.Asked.{Asked}
use Rattle.storage_model.specs.declared.request.Asked.TheVariants as asked
use Rattle.storage_model.specs.Requests.{values_of, known_values, is_sound, is_sound_fetch}
use Rattle.storage_model.specs.Decisions.{kinds_of}
use Rattle.storage_model.specs.Laws.{IsKeyOf, IsSoundAsked}
use Rattle.storage_model.proofs.Truths.{found_all, found_test}
use Rattle.node_model.specs.Heard.{Envelope, carried, payload_in, enveloped, opened, envelope_of, is_ours, heard_in, message_in}
use Rattle.node_model.specs.Askings.{asked_value, asked_values, asked_kind, asked_if, store_asked, fetch_asked, is_peer, asked_by, asked_in}

-- the models that a configuration gives its kinds are these
abbrev pub HasModels : (ℕ → DataModel) → Config → Type 0
HasModels models config = AllByRecursion (λ (kind : KindDef). kind.model ≡ models kind.id) config.kinds

-- a request whose keys are of these models, and that makes sense
pub record IsSane (models : ℕ → DataModel) (config : Config) (q : Asked) : Type 0 where
  pub sound : IsSoundAsked config q
  pub keys : AllByRecursion (λ (a : AskedKind). AllByRecursion (λ (v : Value). IsKeyOf (models a.kind) v.stored.key) (values_of a)) (kinds_of q)

-- ---- keys

key_of_model : (key : SlotKey) → IsSpelledKey key → IsKeyOf (model_of key) key
key_of_model Whole s = tt
key_of_model (Index i) s = s
key_of_model End s = tt
key_of_model (Name name) s = tt

defined : (models : ℕ → DataModel) (config : Config) (id : ℕ) (o : Option KindDef) (model : DataModel) → HasModels models config → kind_of config id ≡ o → option_map (λ (k : KindDef). k.model) o ≡ Some model → models id ≡ model
unfolding kind_of
defined models config id None model h at e = absurd cc
defined models config id (Some k) model h at e =
    let same : k.model ≡ models k.id = found_all (λ (kind : KindDef). kind.model ≡ models kind.id) (λ (kind : KindDef). kind.id == id) config.kinds k h at in
    let here : k.id ≡ id = eqb-true k.id id (found_test (λ (kind : KindDef). kind.id == id) config.kinds k at) in
    let is : k.model ≡ model = cc in
    ap models (sym here) ∙ sym same ∙ is

has_model : (models : ℕ → DataModel) (config : Config) (id : ℕ) (model : DataModel) → HasModels models config → model_in config id ≡ Some model → models id ≡ model
unfolding model_in
has_model models config id model h e = defined models config id (kind_of config id) model h refl e

keys_read : (words : SignerWords) (models : ℕ → DataModel) (certificates : List Certificate) (r kind : ℕ) (model : DataModel) (vs : List StoredData) → models kind ≡ model → All (IsStoredOf model) vs → All IsSpelledStored vs
    → AllByRecursion (λ (v : Value). IsKeyOf (models kind) v.stored.key) (map (asked_value words certificates r kind) vs)
unfolding asked_value
keys_read words models certificates r kind model [] is of_ spelled = tt
keys_read words models certificates r kind model (v ∷ vs) is of_ spelled =
    let here : model_of v.key ≡ model = All-head (IsStoredOf model) v vs of_ in (
      subst (λ (m : DataModel). IsKeyOf m v.key) (here ∙ sym is) (key_of_model v.key (All-head IsSpelledStored v vs spelled).value.key),
      keys_read words models certificates r kind model vs is (All-tail (IsStoredOf model) v vs of_) (All-tail IsSpelledStored v vs spelled),
    )

keys_of_values : (words : SignerWords) (models : ℕ → DataModel) (config : Config) (certificates : List Certificate) (r kind : ℕ) (o : Option DataModel) (vs : KindValues) → HasModels models config → model_in config kind ≡ o
    → AreValuesOf o vs → AreSpelledValues vs → AllByRecursion (λ (v : Value). IsKeyOf (models kind) v.stored.key) (known_values (asked_values words certificates r kind vs))
keys_of_values words models config certificates r kind (Some model) (kinds.Known vs) h at of_ spelled = keys_read words models certificates r kind model vs (has_model models config kind model h at) of_ spelled
keys_of_values words models config certificates r kind (Some model) (kinds.Raw bytes) h at of_ spelled = tt
keys_of_values words models config certificates r kind None (kinds.Known vs) h at of_ spelled = absurd of_
keys_of_values words models config certificates r kind None (kinds.Raw bytes) h at of_ spelled = tt

keys_of_kinds : (words : SignerWords) (models : ℕ → DataModel) (config : Config) (certificates : List Certificate) (r : ℕ) (ks : List StoreKind) → HasModels models config → All (IsStoreKindOf config) ks → All IsSpelledStoreKind ks
    → AllByRecursion (λ (a : AskedKind). AllByRecursion (λ (v : Value). IsKeyOf (models a.kind) v.stored.key) (values_of a)) (map (asked_kind words certificates r) ks)
unfolding asked_kind
keys_of_kinds words models config certificates r [] h of_ spelled = tt
keys_of_kinds words models config certificates r (k ∷ ks) h of_ spelled = (
  keys_of_values words models config certificates r k.kind (model_in config k.kind) k.values h refl (All-head (IsStoreKindOf config) k ks of_) (All-head IsSpelledStoreKind k ks spelled).each,
  keys_of_kinds words models config certificates r ks h (All-tail (IsStoreKindOf config) k ks of_) (All-tail IsSpelledStoreKind k ks spelled),
)

-- ---- what a message asks

sane_bad : (models : ℕ → DataModel) (config : Config) → IsSane models config asked.Bad
sane_bad models config = record { sound = tt; keys = tt }

sane_if : (models : ℕ → DataModel) (config : Config) (sound signed : Bool) (q : Asked) → (sound ≡ true → IsSane models config q) → IsSane models config (asked_if sound signed q)
sane_if models config false signed q is = sane_bad models config
sane_if models config true true q is = is refl
sane_if models config true false q is = record { sound = tt; keys = tt }

sane_body : (words : SignerWords) (models : ℕ → DataModel) (config : Config) (resource : ResourceId) (h : Header) (es : List Extension) (certificates : List Certificate) (signer : Option About) (b : Body)
    → HasModels models config → IsSpelledBody b → IsBodyOf config b → IsSane models config (asked_by words config resource h es certificates signer b)
unfolding IsSpelledBody IsBodyOf store_asked
sane_body words models config resource h es certificates signer (bodies.Store r replica ks) has spelled of_ =
    sane_if models config ((r.0 == resource.0) && (replica == 0) && is_sound config (store_asked words h es certificates resource ks)) (is_some signer) _
    (λ e. record { sound = (and_parts ((r.0 == resource.0) && (replica == 0)) _ e).1; keys = keys_of_kinds words models config certificates resource.0 ks has of_ spelled.each })
sane_body words models config resource h es certificates signer (bodies.Fetch r ss) has spelled of_ =
    sane_if models config ((r.0 == resource.0) && is_sound_fetch (fetch_asked h es ss)) (is_some signer) _ (λ e. record { sound = tt; keys = tt })
sane_body words models config resource h es certificates signer (bodies.Join joiner more) has spelled of_ =
    sane_if models config (joiner.0 == resource.0) (is_peer resource.0 signer) _ (λ e. record { sound = tt; keys = tt })
sane_body words models config resource h es certificates signer (bodies.Probe x) has spelled of_ = sane_bad models config
sane_body words models config resource h es certificates signer (bodies.ProbeAns x) has spelled of_ = sane_bad models config
sane_body words models config resource h es certificates signer (bodies.StoreAns x) has spelled of_ = sane_bad models config
sane_body words models config resource h es certificates signer (bodies.FetchAns x) has spelled of_ = sane_bad models config
sane_body words models config resource h es certificates signer (bodies.JoinAns x) has spelled of_ = sane_bad models config
sane_body words models config resource h es certificates signer (bodies.Leave x y) has spelled of_ = sane_bad models config
sane_body words models config resource h es certificates signer bodies.LeaveAns has spelled of_ = sane_bad models config
sane_body words models config resource h es certificates signer (bodies.Update x y) has spelled of_ = sane_bad models config
sane_body words models config resource h es certificates signer bodies.UpdateAns has spelled of_ = sane_bad models config
sane_body words models config resource h es certificates signer (bodies.Ping x) has spelled of_ = sane_bad models config
sane_body words models config resource h es certificates signer (bodies.PingAns x y) has spelled of_ = sane_bad models config
sane_body words models config resource h es certificates signer (bodies.PathTrack x) has spelled of_ = sane_bad models config
sane_body words models config resource h es certificates signer (bodies.PathTrackAns x) has spelled of_ = sane_bad models config
sane_body words models config resource h es certificates signer (bodies.Error x y) has spelled of_ = sane_bad models config
sane_body words models config resource h es certificates signer (bodies.Other x y) has spelled of_ = sane_bad models config

-- the contents of a message that was read have a spelling, and are of the configuration
abbrev pub IsRead : Config → Message → Type 0
IsRead config (messages.Whole h c certificates signer) = IsSpelledContents c × IsContentsOf config c
IsRead config _ = Unit {0}

pub sane_message : (words : SignerWords) (models : ℕ → DataModel) (config : Config) (resource : ResourceId) (m : Message) → HasModels models config → IsRead config m → IsSane models config (asked_in words config resource m)
unfolding asked_in
sane_message words models config resource messages.Unspelt has is = sane_bad models config
sane_message words models config resource (messages.Bad h code) has is = sane_bad models config
sane_message words models config resource (messages.Whole h c certificates signer) has is = sane_body words models config resource h c.extensions certificates signer c.body has is.0.body is.1

-- ---- what is read in bytes

is_read : (config : Config) (words : SignerWords) (bytes : List ℕ) (m : Message) → IsFound config words bytes m → IsRead config m
is_read config words bytes messages.Unspelt f = tt
is_read config words bytes (messages.Bad h code) f = tt
is_read config words bytes (messages.Whole h c certificates signer) f = (f.1.0.is_spelled.is_spelled, f.1.0.is_spelled.belongs)

-- the envelope's message is what is read of the whole
same_behind : (config : Config) (words : SignerWords) (h : Header) (behind : List ℕ) (r : Result ℕ Bad) (e : Envelope) → enveloped h behind r ≡ Some e → read_coded config words h behind r ≡ message_in config words e
unfolding message_in
same_behind config words h behind (Ok code) e is =
    let same : record { header = h; code = code; behind = behind } ≡ e = cc in
    ap (λ (x : Envelope). read_coded config words x.header x.behind (Ok x.code)) same
same_behind config words h behind (Err bad) e is = absurd cc

same_opened : (config : Config) (words : SignerWords) (message : List ℕ) (r : Result (Header × ℕ) Bad) (e : Envelope) → opened message r ≡ Some e → read_headed config words message r ≡ message_in config words e
same_opened config words message (Ok headed) e is = same_behind config words headed.0 (drop headed.1 message) (value_of (number_at 2 (part 0 (drop headed.1 message)))) e is
same_opened config words message (Err bad) e is = absurd cc

same_read : (config : Config) (words : SignerWords) (message : List ℕ) (e : Envelope) → envelope_of message ≡ Some e → read config words message ≡ message_in config words e
unfolding envelope_of read
same_read config words message e is = same_opened config words message (headers.message_at message) e is

ours : (config : Config) (o : Option Envelope) (e : Envelope) → option_and_then (λ (x : Envelope). cond (is_ours config x) (Some x) None) o ≡ Some e → o ≡ Some e
ours config None e is = absurd cc
ours config (Some x) e is =
    (elim (is_ours config x) as (λ b. cond b (Some x) None ≡ Some e → Some x ≡ Some e) [ true ↦ λ f. f | false ↦ λ f. absurd cc ]) is

pub read_in : (config : Config) (words : SignerWords) (message : List ℕ) (e : Envelope) → AreBytes message → heard_in config message ≡ Some e → IsRead config (message_in config words e)
unfolding heard_in
read_in config words message e are is =
    subst (IsRead config) (same_read config words message e (ours config (envelope_of message) e is)) (is_read config words message _ (read_found config words message are))

carried_bytes : (bytes : List ℕ) (r : Result Frame Bad) (x : ℕ × List ℕ) → AreBytes bytes → whole_of frame_at bytes ≡ r → carried r ≡ Some x → AreBytes x.1
carried_bytes bytes (Ok (Payload sequence message)) x are e is =
    let t = whole_takes frame_laid bytes (Payload sequence message) are e in
    let same : message ≡ x.1 = cc in
    subst AreBytes same t.0.2
carried_bytes bytes (Ok (Ack sequence received)) x are e is = absurd cc
carried_bytes bytes (Err bad) x are e is = absurd cc

pub payload_bytes : (bytes : List ℕ) (x : ℕ × List ℕ) → AreBytes bytes → payload_in bytes ≡ Some x → AreBytes x.1
unfolding payload_in
payload_bytes bytes x are is = carried_bytes bytes (whole_of frame_at bytes) x are refl is
