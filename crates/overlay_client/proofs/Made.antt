-- What is made is no longer than a message may be, and nothing is made of what has no spelling.
use Rattle.std.proofs.Common.{◌≡◌, ℕ, ◌≤◌, ◌↔◌, Bool, false, IsTrue, List, [], ◌∷◌, length, map, All, Option, Some, None, sym, ap, subst, ◌∙◌}
use Rattle.std.proofs.lemmas.List.Elements.{All-nil, All-cons, All-head, All-tail}
use Rattle.wire_core.specs.declared.limits.TheConstants.{MAX_MESSAGE}
use Rattle.reload_ids.specs.declared.ResourceId.{ResourceId}
use Rattle.security_block.specs.declared.about.About.{About}
use Rattle.forwarding_header.specs.declared.header.Header.{Header}
use Rattle.data_models.specs.declared.stored_data.StoredData.{StoredData}
use Rattle.data_models.specs.declared.fetched.StoreKind.{StoreKind}
use Rattle.data_models.specs.declared.fetched.KindValues.{KindValues}
use Rattle.data_models.specs.declared.fetched.KindValues.TheVariants.{Known, Raw}
use Rattle.data_models.specs.Stored.{IsSpelledValue, IsSpelledStored}
use Rattle.data_models.specs.StoreKinds.{AreSpelledValues, IsSpelledStoreKind}
use Rattle.message_bodies.specs.declared.contents.Contents.{Contents}
use Rattle.message_bodies.specs.declared.body.Body.TheVariants as bodies
use Rattle.message_bodies.specs.Bodies.{IsSpelledBody}
use Rattle.node_messages.specs.Signed.{SignerWords}
use Rattle.node_messages.specs.Making.{made}
use Rattle.node_messages.proofs.Wholes.{made-some, made-no}
use Rattle.node_model.specs.Requests.{signed_value, signed_values, signed_kind, request_header, store_request}
use Rattle.reload_ids.specs.declared.NodeId.{NodeId}
use Rattle.node_model.specs.declared.command.StoreCommand.{StoreCommand}
use Rattle.node_model.specs.declared.question.Question.TheVariants as questions
use Rattle.node_model.specs.Nodes.{Node, next_id}
use Rattle.overlay_client.specs.declared.asking.Asking.{Asking}
use Rattle.overlay_client.specs.Asked.{IsSmall, asking_of}
use Rattle.overlay_client.specs.Signing.{AreSpelled}

small_of : (words : SignerWords) (who : About) (h : Header) (c : Contents) (m : Option (List ℕ))
    → made words who h c ≡ m → IsSmall m
small_of words who h c None e = tt
small_of words who h c (Some bytes) e =
    let s = made-some words who h c bytes e in
    subst (λ (b : List ℕ). length b ≤ MAX_MESSAGE) s.1 s.0.within

pub made_within : (words : SignerWords) (who : About) (h : Header) (c : Contents)
    (m : Option (List ℕ)) → m ≡ made words who h c → IsSmall m
made_within words who h c m e = small_of words who h c m (sym e)

-- a value has a spelling whatever its signature
value_spelled : (words : SignerWords) (who : About) (resource kind : ℕ) (v : StoredData)
    → IsSpelledStored (signed_value words who resource kind v) → IsSpelledValue v
unfolding signed_value
value_spelled words who resource kind v s = record { key = s.value.key; datum = s.value.datum }

list_spelled : (words : SignerWords) (who : About) (resource kind : ℕ) (vs : List StoredData)
    → All IsSpelledStored (map (signed_value words who resource kind) vs) → All IsSpelledValue vs
list_spelled words who resource kind [] s = All-nil IsSpelledValue
list_spelled words who resource kind (v ∷ vs) s =
    All-cons IsSpelledValue v vs
    (value_spelled words who resource kind v (All-head IsSpelledStored _ _ s))
    (list_spelled words who resource kind vs (All-tail IsSpelledStored _ _ s))

values_spelled : (words : SignerWords) (who : About) (resource kind : ℕ) (vs : KindValues)
    → AreSpelledValues (signed_values words who resource kind vs) → AreSpelled vs
values_spelled words who resource kind (Known vs) s = list_spelled words who resource kind vs s
values_spelled words who resource kind (Raw bytes) s = tt

kind_spelled : (words : SignerWords) (who : About) (resource : ℕ) (k : StoreKind)
    → IsSpelledStoreKind (signed_kind words who resource k) → AreSpelled k.values
unfolding signed_kind
kind_spelled words who resource k s = values_spelled words who resource k.kind k.values s.each

kinds_spelled : (words : SignerWords) (who : About) (resource : ℕ) (ks : List StoreKind)
    → All IsSpelledStoreKind (map (signed_kind words who resource) ks)
    → All (λ (k : StoreKind). AreSpelled k.values) ks
kinds_spelled words who resource [] s = All-nil (λ (k : StoreKind). AreSpelled k.values)
kinds_spelled words who resource (k ∷ ks) s =
    All-cons (λ (k : StoreKind). AreSpelled k.values) k ks
    (kind_spelled words who resource k (All-head IsSpelledStoreKind _ _ s))
    (kinds_spelled words who resource ks (All-tail IsSpelledStoreKind _ _ s))

-- nothing is made of a Store with a value that has none
pub unspelled_store : (words : SignerWords) (who : About) (h : Header) (resource : ResourceId)
    (ks : List StoreKind) → (¬ All (λ (k : StoreKind). AreSpelled k.values) ks)
    → made words who h (record {
      body = bodies.Store resource 0 (map (signed_kind words who resource.0) ks);
      extensions = [];
    }) ≡ None
unfolding IsSpelledBody
unspelled_store words who h resource ks never =
    made-no words who h _ (λ can. never (kinds_spelled words who resource.0 ks can.contents.body.each))

abbrev asking : NodeId → ℕ → Option (List ℕ) → Asking
asking peer id message =
    record { peer = peer; id = id; message = message; question = questions.Store }

pub store_none : (words : SignerWords) (n : Node) (c : StoreCommand) (id : ℕ) (fits : Bool)
    → (IsTrue fits ↔ All (λ (k : StoreKind). AreSpelled k.values) c.kinds) → fits ≡ false
    → id ≡ next_id n → asking c.peer id None ≡ asking_of words n (store_request words n c)
unfolding store_request request_header
store_none words n c id fits iff none e =
    let never : ¬ All (λ (k : StoreKind). AreSpelled k.values) c.kinds =
    λ all. let t = iff.1 all in absurd cc in
    ap (λ (i : ℕ). asking c.peer i None) e
    ∙ ap (λ (m : Option (List ℕ)). asking c.peer (next_id n) m)
    (sym (unspelled_store words n.about
    (request_header n c.resource c.ttl c.sequence 0) c.resource c.kinds never))
