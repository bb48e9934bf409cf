-- Values that are signed with a node's certificate are signed by that node.
use Rattle.std.proofs.Common.{◌≡◌, ℕ, List, [], ◌∷◌, ◌++◌, map, All, Some, Result, Ok, Err, IfOk, refl, sym, ap, ◌∙◌}
use Rattle.std.proofs.lemmas.List.{map-append}
use Rattle.std.proofs.lemmas.List.Elements.{All-pop}
use Rattle.security_block.specs.declared.about.About.{About}
use Rattle.data_models.specs.declared.stored_data.StoredData.{StoredData}
use Rattle.data_models.specs.declared.fetched.StoreKind.{StoreKind}
use Rattle.data_models.specs.declared.fetched.KindValues.{KindValues}
use Rattle.data_models.specs.declared.fetched.KindValues.TheVariants.{Known, Raw}
use Rattle.node_messages.specs.Signed.{SignerWords}
use Rattle.node_model.specs.Requests.{signed_value, signed_values, signed_kind}
use Rattle.overlay_client.specs.Signing.{AreSpelled, value_by, values_by, kind_by}

value_signed : (words : SignerWords) (who : About) (resource kind : ℕ) (v : StoredData)
    → value_by words (words.certificate_of who) resource kind v
    ≡ signed_value words who resource kind v
unfolding value_by signed_value
value_signed words who resource kind v = refl

list_signed : (words : SignerWords) (who : About) (resource kind : ℕ) (vs : List StoredData)
    → map (value_by words (words.certificate_of who) resource kind) vs
    ≡ map (signed_value words who resource kind) vs
list_signed words who resource kind [] = refl
list_signed words who resource kind (v ∷ vs) =
    ap (λ (x : StoredData). x ∷ map (value_by words (words.certificate_of who) resource kind) vs)
    (value_signed words who resource kind v)
    ∙ ap (λ (xs : List StoredData). signed_value words who resource kind v ∷ xs)
    (list_signed words who resource kind vs)

values_signed : (words : SignerWords) (who : About) (resource kind : ℕ) (vs : KindValues)
    → values_by words (words.certificate_of who) resource kind vs
    ≡ signed_values words who resource kind vs
values_signed words who resource kind (Known vs) =
    ap (λ (xs : List StoredData). Known xs) (list_signed words who resource kind vs)
values_signed words who resource kind (Raw bytes) = refl

kind_signed : (words : SignerWords) (who : About) (resource : ℕ) (k : StoreKind)
    → kind_by words (words.certificate_of who) resource k ≡ signed_kind words who resource k
unfolding kind_by signed_kind
kind_signed words who resource k =
    ap (λ (vs : KindValues). record k { values = vs })
    (values_signed words who resource k.kind k.values)

pub all_signed : (words : SignerWords) (who : About) (resource : ℕ) (ks : List StoreKind)
    → map (kind_by words (words.certificate_of who) resource) ks
    ≡ map (signed_kind words who resource) ks
all_signed words who resource [] = refl
all_signed words who resource (k ∷ ks) =
    ap (λ (x : StoreKind). x ∷ map (kind_by words (words.certificate_of who) resource) ks)
    (kind_signed words who resource k)
    ∙ ap (λ (xs : List StoreKind). signed_kind words who resource k ∷ xs)
    (all_signed words who resource ks)

-- kinds that are signed with a node's certificate
pub kinds_done : {E : Type 0} (r : Result (List StoreKind) E) (words : SignerWords) (who : About)
    (certificate : List ℕ) (resource : ℕ) (ks : List StoreKind)
    → certificate ≡ words.certificate_of who → All (λ (k : StoreKind). AreSpelled k.values) ks
    → IfOk r (λ x. All (λ (k : StoreKind). AreSpelled k.values) ks
    → x ≡ map (kind_by words certificate resource) ks)
    → IfOk r (λ x. x ≡ map (signed_kind words who resource) ks)
kinds_done (Ok x) words who certificate resource ks e all h =
    h all ∙ ap (λ (b : List ℕ). map (kind_by words b resource) ks) e
    ∙ all_signed words who resource ks
kinds_done (Err bad) words who certificate resource ks e all h = tt

-- one more is changed, if all so far were
pub changed_more : {X : Type 0} (P : X → Type 0) (f : X → X) (before out new : List X) (x y : X)
    → (All P before → out ≡ map f before) → (P x → y ≡ f x) → new ≡ out ++ y ∷ []
    → All P (before ++ x ∷ []) → new ≡ map f (before ++ x ∷ [])
changed_more {X} P f before out new x y so_far one pushed all =
    let parts = All-pop P (before ++ x ∷ []) before (Some x) refl all in
    pushed ∙ ap (λ (l : List X). l ++ y ∷ []) (so_far parts.0)
    ∙ ap (λ (z : X). map f before ++ z ∷ []) (one parts.1) ∙ sym (map-append f before (x ∷ []))
