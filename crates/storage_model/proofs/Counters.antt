-- Counters rise by one at most, and weights stay within their limit.
use Rattle.std.proofs.Common.{◌≡◌, ◌≢◌, ℕ, ◌+◌, ◌≤◌, ⊎_elim, true, false, cond, List, Option, Some, None, refl, sym, ap, ◌∙◌, subst, arith, le_refl}
use Rattle.std.proofs.lemmas.Bool.{cases_eq, ltb-false}
use Rattle.std.specs.Option.{option_map_or}
use Rattle.reload_ids.specs.declared.NodeId.{NodeId}
use Rattle.data_models.specs.declared.config.Config.{Config}
use Rattle.storage_model.specs.declared.limits.TheConstants.{MAX_WEIGHT}
use Rattle.storage_model.specs.declared.record.Kept.{Kept}
use Rattle.storage_model.specs.declared.refusal.Refusal.{Refusal}
use Rattle.storage_model.specs.declared.request.AskedKind.{AskedKind}
use Rattle.storage_model.specs.declared.request.StoreAsked.{StoreAsked}
use Rattle.storage_model.specs.declared.request.Asked.{Asked}
use Rattle.storage_model.specs.declared.request.Asked.TheVariants.{Bad, Unsigned, Store, Fetch, Join}
use Rattle.storage_model.specs.declared.verdict.FetchVerdict.{FetchVerdict}
use Rattle.storage_model.specs.declared.verdict.FetchVerdict.TheVariants.{Values, Refused}
use Rattle.storage_model.specs.Records.{KindEntry, Kinds, Record, Map, record_in, kind_in, kept_for, swept, weight}
use Rattle.storage_model.specs.Refusals.{error_code, first_cause}
use Rattle.storage_model.specs.Requests.{values_of, puts}
use Rattle.storage_model.specs.Puts.{kind_after, kinds_after}
use Rattle.storage_model.specs.Verdict.{outcome_of, decided, repeated, refused, accepted, is_traceless, store_causes, noted, told}
use Rattle.storage_model.specs.Fetches.{fetch_verdict}
use Rattle.storage_model.specs.Decisions.{Decision, effect_of, effect_on, map_after, kinds_of, joined, found, with_joined, join_causes}
use Rattle.storage_model.specs.Laws.{IsSoundAsked, IsWithin}
use Rattle.storage_model.proofs.KindLaws.{AreApart, asked_for, kind_with, kind_in-fold, kind_in-all_swept}
use Rattle.storage_model.proofs.Effects.{after, Stays, Accepts, effect_is, record_in-same, record_in-other}
use Rattle.storage_model.proofs.Causes.{causeless}
use Rattle.storage_model.proofs.Steps.{apart_at}

one_more : (n : ℕ) → n ≤ n + 1
one_more n = omega arith

-- the turn of a record afterwards
turn_of_outcome : (o : Option Kept) (c : Option Refusal) (now : ℕ) (x : Record) (origin : NodeId) (id : ℕ) (q : StoreAsked) → (after x (option_map_or repeated o (decided c now x origin id q)).next).turn ≤ x.turn + 1
unfolding repeated refused accepted noted
turn_of_outcome (Some kept) c now x origin id q = one_more x.turn
turn_of_outcome None (Some cause) now x origin id q =
    elim (is_traceless cause) as (λ b. (after x (cond b None (Some (noted (record { origin = origin; id = id; code = error_code cause; counters = told cause x.kinds q.kinds }) x.kinds x)))).turn ≤ x.turn + 1) [ true ↦ one_more x.turn | false ↦ le_refl (x.turn + 1) ]
turn_of_outcome None None now x origin id q = le_refl (x.turn + 1)

turn_of_join : (c : Option Refusal) (x : Record) → (after x (joined c x).next).turn ≤ x.turn + 1
unfolding with_joined
turn_of_join (Some cause) x = one_more x.turn
turn_of_join None x = elim x.joined as (λ b. (after x (cond b None (Some (record x { turn = x.turn + 1; joined = true })))).turn ≤ x.turn + 1) [ true ↦ one_more x.turn | false ↦ le_refl (x.turn + 1) ]

turn_of_fetch : (v : FetchVerdict) (x : Record) → (after x (found v).next).turn ≤ x.turn + 1
turn_of_fetch (Values kinds) x = one_more x.turn
turn_of_fetch (Refused cause) x = one_more x.turn

turn_of : (config : Config) (now resource : ℕ) (x : Record) (origin : NodeId) (id : ℕ) (asked : Asked) → (after x (effect_of config now resource x origin id asked).next).turn ≤ x.turn + 1
unfolding outcome_of
turn_of config now resource x origin id Bad = one_more x.turn
turn_of config now resource x origin id Unsigned = one_more x.turn
turn_of config now resource x origin id (Fetch q) = turn_of_fetch (fetch_verdict config now x.kinds q) x
turn_of config now resource x origin id (Join q) = turn_of_join (first_cause (join_causes config q)) x
turn_of config now resource x origin id (Store q) = turn_of_outcome (kept_for x.kept origin.0 id) (first_cause (store_causes config now resource x.kinds q)) now x origin id q

-- the generation of a kind after what is asked of it
generation_with : (now : ℕ) (k : KindEntry) (o : Option AskedKind) → (kind_with now (swept now k) o).generation ≤ k.generation + 1
unfolding swept kind_after
generation_with now k None = one_more k.generation
generation_with now k (Some a) = elim (puts a) as (λ b. (cond b (kind_after now (swept now k) (values_of a)) (swept now k)).generation ≤ k.generation + 1) [ true ↦ le_refl (k.generation + 1) | false ↦ one_more k.generation ]

generation_after : (now kind : ℕ) (kinds : Kinds) (asked : List AskedKind) → AreApart asked → (kind_in (kinds_after now kinds asked) kind).generation ≤ (kind_in kinds kind).generation + 1
unfolding kinds_after
generation_after now kind kinds asked apart =
    subst (λ (k : KindEntry). k.generation ≤ (kind_in kinds kind).generation + 1) (sym (kind_in-fold now kind asked _ apart ∙ ap (λ k. kind_with now k (asked_for kind asked)) (kind_in-all_swept now kinds kind)))
    (generation_with now (kind_in kinds kind) (asked_for kind asked))

no_more : (a b n : ℕ) → a ≤ b + 1 → b ≤ n → a ≤ n + 1
no_more a b n h k = omega (arith, h, k)

within_stays : (a b n : ℕ) → a ≡ b → b ≤ n → a ≤ n + 1
within_stays a b n e h = omega (arith, e, h)

generations : (m : Map) (d : Decision) (n : ℕ) → IsSoundAsked d.config d.asked → ((kind : ℕ) → (kind_in (record_in m d.resource).kinds kind).generation ≤ n) → (kind : ℕ) → (kind_in (after (record_in m d.resource) (effect_on m d).next).kinds kind).generation ≤ n + 1
generations m d n s h kind =
    let x : Record = record_in m d.resource in
    ⊎_elim
    (λ (e : Stays x (effect_on m d)). within_stays _ _ n (ap (λ kinds. (kind_in kinds kind).generation) e.kinds) (h kind))
    (λ (a : Accepts d.config d.time d.resource x d.asked (effect_on m d)).
    subst (λ kinds. (kind_in kinds kind).generation ≤ n + 1) (sym a.kinds)
    (no_more _ (kind_in x.kinds kind).generation n (generation_after d.time kind x.kinds a.request.kinds (subst (λ asked. AreApart (kinds_of asked)) a.is_store (apart_at d.config d.asked s))) (h kind)))
    (effect_is d.config d.time d.resource x d.origin d.id d.asked)

within_more : (n : ℕ) (x : Record) → IsWithin n x → IsWithin (n + 1) x
within_more n x h = record { turn = within_stays x.turn x.turn n refl h.turn; generations = λ kind. within_stays _ _ n refl (h.generations kind) }

pub counters_bounded : (m : Map) (d : Decision) (n r : ℕ) → IsSoundAsked d.config d.asked → IsWithin n (record_in m r) → IsWithin (n + 1) (record_in (map_after m d) r)
counters_bounded m d n r s h =
    ⊎_elim
    (λ (e : d.resource ≡ r).
    let at : IsWithin n (record_in m d.resource) = subst (λ i. IsWithin n (record_in m i)) (sym e) h in
    subst (λ i. IsWithin (n + 1) (record_in (map_after m d) i)) e
    (subst (IsWithin (n + 1)) (sym (record_in-same m d.resource (effect_on m d).next))
    (record {
      turn = no_more _ (record_in m d.resource).turn n (turn_of d.config d.time d.resource (record_in m d.resource) d.origin d.id d.asked) at.turn;
      generations = generations m d n s at.generations;
    })))
    (λ (o : d.resource ≢ r). subst (IsWithin (n + 1)) (sym (record_in-other m d.resource (effect_on m d).next r (λ e. o (sym e)))) (within_more n (record_in m r) h))
    (cases_eq d.resource r)

-- no record passes its weight
pub weight_kept : (m : Map) (d : Decision) (r : ℕ) → weight (record_in m r).kinds ≤ MAX_WEIGHT → weight (record_in (map_after m d) r).kinds ≤ MAX_WEIGHT
weight_kept m d r h =
    let x : Record = record_in m d.resource in
    ⊎_elim
    (λ (e : d.resource ≡ r).
    subst (λ i. weight (record_in (map_after m d) i).kinds ≤ MAX_WEIGHT) e
    (subst (λ (y : Record). weight y.kinds ≤ MAX_WEIGHT) (sym (record_in-same m d.resource (effect_on m d).next))
    (⊎_elim
    (λ (k : Stays x (effect_on m d)). subst (λ kinds. weight kinds ≤ MAX_WEIGHT) (sym k.kinds) (subst (λ i. weight (record_in m i).kinds ≤ MAX_WEIGHT) (sym e) h))
    (λ (a : Accepts d.config d.time d.resource x d.asked (effect_on m d)).
    subst (λ kinds. weight kinds ≤ MAX_WEIGHT) (sym a.kinds) (ltb-false MAX_WEIGHT _ (causeless d.config d.time d.resource x.kinds a.request a.causeless).light))
    (effect_is d.config d.time d.resource x d.origin d.id d.asked))))
    (λ (o : d.resource ≢ r). subst (λ (y : Record). weight y.kinds ≤ MAX_WEIGHT) (sym (record_in-other m d.resource (effect_on m d).next r (λ e. o (sym e)))) h)
    (cases_eq d.resource r)
