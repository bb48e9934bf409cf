-- What a decision makes of a record: its kinds stay, or a Store was accepted.
use Rattle.std.proofs.Common.{◌≡◌, ◌≢◌, ℕ, ◌+◌, ◌⊎◌, inl, inr, true, false, cond, Option, Some, None, unwrap_or, refl, ap, ◌∙◌, ⊎_elim}
use Rattle.std.proofs.lemmas.Bool.{cond-true, cond-false}
use Rattle.std.specs.Option.{option_map_or}
use Rattle.std.specs.List.{list_any}
use Rattle.std.specs.Cmp.{nat_cmp_total}
use Rattle.std.specs.FinMap.{get-insert}
use Rattle.reload_ids.specs.declared.NodeId.{NodeId}
use Rattle.data_models.specs.declared.config.Config.{Config}
use Rattle.storage_model.specs.declared.record.Kept.{Kept}
use Rattle.storage_model.specs.declared.refusal.Refusal.{Refusal}
use Rattle.storage_model.specs.declared.request.StoreAsked.{StoreAsked}
use Rattle.storage_model.specs.declared.request.Asked.{Asked}
use Rattle.storage_model.specs.declared.request.Asked.TheVariants.{Bad, Unsigned, Store, Fetch, Join}
use Rattle.storage_model.specs.declared.verdict.FetchVerdict.{FetchVerdict}
use Rattle.storage_model.specs.declared.verdict.FetchVerdict.TheVariants.{Values, Refused}
use Rattle.storage_model.specs.Records.{Record, Map, record_in, empty_record, kept_for}
use Rattle.storage_model.specs.Refusals.{error_code, first_cause}
use Rattle.storage_model.specs.Requests.{puts}
use Rattle.storage_model.specs.Puts.{kinds_after}
use Rattle.storage_model.specs.Verdict.{Outcome, outcome_of, decided, repeated, refused, accepted, is_traceless, store_causes, noted, told}
use Rattle.storage_model.specs.Fetches.{fetch_verdict}
use Rattle.storage_model.specs.Decisions.{Effect, effect_of, changed, joined, found, with_joined, join_causes}
use Rattle.storage_model.proofs.Truths.{key_same, key_other}

-- the record of a decision's resource afterwards
abbrev pub after : Record → Option Record → Record
after x next = unwrap_or next x

-- kinds stay, and nothing acts
pub record Stays (x : Record) (e : Effect) : Type 0 where
  pub kinds : (after x e.next).kinds ≡ x.kinds
  pub still : e.acted ≡ false

-- a Store that no cause refuses was accepted
pub record Accepts (config : Config) (now resource : ℕ) (x : Record) (asked : Asked) (e : Effect) : Type 0 where
  pub request : StoreAsked
  pub is_store : asked ≡ Store request
  pub causeless : first_cause (store_causes config now resource x.kinds request) ≡ None
  pub kinds : (after x e.next).kinds ≡ kinds_after now x.kinds request.kinds
  pub acts : e.acted ≡ list_any puts request.kinds

abbrev OutcomeIs : Option Refusal → ℕ → Record → StoreAsked → Outcome → Type 0
OutcomeIs c now x q out =
    (((after x out.next).kinds ≡ x.kinds) × (out.verdict.acted ≡ false))
    ⊎ ((c ≡ None) × ((after x out.next).kinds ≡ kinds_after now x.kinds q.kinds) × (out.verdict.acted ≡ list_any puts q.kinds))

outcome_is : (o : Option Kept) (c : Option Refusal) (now : ℕ) (x : Record) (origin : NodeId) (id : ℕ) (q : StoreAsked)
    → OutcomeIs c now x q (option_map_or repeated o (decided c now x origin id q))
unfolding repeated refused accepted noted
outcome_is (Some kept) c now x origin id q = inl (refl, refl)
outcome_is None (Some cause) now x origin id q =
    inl (elim (is_traceless cause) as (λ b. (after x (cond b None (Some (noted (record { origin = origin; id = id; code = error_code cause; counters = told cause x.kinds q.kinds }) x.kinds x)))).kinds ≡ x.kinds) [ true ↦ refl | false ↦ refl ], refl)
outcome_is None None now x origin id q = inr (refl, refl, refl)

joined_stays : (c : Option Refusal) (x : Record) → Stays x (joined c x)
unfolding with_joined
joined_stays (Some cause) x = record { kinds = refl; still = refl }
joined_stays None x =
    record { kinds = elim x.joined as (λ b. (after x (cond b None (Some (record x { turn = x.turn + 1; joined = true })))).kinds ≡ x.kinds) [ true ↦ refl | false ↦ refl ]; still = refl }

found_stays : (v : FetchVerdict) (x : Record) → Stays x (found v)
found_stays (Values kinds) x = record { kinds = refl; still = refl }
found_stays (Refused cause) x = record { kinds = refl; still = refl }

pub effect_is : (config : Config) (now resource : ℕ) (x : Record) (origin : NodeId) (id : ℕ) (asked : Asked)
    → Stays x (effect_of config now resource x origin id asked) ⊎ Accepts config now resource x asked (effect_of config now resource x origin id asked)
unfolding outcome_of
effect_is config now resource x origin id Bad = inl (record { kinds = refl; still = refl })
effect_is config now resource x origin id Unsigned = inl (record { kinds = refl; still = refl })
effect_is config now resource x origin id (Fetch q) = inl (found_stays (fetch_verdict config now x.kinds q) x)
effect_is config now resource x origin id (Join q) = inl (joined_stays (first_cause (join_causes config q)) x)
effect_is config now resource x origin id (Store q) =
    ⊎_elim
    (λ h. inl (record { kinds = h.0; still = h.1 }))
    (λ h. inr (record { request = q; is_store = refl; causeless = h.0; kinds = h.1; acts = h.2 }))
    (outcome_is (kept_for x.kept origin.0 id) (first_cause (store_causes config now resource x.kinds q)) now x origin id q)

-- the record that changed, and each other one
pub record_in-same : (m : Map) (r : ℕ) (next : Option Record) → record_in (changed m r next) r ≡ after (record_in m r) next
record_in-same m r None = refl
record_in-same m r (Some x) = ap (λ o. unwrap_or o empty_record) (get-insert nat_cmp_total m r x r ∙ cond-true _ _ _ (key_same r))

pub record_in-other : (m : Map) (r : ℕ) (next : Option Record) (q : ℕ) → q ≢ r → record_in (changed m r next) q ≡ record_in m q
record_in-other m r None q n = refl
record_in-other m r (Some x) q n = ap (λ o. unwrap_or o empty_record) (get-insert nat_cmp_total m r x q ∙ cond-false _ _ _ (key_other q r n))
