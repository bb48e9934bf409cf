-- The order of the causes of a refusal.
use Rattle.std.proofs.Common.{◌≡◌, ℕ, Bool, true, false, cond, List, [], ◌∷◌, ◌++◌, ◌+◌, ◌≤◌, refl, ap, sym, subst, ◌∙◌, arith}
use lib.Dec.{T}
use Rattle.std.proofs.lemmas.Bool.Decides.{nat_tests}
use Rattle.std.specs.List.{list_any}
use Rattle.std.specs.Prelude.{Option, Some, None, is_some, unwrap_or, option_map, find, nat_lt, ◌||◌, if◌then◌else◌}
use Rattle.data_models.specs.declared.config.Config.{Config}
use Rattle.storage_model.specs.declared.refusal.Refusal.{Refusal}
use Rattle.storage_model.specs.declared.refusal.Refusal.TheVariants.{DataTooLarge}
use Rattle.storage_model.specs.declared.request.StoreAsked.{StoreAsked}
use Rattle.reload_ids.specs.declared.NodeId.{NodeId}
use Rattle.storage_model.specs.declared.verdict.StoreVerdict.{StoreVerdict}
use Rattle.storage_model.specs.declared.limits.TheConstants.{MAX_WEIGHT, MAX_KEPT}
use Rattle.storage_model.specs.Records.{Kinds, Record, weight}
use Rattle.storage_model.specs.Refusals.{Cause, first_cause, sequence_causes}
use Rattle.storage_model.specs.Puts.{kinds_after}
use Rattle.storage_model.specs.Verdict.{store_causes, record_causes, Outcome, decided, accepted, refused, noted, is_too_large}
use Rattle.storage_model.specs.declared.record.Kept.{Kept}
use Rattle.reload_base.specs.Lists.{pushed_within}
use Rattle.kind_store.specs.Steps.{settled_kept, early_causes, is_large, cause_before, cause_of, settled, accepted_answer}

-- the first of two lists of causes
abbrev pub or_else : Option Refusal → Option Refusal → Option Refusal
or_else None o = o
or_else (Some c) o = Some c

first_cause-append : (cs bs : List Cause) → first_cause (cs ++ bs) ≡ or_else (first_cause cs) (first_cause bs)
unfolding first_cause
first_cause-append [] bs = refl
first_cause-append (a ∷ cs) bs =
    elim a.1 as (λ b. option_map (λ (c : Cause). c.0) (cond b (Some a) (find (λ (c : Cause). c.1) (cs ++ bs))) ≡ or_else (option_map (λ (c : Cause). c.0) (cond b (Some a) (find (λ (c : Cause). c.1) cs))) (first_cause bs)) [ true ↦ refl | false ↦ first_cause-append cs bs ]

-- the cause of all, by the one before and the limits
last_cause : (o : Option Refusal) (large : Bool) → or_else o (first_cause ((DataTooLarge, large) ∷ [])) ≡ cause_of o large
unfolding first_cause
last_cause (Some c) large = refl
last_cause None true = refl
last_cause None false = refl

regrouped : (xs bs cs : List Cause) → xs ++ (bs ++ cs) ≡ (xs ++ bs) ++ cs
regrouped [] bs cs = refl
regrouped (x ∷ xs) bs cs = ap (λ ys. x ∷ ys) (regrouped xs bs cs)

pub store_cause : (config : Config) (now resource : ℕ) (kinds : Kinds) (request : StoreAsked) → first_cause (store_causes config now resource kinds request) ≡ cause_of (cause_before config resource kinds request) (is_large config (kinds_after now kinds request.kinds) request)
unfolding record_causes early_causes is_large cause_before
store_cause config now resource kinds request =
    let large = is_large config (kinds_after now kinds request.kinds) request in
    ap first_cause (regrouped (sequence_causes config request.sequence) (early_causes config resource kinds request) ((DataTooLarge, large) ∷ []))
    ∙ first_cause-append (sequence_causes config request.sequence ++ early_causes config resource kinds request) ((DataTooLarge, large) ∷ [])
    ∙ last_cause (cause_before config resource kinds request) large

pub first_cause_front : (config : Config) (resource : ℕ) (kinds : Kinds) (request : StoreAsked) → cause_before config resource kinds request ≡ or_else (first_cause (sequence_causes config request.sequence)) (first_cause (early_causes config resource kinds request))
unfolding cause_before
first_cause_front config resource kinds request = first_cause-append (sequence_causes config request.sequence) (early_causes config resource kinds request)

some_is : {X : Type 0} (v w : X) → Some v ≡ Some w → v ≡ w
some_is v w e = ap (λ o. unwrap_or o v) e

none_not : {A X : Type 0} (v : X) → Some v ≡ None → A
none_not v e = absurd (subst T (ap is_some e) tt)

module _ (now : ℕ) (x : Record) (origin : NodeId) (id : ℕ) (q : StoreAsked) where
  abbrev out_of : Bool → Outcome
  out_of b = decided (cause_of None b) now x origin id q

  by_verdict : (b : Bool) (v : StoreVerdict) → Some v ≡ (if b then None else Some (accepted now x origin id q).verdict) → v ≡ (out_of b).verdict
  by_verdict true v e = none_not v e
  by_verdict false v e = some_is v (accepted now x origin id q).verdict e

  by_next : (b : Bool) (v : StoreVerdict) (y : Record) → Some v ≡ (if b then None else Some (accepted now x origin id q).verdict) → y ≡ unwrap_or (accepted now x origin id q).next x → y ≡ unwrap_or (out_of b).next x
  by_next true v y e is = none_not v e
  by_next false v y e is = is

  by_large : (b : Bool) (w : StoreVerdict) → None ≡ (if b then None else Some w) → b ≡ true
  by_large true w e = refl
  by_large false w e = none_not w (sym e)

  module _ (config : Config) where
    abbrev large : Bool
    large = is_large config (kinds_after now x.kinds q.kinds) q

    -- a Store that is accepted
    pub accepted_verdict : (v : StoreVerdict) → Some v ≡ settled config (kinds_after now x.kinds q.kinds) q → v ≡ (out_of large).verdict
    unfolding settled accepted
    accepted_verdict v e = by_verdict large v e

    pub accepted_next : (v : StoreVerdict) (y : Record) → Some v ≡ settled config (kinds_after now x.kinds q.kinds) q
        → y ≡ noted (accepted_answer (kinds_after now x.kinds q.kinds) origin id q) (kinds_after now x.kinds q.kinds) x → y ≡ unwrap_or (out_of large).next x
    unfolding settled accepted
    accepted_next v y e is = by_next large v y e is

    -- and one that passes a limit
    pub is_refused : None ≡ settled config (kinds_after now x.kinds q.kinds) q → refused DataTooLarge x origin id q ≡ out_of large
    unfolding settled
    is_refused e = ap out_of (sym (by_large large _ e))

-- a record that stays light
pub light_after : (config : Config) (after : Kinds) (q : StoreAsked) (v : StoreVerdict) → Some v ≡ settled config after q → weight after ≤ MAX_WEIGHT
unfolding settled is_large
light_after config after q v e = not_heavy (weight after) (right_false (list_any (is_too_large config after) q.kinds) (nat_lt MAX_WEIGHT (weight after)) (by_small (is_large config after q) v _ e))
  where
    by_small : (b : Bool) (v w : StoreVerdict) → Some v ≡ (if b then None else Some w) → b ≡ false
    by_small true v w e = none_not v e
    by_small false v w e = refl

    right_false : (a b : Bool) → (a || b) ≡ false → b ≡ false
    right_false true b e = absurd (subst T e tt)
    right_false false b e = e

    not_heavy : (n : ℕ) → nat_lt 131072 n ≡ false → n ≤ 131072
    not_heavy n e = grind (arith, nat_tests, e)

-- a refusal for what there was before
pub decided_some : (config : Config) (now resource : ℕ) (x : Record) (origin : NodeId) (id : ℕ) (q : StoreAsked) (cause : Refusal) → Some cause ≡ cause_before config resource x.kinds q
    → refused cause x origin id q ≡ decided (first_cause (store_causes config now resource x.kinds q)) now x origin id q
decided_some config now resource x origin id q cause is =
    ap (λ o. decided (cause_of o (is_large config (kinds_after now x.kinds q.kinds) q)) now x origin id q) is
    ∙ ap (λ o. decided o now x origin id q) (sym (store_cause config now resource x.kinds q))

pub decided_none : (config : Config) (now resource : ℕ) (x : Record) (origin : NodeId) (id : ℕ) (q : StoreAsked) → None ≡ cause_before config resource x.kinds q
    → decided (cause_of None (is_large config (kinds_after now x.kinds q.kinds) q)) now x origin id q ≡ decided (first_cause (store_causes config now resource x.kinds q)) now x origin id q
decided_none config now resource x origin id q is =
    ap (λ o. decided (cause_of o (is_large config (kinds_after now x.kinds q.kinds) q)) now x origin id q) is
    ∙ ap (λ o. decided o now x origin id q) (sym (store_cause config now resource x.kinds q))

-- what is kept, and what isn't
kept_some : (b : Bool) (v w : StoreVerdict) (one two : List Kept) → Some v ≡ (if b then None else Some w) → (if b then one else two) ≡ two
kept_some true v w one two e = none_not v e
kept_some false v w one two e = refl

kept_none : (b : Bool) (w : StoreVerdict) (one two : List Kept) → None ≡ (if b then None else Some w) → (if b then one else two) ≡ one
kept_none true w one two e = refl
kept_none false w one two e = none_not w (sym e)

pub settled_some : (config : Config) (after : Kinds) (origin : NodeId) (id : ℕ) (q : StoreAsked) (kept : List Kept) (v : StoreVerdict) → Some v ≡ settled config after q
    → settled_kept config after origin id q kept ≡ pushed_within MAX_KEPT kept (accepted_answer after origin id q)
unfolding settled settled_kept
settled_some config after origin id q kept v e = kept_some (is_large config after q) v _ _ _ e

pub settled_none : (config : Config) (after : Kinds) (origin : NodeId) (id : ℕ) (q : StoreAsked) (kept : List Kept) → None ≡ settled config after q → settled_kept config after origin id q kept ≡ kept
unfolding settled settled_kept
settled_none config after origin id q kept e = kept_none (is_large config after q) _ _ _ e

abbrev pub record_of : ℕ → Bool → Kinds → List Kept → Record
record_of turn joined kinds kept = record { turn = turn; joined = joined; kinds = kinds; kept = kept }

-- the record after a Store was accepted
pub accepted_record : (config : Config) (now : ℕ) (origin : NodeId) (id : ℕ) (q : StoreAsked) (x : Record) (turn : ℕ) (joined : Bool) (kinds0 drafted kinds1 : Kinds) (kept0 kept1 : List Kept) (v : StoreVerdict)
    → record_of turn joined kinds0 kept0 ≡ x → drafted ≡ kinds0 → Some v ≡ settled config (kinds_after now drafted q.kinds) q
    → kinds1 ≡ kinds_after now drafted q.kinds → kept1 ≡ settled_kept config (kinds_after now drafted q.kinds) origin id q kept0
    → record_of (turn + 1) joined kinds1 kept1 ≡ noted (accepted_answer (kinds_after now x.kinds q.kinds) origin id q) (kinds_after now x.kinds q.kinds) x
unfolding noted
accepted_record config now origin id q x turn joined kinds0 drafted kinds1 kept0 kept1 v view drafts some kinds kept =
    let after = kinds_after now drafted q.kinds in
    ap (λ ks. record_of (turn + 1) joined ks kept1) kinds
    ∙ ap (λ ls. record_of (turn + 1) joined after ls) (kept ∙ settled_some config after origin id q kept0 v some)
    ∙ ap (λ ks. record_of (turn + 1) joined (kinds_after now ks q.kinds) (pushed_within MAX_KEPT kept0 (accepted_answer (kinds_after now ks q.kinds) origin id q))) drafts
    ∙ ap (λ (x : Record). noted (accepted_answer (kinds_after now x.kinds q.kinds) origin id q) (kinds_after now x.kinds q.kinds) x) view

pub kept_record : (config : Config) (origin : NodeId) (id : ℕ) (q : StoreAsked) (x : Record) (turn : ℕ) (joined : Bool) (kinds0 after kinds1 : Kinds) (kept0 kept1 : List Kept)
    → record_of turn joined kinds0 kept0 ≡ x → None ≡ settled config after q → kinds1 ≡ kinds0 → kept1 ≡ settled_kept config after origin id q kept0
    → record_of turn joined kinds1 kept1 ≡ x
kept_record config origin id q x turn joined kinds0 after kinds1 kept0 kept1 view none kinds kept =
    ap (λ ks. record_of turn joined ks kept1) kinds ∙ ap (λ ls. record_of turn joined kinds0 ls) (kept ∙ settled_none config after origin id q kept0 none) ∙ view
