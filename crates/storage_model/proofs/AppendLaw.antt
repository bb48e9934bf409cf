-- Times that are appended to one array rise over a run.
use Rattle.std.proofs.Common.{◌≡◌, ◌≢◌, ℕ, ◌≤◌, ⊎_elim, Bool, true, false, cond, eqb, ◌&&◌, List, [], ◌∷◌, ◌++◌, map, flat_map, Option, Some, None, refl, sym, ap, ap₂, ◌∙◌, subst, le_trans, le_refl, ◌+◌, nat_le}
use Rattle.std.proofs.lemmas.Bool.{cond-true, cond-false, cases_eq, eq-eqb, ne_eqb, leb-false, eqb-true}
use Rattle.std.proofs.lemmas.List.Elements.{filter-append}
use Rattle.std.specs.List.{list_any}
use Rattle.data_models.specs.declared.config.DataModel.{DataModel}
use Rattle.storage_model.specs.declared.request.Value.{Value}
use Rattle.storage_model.specs.declared.request.AskedKind.{AskedKind}
use Rattle.storage_model.specs.declared.request.StoreAsked.{StoreAsked}
use Rattle.storage_model.specs.Records.{KindEntry, Kinds, Record, Map, record_in, kind_in, next_index, swept}
use Rattle.storage_model.specs.Requests.{values_of, puts, placed, appended}
use Rattle.storage_model.specs.Puts.{ValuesAt, at_keys, at_end, put_all, append_floor_after, kind_after, kinds_after}
use Rattle.storage_model.specs.Verdict.{is_stale, is_too_old}
use Rattle.storage_model.specs.Decisions.{Decision, Put, effect_on, map_after, kinds_of, puts_at, kind_puts, puts_of, puts_from, appends_to, times_of, Rises}
use Rattle.storage_model.specs.Laws.{IsSound, AreSound, map_from, kind_at}
use Rattle.storage_model.proofs.KindLaws.{AreApart, NamesNot, asked_for, kind_with, kind_in-fold, kind_in-all_swept}
use Rattle.storage_model.proofs.PutLaws.{both_true, both_false, append-nil_right, times_of-append, no_values}
use Rattle.storage_model.proofs.Effects.{Stays, Accepts, effect_is, record_in-same, record_in-other}
use Rattle.storage_model.proofs.Causes.{IsCauseless, causeless}
use Rattle.storage_model.proofs.Steps.{apart_at, puts_of-still, puts_of-accepted}
use Rattle.storage_model.proofs.Times.{RisesOver, last_time, rises_none, rises_join, over_less, last_not_below}
use Rattle.storage_model.proofs.Truths.{or_parts, none_of, found_test, found_all}

-- the storage times of values
abbrev pub times_given : List Value → List ℕ
times_given vs = map (λ (v : Value). v.stored.storage_time) vs

pub appends_to-append : (r kind : ℕ) (ps qs : List Put) → appends_to r kind (ps ++ qs) ≡ appends_to r kind ps ++ appends_to r kind qs
unfolding appends_to
appends_to-append r kind ps qs = filter-append (λ p. eqb p.resource r && eqb p.kind kind && p.appended) ps qs

-- what isn't appended, or elsewhere, is none of it
dropped : (b c : Bool) (x : Put) (ps : List Put) → (b && c) ≡ false → cond (b && c) (x ∷ ps) ps ≡ ps
dropped b c x ps e = ap (λ d. cond d (x ∷ ps) ps) e

none_here : (d : Decision) (r kind id : ℕ) (app : Bool) (vs : ValuesAt) → ((eqb d.resource r && eqb id kind) && app) ≡ false → appends_to r kind (puts_at d id app vs) ≡ []
unfolding appends_to
none_here d r kind id app [] e = refl
none_here d r kind id app (v ∷ vs) e = dropped (eqb d.resource r && eqb id kind) app _ _ e ∙ none_here d r kind id app vs e

kept : (b : Bool) (x : Put) (ps : List Put) → b ≡ true → cond (b && true) (x ∷ ps) ps ≡ x ∷ ps
kept b x ps e = ap (λ a. cond (a && true) (x ∷ ps) ps) e

end_times : (d : Decision) (r kind id : ℕ) (n : ℕ) (vs : List Value) → (eqb d.resource r && eqb id kind) ≡ true → times_of (appends_to r kind (puts_at d id true (at_end n vs))) ≡ times_given vs
unfolding appends_to at_end
end_times d r kind id n [] e = refl
end_times d r kind id n (v ∷ vs) e = ap times_of (kept (eqb d.resource r && eqb id kind) _ _ e) ∙ ap (λ ts. v.stored.storage_time ∷ ts) (end_times d r kind id (n + 1) vs e)

no_append : (b : Bool) → (b && false) ≡ false
no_append true = refl
no_append false = refl

elsewhere : (b : Bool) → b ≡ false → (b && true) ≡ false
elsewhere b e = ap (λ c. c && true) e

kind_appends-elsewhere : (kinds : Kinds) (d : Decision) (r kind : ℕ) (a : AskedKind) → (eqb d.resource r && eqb a.kind kind) ≡ false → appends_to r kind (kind_puts kinds d a) ≡ []
unfolding kind_puts
kind_appends-elsewhere kinds d r kind a e =
    let first : ValuesAt = at_keys (placed (values_of a)) in
    let rest : ValuesAt = at_end (next_index (put_all d.time (kind_in kinds a.kind).slots first)) (appended (values_of a)) in
    appends_to-append r kind (puts_at d a.kind false first) (puts_at d a.kind true rest)
    ∙ ap₂ (λ ps qs. ps ++ qs) (none_here d r kind a.kind false first (no_append (eqb d.resource r && eqb a.kind kind))) (none_here d r kind a.kind true rest (elsewhere (eqb d.resource r && eqb a.kind kind) e))

kind_appends-here : (kinds : Kinds) (d : Decision) (r kind : ℕ) (a : AskedKind) → (eqb d.resource r && eqb a.kind kind) ≡ true → times_of (appends_to r kind (kind_puts kinds d a)) ≡ times_given (appended (values_of a))
unfolding kind_puts
kind_appends-here kinds d r kind a e =
    let first : ValuesAt = at_keys (placed (values_of a)) in
    let n : ℕ = next_index (put_all d.time (kind_in kinds a.kind).slots first) in
    let rest : ValuesAt = at_end n (appended (values_of a)) in
    ap times_of (appends_to-append r kind (puts_at d a.kind false first) (puts_at d a.kind true rest)
    ∙ ap (λ ps. ps ++ appends_to r kind (puts_at d a.kind true rest)) (none_here d r kind a.kind false first (no_append (eqb d.resource r && eqb a.kind kind))))
    ∙ end_times d r kind a.kind n (appended (values_of a)) e

all-elsewhere : (kinds : Kinds) (d : Decision) (r kind : ℕ) (asked : List AskedKind) → NamesNot kind asked → appends_to r kind (flat_map (kind_puts kinds d) asked) ≡ []
unfolding appends_to
all-elsewhere kinds d r kind [] n = refl
all-elsewhere kinds d r kind (a ∷ asked) n =
    appends_to-append r kind (kind_puts kinds d a) (flat_map (kind_puts kinds d) asked)
    ∙ ap₂ (λ ps qs. ps ++ qs) (kind_appends-elsewhere kinds d r kind a (both_false (eqb d.resource r) (ne_eqb a.kind kind (λ e. n.0 (sym e))))) (all-elsewhere kinds d r kind asked n.1)

other_resource : (kinds : Kinds) (d : Decision) (r kind : ℕ) (asked : List AskedKind) → d.resource ≢ r → appends_to r kind (flat_map (kind_puts kinds d) asked) ≡ []
unfolding appends_to
other_resource kinds d r kind [] n = refl
other_resource kinds d r kind (a ∷ asked) n =
    appends_to-append r kind (kind_puts kinds d a) (flat_map (kind_puts kinds d) asked)
    ∙ ap₂ (λ ps qs. ps ++ qs) (kind_appends-elsewhere kinds d r kind a (ap (λ b. b && eqb a.kind kind) (ne_eqb d.resource r n))) (other_resource kinds d r kind asked n)

-- the storage times that are asked to be appended to a kind
abbrev pub appends_asked : Option AskedKind → List ℕ
appends_asked None = []
appends_asked (Some a) = times_given (appended (values_of a))

pub appends-here : (kinds : Kinds) (d : Decision) (kind : ℕ) (asked : List AskedKind) → AreApart asked → times_of (appends_to d.resource kind (flat_map (kind_puts kinds d) asked)) ≡ appends_asked (asked_for kind asked)
unfolding appends_to
appends-here kinds d kind [] apart = refl
appends-here kinds d kind (a ∷ asked) apart =
    ap times_of (appends_to-append d.resource kind (kind_puts kinds d a) (flat_map (kind_puts kinds d) asked))
    ∙ ⊎_elim
    (λ (e : kind ≡ a.kind).
    ap times_of
    (ap (λ qs. appends_to d.resource kind (kind_puts kinds d a) ++ qs) (all-elsewhere kinds d d.resource kind asked (subst (λ i. NamesNot i asked) (sym e) apart.0))
    ∙ append-nil_right _)
    ∙ kind_appends-here kinds d d.resource kind a (both_true (eq-eqb d.resource d.resource refl) (eq-eqb a.kind kind (sym e)))
    ∙ sym (ap appends_asked (cond-true _ (Some a) (asked_for kind asked) (eq-eqb kind a.kind e))))
    (λ (n : kind ≢ a.kind).
    ap (λ ps. times_of (ps ++ appends_to d.resource kind (flat_map (kind_puts kinds d) asked))) (kind_appends-elsewhere kinds d d.resource kind a (both_false (eqb d.resource d.resource) (ne_eqb a.kind kind (λ e. n (sym e)))))
    ∙ appends-here kinds d kind asked apart.1
    ∙ sym (ap appends_asked (cond-false _ (Some a) (asked_for kind asked) (ne_eqb kind a.kind n))))
    (cases_eq kind a.kind)

-- appends that aren't too old rise
stale_rises : (f : ℕ) (vs : List Value) → is_stale f vs ≡ false → RisesOver f (times_given vs)
unfolding is_stale Rises
stale_rises f [] e = (tt, tt)
stale_rises f (v ∷ vs) e =
    let parts = or_parts (nat_le v.stored.storage_time f) _ e in
    let over = leb-false v.stored.storage_time f parts.0 in
    let later = stale_rises v.stored.storage_time vs parts.1 in
    ((later.1, later.0), (over, over_less f v.stored.storage_time (times_given vs) over later.1))

floor_of_appends : (f : ℕ) (vs : List Value) → append_floor_after f vs ≡ last_time f (times_given vs)
unfolding append_floor_after
floor_of_appends f [] = refl
floor_of_appends f (v ∷ vs) = floor_of_appends v.stored.storage_time vs

nothing_given : (f : ℕ) (vs : List Value) → vs ≡ [] → f ≡ last_time f (times_given (appended vs))
unfolding appended
nothing_given f vs e = sym (ap (λ ws. last_time f (times_given (appended ws))) e)

-- the floor of appends of a kind after what is asked of it
append_floor_with : (now : ℕ) (k : KindEntry) (o : Option AskedKind) → (kind_with now (swept now k) o).append_floor ≡ last_time k.append_floor (appends_asked o)
unfolding swept kind_after
append_floor_with now k None = refl
append_floor_with now k (Some a) =
    (elim (puts a) as (λ b. puts a ≡ b → (cond b (kind_after now (swept now k) (values_of a)) (swept now k)).append_floor ≡ last_time k.append_floor (times_given (appended (values_of a)))) [
      | true ↦ λ e. floor_of_appends k.append_floor (appended (values_of a))
      | false ↦ λ e. nothing_given k.append_floor (values_of a) (no_values a e)
    ]) refl

abbrev pub append_floor_at : Map → ℕ → ℕ → ℕ
append_floor_at m r kind = (kind_at m r kind).append_floor

-- what an accepted Store appends rises, and its floor is the last time
old_asked : (kinds : Kinds) (kind : ℕ) (asked : List AskedKind) → list_any (is_too_old kinds) asked ≡ false → (o : Option AskedKind) → asked_for kind asked ≡ o → RisesOver (kind_in kinds kind).append_floor (appends_asked o)
unfolding is_too_old
old_asked kinds kind asked h None e = rises_none (kind_in kinds kind).append_floor
old_asked kinds kind asked h (Some a) e =
    let old = or_parts _ _ (found_all (λ b. is_too_old kinds b ≡ false) (λ (b : AskedKind). eqb kind b.kind) asked a (none_of (is_too_old kinds) asked h) e) in
    subst (λ i. RisesOver (kind_in kinds i).append_floor (times_given (appended (values_of a)))) (sym (eqb-true kind a.kind (found_test (λ (b : AskedKind). eqb kind b.kind) asked a e)))
    (stale_rises (kind_in kinds a.kind).append_floor (appended (values_of a)) old.1)

-- what one decision does to an array's floor, and the times that it appends
pub record AppendStep (m : Map) (d : Decision) (r kind : ℕ) : Type 0 where
  pub floor : append_floor_at (map_after m d) r kind ≡ last_time (append_floor_at m r kind) (times_of (appends_to r kind (puts_of m d)))
  pub rises : RisesOver (append_floor_at m r kind) (times_of (appends_to r kind (puts_of m d)))

-- the same with the kinds afterwards and the times given
abbrev StepOf : ℕ → ℕ → List ℕ → Type 0
StepOf before after ts = (after ≡ last_time before ts) × RisesOver before ts

accepted_step : (models : ℕ → DataModel) (d : Decision) (kinds : Kinds) (q : StoreAsked) (resource kind : ℕ) → AreApart q.kinds → IsCauseless d.config d.time resource kinds q
    → StepOf (kind_in kinds kind).append_floor (kind_in (kinds_after d.time kinds q.kinds) kind).append_floor (appends_asked (asked_for kind q.kinds))
unfolding kinds_after
accepted_step models d kinds q resource kind apart h = (
  ap (λ (k : KindEntry). k.append_floor) (kind_in-fold d.time kind q.kinds _ apart ∙ ap (λ k. kind_with d.time k (asked_for kind q.kinds)) (kind_in-all_swept d.time kinds kind))
      ∙ append_floor_with d.time (kind_in kinds kind) (asked_for kind q.kinds),
  old_asked kinds kind q.kinds h.newer (asked_for kind q.kinds) refl,
)

step_here : (models : ℕ → DataModel) (m : Map) (d : Decision) (kind : ℕ) → IsSound models d → StepOf (append_floor_at m d.resource kind) (append_floor_at (map_after m d) d.resource kind) (times_of (appends_to d.resource kind (puts_of m d)))
unfolding appends_to
step_here models m d kind s =
    let x : Record = record_in m d.resource in
    let same = ap (λ (y : Record). (kind_in y.kinds kind).append_floor) (record_in-same m d.resource (effect_on m d).next) in
    ⊎_elim
    (λ (h : Stays x (effect_on m d)).
    let none : times_of (appends_to d.resource kind (puts_of m d)) ≡ [] = ap (λ ps. times_of (appends_to d.resource kind ps)) (puts_of-still m d h.still) in
    subst (StepOf (append_floor_at m d.resource kind) (append_floor_at (map_after m d) d.resource kind)) (sym none) (same ∙ ap (λ kinds. (kind_in kinds kind).append_floor) h.kinds, rises_none (append_floor_at m d.resource kind)))
    (λ (a : Accepts d.config d.time d.resource x d.asked (effect_on m d)).
    let given : times_of (appends_to d.resource kind (puts_of m d)) ≡ appends_asked (asked_for kind a.request.kinds) =
    ap (λ ps. times_of (appends_to d.resource kind ps)) (puts_of-accepted m d a) ∙ appends-here x.kinds d kind (kinds_of d.asked) (apart_at d.config d.asked s.request) ∙ ap (λ asked. appends_asked (asked_for kind (kinds_of asked))) a.is_store in
    let step = accepted_step models d x.kinds a.request d.resource kind (subst (λ asked. AreApart (kinds_of asked)) a.is_store (apart_at d.config d.asked s.request)) (causeless d.config d.time d.resource x.kinds a.request a.causeless) in
    subst (StepOf (append_floor_at m d.resource kind) (append_floor_at (map_after m d) d.resource kind)) (sym given) (same ∙ ap (λ kinds. (kind_in kinds kind).append_floor) a.kinds ∙ step.0, step.1))
    (effect_is d.config d.time d.resource x d.origin d.id d.asked)

not_appended : (b : Bool) (r kind : ℕ) (ps : List Put) → appends_to r kind ps ≡ [] → appends_to r kind (cond b ps []) ≡ []
unfolding appends_to
not_appended true r kind ps e = e
not_appended false r kind ps e = refl

appends-elsewhere : (m : Map) (d : Decision) (r kind : ℕ) → d.resource ≢ r → appends_to r kind (puts_of m d) ≡ []
unfolding puts_of
appends-elsewhere m d r kind n = not_appended (effect_on m d).acted r kind _ (other_resource (record_in m d.resource).kinds d r kind (kinds_of d.asked) n)

pub append_step : (models : ℕ → DataModel) (m : Map) (d : Decision) (r kind : ℕ) → IsSound models d → AppendStep m d r kind
append_step models m d r kind s =
    ⊎_elim
    (λ (e : d.resource ≡ r).
    subst (λ j. AppendStep m d j kind) e (let step = step_here models m d kind s in record { floor = step.0; rises = step.1 }))
    (λ (n : d.resource ≢ r).
    let step : StepOf (append_floor_at m r kind) (append_floor_at (map_after m d) r kind) (times_of (appends_to r kind (puts_of m d))) =
    subst (λ ps. StepOf (append_floor_at m r kind) (append_floor_at (map_after m d) r kind) (times_of ps)) (sym (appends-elsewhere m d r kind n))
    (ap (λ (y : Record). (kind_in y.kinds kind).append_floor) (record_in-other m d.resource (effect_on m d).next r (λ e. n (sym e))), rises_none (append_floor_at m r kind)) in
    record { floor = step.0; rises = step.1 })
    (cases_eq d.resource r)

-- what is appended over a run rises over the floor of appends
pub appends_from : (models : ℕ → DataModel) (ds : List Decision) (m : Map) (r kind : ℕ) → AreSound models ds → RisesOver (append_floor_at m r kind) (times_of (appends_to r kind (puts_from m ds)))
unfolding puts_from appends_to
appends_from models [] m r kind s = rises_none (append_floor_at m r kind)
appends_from models (d ∷ ds) m r kind s =
    let here = append_step models m d r kind s.0 in
    let later = appends_from models ds (map_after m d) r kind s.1 in
    subst (RisesOver (append_floor_at m r kind))
    (sym (ap times_of (appends_to-append r kind (puts_of m d) (puts_from (map_after m d) ds)) ∙ times_of-append (appends_to r kind (puts_of m d)) (appends_to r kind (puts_from (map_after m d) ds))))
    (rises_join (append_floor_at m r kind) (times_of (appends_to r kind (puts_of m d))) (times_of (appends_to r kind (puts_from (map_after m d) ds))) here.rises
    (subst (λ f. RisesOver f (times_of (appends_to r kind (puts_from (map_after m d) ds)))) here.floor later))

-- the floor of appends doesn't fall over a run
pub append_floors_from : (models : ℕ → DataModel) (ds : List Decision) (m : Map) (r kind : ℕ) → AreSound models ds → append_floor_at m r kind ≤ append_floor_at (map_from m ds) r kind
unfolding map_from
append_floors_from models [] m r kind s = le_refl _
append_floors_from models (d ∷ ds) m r kind s =
    let here = append_step models m d r kind s.0 in
    le_trans (subst (λ f. append_floor_at m r kind ≤ f) (sym here.floor) (last_not_below _ _ here.rises)) (append_floors_from models ds (map_after m d) r kind s.1)
