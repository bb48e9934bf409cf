-- No two decisions that act are on the same Store.
use Rattle.std.proofs.Common.{◌≡◌, ◌≢◌, ℕ, ◌<◌, ◌≤◌, ⊎_elim, true, false, not, cond, eqb, ◌||◌, List, [], ◌∷◌, ◌++◌, map, length, Option, Some, None, is_some, refl, sym, ap, ◌∙◌, subst, true≢false, lt_irrefl, le_trans, lt_of_le_of_lt}
use Rattle.std.proofs.lemmas.Bool.{cond-true, cond-false, cases_eq, eq-eqb, ne_eqb}
use Rattle.std.specs.List.{AllByRecursion, list_any}
use Rattle.std.specs.Ordering.{is_eq}
use Rattle.std.specs.Cmp.{tied_itself}
use Rattle.std.specs.Cmp.Lexicographic.{nat_list_cmp_total}
use Rattle.data_models.specs.declared.config.DataModel.{DataModel}
use Rattle.data_models.specs.Stored.{key_of}
use Rattle.storage_model.specs.declared.request.Value.{Value}
use Rattle.storage_model.specs.declared.request.AskedKind.{AskedKind}
use Rattle.storage_model.specs.Records.{Slots, Map, record_in, next_index}
use Rattle.storage_model.specs.Requests.{GroupValue, Group, values_of, puts, placed, appended, is_end, is_same_key, group_value, groups_of}
use Rattle.storage_model.specs.Puts.{at_keys, at_end, put_all}
use Rattle.storage_model.specs.Decisions.{Decision, effect_on, map_after, kinds_of, puts_of, puts_in, appends_to, times_of, Rises, acting_from, IsSameStore, NoneTwice}
use Rattle.storage_model.specs.Laws.{IsSound, AreSound, map_from, kind_at}
use Rattle.storage_model.proofs.KindLaws.{AreApart, NamesNot, asked_for}
use Rattle.storage_model.proofs.PutLaws.{times_at, times_asked, puts-times}
use Rattle.storage_model.proofs.Appends.{at_key}
use Rattle.storage_model.proofs.Effects.{Stays, Accepts, effect_is}
use Rattle.storage_model.proofs.Steps.{apart_at, puts_of-accepted}
use Rattle.storage_model.proofs.Runs.{HasIndexes, rises_step, indexes_step}
use Rattle.storage_model.proofs.Times.{RisesOver, last_time, last_not_below}
use Rattle.storage_model.proofs.OnceLaw.{floor_at, floor_step, floors_from, sound_front, indexes_from}
use Rattle.storage_model.proofs.AppendLaw.{append_floor_at, append_step, append_floors_from, appends_asked, appends-here, times_given}
use Rattle.storage_model.proofs.Truths.{some_same}

-- a group's first value with its kind, or else what comes later
abbrev pub onto : ℕ → List GroupValue → Option (ℕ × GroupValue) → Option (ℕ × GroupValue)
onto kind [] later = later
onto kind (v ∷ vs) later = Some (kind, v)

-- the first value of groups, with its kind
abbrev pub first_value : List Group → Option (ℕ × GroupValue)
first_value [] = None
first_value (g ∷ gs) = onto g.kind g.values (first_value gs)

-- a kind that is asked for, and its first value
pub record PutsFirst (kind : ℕ) (v : GroupValue) (asked : List AskedKind) : Type 0 where
  pub a : AskedKind
  pub found : asked_for kind asked ≡ Some a
  pub value : Value
  pub rest : List Value
  pub values : values_of a ≡ value ∷ rest
  pub same : group_value value ≡ v

none_found : (kind : ℕ) (asked : List AskedKind) → NamesNot kind asked → asked_for kind asked ≡ None
none_found kind [] n = refl
none_found kind (a ∷ asked) n = cond-false _ (Some a) (asked_for kind asked) (ne_eqb kind a.kind n.0) ∙ none_found kind asked n.1

-- a kind that is found among the others isn't the one before them
found_behind : (kind : ℕ) (b a : AskedKind) (asked : List AskedKind) → NamesNot b.kind asked → asked_for kind asked ≡ Some a → asked_for kind (b ∷ asked) ≡ Some a
found_behind kind b a asked n e =
    ⊎_elim
    (λ (same : kind ≡ b.kind). absurd (true≢false (sym (ap is_some (sym (none_found kind asked (subst (λ i. NamesNot i asked) (sym same) n)) ∙ e)))))
    (λ (other : kind ≢ b.kind). cond-false _ (Some b) (asked_for kind asked) (ne_eqb kind b.kind other) ∙ e)
    (cases_eq kind b.kind)

by_values : (kind : ℕ) (v : GroupValue) (a : AskedKind) (asked : List AskedKind) → AreApart (a ∷ asked) → (first_value (groups_of asked) ≡ Some (kind, v) → PutsFirst kind v asked)
    → (vs : List Value) → values_of a ≡ vs → onto a.kind (map group_value vs) (first_value (groups_of asked)) ≡ Some (kind, v) → PutsFirst kind v (a ∷ asked)
by_values kind v a asked apart later [] is e =
    let l = later e in
    record { a = l.a; found = found_behind kind a l.a asked apart.0 l.found; value = l.value; rest = l.rest; values = l.values; same = l.same }
by_values kind v a asked apart later (w ∷ ws) is e =
    let same : ◌≡◌ {A = ℕ × GroupValue} (a.kind, group_value w) (kind, v) = some_same (a.kind, group_value w) (kind, v) e in
    record { a = a; found = cond-true _ (Some a) (asked_for kind asked) (eq-eqb kind a.kind (sym (ap (λ (p : ℕ × GroupValue). p.0) same))); value = w; rest = ws; values = is; same = ap (λ (p : ℕ × GroupValue). p.1) same }

-- what is put first, where something is
puts_first : (kind : ℕ) (v : GroupValue) (asked : List AskedKind) → AreApart asked → first_value (groups_of asked) ≡ Some (kind, v) → PutsFirst kind v asked
unfolding groups_of
puts_first kind v [] apart e = absurd (true≢false (sym (ap is_some e)))
puts_first kind v (a ∷ asked) apart e =
    by_values kind v a asked apart (λ f. puts_first kind v asked apart.1 f) (values_of a) refl e

no_puts_of_none : (a : AskedKind) → values_of a ≡ [] → puts a ≡ false
unfolding puts
no_puts_of_none a e = ap (λ vs. not (eqb (length vs) 0)) e

some_by : (a : AskedKind) (asked : List AskedKind) → (list_any puts asked ≡ true → (kind : ℕ) × (v : GroupValue) × (first_value (groups_of asked) ≡ Some (kind, v)))
    → (vs : List Value) → values_of a ≡ vs → list_any puts (a ∷ asked) ≡ true → (kind : ℕ) × (v : GroupValue) × (onto a.kind (map group_value vs) (first_value (groups_of asked)) ≡ Some (kind, v))
some_by a asked later [] is e = later (sym (ap (λ b. b || list_any puts asked) (no_puts_of_none a is)) ∙ e)
some_by a asked later (w ∷ ws) is e = (a.kind, group_value w, refl)

first_some : (asked : List AskedKind) → list_any puts asked ≡ true → (kind : ℕ) × (v : GroupValue) × (first_value (groups_of asked) ≡ Some (kind, v))
unfolding groups_of
first_some [] e = absurd (true≢false (sym e))
first_some (a ∷ asked) e = some_by a asked (λ f. first_some asked f) (values_of a) refl e

-- a list that begins with a time
abbrev pub BeginsWith : ℕ → List ℕ → Type 0
BeginsWith t ts = (more : List ℕ) × (ts ≡ t ∷ more)

key_itself : (key : List ℕ) → is_same_key key key ≡ true
key_itself key = ap is_eq (tied_itself nat_list_cmp_total key)

placed_first : (now : ℕ) (slots : Slots) (v : GroupValue) (a : AskedKind) (value : Value) (rest : List Value) → values_of a ≡ value ∷ rest → group_value value ≡ v → is_end v.key ≡ false
    → BeginsWith v.storage_time (times_asked now slots (key_of v.key) (Some a))
unfolding placed at_keys
placed_first now slots v a value rest is same e =
    let end : is_end value.stored.key ≡ false = ap (λ (w : GroupValue). is_end w.key) same ∙ e in
    let key : List ℕ = key_of v.key in
    let here : is_same_key key (key_of value.stored.key) ≡ true = subst (λ q. is_same_key key q ≡ true) (sym (ap (λ (w : GroupValue). key_of w.key) same)) (key_itself key) in
    let first : at_key key (at_keys (placed (values_of a))) ≡ (key_of value.stored.key, value) ∷ at_key key (at_keys (placed rest)) =
    ap (λ vs. at_key key (at_keys (placed vs))) is
    ∙ ap (λ b. at_key key (at_keys (cond (not b) (value ∷ placed rest) (placed rest)))) end
    ∙ ap (λ b. cond b ((key_of value.stored.key, value) ∷ at_key key (at_keys (placed rest))) (at_key key (at_keys (placed rest)))) here in (
      _,
      ap (λ vs. times_at vs ++ times_at (at_key key (at_end (next_index (put_all now slots (at_keys (placed (values_of a))))) (appended (values_of a))))) first
          ∙ ap (λ t. t ∷ (times_at (at_key key (at_keys (placed rest))) ++ times_at (at_key key (at_end (next_index (put_all now slots (at_keys (placed (values_of a))))) (appended (values_of a)))))) (ap (λ (w : GroupValue). w.storage_time) same),
    )

appended_first : (v : GroupValue) (a : AskedKind) (value : Value) (rest : List Value) → values_of a ≡ value ∷ rest → group_value value ≡ v → is_end v.key ≡ true → BeginsWith v.storage_time (appends_asked (Some a))
unfolding appended
appended_first v a value rest is same e =
    let end : is_end value.stored.key ≡ true = ap (λ (w : GroupValue). is_end w.key) same ∙ e in (
      _,
      ap (λ vs. times_given (appended vs)) is
          ∙ ap (λ b. times_given (cond b (value ∷ appended rest) (appended rest))) end
          ∙ ap (λ t. t ∷ times_given (appended rest)) (ap (λ (w : GroupValue). w.storage_time) same),
    )

-- a decision that acts is an accepted Store
acts_as : (m : Map) (d : Decision) → (effect_on m d).acted ≡ true → Accepts d.config d.time d.resource (record_in m d.resource) d.asked (effect_on m d)
acts_as m d e =
    ⊎_elim (λ (h : Stays (record_in m d.resource) (effect_on m d)). absurd (true≢false (sym e ∙ h.still))) (λ a. a) (effect_is d.config d.time d.resource (record_in m d.resource) d.origin d.id d.asked)

-- and puts its first value
pub first_put : (m : Map) (d : Decision) → (effect_on m d).acted ≡ true → (kind : ℕ) × (v : GroupValue) × (first_value (groups_of (kinds_of d.asked)) ≡ Some (kind, v))
first_put m d e =
    let a = acts_as m d e in
    first_some (kinds_of d.asked) (ap (λ asked. list_any puts (kinds_of asked)) a.is_store ∙ sym a.acts ∙ e)

pub times_first : (models : ℕ → DataModel) (m : Map) (d : Decision) (kind : ℕ) (v : GroupValue) → IsSound models d → (effect_on m d).acted ≡ true → first_value (groups_of (kinds_of d.asked)) ≡ Some (kind, v) → is_end v.key ≡ false
    → BeginsWith v.storage_time (times_of (puts_in d.resource kind (key_of v.key) (puts_of m d)))
unfolding puts_in
times_first models m d kind v s e f end =
    let a = acts_as m d e in
    let apart = apart_at d.config d.asked s.request in
    let first = puts_first kind v (kinds_of d.asked) apart f in
    let begins = placed_first d.time (kind_at m d.resource kind).slots v first.a first.value first.rest first.values first.same end in (
      begins.0,
      ap (λ ps. times_of (puts_in d.resource kind (key_of v.key) ps)) (puts_of-accepted m d a) ∙ puts-times (record_in m d.resource).kinds d kind (key_of v.key) (kinds_of d.asked) apart
          ∙ ap (times_asked d.time (kind_at m d.resource kind).slots (key_of v.key)) first.found ∙ begins.1,
    )

pub appends_first : (models : ℕ → DataModel) (m : Map) (d : Decision) (kind : ℕ) (v : GroupValue) → IsSound models d → (effect_on m d).acted ≡ true → first_value (groups_of (kinds_of d.asked)) ≡ Some (kind, v) → is_end v.key ≡ true
    → BeginsWith v.storage_time (times_of (appends_to d.resource kind (puts_of m d)))
unfolding appends_to
appends_first models m d kind v s e f end =
    let a = acts_as m d e in
    let apart = apart_at d.config d.asked s.request in
    let first = puts_first kind v (kinds_of d.asked) apart f in
    let begins = appended_first v first.a first.value first.rest first.values first.same end in
    (begins.0, ap (λ ps. times_of (appends_to d.resource kind ps)) (puts_of-accepted m d a) ∙ appends-here (record_in m d.resource).kinds d kind (kinds_of d.asked) apart ∙ ap appends_asked first.found ∙ begins.1)

-- the first of times that rise is over the floor before, and not over the one that they leave
first_over : (f t : ℕ) (ts : List ℕ) → BeginsWith t ts → RisesOver f ts → f < t
first_over f t ts b h = (subst (RisesOver f) b.1 h).1.0

first_left : (f t : ℕ) (ts : List ℕ) → BeginsWith t ts → RisesOver f ts → t ≤ last_time f ts
unfolding Rises
first_left f t ts b h =
    let k = subst (RisesOver f) b.1 h in
    subst (λ us. t ≤ last_time f us) (sym b.1) (last_not_below t b.0 (k.0.1, k.0.0))

-- a later decision on the same Store doesn't act
abbrev Later : Map → Decision → List Decision → Decision → Type 0
Later m d between e = (effect_on (map_from (map_after m d) between) e).acted ≡ true

later_slot : (models : ℕ → DataModel) (m : Map) (d e : Decision) (between : List Decision) (kind : ℕ) (v : GroupValue) → IsSound models d → IsSound models e → AreSound models between → HasIndexes models m
    → (effect_on m d).acted ≡ true → Later m d between e → e.resource ≡ d.resource → first_value (groups_of (kinds_of d.asked)) ≡ Some (kind, v) → first_value (groups_of (kinds_of e.asked)) ≡ Some (kind, v) → is_end v.key ≡ false → ⊥
later_slot models m d e between kind v s t b i a l r f g end =
    let n : Map = map_from (map_after m d) between in
    let here = indexes_step models m d s i in
    let key : List ℕ = key_of v.key in
    let left = first_left (floor_at m d.resource kind key) v.storage_time _ (times_first models m d kind v s a f end) (rises_step models m d d.resource kind key s i) in
    let at_least = le_trans (subst (λ j. v.storage_time ≤ j) (sym (floor_step models m d d.resource kind key s)) left) (floors_from models between (map_after m d) d.resource kind key b here) in
    let over = first_over (floor_at n e.resource kind key) v.storage_time _ (times_first models n e kind v t l g end) (rises_step models n e e.resource kind key t (indexes_from models between (map_after m d) b here)) in
    lt_irrefl v.storage_time (lt_of_le_of_lt at_least (subst (λ j. floor_at n j kind key < v.storage_time) r over))

later_append : (models : ℕ → DataModel) (m : Map) (d e : Decision) (between : List Decision) (kind : ℕ) (v : GroupValue) → IsSound models d → IsSound models e → AreSound models between
    → (effect_on m d).acted ≡ true → Later m d between e → e.resource ≡ d.resource → first_value (groups_of (kinds_of d.asked)) ≡ Some (kind, v) → first_value (groups_of (kinds_of e.asked)) ≡ Some (kind, v) → is_end v.key ≡ true → ⊥
later_append models m d e between kind v s t b a l r f g end =
    let n : Map = map_from (map_after m d) between in
    let step = append_step models m d d.resource kind s in
    let left = first_left (append_floor_at m d.resource kind) v.storage_time _ (appends_first models m d kind v s a f end) step.rises in
    let at_least = le_trans (subst (λ j. v.storage_time ≤ j) (sym step.floor) left) (append_floors_from models between (map_after m d) d.resource kind b) in
    let over = first_over (append_floor_at n e.resource kind) v.storage_time _ (appends_first models n e kind v t l g end) (append_step models n e e.resource kind t).rises in
    lt_irrefl v.storage_time (lt_of_le_of_lt at_least (subst (λ j. append_floor_at n j kind < v.storage_time) r over))

not_again : (models : ℕ → DataModel) (m : Map) (d e : Decision) (between : List Decision) → IsSound models d → IsSound models e → AreSound models between → HasIndexes models m → (effect_on m d).acted ≡ true → Later m d between e → IsSameStore d e → ⊥
not_again models m d e between s t b i a l same =
    let first = first_put m d a in
    let again = ap first_value same.groups ∙ first.2 in
    (elim (is_end first.1.key) as (λ c. is_end first.1.key ≡ c → ⊥) [
      | true ↦ λ end. later_append models m d e between first.0 first.1 s t b a l same.resource first.2 again end
      | false ↦ λ end. later_slot models m d e between first.0 first.1 s t b i a l same.resource first.2 again end
    ]) refl

-- what holds of each decision that acts later holds of all that do
acting_all : (P : Decision → Type 0) (ds : List Decision) (m : Map) → ((before : List Decision) (e : Decision) (rest : List Decision) → before ++ e ∷ rest ≡ ds → (effect_on (map_from m before) e).acted ≡ true → P e) → AllByRecursion P (acting_from m ds)
unfolding acting_from map_from
acting_all P [] m h = tt
acting_all P (d ∷ ds) m h =
    let later = acting_all P ds (map_after m d) (λ before e rest is a. h (d ∷ before) e rest (ap (λ es. d ∷ es) is) a) in
    (elim (effect_on m d).acted as (λ b. (effect_on m d).acted ≡ b → AllByRecursion P (cond b (d ∷ []) [] ++ acting_from (map_after m d) ds)) [
      | true ↦ λ a. (h [] d ds refl a, later)
      | false ↦ λ a. later
    ]) refl

sound_at : (models : ℕ → DataModel) (before : List Decision) (e : Decision) (rest ds : List Decision) → before ++ e ∷ rest ≡ ds → AreSound models ds → AreSound models before × IsSound models e
sound_at models before e rest ds is s = let parts = sound_front models before (e ∷ rest) (subst (AreSound models) (sym is) s) in (parts.0, parts.1.0)

pub none_twice : (models : ℕ → DataModel) (ds : List Decision) (m : Map) → AreSound models ds → HasIndexes models m → NoneTwice (acting_from m ds)
unfolding acting_from NoneTwice
none_twice models [] m s i = tt
none_twice models (d ∷ ds) m s i =
    let later = none_twice models ds (map_after m d) s.1 (indexes_step models m d s.0 i) in
    (elim (effect_on m d).acted as (λ b. (effect_on m d).acted ≡ b → NoneTwice (cond b (d ∷ []) [] ++ acting_from (map_after m d) ds)) [
      | true ↦ λ a. (acting_all (λ e. IsSameStore d e → ⊥) ds (map_after m d) (λ before e rest is l. let sound = sound_at models before e rest ds is s.1 in not_again models m d e before s.0 sound.1 sound.0 i a l), later)
      | false ↦ λ a. later
    ]) refl
