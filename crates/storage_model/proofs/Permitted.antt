-- Nothing that wasn't permitted is ever held.
use Rattle.std.proofs.Common.{◌≡◌, ℕ, ◌+◌, ◌⊎◌, inl, inr, ⊎_elim, Bool, true, false, not, cond, eqb, ◌&&◌, List, [], ◌∷◌, ◌++◌, filter, flat_map, Option, Some, None, is_some, unwrap_or, nat_le, refl, sym, ap, ◌∙◌, subst, true≢false, append_assoc, append-nil}
use Rattle.std.proofs.lemmas.Bool.{cases_Bool, eqb-true, and_parts}
use Rattle.std.specs.Option.{option_map_or}
use Rattle.std.specs.List.{AllByRecursion, list_any}
use Rattle.std.specs.FinMap.{empty}
use Rattle.data_models.specs.declared.config.KindDef.{KindDef}
use Rattle.data_models.specs.declared.config.DataModel.{DataModel}
use Rattle.data_models.specs.Configs.{kind_of}
use Rattle.storage_model.specs.declared.record.Held.{Held}
use Rattle.storage_model.specs.declared.request.Value.{Value}
use Rattle.storage_model.specs.declared.request.AskedKind.{AskedKind}
use Rattle.storage_model.specs.Records.{SlotEntry, Slots, Kinds, Record, Map, record_in, kind_in, slot_in, next_index, unexpired, swept_slot}
use Rattle.storage_model.specs.Requests.{values_of, placed, appended, is_end, is_same_key, is_permitted}
use Rattle.storage_model.specs.Puts.{ValuesAt, held_of, at_keys, at_end, put_all}
use Rattle.storage_model.specs.Verdict.{is_unknown, is_forbidden}
use Rattle.storage_model.specs.Decisions.{Decision, Put, effect_on, map_after, kinds_of, puts_at, kind_puts, puts_of, puts_in}
use Rattle.storage_model.specs.Laws.{IsSoundAsked, AreSound, WasPermitted, map_from, map_of, kind_at}
use Rattle.storage_model.proofs.PutLaws.{slot_after}
use Rattle.storage_model.proofs.Effects.{Stays, Accepts, effect_is}
use Rattle.storage_model.proofs.Causes.{causeless}
use Rattle.storage_model.proofs.Steps.{slot_step, puts_of-still, puts_of-accepted}
use Rattle.storage_model.proofs.Runs.{known_kind}
use Rattle.storage_model.proofs.OnceLaw.{map_from-append}
use Rattle.storage_model.proofs.Lasts.{last_held, held_after, empty_at}
use Rattle.storage_model.proofs.Truths.{not_false, none_of}

-- a put of a value that its decision's configuration permits
pub record IsPermittedPut (d : Decision) (p : Put) : Type 0 where
  pub here : p.resource ≡ d.resource
  pub definition : KindDef
  pub defined : kind_of d.config p.kind ≡ Some definition
  pub value : Value
  pub permitted : is_permitted definition d.resource value ≡ true
  pub held : p.held ≡ held_of d.time value

all-append : {X : Type 0} (P : X → Type 0) (xs ys : List X) → AllByRecursion P xs → AllByRecursion P ys → AllByRecursion P (xs ++ ys)
all-append P [] ys h k = k
all-append P (x ∷ xs) ys h k = (h.0, all-append P xs ys h.1 k)

all-filter : {X : Type 0} (P : X → Type 0) (test : X → Bool) (xs : List X) → AllByRecursion P xs → AllByRecursion (λ x. P x × (test x ≡ true)) (filter test xs)
all-filter P test [] h = tt
all-filter P test (x ∷ xs) h =
    (elim (test x) as (λ b. test x ≡ b → AllByRecursion (λ y. P y × (test y ≡ true)) (cond b (x ∷ filter test xs) (filter test xs))) [
      | true ↦ λ e. ((h.0, e), all-filter P test xs h.1)
      | false ↦ λ e. all-filter P test xs h.1
    ]) refl

all-weaken : {X : Type 0} (P Q : X → Type 0) → ((x : X) → P x → Q x) → (xs : List X) → AllByRecursion P xs → AllByRecursion Q xs
all-weaken P Q f [] h = tt
all-weaken P Q f (x ∷ xs) h = (f x h.0, all-weaken P Q f xs h.1)

abbrev Permits : Decision → KindDef → Value → Type 0
Permits d def v = is_permitted def d.resource v ≡ true

at_keys_all : (P : Value → Type 0) (vs : List Value) → AllByRecursion P vs → AllByRecursion (λ (v : List ℕ × Value). P v.1) (at_keys vs)
unfolding at_keys
at_keys_all P [] h = tt
at_keys_all P (v ∷ vs) h = (h.0, at_keys_all P vs h.1)

at_end_all : (P : Value → Type 0) (n : ℕ) (vs : List Value) → AllByRecursion P vs → AllByRecursion (λ (v : List ℕ × Value). P v.1) (at_end n vs)
unfolding at_end
at_end_all P n [] h = tt
at_end_all P n (v ∷ vs) h = (h.0, at_end_all P (n + 1) vs h.1)

puts_permitted : (d : Decision) (kind : ℕ) (def : KindDef) (app : Bool) (vs : ValuesAt) → kind_of d.config kind ≡ Some def → AllByRecursion (λ (v : List ℕ × Value). Permits d def v.1) vs → AllByRecursion (IsPermittedPut d) (puts_at d kind app vs)
puts_permitted d kind def app [] e h = tt
puts_permitted d kind def app (v ∷ vs) e h = (record { here = refl; definition = def; defined = e; value = v.1; permitted = h.0; held = refl }, puts_permitted d kind def app vs e h.1)

-- values of a kind that isn't forbidden
allowed_values : (d : Decision) (a : AskedKind) (def : KindDef) → kind_of d.config a.kind ≡ Some def → is_forbidden d.config d.resource a ≡ false → AllByRecursion (Permits d def) (values_of a)
unfolding is_forbidden
allowed_values d a def e f =
    all-weaken (λ (v : Value). not (is_permitted def d.resource v) ≡ false) (Permits d def) (λ v h. not_false _ h) (values_of a)
    (none_of (λ (v : Value). not (is_permitted def d.resource v)) (values_of a)
    (sym (ap (λ o. option_map_or (λ (kind : KindDef). list_any (λ (v : Value). not (is_permitted kind d.resource v)) (values_of a)) o false) e) ∙ f))

kind_permitted : (kinds : Kinds) (d : Decision) (a : AskedKind) → is_unknown d.config a ≡ false → is_forbidden d.config d.resource a ≡ false → AllByRecursion (IsPermittedPut d) (kind_puts kinds d a)
unfolding kind_puts is_unknown placed appended
kind_permitted kinds d a u f =
    let known = known_kind (kind_of d.config a.kind) u in
    let values = allowed_values d a known.0 known.1 f in
    let slots : Slots = (kind_in kinds a.kind).slots in
    let first = all-weaken _ (Permits d known.0) (λ v h. h.0) _ (all-filter (Permits d known.0) (λ (v : Value). not (is_end v.stored.key)) (values_of a) values) in
    let last = all-weaken _ (Permits d known.0) (λ v h. h.0) _ (all-filter (Permits d known.0) (λ (v : Value). is_end v.stored.key) (values_of a) values) in
    all-append (IsPermittedPut d) (puts_at d a.kind false (at_keys (placed (values_of a)))) (puts_at d a.kind true (at_end (next_index (put_all d.time slots (at_keys (placed (values_of a))))) (appended (values_of a))))
    (puts_permitted d a.kind known.0 false (at_keys (placed (values_of a))) known.1 (at_keys_all (Permits d known.0) (placed (values_of a)) first))
    (puts_permitted d a.kind known.0 true _ known.1 (at_end_all (Permits d known.0) _ (appended (values_of a)) last))

asked_permitted : (kinds : Kinds) (d : Decision) (asked : List AskedKind) → AllByRecursion (λ a. is_unknown d.config a ≡ false) asked → AllByRecursion (λ a. is_forbidden d.config d.resource a ≡ false) asked → AllByRecursion (IsPermittedPut d) (flat_map (kind_puts kinds d) asked)
asked_permitted kinds d [] u f = tt
asked_permitted kinds d (a ∷ asked) u f = all-append (IsPermittedPut d) (kind_puts kinds d a) (flat_map (kind_puts kinds d) asked) (kind_permitted kinds d a u.0 f.0) (asked_permitted kinds d asked u.1 f.1)

-- all that a decision puts is permitted
all_permitted : (m : Map) (d : Decision) → AllByRecursion (IsPermittedPut d) (puts_of m d)
all_permitted m d =
    let x : Record = record_in m d.resource in
    ⊎_elim
    (λ (h : Stays x (effect_on m d)). subst (AllByRecursion (IsPermittedPut d)) (sym (puts_of-still m d h.still)) tt)
    (λ (a : Accepts d.config d.time d.resource x d.asked (effect_on m d)).
    let c = causeless d.config d.time d.resource x.kinds a.request a.causeless in
    subst (AllByRecursion (IsPermittedPut d)) (sym (puts_of-accepted m d a ∙ ap (λ asked. flat_map (kind_puts x.kinds d) (kinds_of asked)) a.is_store))
    (asked_permitted x.kinds d a.request.kinds (none_of (is_unknown d.config) a.request.kinds c.known) (none_of (is_forbidden d.config d.resource) a.request.kinds c.permitted)))
    (effect_is d.config d.time d.resource x d.origin d.id d.asked)

-- what is held last is one of the puts, or was held before
last_of : (Q : Held → Type 0) (o : Option Held) (ps : List Put) (h : Held) → AllByRecursion (λ (p : Put). Q p.held) ps → last_held o ps ≡ Some h → (o ≡ Some h) ⊎ Q h
last_of Q o [] h a e = inl e
last_of Q o (p ∷ ps) h a e =
    ⊎_elim (λ (f : Some p.held ≡ Some h). inr (subst Q (ap (λ q. unwrap_or q p.held) f) a.0)) (λ q. inr q) (last_of Q (Some p.held) ps h a.1 e)

was_held : (then : ℕ) (o : Option Held) (h : Held) → unexpired then o ≡ Some h → o ≡ Some h
unfolding unexpired
was_held then None h e = e
was_held then (Some g) h e =
    elim (nat_le g.expiry then) as (λ b. cond b None (Some g) ≡ Some h → Some g ≡ Some h) [ true ↦ λ f. absurd (true≢false (sym (ap is_some f))) | false ↦ λ f. f ] e

-- what is put in a slot was permitted, by a decision that acted
permitted_at : (before : List Decision) (d : Decision) (r kind : ℕ) (p : Put) → (effect_on (map_of before) d).acted ≡ true → IsPermittedPut d p → p.resource ≡ r → p.kind ≡ kind → WasPermitted (before ++ d ∷ []) r kind p.held
permitted_at before d r kind p acted w here same =
    record {
      before = before;
      decision = d;
      after = [];
      among = refl;
      here = sym w.here ∙ here;
      acted = acted;
      definition = w.definition;
      defined = subst (λ i. kind_of d.config i ≡ Some w.definition) same w.defined;
      value = w.value;
      permitted = subst (λ i. is_permitted w.definition i w.value ≡ true) (sym w.here ∙ here) w.permitted;
      put = w.held;
    }

-- a put is at a slot where its test says so
put_at : (r kind : ℕ) (key : List ℕ) (p : Put) → (eqb p.resource r && eqb p.kind kind && is_same_key key p.key) ≡ true → (p.resource ≡ r) × (p.kind ≡ kind)
put_at r kind key p e =
    let parts = and_parts (eqb p.resource r && eqb p.kind kind) (is_same_key key p.key) e in
    let both = and_parts (eqb p.resource r) (eqb p.kind kind) parts.0 in
    (eqb-true p.resource r both.0, eqb-true p.kind kind both.1)

acted_permitted : (before : List Decision) (d : Decision) (r kind : ℕ) (key : List ℕ) → (effect_on (map_of before) d).acted ≡ true → AllByRecursion (λ (p : Put). WasPermitted (before ++ d ∷ []) r kind p.held) (puts_in r kind key (puts_of (map_of before) d))
unfolding puts_in
acted_permitted before d r kind key acted =
    all-weaken (λ (p : Put). IsPermittedPut d p × ((eqb p.resource r && eqb p.kind kind && is_same_key key p.key) ≡ true)) (λ (p : Put). WasPermitted (before ++ d ∷ []) r kind p.held)
    (λ p h. let at = put_at r kind key p h.1 in permitted_at before d r kind p acted h.0 at.0 at.1) _
    (all-filter (IsPermittedPut d) (λ (p : Put). eqb p.resource r && eqb p.kind kind && is_same_key key p.key) (puts_of (map_of before) d) (all_permitted (map_of before) d))

here_permitted : (before : List Decision) (d : Decision) (r kind : ℕ) (key : List ℕ) → AllByRecursion (λ (p : Put). WasPermitted (before ++ d ∷ []) r kind p.held) (puts_in r kind key (puts_of (map_of before) d))
unfolding puts_in
here_permitted before d r kind key =
    ⊎_elim
    (λ (a : (effect_on (map_of before) d).acted ≡ true). acted_permitted before d r kind key a)
    (λ (s : (effect_on (map_of before) d).acted ≡ false). subst (λ ps. AllByRecursion (λ (p : Put). WasPermitted (before ++ d ∷ []) r kind p.held) (puts_in r kind key ps)) (sym (puts_of-still (map_of before) d s)) tt)
    (cases_Bool (effect_on (map_of before) d).acted)

-- what a decision of a list put was permitted
step_permitted : (before : List Decision) (d : Decision) (r kind : ℕ) (key : List ℕ) (h : Held) → IsSoundAsked d.config d.asked → (slot_in (kind_at (map_after (map_of before) d) r kind).slots key).held ≡ Some h
    → ((slot_in (kind_at (map_of before) r kind).slots key).held ≡ Some h) ⊎ WasPermitted (before ++ d ∷ []) r kind h
step_permitted before d r kind key h s e =
    let m : Map = map_of before in
    let t : SlotEntry = slot_in (kind_at m r kind).slots key in
    let ps : List Put = puts_in r kind key (puts_of m d) in
    let all : AllByRecursion (λ (p : Put). WasPermitted (before ++ d ∷ []) r kind p.held) ps = here_permitted before d r kind key in
    ⊎_elim
    (λ (f : slot_in (kind_at (map_after m d) r kind).slots key ≡ slot_after t ps).
    last_of (WasPermitted (before ++ d ∷ []) r kind) t.held ps h all (sym (ap (λ (u : SlotEntry). u.held) f ∙ held_after t ps) ∙ e))
    (λ (f : slot_in (kind_at (map_after m d) r kind).slots key ≡ slot_after (swept_slot d.time t) ps).
    ⊎_elim (λ g. inl (was_held d.time t.held h g)) (λ g. inr g)
    (last_of (WasPermitted (before ++ d ∷ []) r kind) (unexpired d.time t.held) ps h all (sym (ap (λ (u : SlotEntry). u.held) f ∙ held_after (swept_slot d.time t) ps) ∙ e)))
    (slot_step m d r kind key s)

-- a decision behind others changes nothing of what was permitted
permitted_behind : (before : List Decision) (d : Decision) (r kind : ℕ) (h : Held) → WasPermitted before r kind h → WasPermitted (before ++ d ∷ []) r kind h
permitted_behind before d r kind h w = record {
  before = w.before;
  decision = w.decision;
  after = w.after ++ d ∷ [];
  among = sym (append_assoc w.before (w.decision ∷ w.after) (d ∷ [])) ∙ ap (λ ds. ds ++ d ∷ []) w.among;
  here = w.here;
  acted = w.acted;
  definition = w.definition;
  defined = w.defined;
  value = w.value;
  permitted = w.permitted;
  put = w.put;
}

pub permitted_from : (models : ℕ → DataModel) (ds before : List Decision) → AreSound models ds → ((r kind : ℕ) (key : List ℕ) (h : Held) → (slot_in (kind_at (map_of before) r kind).slots key).held ≡ Some h → WasPermitted before r kind h)
    → (r kind : ℕ) (key : List ℕ) (h : Held) → (slot_in (kind_at (map_from (map_of before) ds) r kind).slots key).held ≡ Some h → WasPermitted (before ++ ds) r kind h
unfolding map_from
permitted_from models [] before s w r kind key h e = subst (λ ds. WasPermitted ds r kind h) (sym (append-nil before)) (w r kind key h e)
permitted_from models (d ∷ ds) before s w r kind key h e =
    subst (λ es. WasPermitted es r kind h) (append_assoc before (d ∷ []) ds)
    (permitted_from models ds (before ++ d ∷ []) s.1
    (λ r2 kind2 key2 h2 f.
    ⊎_elim (λ g. permitted_behind before d r2 kind2 h2 (w r2 kind2 key2 h2 g)) (λ g. g)
    (step_permitted before d r2 kind2 key2 h2 s.0.request (subst (λ m. (slot_in (kind_at m r2 kind2).slots key2).held ≡ Some h2) (map_from-append empty before (d ∷ [])) f)))
    r kind key h (subst (λ m. (slot_in (kind_at (map_from m ds) r kind).slots key).held ≡ Some h) (sym (map_from-append empty before (d ∷ []))) e))

pub permitted_all : (models : ℕ → DataModel) (ds : List Decision) (r kind : ℕ) (key : List ℕ) (h : Held) → AreSound models ds → (slot_in (kind_at (map_of ds) r kind).slots key).held ≡ Some h → WasPermitted ds r kind h
unfolding map_from
permitted_all models ds r kind key h s e =
    permitted_from models ds [] s (λ r2 kind2 key2 h2 f. absurd (true≢false (sym (ap is_some f) ∙ ap (λ (u : SlotEntry). is_some u.held) (empty_at r2 kind2 key2)))) r kind key h e
