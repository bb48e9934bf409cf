-- What one decision does to the times and the keys of the one map.
use Rattle.std.proofs.Common.{◌≡◌, ◌≢◌, ℕ, ⊎_elim, Bool, true, false, cond, eqb, List, Option, Some, None, is_none, nat_le, refl, sym, ap, ◌∙◌, subst, true≢false}
use Rattle.std.proofs.lemmas.Bool.{cases_eq, eqb-true, and_parts}
use Rattle.std.specs.Option.{option_map_or}
use Rattle.std.specs.List.{AllByRecursion, list_any}
use Rattle.std.specs.FinMap.{keys}
use Rattle.data_models.specs.declared.config.Config.{Config}
use Rattle.data_models.specs.declared.config.KindDef.{KindDef}
use Rattle.data_models.specs.declared.config.DataModel.{DataModel}
use Rattle.data_models.specs.declared.config.DataModel.TheVariants.{Array}
use Rattle.data_models.specs.Configs.{IsConfig, IsKind, kind_of}
use Rattle.data_models.specs.Stored.{key_of}
use Rattle.storage_model.specs.declared.request.Value.{Value}
use Rattle.storage_model.specs.declared.request.AskedKind.{AskedKind}
use Rattle.storage_model.specs.declared.request.StoreAsked.{StoreAsked}
use Rattle.storage_model.specs.declared.request.Asked.{Asked}
use Rattle.storage_model.specs.declared.request.Asked.TheVariants.{Store}
use Rattle.storage_model.specs.Records.{KindEntry, Kinds, Record, Map, record_in, kind_in, slot_in, swept}
use Rattle.storage_model.specs.Requests.{values_of, puts, placed, appended, is_sound, is_sound_kind, has_one}
use Rattle.storage_model.specs.Puts.{kind_after, kinds_after}
use Rattle.storage_model.specs.Verdict.{is_unknown, is_too_old, is_stale, is_too_large, is_beyond, passes_limits}
use Rattle.storage_model.specs.Decisions.{Decision, effect_on, map_after, kinds_of, puts_of, puts_in, times_of}
use Rattle.storage_model.specs.Laws.{IsKeyOf, IsSound, IsSoundAsked, kind_at}
use Rattle.storage_model.proofs.KindLaws.{AreApart, asked_for, kind_with, kind_in-fold, kind_in-all_swept}
use Rattle.storage_model.proofs.PutLaws.{times_asked, puts-times}
use Rattle.storage_model.proofs.Effects.{Stays, Accepts, effect_is, record_in-same, record_in-other}
use Rattle.storage_model.proofs.Causes.{IsCauseless, causeless, sound_apart, sound_kinds}
use Rattle.storage_model.proofs.Steps.{apart_at, puts_of-elsewhere, puts_of-still, puts_of-accepted}
use Rattle.storage_model.proofs.Indexes.{AreIndexKeys}
use Rattle.storage_model.proofs.KindTimes.{kind_rises}
use Rattle.storage_model.proofs.Rooms.{KeysAsked, room_of, index_keys_with}
use Rattle.storage_model.proofs.Times.{RisesOver, rises_none}
use Rattle.storage_model.proofs.Truths.{or_parts, not_true, none_of, each_of, found_test, found_all}

-- a known kind has a definition
pub known_kind : (o : Option KindDef) → is_none o ≡ false → (kind : KindDef) × (o ≡ Some kind)
known_kind None e = absurd (true≢false e)
known_kind (Some kind) e = (kind, refl)

-- the arrays of a map have keys of indices
abbrev pub HasIndexes : (ℕ → DataModel) → Map → Type 0
HasIndexes models m = (r kind : ℕ) → models kind ≡ Array → AreIndexKeys (keys (kind_at m r kind).slots)

abbrev pub AreKeysOf : (ℕ → DataModel) → List AskedKind → Type 0
AreKeysOf models asked = AllByRecursion (λ (a : AskedKind). AllByRecursion (λ (v : Value). IsKeyOf (models a.kind) v.stored.key) (values_of a)) asked

-- the limits of the definition that is found hold of the values
limited : (config : Config) (now : ℕ) (kinds : Kinds) (q : StoreAsked) (a : AskedKind) (def : KindDef) → kind_of config a.kind ≡ Some def
    → is_too_large config (kinds_after now kinds q.kinds) a ≡ false → passes_limits def (kind_in (kinds_after now kinds q.kinds) a.kind).slots (values_of a) ≡ false
unfolding is_too_large
limited config now kinds q a def e f = sym (ap (λ o. option_map_or (λ (kind : KindDef). passes_limits kind (kind_in (kinds_after now kinds q.kinds) a.kind).slots (values_of a)) o false) e) ∙ f

-- one kind of an accepted Store rises
rises_kind : (models : ℕ → DataModel) (config : Config) (now resource : ℕ) (kinds : Kinds) (q : StoreAsked) (kind : ℕ) (key : List ℕ) → IsConfig config → is_sound config q ≡ true → AreKeysOf models q.kinds
    → IsCauseless config now resource kinds q → (models kind ≡ Array → AreIndexKeys (keys (kind_in kinds kind).slots))
    → (a : AskedKind) → asked_for kind q.kinds ≡ Some a → kind ≡ a.kind → RisesOver (slot_in (kind_in kinds kind).slots key).floor (times_asked now (kind_in kinds kind).slots key (Some a))
unfolding is_too_old is_sound_kind is_unknown kinds_after kind_of
rises_kind models config now resource kinds q kind key c s k h indexes a e same =
    let k0 : KindEntry = kind_in kinds kind in
    let test : AskedKind → Bool = λ b. eqb kind b.kind in
    let known = known_kind (kind_of config a.kind) (found_all (λ b. is_unknown config b ≡ false) test q.kinds a (none_of (is_unknown config) q.kinds h.known) e) in
    let def : KindDef = known.0 in
    let limits : IsKind def = found_all IsKind (λ (d : KindDef). eqb d.id a.kind) config.kinds def c.kinds known.1 in
    let old = or_parts _ _ (found_all (λ b. is_too_old kinds b ≡ false) test q.kinds a (none_of (is_too_old kinds) q.kinds h.newer) e) in
    let once = not_true _ (and_parts (option_map_or (λ (d : KindDef). has_one d.model (values_of a)) (kind_of config a.kind) true) _ (found_all (λ b. is_sound_kind config b ≡ true) test q.kinds a (each_of (is_sound_kind config) q.kinds (sound_kinds config q s)) e)).1 in
    let large = or_parts _ _ (or_parts _ _ (limited config now kinds q a def known.1 (found_all (λ b. is_too_large config (kinds_after now kinds q.kinds) b ≡ false) test q.kinds a (none_of (is_too_large config (kinds_after now kinds q.kinds)) q.kinds h.small) e))).0 in
    let keys_are = found_all (λ b. AllByRecursion (λ (v : Value). IsKeyOf (models b.kind) v.stored.key) (values_of b)) test q.kinds a k e in
    let after : (kind_in (kinds_after now kinds q.kinds) a.kind) ≡ cond (puts a) (kind_after now (swept now k0) (values_of a)) (swept now k0) =
    ap (λ i. kind_in (kinds_after now kinds q.kinds) i) (sym same) ∙ kind_in-fold now kind q.kinds _ (sound_apart config q s) ∙ ap (kind_with now (kind_in _ kind)) e ∙ ap (λ j. kind_with now j (Some a)) (kind_in-all_swept now kinds kind) in
    let room = room_of (models a.kind) now def.max_count k0 a limits.count_to (λ m. indexes (ap models same ∙ m)) keys_are (subst (λ (j : KindEntry). list_any (λ (v : Value). is_beyond def.max_count j.slots v.stored.key) (values_of a) ≡ false) after large.1) in
    kind_rises now k0.slots k0.append_floor key (values_of a) once
    (subst (λ i. list_any (λ (v : Value). nat_le v.stored.storage_time (slot_in (kind_in kinds i).slots (key_of v.stored.key)).floor) (placed (values_of a)) ≡ false) (sym same) old.0)
    (subst (λ i. is_stale (kind_in kinds i).append_floor (appended (values_of a)) ≡ false) (sym same) old.1)
    room

-- the times that are asked of a kind, in one slot, rise over its floor
rises_asked : (models : ℕ → DataModel) (config : Config) (now resource : ℕ) (kinds : Kinds) (q : StoreAsked) (kind : ℕ) (key : List ℕ) → IsConfig config → is_sound config q ≡ true → AreKeysOf models q.kinds
    → IsCauseless config now resource kinds q → (models kind ≡ Array → AreIndexKeys (keys (kind_in kinds kind).slots))
    → (o : Option AskedKind) → asked_for kind q.kinds ≡ o → RisesOver (slot_in (kind_in kinds kind).slots key).floor (times_asked now (kind_in kinds kind).slots key o)
rises_asked models config now resource kinds q kind key c s k h indexes None e = rises_none (slot_in (kind_in kinds kind).slots key).floor
rises_asked models config now resource kinds q kind key c s k h indexes (Some a) e =
    rises_kind models config now resource kinds q kind key c s k h indexes a e (eqb-true kind a.kind (found_test (λ (b : AskedKind). eqb kind b.kind) q.kinds a e))

-- what a request is, where it is a Store
sound_store : (config : Config) (asked : Asked) (q : StoreAsked) → asked ≡ Store q → IsSoundAsked config asked → is_sound config q ≡ true
sound_store config asked q e s = subst (IsSoundAsked config) e s

keys_store : (models : ℕ → DataModel) (asked : Asked) (q : StoreAsked) → asked ≡ Store q → AreKeysOf models (kinds_of asked) → AreKeysOf models q.kinds
keys_store models asked q e k = subst (λ x. AreKeysOf models (kinds_of x)) e k

rises_here : (models : ℕ → DataModel) (m : Map) (d : Decision) (kind : ℕ) (key : List ℕ) → IsSound models d → HasIndexes models m
    → RisesOver (slot_in (kind_at m d.resource kind).slots key).floor (times_of (puts_in d.resource kind key (puts_of m d)))
unfolding puts_in
rises_here models m d kind key s i =
    let x : Record = record_in m d.resource in
    let floor : ℕ = (slot_in (kind_in x.kinds kind).slots key).floor in
    ⊎_elim
    (λ (h : Stays x (effect_on m d)).
    subst (λ ps. RisesOver floor (times_of (puts_in d.resource kind key ps))) (sym (puts_of-still m d h.still)) (rises_none floor))
    (λ (a : Accepts d.config d.time d.resource x d.asked (effect_on m d)).
    subst (RisesOver floor)
    (sym (ap (λ ps. times_of (puts_in d.resource kind key ps)) (puts_of-accepted m d a) ∙ puts-times x.kinds d kind key (kinds_of d.asked) (apart_at d.config d.asked s.request) ∙ ap (λ asked. times_asked d.time (kind_in x.kinds kind).slots key (asked_for kind (kinds_of asked))) a.is_store))
    (rises_asked models d.config d.time d.resource x.kinds a.request kind key s.config (sound_store d.config d.asked a.request a.is_store s.request) (keys_store models d.asked a.request a.is_store s.keys)
    (causeless d.config d.time d.resource x.kinds a.request a.causeless) (i d.resource kind) (asked_for kind a.request.kinds) refl))
    (effect_is d.config d.time d.resource x d.origin d.id d.asked)

-- what a decision puts in a slot rises over its floor
pub rises_step : (models : ℕ → DataModel) (m : Map) (d : Decision) (r kind : ℕ) (key : List ℕ) → IsSound models d → HasIndexes models m
    → RisesOver (slot_in (kind_at m r kind).slots key).floor (times_of (puts_in r kind key (puts_of m d)))
rises_step models m d r kind key s i =
    ⊎_elim
    (λ (e : d.resource ≡ r). subst (λ j. RisesOver (slot_in (kind_at m j kind).slots key).floor (times_of (puts_in j kind key (puts_of m d)))) e (rises_here models m d kind key s i))
    (λ (n : d.resource ≢ r). subst (λ ps. RisesOver (slot_in (kind_at m r kind).slots key).floor (times_of ps)) (sym (puts_of-elsewhere m d r kind key n)) (rises_none (slot_in (kind_at m r kind).slots key).floor))
    (cases_eq d.resource r)

-- the keys that are asked of an array are those of its model
asked_keys : (models : ℕ → DataModel) (kind : ℕ) (asked : List AskedKind) → AreKeysOf models asked → models kind ≡ Array → (o : Option AskedKind) → asked_for kind asked ≡ o → KeysAsked Array o
asked_keys models kind asked k m None e = tt
asked_keys models kind asked k m (Some a) e =
    subst (λ model. AllByRecursion (λ (v : Value). IsKeyOf model v.stored.key) (values_of a))
    (ap models (sym (eqb-true kind a.kind (found_test (λ (b : AskedKind). eqb kind b.kind) asked a e))) ∙ m)
    (found_all (λ (b : AskedKind). AllByRecursion (λ (v : Value). IsKeyOf (models b.kind) v.stored.key) (values_of b)) (λ (b : AskedKind). eqb kind b.kind) asked a k e)

indexes_accepted : (models : ℕ → DataModel) (now : ℕ) (kinds : Kinds) (asked : List AskedKind) (kind : ℕ) → AreApart asked → AreKeysOf models asked → models kind ≡ Array → AreIndexKeys (keys (kind_in kinds kind).slots)
    → AreIndexKeys (keys (kind_in (kinds_after now kinds asked) kind).slots)
unfolding kinds_after
indexes_accepted models now kinds asked kind apart k m i =
    subst (λ (j : KindEntry). AreIndexKeys (keys j.slots)) (sym (kind_in-fold now kind asked _ apart ∙ ap (λ j. kind_with now j (asked_for kind asked)) (kind_in-all_swept now kinds kind)))
    (index_keys_with now (kind_in kinds kind) (asked_for kind asked) (asked_keys models kind asked k m (asked_for kind asked) refl) i)

-- a decision leaves the arrays with keys of indices
pub indexes_step : (models : ℕ → DataModel) (m : Map) (d : Decision) → IsSound models d → HasIndexes models m → HasIndexes models (map_after m d)
indexes_step models m d s i r kind a =
    let x : Record = record_in m d.resource in
    ⊎_elim
    (λ (e : d.resource ≡ r).
    subst (λ j. AreIndexKeys (keys (kind_at (map_after m d) j kind).slots)) e
    (subst (λ (y : Record). AreIndexKeys (keys (kind_in y.kinds kind).slots)) (sym (record_in-same m d.resource (effect_on m d).next))
    (⊎_elim
    (λ (h : Stays x (effect_on m d)). subst (λ kinds. AreIndexKeys (keys (kind_in kinds kind).slots)) (sym h.kinds) (i d.resource kind a))
    (λ (h : Accepts d.config d.time d.resource x d.asked (effect_on m d)).
    subst (λ kinds. AreIndexKeys (keys (kind_in kinds kind).slots)) (sym (h.kinds ∙ ap (λ asked. kinds_after d.time x.kinds (kinds_of asked)) (sym h.is_store)))
    (indexes_accepted models d.time x.kinds (kinds_of d.asked) kind (apart_at d.config d.asked s.request) s.keys a (i d.resource kind a)))
    (effect_is d.config d.time d.resource x d.origin d.id d.asked))))
    (λ (n : d.resource ≢ r). subst (λ (y : Record). AreIndexKeys (keys (kind_in y.kinds kind).slots)) (sym (record_in-other m d.resource (effect_on m d).next r (λ e. n (sym e)))) (i r kind a))
    (cases_eq d.resource r)
