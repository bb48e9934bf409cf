-- Arrays have keys of indices, and an accepted Store has room for what it appends.
use Rattle.std.proofs.Common.{◌≡◌, ℕ, ◌+◌, ◌^◌, ◌<◌, ◌≤◌, ◌⊎◌, inl, inr, ⊎_elim, Bool, true, false, not, cond, List, [], ◌∷◌, ◌++◌, Option, Some, None, refl, sym, ap, ◌∙◌, subst, arith, true≢false, nat_cmp, le_trans, le_of_lt}
use Rattle.std.proofs.lemmas.Bool.{ltb-false}
use Rattle.std.specs.Option.{option_map_or}
use Rattle.std.specs.List.{AllByRecursion, list_any, last_or}
use Rattle.std.specs.Int.{w32, from_be_bytes}
use Rattle.std.specs.Cmp.Lexicographic.{slice_cmp}
use Rattle.std.specs.FinMap.{keys}
use Rattle.data_models.specs.declared.config.TheConstants.{MAX_COUNT}
use Rattle.data_models.specs.declared.config.DataModel.{DataModel}
use Rattle.data_models.specs.declared.config.DataModel.TheVariants.{Single, Array, Dictionary}
use Rattle.data_models.specs.declared.stored_data.SlotKey.{SlotKey}
use Rattle.data_models.specs.declared.stored_data.SlotKey.TheVariants.{Whole, Index, End, Name}
use Rattle.data_models.specs.Stored.{key_of}
use Rattle.storage_model.specs.declared.request.Value.{Value}
use Rattle.storage_model.specs.declared.request.AskedKind.{AskedKind}
use Rattle.storage_model.specs.Records.{Slots, KindEntry, next_index, swept, swept_slot}
use Rattle.storage_model.specs.Requests.{values_of, puts, placed, appended, is_end}
use Rattle.storage_model.specs.Puts.{ValuesAt, at_keys, at_end, put_all, places, kind_after}
use Rattle.storage_model.specs.Verdict.{is_beyond}
use Rattle.storage_model.specs.Laws.{IsKeyOf}
use Rattle.storage_model.proofs.Maps.{keys-map_values}
use Rattle.storage_model.proofs.SlotLaws.{put_all-append, keys-put_all, places-swept}
use Rattle.storage_model.proofs.KindLaws.{kind_with}
use Rattle.storage_model.proofs.Indexes.{IsIndexKey, AreIndexKeys, index_key}
use Rattle.storage_model.proofs.Appends.{KeysOf, keys_after, appends_bound, end_keys}
use Rattle.storage_model.proofs.PutLaws.{no_values}
use Rattle.storage_model.proofs.KindTimes.{HaveRoom}
use Rattle.storage_model.proofs.Truths.{or_parts}

-- values of keys with a slot, and of none
not_end : (model : DataModel) (key : SlotKey) → (model ≡ Array → ⊥) → IsKeyOf model key → is_end key ≡ false
not_end Single Whole n k = refl
not_end Single (Index i) n k = refl
not_end Single End n k = absurd k
not_end Single (Name name) n k = refl
not_end Array key n k = absurd (n refl)
not_end Dictionary Whole n k = refl
not_end Dictionary (Index i) n k = refl
not_end Dictionary End n k = absurd k
not_end Dictionary (Name name) n k = refl

none_appended : (model : DataModel) (vs : List Value) → (model ≡ Array → ⊥) → AllByRecursion (λ (v : Value). IsKeyOf model v.stored.key) vs → appended vs ≡ []
unfolding appended
none_appended model [] n k = refl
none_appended model (v ∷ vs) n k = ap (λ b. cond b (v ∷ appended vs) (appended vs)) (not_end model v.stored.key n k.0) ∙ none_appended model vs n k.1

-- where no value is beyond a number of slots, nothing is appended, or the indices are below it
beyond : (most : ℕ) (slots : Slots) (key : SlotKey) → is_beyond most slots key ≡ false → (is_end key ≡ false) ⊎ (next_index slots ≤ most)
beyond most slots Whole e = inl refl
beyond most slots (Index i) e = inl refl
beyond most slots End e = inr (ltb-false most (next_index slots) e)
beyond most slots (Name name) e = inl refl

none_beyond : (most : ℕ) (slots : Slots) (vs : List Value) → list_any (λ (v : Value). is_beyond most slots v.stored.key) vs ≡ false → (appended vs ≡ []) ⊎ (next_index slots ≤ most)
unfolding appended
none_beyond most slots [] e = inl refl
none_beyond most slots (v ∷ vs) e =
    let parts = or_parts (is_beyond most slots v.stored.key) _ e in
    ⊎_elim
    (λ (not_one : is_end v.stored.key ≡ false).
    ⊎_elim
    (λ none. inl (ap (λ b. cond b (v ∷ appended vs) (appended vs)) not_one ∙ none))
    (λ low. inr low)
    (none_beyond most slots vs parts.1))
    (λ low. inr low)
    (beyond most slots v.stored.key parts.0)

-- the keys of values that have a slot in an array
array_key : (key : SlotKey) → IsKeyOf Array key → is_end key ≡ false → IsIndexKey (key_of key)
unfolding key_of
array_key Whole k e = absurd k
array_key (Index i) k e = index_key i
array_key End k e = absurd (true≢false e)
array_key (Name name) k e = absurd k

pub array_keys : (vs : List Value) → AllByRecursion (λ (v : Value). IsKeyOf Array v.stored.key) vs → KeysOf IsIndexKey (at_keys (placed vs))
unfolding at_keys placed
array_keys [] k = tt
array_keys (v ∷ vs) k =
    (elim (is_end v.stored.key) as (λ b. is_end v.stored.key ≡ b → KeysOf IsIndexKey (at_keys (cond (not b) (v ∷ placed vs) (placed vs)))) [
      | true ↦ λ e. array_keys vs k.1
      | false ↦ λ e. (array_key v.stored.key k.0 e, array_keys vs k.1)
    ]) refl

keys_of-append : (P : List ℕ → Type 0) (vs ws : ValuesAt) → KeysOf P vs → KeysOf P ws → KeysOf P (vs ++ ws)
keys_of-append P [] ws h k = k
keys_of-append P (v ∷ vs) ws h k = (h.0, keys_of-append P vs ws h.1 k)

places_keys : (now : ℕ) (slots : Slots) (vs : List Value) → AllByRecursion (λ (v : Value). IsKeyOf Array v.stored.key) vs → KeysOf IsIndexKey (places now slots vs)
unfolding places
places_keys now slots vs k = keys_of-append IsIndexKey (at_keys (placed vs)) (at_end (next_index (put_all now slots (at_keys (placed vs)))) (appended vs)) (array_keys vs k) (end_keys _ (appended vs))

-- a kind's keys afterwards are those of indices
swept_keys : (now : ℕ) (k : KindEntry) → keys (swept now k).slots ≡ keys k.slots
unfolding swept
swept_keys now k = keys-map_values (slice_cmp nat_cmp) (swept_slot now) k.slots

-- the keys of a kind that are asked for, where it is named
abbrev pub KeysAsked : DataModel → Option AskedKind → Type 0
KeysAsked model None = Unit {0}
KeysAsked model (Some a) = AllByRecursion (λ (v : Value). IsKeyOf model v.stored.key) (values_of a)

pub index_keys_with : (now : ℕ) (k : KindEntry) (o : Option AskedKind) → KeysAsked Array o → AreIndexKeys (keys k.slots) → AreIndexKeys (keys (kind_with now (swept now k) o).slots)
unfolding kind_after
index_keys_with now k None h i = subst AreIndexKeys (sym (swept_keys now k)) i
index_keys_with now k (Some a) h i =
    elim (puts a) as (λ b. AreIndexKeys (keys (cond b (kind_after now (swept now k) (values_of a)) (swept now k)).slots)) [
      | true ↦ keys_after IsIndexKey now (swept now k).slots (places now (swept now k).slots (values_of a)) (subst AreIndexKeys (sym (swept_keys now k)) i) (places_keys now (swept now k).slots (values_of a) h)
      | false ↦ subst AreIndexKeys (sym (swept_keys now k)) i
    ]

-- the next index depends on the keys alone
next-keys : (s t : Slots) → keys s ≡ keys t → next_index s ≡ next_index t
unfolding next_index
next-keys s t e = ap (λ ks. option_map_or (λ key. from_be_bytes w32 key + 1) (last_or None ks) 0) e

-- a kind that got values has the next index of its slots with those, expired values or not
next_after : (now : ℕ) (k : KindEntry) (vs : List Value) → next_index (kind_after now (swept now k) vs).slots ≡ next_index (put_all now (put_all now k.slots (at_keys (placed vs))) (at_end (next_index (put_all now k.slots (at_keys (placed vs)))) (appended vs)))
unfolding kind_after places
next_after now k vs =
    let first : ValuesAt = at_keys (placed vs) in
    ap (λ ps. next_index (put_all now (swept now k).slots ps)) (places-swept now k vs)
    ∙ next-keys _ _ (keys-put_all now (swept now k).slots k.slots (places now k.slots vs) (swept_keys now k))
    ∙ ap next_index (put_all-append now k.slots first (at_end (next_index (put_all now k.slots first)) (appended vs)))

nothing_appended : (vs : List Value) → vs ≡ [] → appended vs ≡ []
unfolding appended
nothing_appended vs e = ap appended e

small_count : (most : ℕ) → most ≤ MAX_COUNT → most < 2 ^ 32
small_count most l = omega (arith, l)

-- the models are apart
is_array : DataModel → Bool
is_array Array = true
is_array _ = false

single_array : Single ≡ Array → ⊥
unfolding is_array
single_array e = true≢false (sym (ap is_array e))

dictionary_array : Dictionary ≡ Array → ⊥
unfolding is_array
dictionary_array e = true≢false (sym (ap is_array e))

-- a kind that no limit refuses
abbrev pub IsRoomy : ℕ → KindEntry → List Value → Type 0
IsRoomy now k vs = HaveRoom (put_all now k.slots (at_keys (placed vs))) vs

array_room : (now most : ℕ) (k : KindEntry) (a : AskedKind) → most ≤ MAX_COUNT → AreIndexKeys (keys k.slots) → AllByRecursion (λ (v : Value). IsKeyOf Array v.stored.key) (values_of a)
    → (b : Bool) → puts a ≡ b → list_any (λ (v : Value). is_beyond most (cond b (kind_after now (swept now k) (values_of a)) (swept now k)).slots v.stored.key) (values_of a) ≡ false → IsRoomy now k (values_of a)
array_room now most k a l i h false e small = inl (nothing_appended (values_of a) (no_values a e))
array_room now most k a l i h true e small =
    let vs : List Value = values_of a in
    let between : Slots = put_all now k.slots (at_keys (placed vs)) in
    let indexes = keys_after IsIndexKey now k.slots (at_keys (placed vs)) i (array_keys vs h) in
    ⊎_elim
    (λ none. inl none)
    (λ (low : next_index (kind_after now (swept now k) vs).slots ≤ most).
    inr (indexes, le_trans (appends_bound now (appended vs) between (next_index between) most refl indexes (subst (λ j. j ≤ most) (next_after now k vs) low) (small_count most l)) (le_of_lt (small_count most l))))
    (none_beyond most (kind_after now (swept now k) vs).slots vs small)

pub room_of : (model : DataModel) (now most : ℕ) (k : KindEntry) (a : AskedKind) → most ≤ MAX_COUNT → (model ≡ Array → AreIndexKeys (keys k.slots)) → AllByRecursion (λ (v : Value). IsKeyOf model v.stored.key) (values_of a)
    → list_any (λ (v : Value). is_beyond most (cond (puts a) (kind_after now (swept now k) (values_of a)) (swept now k)).slots v.stored.key) (values_of a) ≡ false → IsRoomy now k (values_of a)
room_of Single now most k a l i h small = inl (none_appended Single (values_of a) single_array h)
room_of Array now most k a l i h small = array_room now most k a l (i refl) h (puts a) refl small
room_of Dictionary now most k a l i h small = inl (none_appended Dictionary (values_of a) dictionary_array h)
