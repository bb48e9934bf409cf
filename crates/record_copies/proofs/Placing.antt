-- What a sound note and its Store say stands in order, and is weighed right.
use lib.Dec.{T}
use Rattle.std.proofs.Common.{◌≡◌, ℕ, ◌+◌, ◌<◌, ◌≤◌, ◌==◌, Bool, true, false, suc, List, [], ◌∷◌, refl, ap, sym, subst, ◌∙◌, length, arith}
use Rattle.std.specs.Prelude.{map, not, nat_lt, nat_le, sum_by, ◌&&◌}
use Rattle.std.specs.List.{AllByRecursion, list_all}
use Rattle.std.specs.List.Sorted.{IsStrictlySortedBy}
use Rattle.std.specs.Map.{keys_of}
use Rattle.std.specs.Ordering.{nat_cmp, is_lt}
use Rattle.std.specs.declared.cmp.Ordering.TheVariants.{Less}
use Rattle.std.specs.Cmp.Lexicographic.{slice_cmp}
use Rattle.std.specs.FinMap.{is_sorted, entries-from_sorted}
use Rattle.std.proofs.lemmas.Bool.Decides.{nat_tests}
use Rattle.std.proofs.lemmas.List.{length-map}
use Rattle.std.proofs.lemmas.List.Sums.{sum_by-cons}
use Rattle.data_models.specs.declared.config.Config.{Config}
use Rattle.data_models.specs.declared.stored_data.StoredData.{StoredData}
use Rattle.data_models.specs.declared.fetched.StoreKind.{StoreKind}
use Rattle.storage_model.specs.declared.limits.TheConstants.{KIND_WEIGHT, MAX_KEPT, MAX_WEIGHT}
use Rattle.storage_model.specs.declared.record.Slot.{Slot}
use Rattle.record_state.specs.Written.{slot_entry, HaveRisingKeys}
use Rattle.storage_model.specs.Records.{SlotEntry, KindEntry, slot_weight, kind_weight, weight}
use Rattle.peer_note.specs.declared.kind_note.SlotNote.{SlotNote}
use Rattle.peer_note.specs.declared.kind_note.KindNote.{KindNote}
use Rattle.peer_note.specs.declared.note.StoreNote.{StoreNote}
use Rattle.node_model.specs.Copies.{values_in, slots_said, kind_said, kinds_said, record_said, rise, is_sound_kind, is_sound_copy}
use Rattle.ordered_tables.proofs.Trees.{sorted, same_shown, below_all}
use Rattle.record_copies.specs.Said.{values_after, slots_weight, kind_weight_said, kinds_weight, IsPlaced, ArePlaced}
use Rattle.record_copies.proofs.Weights.{said_more}
use Rattle.record_copies.proofs.Order.{first_true, second_true, kinds_sorted, keys_sorted}

-- the slots have the keys of their notes
keys_said : (ns : List SlotNote) (vs : List StoredData) → keys_of (slots_said ns vs) ≡ map (λ n. n.key) ns
keys_said [] vs = refl
keys_said (n ∷ ns) vs = ap keys_of (said_more n ns vs) ∙ ap (λ ks. n.key ∷ ks) (keys_said ns (values_after n.held vs))

pub slots_sorted : (ns : List SlotNote) (vs : List StoredData) → IsStrictlySortedBy (slice_cmp nat_cmp) (map (λ n. n.key) ns) → T (is_sorted (slice_cmp nat_cmp) (slots_said ns vs))
slots_sorted ns vs h =
    subst (λ es. T (is_sorted (slice_cmp nat_cmp) es)) (same_shown (slots_said ns vs))
    (sorted (λ k. k) (slice_cmp nat_cmp) (slots_said ns vs) (subst (IsStrictlySortedBy (slice_cmp nat_cmp)) (sym (keys_said ns vs)) h))

both : (a b : Bool) → T a → T b → T (a && b)
both true b p q = q
both false b p q = p

kinds_below : (x : ℕ) (ns : List KindNote) (ks : List StoreKind) → AllByRecursion (λ y. nat_cmp x y ≡ Less) (map (λ n. n.kind) ns) → T (below_all nat_cmp x (kinds_said ns ks))
unfolding kind_said
kinds_below x [] ks h = tt
kinds_below x (n ∷ ns) [] h = tt
kinds_below x (n ∷ ns) (k ∷ ks) h = both _ _ (subst (λ r. T (is_lt r)) (sym h.0) tt) (kinds_below x ns ks h.1)

pub said_sorted : (ns : List KindNote) (ks : List StoreKind) → IsStrictlySortedBy nat_cmp (map (λ n. n.kind) ns) → T (is_sorted nat_cmp (kinds_said ns ks))
unfolding IsStrictlySortedBy kind_said
said_sorted [] ks h = tt
said_sorted (n ∷ ns) [] h = tt
said_sorted (n ∷ ns) (k ∷ ks) h = both _ _ (kinds_below n.kind ns ks h.0) (said_sorted ns ks h.1)

-- a kind weighs what is said of it
pub kind_weighed : (n : KindNote) (k : StoreKind) → IsPlaced n → kind_weight (kind_said n k).1 ≡ kind_weight_said n k
unfolding kind_weight kind_said kind_weight_said slots_weight
kind_weighed n k placed =
    ap (λ es. KIND_WEIGHT + sum_by (λ (s : List ℕ × SlotEntry). slot_weight s.0 s.1) es)
    (entries-from_sorted (slice_cmp nat_cmp) (slots_said n.slots (values_in k.values)) (slots_sorted n.slots (values_in k.values) placed.rising))

pub kinds_weighed : (ns : List KindNote) (ks : List StoreKind) → AllByRecursion IsPlaced ns → sum_by (λ (k : ℕ × KindEntry). kind_weight k.1) (kinds_said ns ks) ≡ kinds_weight ns ks
unfolding kinds_weight
kinds_weighed [] ks placed = refl
kinds_weighed (n ∷ ns) [] placed = refl
kinds_weighed (n ∷ ns) (k ∷ ks) placed =
    sum_by-cons (λ (k : ℕ × KindEntry). kind_weight k.1) (kind_said n k) (kinds_said ns ks)
    ∙ ap (λ w. w + sum_by (λ (k : ℕ × KindEntry). kind_weight k.1) (kinds_said ns ks)) (kind_weighed n k placed.0)
    ∙ ap (λ w. kind_weight_said n k + w) (kinds_weighed ns ks placed.1)

-- a sound kind has slots, by rising key
is_some : (n : ℕ) → not (n == 0) ≡ true → 0 < n
is_some n e = grind (arith, nat_tests, e)

parts : (a b c : Bool) → (a && b && c) ≡ true → (b ≡ true) × (c ≡ true)
parts true true c e = (refl, e)
parts true false c e = absurd (subst T (sym e) tt)
parts false b c e = absurd (subst T (sym e) tt)

placed_kind : (config : Config) (n : KindNote) → is_sound_kind config n ≡ true → IsPlaced n
unfolding is_sound_kind
placed_kind config n e =
    let is = parts _ _ _ e in
    record { some = is_some (length n.slots) is.0; rising = keys_sorted n.slots is.1 }

all_placed : (config : Config) (ns : List KindNote) → list_all (is_sound_kind config) ns ≡ true → AllByRecursion IsPlaced ns
all_placed config [] e = tt
all_placed config (n ∷ ns) e = (placed_kind config n (first_true _ _ e), all_placed config ns (second_true _ _ e))

-- what a sound note and its Store say weighs what is counted
pub weighed : (config : Config) (n : StoreNote) (ks : List StoreKind) → rise (λ (a b : KindNote). nat_lt a.kind b.kind) n.kinds ≡ true → list_all (is_sound_kind config) n.kinds ≡ true → weight (record_said n ks).kinds ≡ kinds_weight n.kinds ks
unfolding weight record_said
weighed config n ks rises sound =
    ap (sum_by (λ (k : ℕ × KindEntry). kind_weight k.1)) (entries-from_sorted nat_cmp (kinds_said n.kinds ks) (said_sorted n.kinds ks (kinds_sorted n.kinds rises)))
    ∙ kinds_weighed n.kinds ks (all_placed config n.kinds sound)

-- the slots that are taken stand for the notes
length_said : (ns : List SlotNote) (vs : List StoredData) → length (slots_said ns vs) ≡ length ns
length_said [] vs = refl
length_said (n ∷ ns) vs = ap length (said_more n ns vs) ∙ ap suc (length_said ns (values_after n.held vs))

pub some_taken : (slots : List Slot) (ns : List SlotNote) (vs : List StoredData) → map slot_entry slots ≡ slots_said ns vs → 0 < length ns → 0 < length slots
some_taken slots ns vs are some =
    subst (λ n. 0 < n) (sym (length_said ns vs) ∙ ap length (sym are) ∙ length-map slots slot_entry) some

keys_taken : (slots : List Slot) → map (λ s. s.key) slots ≡ keys_of (map slot_entry slots)
keys_taken [] = refl
keys_taken (s ∷ slots) = ap (λ ks. s.key ∷ ks) (keys_taken slots)

pub rising_taken : (slots : List Slot) (ns : List SlotNote) (vs : List StoredData) → map slot_entry slots ≡ slots_said ns vs → IsStrictlySortedBy (slice_cmp nat_cmp) (map (λ n. n.key) ns) → HaveRisingKeys slots
unfolding HaveRisingKeys
rising_taken slots ns vs are rising =
    subst (IsStrictlySortedBy (slice_cmp nat_cmp)) (sym (keys_taken slots ∙ ap keys_of are ∙ keys_said ns vs)) rising

-- a sound note and its Store have kinds in order, that are light enough, and few answers
few : (a b : ℕ) → nat_le a b ≡ true → a ≤ b
few a b e = grind (arith, nat_tests, e)

pub sound_placed : (config : Config) (n : StoreNote) (ks : List StoreKind) → is_sound_copy config n ks ≡ true → ArePlaced n.kinds ks
unfolding is_sound_copy
sound_placed config n ks e =
    let to_kept = first_true _ _ e in
    let to_kinds = first_true _ _ to_kept in
    let sound = second_true _ _ to_kinds in
    let rises = second_true _ _ (first_true _ _ to_kinds) in
    record {
      rising = kinds_sorted n.kinds rises;
      each = all_placed config n.kinds sound;
      light = subst (λ w. w ≤ MAX_WEIGHT) (weighed config n ks rises sound) (few _ _ (second_true _ _ e));
    }

pub sound_few : (config : Config) (n : StoreNote) (ks : List StoreKind) → is_sound_copy config n ks ≡ true → length n.kept ≤ MAX_KEPT
unfolding is_sound_copy
sound_few config n ks e = few _ _ (second_true _ _ (first_true _ _ e))
