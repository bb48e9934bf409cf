-- What a copy says of a kind's slots is read as these slots.
use lib.Dec.{T}
use Rattle.std.proofs.Common.{◌≡◌, ℕ, Bool, true, false, List, [], ◌∷◌, refl, ap, sym, ◌∙◌}
use Rattle.std.specs.Prelude.{Option, Some, None, map, ◌&&◌, ◌||◌, ◌==◌}
use Rattle.std.specs.List.{AllByRecursion, filter_map, list_all}
use Rattle.std.specs.Ordering.{nat_cmp, is_lt}
use Rattle.std.specs.declared.cmp.Ordering.{Ordering}
use Rattle.std.specs.declared.cmp.Ordering.TheVariants.{Less}
use Rattle.std.specs.Cmp.{IsTotalOrder}
use Rattle.std.specs.Cmp.Lexicographic.{slice_cmp}
use Rattle.std.specs.FinMap.{FinMap, get, entries, entries_sorted, is_sorted, from_sorted, entries-from_sorted, same_entries_map}
use Rattle.std.proofs.lemmas.Slice.Eq.{bytes_eq-Decides}
use Rattle.data_models.specs.declared.config.DataModel.{DataModel}
use Rattle.data_models.specs.declared.stored_data.SlotKey.{SlotKey}
use Rattle.data_models.specs.Stored.{stored_size}
use Rattle.data_models.proofs.Lengths.{stored_size-parts}
use Rattle.storage_model.specs.declared.record.Held.{Held}
use Rattle.storage_model.specs.Records.{SlotEntry}
use Rattle.storage_model.specs.Fetches.{found_of}
use Rattle.peer_note.specs.declared.kind_note.SlotNote.{SlotNote}
use Rattle.node_model.specs.Copies.{slot_noted, value_copied, are_values_of, is_sound_slot, held_until, slots_said, rise, rise_from}
use Rattle.ordered_tables.proofs.Trees.{first, second, less, below_all, found_all, same_shown}
use Rattle.record_copies.specs.Copied.{IsCopiedValue, IsCopiedSlot}

pub both_true : (a b : Bool) → a ≡ true → b ≡ true → (a && b) ≡ true
both_true true b p q = q
both_true false b p q = p

-- what is written down of a map in its order is the map
pub same_again : {L X : Type 0} (R : L → L → Ordering) (m : FinMap R X) → from_sorted (entries m) ≡ m
same_again R m = same_entries_map (from_sorted (entries m)) m (entries-from_sorted R (entries m) (entries_sorted m))

-- what holds of all that a map gives holds of its entries
module _ {L X : Type 0} (R : L → L → Ordering) (o : IsTotalOrder R) (P : L → X → Type 0) (m : FinMap R X) (h : (q : L) (x : X) → get m q ≡ Some x → P q x) where
  each_given : (es : List (L × X)) → AllByRecursion (λ e. get m e.0 ≡ Some e.1) es → AllByRecursion (λ e. P e.0 e.1) es
  each_given [] a = tt
  each_given (e ∷ es) a = (h e.0 e.1 a.0, each_given es a.1)

  pub all_given : AllByRecursion (λ e. P e.0 e.1) (entries m)
  all_given = each_given (entries m) (found_all R o (λ k. k) m (entries m) (same_shown (entries m)))

-- what is told of entries by rising key rises
module _ {L X Y : Type 0} (R : L → L → Ordering) (told : L × X → Y) (before : Y → Y → Bool) (is : (x y : L × X) → R x.0 y.0 ≡ Less → before (told x) (told y) ≡ true) where
  rises_from : (x : L × X) (es : List (L × X)) → T (below_all R x.0 es) → T (is_sorted R es) → rise_from before (told x) (map told es) ≡ true
  rises_from x [] b h = refl
  rises_from x (e ∷ es) b h = both_true _ _ (is x e (less _ (first _ _ b))) (rises_from e es (first _ _ h) (second _ _ h))

  pub rises : (es : List (L × X)) → T (is_sorted R es) → rise before (map told es) ≡ true
  rises [] h = refl
  rises (e ∷ es) h = rises_from e es (first _ _ h) (second _ _ h)

pub slots_rise : (es : List (List ℕ × SlotEntry)) → T (is_sorted (slice_cmp nat_cmp) es) → rise (λ (a b : SlotNote). is_lt (slice_cmp nat_cmp a.key b.key)) (map slot_noted es) ≡ true
unfolding slot_noted
slots_rise es h = rises (slice_cmp nat_cmp) slot_noted (λ (a b : SlotNote). is_lt (slice_cmp nat_cmp a.key b.key)) (λ x y e. ap is_lt e) es h

-- a value has one size at all clocks: a lifetime has four bytes
pub same_size : (now then : ℕ) (key : SlotKey) (h : Held) → stored_size (found_of now key h) ≡ stored_size (found_of then key h)
unfolding found_of
same_size now then key h = stored_size-parts (found_of now key h) ∙ sym (stored_size-parts (found_of then key h))

-- a value that is copied is held again
pub held_again : (now : ℕ) (key : SlotKey) (h : Held) → h.size ≡ stored_size (found_of 0 key h) → held_until h.expiry (found_of now key h) ≡ h
unfolding held_until found_of
held_again now key h size = λ i. record h { size = (same_size now 0 key h ∙ sym size) i }

module _ (now : ℕ) (model : DataModel) where
  -- the values are those of the slots
  first_agrees : (key : List ℕ) (floor : ℕ) (held : Option Held) (es : List (List ℕ × SlotEntry)) → ((h : Held) → held ≡ Some h → IsCopiedValue model key h)
      → are_values_of (map slot_noted es) (filter_map (value_copied now model) es) ≡ true
      → are_values_of (map slot_noted ((key, record { floor = floor; held = held }) ∷ es)) (filter_map (value_copied now model) ((key, record { floor = floor; held = held }) ∷ es)) ≡ true
  unfolding slot_noted found_of
  first_agrees key floor None es is rest = rest
  first_agrees key floor (Some h) es is rest = both_true _ _ ((bytes_eq-Decides _ _).1 (is h refl).spelled) rest

  pub values_agree : (es : List (List ℕ × SlotEntry)) → AllByRecursion (λ e. IsCopiedSlot model e.0 e.1) es → are_values_of (map slot_noted es) (filter_map (value_copied now model) es) ≡ true
  values_agree [] h = refl
  values_agree (e ∷ es) h = first_agrees e.0 e.1.floor e.1.held es h.0.held (values_agree es h.1)

  -- the slots and the values beside them say these slots
  first_again : (key : List ℕ) (floor : ℕ) (held : Option Held) (es : List (List ℕ × SlotEntry)) → ((h : Held) → held ≡ Some h → IsCopiedValue model key h)
      → slots_said (map slot_noted es) (filter_map (value_copied now model) es) ≡ es
      → slots_said (map slot_noted ((key, record { floor = floor; held = held }) ∷ es)) (filter_map (value_copied now model) ((key, record { floor = floor; held = held }) ∷ es)) ≡ (key, record { floor = floor; held = held }) ∷ es
  unfolding slot_noted
  first_again key floor None es is rest = λ i. (key, record { floor = floor; held = None }) ∷ rest i
  first_again key floor (Some h) es is rest = λ i. (key, record { floor = floor; held = Some (held_again now _ h (is h refl).size i) }) ∷ rest i

  pub slots_again : (es : List (List ℕ × SlotEntry)) → AllByRecursion (λ e. IsCopiedSlot model e.0 e.1) es → slots_said (map slot_noted es) (filter_map (value_copied now model) es) ≡ es
  slots_again [] h = refl
  slots_again (e ∷ es) h = first_again e.0 e.1.floor e.1.held es h.0.held (slots_again es h.1)

-- the slots are sound: one that isn't held has no expiry
empty_or_held : (held : Option Held) (floor : ℕ) (key : List ℕ) → ((slot_noted (key, record { floor = floor; held = held })).held || ((slot_noted (key, record { floor = floor; held = held })).expiry == 0)) ≡ true
unfolding slot_noted
empty_or_held None floor key = refl
empty_or_held (Some h) floor key = refl

sound_slot : (model : DataModel) (key : List ℕ) (s : SlotEntry) → IsCopiedSlot model key s → is_sound_slot model (slot_noted (key, s)) ≡ true
unfolding is_sound_slot slot_noted
sound_slot model key s h = both_true _ _ h.sound (empty_or_held s.held s.floor key)

pub slots_sound : (model : DataModel) (es : List (List ℕ × SlotEntry)) → AllByRecursion (λ e. IsCopiedSlot model e.0 e.1) es → list_all (is_sound_slot model) (map slot_noted es) ≡ true
slots_sound model [] h = refl
slots_sound model (e ∷ es) h = both_true _ _ (sound_slot model e.0 e.1 h.0) (slots_sound model es h.1)
