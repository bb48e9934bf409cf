-- A record that its copy gives back is one whose copy says all of it.
use lib.Dec.{T}
use Rattle.std.proofs.Common.{◌≡◌, ℕ, ◌<◌, ◌≤◌, Bool, true, false, cond, List, [], ◌∷◌, refl, ap, sym, subst, ◌∙◌, length, arith}
use Rattle.std.specs.Prelude.{Option, Some, None, map, not, nat_lt, nat_le, ◌==◌, if◌then◌else◌, unwrap_or, is_some}
use Rattle.std.specs.Option.{option_map_or}
use Rattle.std.specs.List.{AllByRecursion, list_all, filter_map}
use Rattle.std.specs.declared.cmp.Ordering.{Ordering}
use Rattle.std.specs.declared.cmp.Ordering.TheVariants.{Less, Equal, Greater}
use Rattle.std.specs.Ordering.{nat_cmp, is_eq}
use Rattle.std.specs.Cmp.Lexicographic.{slice_cmp}
use Rattle.std.specs.FinMap.{FinMap, IsAntisymmetric, find, get, get-entries, nat_cmp-IsAntisymmetric, slice_cmp-IsAntisymmetric, entries, entries-from_sorted}
use Rattle.std.proofs.lemmas.Bool.Decides.{nat_tests}
use Rattle.std.proofs.lemmas.List.{length-map}
use Rattle.std.proofs.lemmas.Slice.Eq.{bytes_eq-Decides}
use Rattle.data_models.specs.declared.config.Config.{Config}
use Rattle.data_models.specs.declared.config.DataModel.{DataModel}
use Rattle.data_models.specs.Configs.{model_in}
use Rattle.storage_model.specs.declared.limits.TheConstants.{MAX_KEPT, MAX_WEIGHT}
use Rattle.storage_model.specs.declared.record.Held.{Held}
use Rattle.storage_model.specs.Records.{SlotEntry, KindEntry, Record, weight}
use Rattle.storage_model.specs.Fetches.{found_of}
use Rattle.peer_note.specs.declared.kind_note.KindNote.{KindNote}
use Rattle.node_model.specs.Copies.{slot_key, is_slot_key, slot_noted, kind_noted, kept_noted, noted, value_copied, values_copied, kind_copied, copied_kinds, values_in, are_values_of, agrees, all_agree, rise, is_sound_slot, is_sound_kind, held_until, slots_said, kind_said, kinds_said, record_said, is_sound_copy, given_record}
use Rattle.record_copies.specs.Copied.{IsCopiedValue, IsCopiedSlot, IsCopiedKind, IsCopied}
use Rattle.record_copies.proofs.Order.{first_true, second_true, kinds_sorted, keys_sorted}
use Rattle.record_copies.proofs.Placing.{said_sorted, slots_sorted}
use Rattle.record_copies.proofs.CopiedSlots.{same_size}

same_some : {A : Type 0} (x y : A) → Some x ≡ Some y → x ≡ y
same_some x y e = ap (λ o. unwrap_or o x) e

taken : {A : Type 0} (b : Bool) (r x : A) → (if b then Some r else None) ≡ Some x → (b ≡ true) × (r ≡ x)
taken true r x e = (refl, same_some r x e)
taken false r x e = absurd (subst T (ap is_some (sym e)) tt)

tail_of : {A : Type 0} → List A → List A
tail_of [] = []
tail_of (x ∷ xs) = xs

head_of : {A : Type 0} → A → List A → A
head_of d [] = d
head_of d (x ∷ xs) = x

same_head : {A : Type 0} (x y : A) (xs ys : List A) → x ∷ xs ≡ y ∷ ys → x ≡ y
unfolding head_of
same_head x y xs ys e = ap (head_of x) e

same_tail : {A : Type 0} (x y : A) (xs ys : List A) → x ∷ xs ≡ y ∷ ys → xs ≡ ys
unfolding tail_of
same_tail x y xs ys e = ap tail_of e

-- what holds of the entries holds of what a map gives
module _ {L X : Type 0} (R : L → L → Ordering) (same : IsAntisymmetric R) (P : L → X → Type 0) where
  found_one : (es : List (L × X)) (q : L) (x : X) → AllByRecursion (λ e. P e.0 e.1) es → find R q es ≡ Some x → P q x
  found_one [] q x h e = absurd (subst T (ap is_some (sym e)) tt)
  found_one (y ∷ es) q x h e =
      elim (R q y.0) as (λ r. R q y.0 ≡ r → cond (is_eq r) (Some y.1) (find R q es) ≡ Some x → P q x) [
        | Less ↦ λ p e. found_one es q x h.1 e
        | Equal ↦ λ p e. subst (λ k. P k x) (sym (same q y.0 p)) (subst (P y.0) (same_some y.1 x e) h.0)
        | Greater ↦ λ p e. found_one es q x h.1 e
      ] refl e

  given_one : (m : FinMap R X) → AllByRecursion (λ e. P e.0 e.1) (entries m) → (q : L) (x : X) → get m q ≡ Some x → P q x
  given_one m h q x e = found_one (entries m) q x h (sym (get-entries m q) ∙ e)

module _ (now : ℕ) (model : DataModel) where
  value_first : (key : List ℕ) (floor : ℕ) (held : Option Held) (es : List (List ℕ × SlotEntry))
      → are_values_of (map slot_noted ((key, record { floor = floor; held = held }) ∷ es)) (filter_map (value_copied now model) ((key, record { floor = floor; held = held }) ∷ es)) ≡ true
      → slots_said (map slot_noted ((key, record { floor = floor; held = held }) ∷ es)) (filter_map (value_copied now model) ((key, record { floor = floor; held = held }) ∷ es)) ≡ (key, record { floor = floor; held = held }) ∷ es
      → ((h : Held) → held ≡ Some h → IsCopiedValue model key h)
      × (are_values_of (map slot_noted es) (filter_map (value_copied now model) es) ≡ true)
      × (slots_said (map slot_noted es) (filter_map (value_copied now model) es) ≡ es)
  unfolding slot_noted found_of held_until
  value_first key floor None es a e = (λ h is. absurd (subst T (ap is_some (sym is)) tt), a, same_tail _ _ _ _ e)
  value_first key floor (Some g) es a e = (
    λ h is. subst (IsCopiedValue model key) (same_some g h is) (record {
      spelled = (bytes_eq-Decides _ _).0 (first_true _ _ a);
      size = sym (ap (λ (s : List ℕ × SlotEntry). option_map_or (λ (h : Held). h.size) s.1.held 0) (same_head _ _ _ _ e)) ∙ same_size now 0 (slot_key model key) g;
    }),
    second_true _ _ a,
    same_tail _ _ _ _ e,
  )

  slot_first : (key : List ℕ) (s : SlotEntry) → is_sound_slot model (slot_noted (key, s)) ≡ true → is_slot_key model key ≡ true
  unfolding is_sound_slot slot_noted
  slot_first key s e = first_true _ _ e

  each_slot : (es : List (List ℕ × SlotEntry)) → list_all (is_sound_slot model) (map slot_noted es) ≡ true
      → are_values_of (map slot_noted es) (filter_map (value_copied now model) es) ≡ true
      → slots_said (map slot_noted es) (filter_map (value_copied now model) es) ≡ es
      → AllByRecursion (λ e. IsCopiedSlot model e.0 e.1) es
  each_slot [] s a e = tt
  each_slot (x ∷ es) s a e =
      let is = value_first x.0 x.1.floor x.1.held es a e in
      (record { sound = slot_first x.0 x.1 (first_true _ _ s); held = is.0 }, each_slot es (second_true _ _ s) is.1 is.2)

is_some_length : (n : ℕ) → not (n == 0) ≡ true → 0 < n
is_some_length n e = grind (arith, nat_tests, e)

is_most : (x y : ℕ) → nat_le x y ≡ true → x ≤ y
is_most x y e = grind (arith, nat_tests, e)

module _ (config : Config) (now : ℕ) where
  of_model : (o : Option DataModel) (k : KindEntry) → option_map_or (λ model. list_all (is_sound_slot model) (map slot_noted (entries k.slots))) o false ≡ true
      → 0 < length (entries k.slots)
      → are_values_of (map slot_noted (entries k.slots)) (values_in (values_copied now o k.slots)) ≡ true
      → slots_said (map slot_noted (entries k.slots)) (values_in (values_copied now o k.slots)) ≡ entries k.slots
      → IsCopiedKind o k
  unfolding values_copied
  of_model None k s some a e = absurd (subst T (sym s) tt)
  of_model (Some model) k s some a e = record {
    some = some;
    slots = given_one (slice_cmp nat_cmp) (slice_cmp-IsAntisymmetric nat_cmp-IsAntisymmetric) (IsCopiedSlot model) k.slots (each_slot now model (entries k.slots) s a e);
  }

  one_kind : (id : ℕ) (k : KindEntry) → is_sound_kind config (kind_noted (id, k)) ≡ true → agrees (kind_noted (id, k)) (kind_copied config now (id, k)) ≡ true
      → kind_said (kind_noted (id, k)) (kind_copied config now (id, k)) ≡ (id, k) → IsCopiedKind (model_in config id) k
  unfolding is_sound_kind kind_noted kind_copied kind_said agrees
  one_kind id k s a e =
      let sorted = slots_sorted (map slot_noted (entries k.slots)) (values_in (values_copied now (model_in config id) k.slots)) (keys_sorted (map slot_noted (entries k.slots)) (second_true _ _ s)) in
      of_model (model_in config id) k (first_true _ _ (first_true _ _ s))
      (subst (λ n. 0 < n) (length-map (entries k.slots) slot_noted) (is_some_length _ (second_true _ _ (first_true _ _ s))))
      (second_true _ _ a)
      (sym (entries-from_sorted (slice_cmp nat_cmp) _ sorted) ∙ ap (λ (y : ℕ × KindEntry). entries y.1.slots) e)

  each_kind : (es : List (ℕ × KindEntry)) → list_all (is_sound_kind config) (map kind_noted es) ≡ true → all_agree (map kind_noted es) (map (kind_copied config now) es) ≡ true
      → kinds_said (map kind_noted es) (map (kind_copied config now) es) ≡ es → AllByRecursion (λ e. IsCopiedKind (model_in config e.0) e.1) es
  each_kind [] s a e = tt
  each_kind (x ∷ es) s a e = (one_kind x.0 x.1 (first_true _ _ s) (first_true _ _ a) (same_head _ _ _ _ e), each_kind es (second_true _ _ s) (second_true _ _ a) (same_tail _ _ _ _ e))

  same_kinds : (x : Record) → rise (λ (a b : KindNote). nat_lt a.kind b.kind) (map kind_noted (entries x.kinds)) ≡ true → record_said (noted x) (copied_kinds config now x) ≡ x
      → kinds_said (map kind_noted (entries x.kinds)) (map (kind_copied config now) (entries x.kinds)) ≡ entries x.kinds
  unfolding record_said noted copied_kinds
  same_kinds x r e =
      sym (entries-from_sorted nat_cmp _ (said_sorted (map kind_noted (entries x.kinds)) (map (kind_copied config now) (entries x.kinds)) (kinds_sorted _ r)))
      ∙ ap (λ (y : Record). entries y.kinds) e

  from_sound : (x : Record) → is_sound_copy config (noted x) (copied_kinds config now x) ≡ true → record_said (noted x) (copied_kinds config now x) ≡ x → IsCopied config x
  unfolding is_sound_copy noted copied_kinds
  from_sound x s e =
      let to_kept = first_true _ _ s in
      let to_kinds = first_true _ _ to_kept in
      let sound = second_true _ _ to_kinds in
      let rises = second_true _ _ (first_true _ _ to_kinds) in
      let agree = first_true _ _ (first_true _ _ to_kinds) in
      record {
        kinds = given_one nat_cmp nat_cmp-IsAntisymmetric (λ id k. IsCopiedKind (model_in config id) k) x.kinds (each_kind (entries x.kinds) sound agree (same_kinds x rises e));
        few = subst (λ n. n ≤ MAX_KEPT) (length-map x.kept kept_noted) (is_most _ _ (second_true _ _ to_kept));
        light = subst (λ (y : Record). weight y.kinds ≤ MAX_WEIGHT) e (is_most _ _ (second_true _ _ s));
      }

  pub needed : (x : Record) → given_record config (noted x) (copied_kinds config now x) ≡ Some x → IsCopied config x
  unfolding given_record
  needed x e = let is = taken _ _ _ e in from_sound x is.0 is.1
