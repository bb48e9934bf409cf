-- What a copy says of kinds is read as these kinds, and what it says of a record as that record.
use lib.Dec.{T}
use Rattle.std.proofs.Common.{◌≡◌, ℕ, ◌<◌, ◌≤◌, true, false, List, [], ◌∷◌, refl, ap, sym, subst, ◌∙◌, length, arith}
use Rattle.std.specs.Prelude.{Option, Some, None, map, not, nat_lt, nat_le, ◌==◌, if◌then◌else◌}
use Rattle.std.specs.Option.{option_map_or}
use Rattle.std.specs.List.{AllByRecursion, list_all}
use Rattle.std.specs.Ordering.{nat_cmp}
use Rattle.std.specs.Cmp.{nat_cmp_total}
use Rattle.std.specs.Cmp.Lexicographic.{slice_cmp, nat_list_cmp_total}
use Rattle.std.specs.FinMap.{entries, entries_sorted, is_sorted, from_sorted}
use Rattle.std.proofs.lemmas.Bool.Decides.{nat_tests}
use Rattle.std.proofs.lemmas.List.{length-map}
use Rattle.data_models.specs.declared.config.Config.{Config}
use Rattle.data_models.specs.declared.config.DataModel.{DataModel}
use Rattle.data_models.specs.Configs.{model_in}
use Rattle.storage_model.specs.declared.limits.TheConstants.{MAX_KEPT, MAX_WEIGHT}
use Rattle.storage_model.specs.declared.record.Kept.{Kept}
use Rattle.storage_model.specs.Records.{KindEntry, Record, weight}
use Rattle.peer_note.specs.declared.kind_note.KindNote.{KindNote}
use Rattle.node_model.specs.Copies.{slot_noted, kind_noted, kept_noted, noted, values_copied, kind_copied, copied_kinds, values_in, are_values_of, agrees, all_agree, rise, is_sound_slot, is_sound_kind, slots_said, kind_said, kinds_said, kept_said, record_said, is_sound_copy, given_record}
use Rattle.record_copies.specs.Copied.{IsCopiedSlot, IsCopiedOf, IsCopiedKind, IsCopied}
use Rattle.record_copies.proofs.Order.{is_below}
use Rattle.record_copies.proofs.CopiedSlots.{both_true, same_again, all_given, rises, slots_rise, slots_sound, values_agree, slots_again}

itself : (n : ℕ) → (n == n) ≡ true
itself n = grind (arith, nat_tests)

not_none : (n : ℕ) → 0 < n → not (n == 0) ≡ true
not_none n some = grind (arith, nat_tests, some)

is_less : (x y : ℕ) → x < y → nat_lt x y ≡ true
is_less x y l = grind (arith, nat_tests, l)

is_least : (x y : ℕ) → x ≤ y → nat_le x y ≡ true
is_least x y l = grind (arith, nat_tests, l)

-- each slot of a kind is copied
each_slot : (model : DataModel) (k : KindEntry) → IsCopiedOf model k → AllByRecursion (λ e. IsCopiedSlot model e.0 e.1) (entries k.slots)
each_slot model k h = all_given (slice_cmp nat_cmp) nat_list_cmp_total (IsCopiedSlot model) k.slots h.slots

-- ---- one kind, under what definition it has

values_of_slots : (now : ℕ) (o : Option DataModel) (k : KindEntry) → IsCopiedKind o k → are_values_of (map slot_noted (entries k.slots)) (values_in (values_copied now o k.slots)) ≡ true
unfolding values_copied
values_of_slots now None k h = absurd h
values_of_slots now (Some model) k h = values_agree now model (entries k.slots) (each_slot model k h)

slots_of_kind : (now : ℕ) (o : Option DataModel) (k : KindEntry) → IsCopiedKind o k → slots_said (map slot_noted (entries k.slots)) (values_in (values_copied now o k.slots)) ≡ entries k.slots
unfolding values_copied
slots_of_kind now None k h = absurd h
slots_of_kind now (Some model) k h = slots_again now model (entries k.slots) (each_slot model k h)

keys_of_model : (o : Option DataModel) (k : KindEntry) → IsCopiedKind o k → option_map_or (λ model. list_all (is_sound_slot model) (map slot_noted (entries k.slots))) o false ≡ true
keys_of_model None k h = absurd h
keys_of_model (Some model) k h = slots_sound model (entries k.slots) (each_slot model k h)

has_slots : (o : Option DataModel) (k : KindEntry) → IsCopiedKind o k → 0 < length (map slot_noted (entries k.slots))
has_slots None k h = absurd h
has_slots (Some model) k h = subst (λ n. 0 < n) (sym (length-map (entries k.slots) slot_noted)) h.some

module _ (config : Config) (now : ℕ) where
  kind_agrees : (id : ℕ) (k : KindEntry) → IsCopiedKind (model_in config id) k → agrees (kind_noted (id, k)) (kind_copied config now (id, k)) ≡ true
  unfolding agrees kind_noted kind_copied
  kind_agrees id k h = both_true _ _ (both_true _ _ (itself id) (itself k.generation)) (values_of_slots now (model_in config id) k h)

  kind_again : (id : ℕ) (k : KindEntry) → IsCopiedKind (model_in config id) k → kind_said (kind_noted (id, k)) (kind_copied config now (id, k)) ≡ (id, k)
  unfolding kind_said kind_noted kind_copied
  kind_again id k h = λ i. (id, record k { slots = (ap from_sorted (slots_of_kind now (model_in config id) k h) ∙ same_again (slice_cmp nat_cmp) k.slots) i })

  kind_sound : (id : ℕ) (k : KindEntry) → IsCopiedKind (model_in config id) k → is_sound_kind config (kind_noted (id, k)) ≡ true
  unfolding is_sound_kind kind_noted
  kind_sound id k h =
      both_true _ _
      (both_true _ _ (keys_of_model (model_in config id) k h) (not_none _ (has_slots (model_in config id) k h)))
      (slots_rise (entries k.slots) (entries_sorted k.slots))

  -- ---- all kinds

  kinds_agree : (es : List (ℕ × KindEntry)) → AllByRecursion (λ e. IsCopiedKind (model_in config e.0) e.1) es → all_agree (map kind_noted es) (map (kind_copied config now) es) ≡ true
  kinds_agree [] h = refl
  kinds_agree (e ∷ es) h = both_true _ _ (kind_agrees e.0 e.1 h.0) (kinds_agree es h.1)

  kinds_again : (es : List (ℕ × KindEntry)) → AllByRecursion (λ e. IsCopiedKind (model_in config e.0) e.1) es → kinds_said (map kind_noted es) (map (kind_copied config now) es) ≡ es
  kinds_again [] h = refl
  kinds_again (e ∷ es) h = λ i. kind_again e.0 e.1 h.0 i ∷ kinds_again es h.1 i

  kinds_sound : (es : List (ℕ × KindEntry)) → AllByRecursion (λ e. IsCopiedKind (model_in config e.0) e.1) es → list_all (is_sound_kind config) (map kind_noted es) ≡ true
  kinds_sound [] h = refl
  kinds_sound (e ∷ es) h = both_true _ _ (kind_sound e.0 e.1 h.0) (kinds_sound es h.1)

kinds_rise : (es : List (ℕ × KindEntry)) → T (is_sorted nat_cmp es) → rise (λ (a b : KindNote). nat_lt a.kind b.kind) (map kind_noted es) ≡ true
unfolding kind_noted
kinds_rise es h = rises nat_cmp kind_noted (λ (a b : KindNote). nat_lt a.kind b.kind) (λ x y e. is_less x.0 y.0 (is_below x.0 y.0 e)) es h

kept_again : (ks : List Kept) → map kept_said (map kept_noted ks) ≡ ks
kept_again [] = refl
kept_again (k ∷ ks) = ap (λ rest. k ∷ rest) (kept_again ks)

-- ---- the record

module _ (config : Config) (now : ℕ) (x : Record) (h : IsCopied config x) where
  each_kind : AllByRecursion (λ e. IsCopiedKind (model_in config e.0) e.1) (entries x.kinds)
  each_kind = all_given nat_cmp nat_cmp_total (λ id k. IsCopiedKind (model_in config id) k) x.kinds h.kinds

  record_again : record_said (noted x) (copied_kinds config now x) ≡ x
  unfolding record_said noted copied_kinds
  record_again = λ i. record x {
    kinds = (ap from_sorted (kinds_again config now (entries x.kinds) each_kind) ∙ same_again nat_cmp x.kinds) i;
    kept = kept_again x.kept i;
  }

  few_kept : nat_le (length (noted x).kept) MAX_KEPT ≡ true
  unfolding noted
  few_kept = is_least _ _ (subst (λ n. n ≤ MAX_KEPT) (sym (length-map x.kept kept_noted)) h.few)

  is_light : nat_le (weight (record_said (noted x) (copied_kinds config now x)).kinds) MAX_WEIGHT ≡ true
  is_light = is_least _ _ (subst (λ (y : Record). weight y.kinds ≤ MAX_WEIGHT) (sym record_again) h.light)

  sound_copy : is_sound_copy config (noted x) (copied_kinds config now x) ≡ true
  unfolding is_sound_copy noted copied_kinds
  sound_copy =
      both_true _ _
      (both_true _ _
      (both_true _ _
      (both_true _ _ (kinds_agree config now (entries x.kinds) each_kind) (kinds_rise (entries x.kinds) (entries_sorted x.kinds)))
      (kinds_sound config now (entries x.kinds) each_kind))
      few_kept)
      is_light

  -- a copy is read as its record
  pub given_again : given_record config (noted x) (copied_kinds config now x) ≡ Some x
  unfolding given_record
  given_again =
      ap (λ b. if b then Some (record_said (noted x) (copied_kinds config now x)) else None) sound_copy
      ∙ ap Some record_again
