-- What an accepted Store puts of one kind is newer than what was there, and goes to each slot once.
use Rattle.std.proofs.Common.{◌≡◌, ℕ, suc, ◌+◌, ◌^◌, ◌<◌, ◌≤◌, ◌⊎◌, ⊎_elim, true, false, cond, List, [], ◌∷◌, ◌++◌, fold, length, is_some, refl, sym, ap, ◌∙◌, subst, subst₂, arith, true≢false, nat_le}
use Rattle.std.proofs.lemmas.Bool.{leb-false}
use Rattle.std.specs.List.{AllByRecursion, list_any}
use Rattle.std.specs.Int.{w32, to_be_bytes}
use Rattle.std.specs.FinMap.{keys}
use Rattle.data_models.specs.Stored.{key_of}
use Rattle.storage_model.specs.declared.request.Value.{Value}
use Rattle.storage_model.specs.Records.{SlotEntry, Slots, slot_in, empty_slot, next_index}
use Rattle.storage_model.specs.Requests.{placed, appended, is_same_key, has_twice}
use Rattle.storage_model.specs.Puts.{ValuesAt, slot_of, at_keys, at_end, put_all}
use Rattle.storage_model.specs.Verdict.{is_stale}
use Rattle.storage_model.proofs.SlotLaws.{put_on, slot_in-put_all}
use Rattle.storage_model.proofs.Indexes.{AreIndexKeys, index_of, below_next}
use Rattle.storage_model.proofs.Appends.{at_key, same_key, fresh, end_once, end_over}
use Rattle.storage_model.proofs.PutLaws.{times_at}
use Rattle.storage_model.proofs.Times.{RisesOver, rises_one}
use Rattle.storage_model.proofs.Truths.{or_parts}

length-times : (vs : ValuesAt) → length (times_at vs) ≡ length vs
length-times [] = refl
length-times (v ∷ vs) = ap suc (length-times vs)

-- values at other keys go elsewhere
none_at : (key : List ℕ) (vs : List Value) → list_any (λ (w : Value). is_same_key key (key_of w.stored.key)) vs ≡ false → at_key key (at_keys vs) ≡ []
unfolding at_keys
none_at key [] e = refl
none_at key (v ∷ vs) e =
    let parts = or_parts (is_same_key key (key_of v.stored.key)) _ e in
    ap (λ b. cond b ((key_of v.stored.key, v) ∷ at_key key (at_keys vs)) (at_key key (at_keys vs))) parts.0 ∙ none_at key vs parts.1

-- a slot that isn't named twice gets one value at most
placed_once : (key : List ℕ) (vs : List Value) → has_twice (λ (v w : Value). is_same_key (key_of v.stored.key) (key_of w.stored.key)) vs ≡ false → length (at_key key (at_keys vs)) ≤ 1
unfolding at_keys has_twice
placed_once key [] e = omega arith
placed_once key (v ∷ vs) e =
    let parts = or_parts (list_any (λ (w : Value). is_same_key (key_of v.stored.key) (key_of w.stored.key)) vs) _ e in
    (elim (is_same_key key (key_of v.stored.key)) as (λ b. is_same_key key (key_of v.stored.key) ≡ b → length (cond b ((key_of v.stored.key, v) ∷ at_key key (at_keys vs)) (at_key key (at_keys vs))) ≤ 1) [
      | true ↦ λ same. subst (λ (ws : ValuesAt). suc (length ws) ≤ 1) (sym (subst (λ q. at_key q (at_keys vs) ≡ []) (sym (same_key key (key_of v.stored.key) same)) (none_at (key_of v.stored.key) vs parts.0))) (omega arith)
      | false ↦ λ other. placed_once key vs parts.1
    ]) refl

-- values that aren't too old are over the floors of their slots
placed_over : (slots : Slots) (key : List ℕ) (vs : List Value) → list_any (λ (v : Value). nat_le v.stored.storage_time (slot_in slots (key_of v.stored.key)).floor) vs ≡ false
    → AllByRecursion (λ t. (slot_in slots key).floor < t) (times_at (at_key key (at_keys vs)))
unfolding at_keys
placed_over slots key [] e = tt
placed_over slots key (v ∷ vs) e =
    let parts = or_parts (nat_le v.stored.storage_time (slot_in slots (key_of v.stored.key)).floor) _ e in
    (elim (is_same_key key (key_of v.stored.key)) as (λ b. is_same_key key (key_of v.stored.key) ≡ b → AllByRecursion (λ t. (slot_in slots key).floor < t) (times_at (cond b ((key_of v.stored.key, v) ∷ at_key key (at_keys vs)) (at_key key (at_keys vs))))) [
      | true ↦ λ same. (subst (λ q. (slot_in slots q).floor < v.stored.storage_time) (sym (same_key key (key_of v.stored.key) same)) (leb-false _ _ parts.0), placed_over slots key vs parts.1)
      | false ↦ λ other. placed_over slots key vs parts.1
    ]) refl

over_zero : (f t : ℕ) → f < t → 0 < t
over_zero f t h = omega (arith, h)

-- appends that aren't too old are over 0
stale_over : (f : ℕ) (key : List ℕ) (n : ℕ) (vs : List Value) → is_stale f vs ≡ false → AllByRecursion (λ t. 0 < t) (times_at (at_key key (at_end n vs)))
unfolding at_end is_stale
stale_over f key n [] e = tt
stale_over f key n (v ∷ vs) e =
    let parts = or_parts (nat_le v.stored.storage_time f) _ e in
    let later = stale_over v.stored.storage_time key (n + 1) vs parts.1 in
    elim (is_same_key key (to_be_bytes w32 n)) as (λ b. AllByRecursion (λ t. 0 < t) (times_at (cond b ((to_be_bytes w32 n, v) ∷ at_key key (at_end (n + 1) vs)) (at_key key (at_end (n + 1) vs))))) [
      | true ↦ (over_zero f v.stored.storage_time (leb-false _ _ parts.0), later)
      | false ↦ later
    ]

-- a slot that is empty after puts was empty before, and got none
empty_after : (now : ℕ) (key : List ℕ) (s : SlotEntry) (vs : ValuesAt) → fold (put_on now key) s vs ≡ empty_slot → (at_key key vs ≡ []) × (s ≡ empty_slot)
empty_after now key s [] e = (refl, e)
empty_after now key s (v ∷ vs) e =
    (elim (is_same_key key v.0) as (λ b. fold (put_on now key) (cond b (slot_of now v.1) s) vs ≡ empty_slot → (cond b (v ∷ at_key key vs) (at_key key vs) ≡ []) × (s ≡ empty_slot)) [
      | true ↦ λ f. absurd (true≢false (ap (λ (t : SlotEntry). is_some t.held) (empty_after now key (slot_of now v.1) vs f).1))
      | false ↦ λ f. empty_after now key s vs f
    ]) e

-- nothing is appended, or to indices that have room
abbrev pub HaveRoom : Slots → List Value → Type 0
HaveRoom after vs = (appended vs ≡ []) ⊎ (AreIndexKeys (keys after) × (next_index after + length (appended vs) ≤ 2 ^ 32))

append-nil : (ts : List ℕ) → ts ++ [] ≡ ts
append-nil [] = refl
append-nil (t ∷ ts) = ap (λ us. t ∷ us) (append-nil ts)

no_ends : (key : List ℕ) (n : ℕ) (vs : List Value) → vs ≡ [] → at_key key (at_end n vs) ≡ []
unfolding at_end
no_ends key n vs e = ap (λ ws. at_key key (at_end n ws)) e

-- what is asked of a kind rises in each slot, over its floor
pub kind_rises : (now : ℕ) (slots : Slots) (floor : ℕ) (key : List ℕ) (vs : List Value)
    → has_twice (λ (v w : Value). is_same_key (key_of v.stored.key) (key_of w.stored.key)) (placed vs) ≡ false
    → list_any (λ (v : Value). nat_le v.stored.storage_time (slot_in slots (key_of v.stored.key)).floor) (placed vs) ≡ false
    → is_stale floor (appended vs) ≡ false
    → HaveRoom (put_all now slots (at_keys (placed vs))) vs
    → RisesOver (slot_in slots key).floor (times_at (at_key key (at_keys (placed vs))) ++ times_at (at_key key (at_end (next_index (put_all now slots (at_keys (placed vs)))) (appended vs))))
kind_rises now slots floor key vs once newer fresh_times room =
    let first : ValuesAt = at_keys (placed vs) in
    let between : Slots = put_all now slots first in
    let n : ℕ = next_index between in
    let alone : RisesOver (slot_in slots key).floor (times_at (at_key key first)) =
    rises_one _ (times_at (at_key key first)) (subst (λ j. j ≤ 1) (sym (length-times (at_key key first))) (placed_once key (placed vs) once)) (placed_over slots key (placed vs) newer) in
    let without : at_key key (at_end n (appended vs)) ≡ [] → RisesOver (slot_in slots key).floor (times_at (at_key key first) ++ times_at (at_key key (at_end n (appended vs)))) =
    λ e. subst (RisesOver (slot_in slots key).floor) (sym (append-nil (times_at (at_key key first))) ∙ sym (ap (λ ws. times_at (at_key key first) ++ times_at ws) e)) alone in
    ⊎_elim
    (λ (none : appended vs ≡ []). without (no_ends key n (appended vs) none))
    (λ (r : AreIndexKeys (keys between) × (n + length (appended vs) ≤ 2 ^ 32)).
    ⊎_elim
    without
    (λ (over : n ≤ index_of key).
    let empty = empty_after now key (slot_in slots key) first (sym (slot_in-put_all now slots first key) ∙ fresh between n key (below_next between r.0) over) in
    subst₂ (λ (f : ℕ) (ts : List ℕ). RisesOver f (ts ++ times_at (at_key key (at_end n (appended vs))))) (sym (ap (λ (s : SlotEntry). s.floor) empty.1)) (sym (ap times_at empty.0))
    (rises_one 0 _ (subst (λ j. j ≤ 1) (sym (length-times (at_key key (at_end n (appended vs))))) (end_once key n (appended vs) r.1)) (stale_over floor key n (appended vs) fresh_times)))
    (end_over key n (appended vs) r.1))
    room
