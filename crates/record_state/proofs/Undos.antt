-- What was put and is undone leaves nothing.
use Rattle.std.proofs.Common.{◌≡◌, ℕ, List, [], ◌∷◌, ◌++◌, refl, ap, sym, ◌∙◌, false}
use Rattle.std.specs.Prelude.{Option, Some, None, is_some, unwrap_or, if◌then◌else◌}
use Rattle.std.specs.Cmp.{nat_cmp_total}
use Rattle.std.specs.Cmp.Lexicographic.{nat_list_cmp_total}
use Rattle.std.specs.FinMap.{nat_cmp-IsAntisymmetric, get, insert, remove}
use Rattle.storage_model.specs.Records.{SlotEntry, Slots, KindEntry, Kinds, empty_kind}
use Rattle.record_state.specs.declared.undo.Undo.{Undo}
use Rattle.record_state.specs.Undo.{slot_restored, with_slot, slot_put, kind_restored, restored}
use Rattle.record_state.specs.Log.{undone, all_undone}
use Rattle.ordered_tables.proofs.KeyMaps.{key_cmp_same}
use Rattle.ordered_tables.proofs.Finite.{get-insert_there, insert-insert, insert-same, remove-insert, unchosen}

slot_back : (slots : Slots) (key : List ℕ) (s : SlotEntry) (o : Option SlotEntry) → get slots key ≡ o → slot_restored (insert slots key s) key o ≡ slots
unfolding slot_restored
slot_back slots key s None is = remove-insert nat_list_cmp_total key_cmp_same slots key s is
slot_back slots key s (Some b) is =
    ap (λ o. if is_some o then insert (insert slots key s) key b else insert slots key s) (get-insert_there nat_list_cmp_total slots key s)
    ∙ insert-insert nat_list_cmp_total key_cmp_same slots key s b ∙ insert-same nat_list_cmp_total key_cmp_same slots key b is

-- a kind that was there
pub back_there : (m : Kinds) (id g f : ℕ) (k : KindEntry) (key : List ℕ) (s : SlotEntry) (before : Option SlotEntry) → get m id ≡ Some k → before ≡ get k.slots key
    → restored (insert m id (with_slot k g f key s)) id (Some (k.generation, k.append_floor)) key before ≡ m
unfolding restored
back_there m id g f k key s before is had =
    let after = insert m id (with_slot k g f key s) in
    ap (λ o. if is_some o then insert after id (kind_restored (unwrap_or o empty_kind) (k.generation, k.append_floor) key before) else after) (get-insert_there nat_cmp_total m id (with_slot k g f key s))
    ∙ insert-insert nat_cmp_total nat_cmp-IsAntisymmetric m id (with_slot k g f key s) (kind_restored (with_slot k g f key s) (k.generation, k.append_floor) key before)
    ∙ ap (λ (slots : Slots). insert m id (record { generation = k.generation; append_floor = k.append_floor; slots = slots })) (ap (slot_restored (insert k.slots key s) key) had ∙ slot_back k.slots key s (get k.slots key) refl)
    ∙ insert-same nat_cmp_total nat_cmp-IsAntisymmetric m id k is

-- a kind that wasn't
pub back_new : (m : Kinds) (id : ℕ) (k : KindEntry) (key : List ℕ) (before : Option SlotEntry) → get m id ≡ None → restored (insert m id k) id None key before ≡ m
unfolding restored
back_new m id k key before none = remove-insert nat_cmp_total nat_cmp-IsAntisymmetric m id k none

-- what is put in the place of a kind that was taken out
pub put_there : (m one two : Kinds) (id : ℕ) (e x k : KindEntry) → get m id ≡ Some k → one ≡ (if is_some (get m id) then insert m id e else m) → two ≡ (if is_some (get one id) then insert one id x else one) → two ≡ insert m id x
put_there m one two id e x k is first second =
    let there : one ≡ insert m id e = first ∙ ap (λ o. if is_some o then insert m id e else m) is in
    second ∙ ap (λ n. if is_some (get n id) then insert n id x else n) there
    ∙ ap (λ o. if is_some o then insert (insert m id e) id x else insert m id e) (get-insert_there nat_cmp_total m id e)
    ∙ insert-insert nat_cmp_total nat_cmp-IsAntisymmetric m id e x

pub put_back : (m two : Kinds) (id : ℕ) (k : KindEntry) → get m id ≡ Some k → two ≡ insert m id k → two ≡ m
put_back m two id k is e = e ∙ insert-same nat_cmp_total nat_cmp-IsAntisymmetric m id k is

pub all_undone-push : (us : List Undo) (u : Undo) (kinds : Kinds) → all_undone (us ++ u ∷ []) kinds ≡ all_undone us (undone u kinds)
unfolding all_undone
all_undone-push [] u kinds = refl
all_undone-push (v ∷ us) u kinds = ap (undone v) (all_undone-push us u kinds)

pub slot_put_there : (m : Kinds) (id g f : ℕ) (k : KindEntry) (key : List ℕ) (s : SlotEntry) → get m id ≡ Some k → insert m id (with_slot k g f key s) ≡ slot_put m id g f key s
unfolding slot_put
slot_put_there m id g f k key s is = ap (λ o. insert m id (with_slot (unwrap_or o empty_kind) g f key s)) (sym is)

pub slot_put_new : (m : Kinds) (id g f : ℕ) (key : List ℕ) (s : SlotEntry) → get m id ≡ None → insert m id (with_slot empty_kind g f key s) ≡ slot_put m id g f key s
unfolding slot_put
slot_put_new m id g f key s is = ap (λ o. insert m id (with_slot (unwrap_or o empty_kind) g f key s)) (sym is)

pub restored_there : (m : Kinds) (id : ℕ) (k : KindEntry) (counters : ℕ × ℕ) (key : List ℕ) (before : Option SlotEntry) → get m id ≡ Some k
    → insert m id (kind_restored k counters key before) ≡ restored m id (Some counters) key before
unfolding restored
restored_there m id k counters key before is = ap (λ o. if is_some o then insert m id (kind_restored (unwrap_or o empty_kind) counters key before) else m) (sym is)

pub restored_none : (m : Kinds) (id : ℕ) (counters : ℕ × ℕ) (key : List ℕ) (before : Option SlotEntry) → false ≡ is_some (get m id) → m ≡ restored m id (Some counters) key before
unfolding restored
restored_none m id counters key before none = unchosen (is_some (get m id)) _ m none

pub removed : (m : Kinds) (id : ℕ) (counters : Option (ℕ × ℕ)) (key : List ℕ) (before : Option SlotEntry) → counters ≡ None → remove m id ≡ restored m id counters key before
unfolding restored
removed m id counters key before none = ap (λ o. restored m id o key before) (sym none)

-- a change that is noted with what undoes it
pub put_undone : (us vs : List Undo) (u : Undo) (m n : Kinds) → vs ≡ us ++ u ∷ [] → undone u n ≡ m → all_undone vs n ≡ all_undone us m
put_undone us vs u m n is back = ap (λ us. all_undone us n) is ∙ all_undone-push us u n ∙ ap (all_undone us) back
