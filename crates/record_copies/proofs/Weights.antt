-- What the slots and kinds weigh that a note and its Store say.
use Rattle.std.proofs.Common.{◌≡◌, ℕ, ◌+◌, ◌≤◌, Bool, true, false, List, [], ◌∷◌, ◌++◌, refl, ap, sym, subst, ◌∙◌, length, arith}
use Rattle.std.specs.Prelude.{Option, Some, None, map, sum_by, if◌then◌else◌}
use Rattle.std.specs.Option.{option_map_or}
use Rattle.std.proofs.lemmas.List.{map-append}
use Rattle.std.proofs.lemmas.List.Sums.{sum_by-cons}
use Rattle.data_models.specs.declared.stored_data.StoredData.{StoredData}
use Rattle.data_models.specs.declared.fetched.StoreKind.{StoreKind}
use Rattle.data_models.specs.Stored.{stored_size}
use Rattle.storage_model.specs.declared.record.Slot.{Slot}
use Rattle.storage_model.specs.Records.{SlotEntry, slot_weight}
use Rattle.record_state.specs.Written.{slot_entry}
use Rattle.ordered_tables.proofs.Trees.{joined_at}
use Rattle.peer_note.specs.declared.kind_note.SlotNote.{SlotNote}
use Rattle.peer_note.specs.declared.kind_note.KindNote.{KindNote}
use Rattle.node_model.specs.Copies.{held_until, slot_said, slots_said}
use Rattle.record_copies.specs.Said.{value_for, values_after, slot_with, weight_with, slots_weight, kind_weight_said, kinds_weight}

-- the first slot has its value, and the others have those behind it
first_said : (b : Bool) (n : SlotNote) (ns : List SlotNote) (vs : List StoredData)
    → (if b then (elim vs [
      | [] ↦ slot_said n None ∷ slots_said ns []
      | v ∷ rest ↦ slot_said n (Some (held_until n.expiry v)) ∷ slots_said ns rest
    ]) else slot_said n None ∷ slots_said ns vs) ≡ slot_with n (value_for b vs) ∷ slots_said ns (values_after b vs)
first_said false n ns vs = refl
first_said true n ns [] = refl
first_said true n ns (v ∷ vs) = refl

pub said_more : (n : SlotNote) (ns : List SlotNote) (vs : List StoredData) → slots_said (n ∷ ns) vs ≡ slot_with n (value_for n.held vs) ∷ slots_said ns (values_after n.held vs)
said_more n ns vs = first_said n.held n ns vs

weighed_with : (n : SlotNote) (v : Option StoredData) → slot_weight (slot_with n v).0 (slot_with n v).1 ≡ weight_with n v
unfolding slot_weight weight_with held_until
weighed_with n None = refl
weighed_with n (Some v) = refl

pub slots_more : (n : SlotNote) (ns : List SlotNote) (vs : List StoredData) → slots_weight (n ∷ ns) vs ≡ weight_with n (value_for n.held vs) + slots_weight ns (values_after n.held vs)
unfolding slots_weight
slots_more n ns vs =
    ap (sum_by (λ (s : List ℕ × SlotEntry). slot_weight s.0 s.1)) (said_more n ns vs)
    ∙ sum_by-cons (λ (s : List ℕ × SlotEntry). slot_weight s.0 s.1) (slot_with n (value_for n.held vs)) (slots_said ns (values_after n.held vs))
    ∙ ap (λ w. w + sum_by (λ (s : List ℕ × SlotEntry). slot_weight s.0 s.1) (slots_said ns (values_after n.held vs))) (weighed_with n (value_for n.held vs))

pub no_slot : (ns : List SlotNote) (vs : List StoredData) → length ns ≡ 0 → slots_weight ns vs ≡ 0
unfolding slots_weight
no_slot [] vs e = refl
no_slot (n ∷ ns) vs e = absurd (omega (arith, e))

pub no_kind : (ns : List KindNote) (ks : List StoreKind) → length ns ≡ 0 → kinds_weight ns ks ≡ 0
unfolding kinds_weight
no_kind [] ks e = refl
no_kind (n ∷ ns) ks e = absurd (omega (arith, e))

pub none_beside : (ns : List KindNote) (ks : List StoreKind) → length ks ≡ 0 → kinds_weight ns ks ≡ 0
unfolding kinds_weight
none_beside [] ks e = refl
none_beside (n ∷ ns) [] e = refl
none_beside (n ∷ ns) (k ∷ ks) e = absurd (omega (arith, e))

pub kinds_more : (n : KindNote) (ns : List KindNote) (k : StoreKind) (ks : List StoreKind) → kinds_weight (n ∷ ns) (k ∷ ks) ≡ kind_weight_said n k + kinds_weight ns ks
unfolding kinds_weight
kinds_more n ns k ks = refl

-- the first value isn't too heavy where all slots aren't, nor are the others
pub value_light : (n : SlotNote) (ns : List SlotNote) (vs : List StoredData) (left : List SlotNote) (v : Option StoredData) (most : ℕ)
    → left ≡ n ∷ ns → v ≡ value_for n.held vs → slots_weight left vs ≤ most → option_map_or stored_size v 0 ≤ most
unfolding weight_with
value_light n ns vs left v most is value light =
    let all : slots_weight (n ∷ ns) vs ≤ most = subst (λ l. slots_weight l vs ≤ most) is light in
    subst (λ o. option_map_or stored_size o 0 ≤ most) (sym value) (omega (arith, all, slots_more n ns vs))

pub rest_light : (n : SlotNote) (ns : List SlotNote) (vs : List StoredData) (left : List SlotNote) (after : List StoredData) (most : ℕ)
    → left ≡ n ∷ ns → after ≡ values_after n.held vs → slots_weight left vs ≤ most → slots_weight ns after ≤ most
rest_light n ns vs left after most is behind light =
    let all : slots_weight (n ∷ ns) vs ≤ most = subst (λ l. slots_weight l vs ≤ most) is light in
    subst (λ a. slots_weight ns a ≤ most) (sym behind) (omega (arith, all, slots_more n ns vs))

-- a slot is added behind those that are there, with its value
pub slots_next : (slots : List Slot) (s : Slot) (n : SlotNote) (ns : List SlotNote) (vs : List StoredData) (left : List SlotNote) (v : Option StoredData) (after : List StoredData) (total : List (List ℕ × SlotEntry))
    → left ≡ n ∷ ns → v ≡ value_for n.held vs → after ≡ values_after n.held vs → slot_entry s ≡ slot_with n v
    → map slot_entry slots ++ slots_said left vs ≡ total → map slot_entry (slots ++ s ∷ []) ++ slots_said ns after ≡ total
slots_next slots s n ns vs left v after total is value behind entry all =
    ap (λ es. es ++ slots_said ns after) (map-append slot_entry slots (s ∷ []))
    ∙ joined_at (map slot_entry slots) (slot_entry s) (slots_said ns after)
    ∙ ap (λ es. map slot_entry slots ++ es) (
    ap (λ e. e ∷ slots_said ns after) (entry ∙ ap (slot_with n) value)
    ∙ ap (λ a. slot_with n (value_for n.held vs) ∷ slots_said ns a) behind
    ∙ sym (said_more n ns vs) ∙ ap (λ l. slots_said l vs) (sym is))
    ∙ all
