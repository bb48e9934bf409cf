-- What stands in a slot after values were put.
use Rattle.std.proofs.Common.{◌≡◌, ℕ, ◌+◌, Bool, true, false, cond, List, [], ◌∷◌, ◌++◌, fold, Option, Some, None, unwrap_or, option_map, refl, sym, ap, ◌∙◌, nat_cmp}
use Rattle.std.specs.Cmp.Lexicographic.{slice_cmp, nat_list_cmp_total}
use Rattle.std.specs.Option.{option_map_or}
use Rattle.std.specs.List.{last_or}
use Rattle.std.specs.Int.{w32, from_be_bytes}
use Rattle.std.specs.FinMap.{get, insert, keys, get-insert}
use Rattle.storage_model.specs.declared.request.Value.{Value}
use Rattle.storage_model.specs.Records.{SlotEntry, Slots, KindEntry, slot_in, next_index, empty_slot, unexpired, swept_slot, swept}
use Rattle.storage_model.specs.Requests.{is_same_key, placed, appended}
use Rattle.storage_model.specs.Puts.{ValuesAt, slot_of, put_all, at_keys, at_end, places}
use Rattle.storage_model.proofs.Maps.{get-map_values, keys-map_values, keys-insert, with_key}

-- a slot after a value was put, there or elsewhere
abbrev pub put_on : ℕ → List ℕ → SlotEntry → List ℕ × Value → SlotEntry
put_on now key s v = cond (is_same_key key v.0) (slot_of now v.1) s

-- a slot that was found, or else the empty one, where one of two is found
found_slot : (b : Bool) (s : SlotEntry) (o : Option SlotEntry) → unwrap_or (cond b (Some s) o) empty_slot ≡ cond b s (unwrap_or o empty_slot)
found_slot true s o = refl
found_slot false s o = refl

pub slot_in-insert : (slots : Slots) (k : List ℕ) (s : SlotEntry) (key : List ℕ) → slot_in (insert slots k s) key ≡ cond (is_same_key key k) s (slot_in slots key)
slot_in-insert slots k s key =
    ap (λ o. unwrap_or o empty_slot) (get-insert nat_list_cmp_total slots k s key)
    ∙ found_slot (is_same_key key k) s (get slots key)

pub slot_in-put_all : (now : ℕ) (slots : Slots) (vs : ValuesAt) (key : List ℕ) → slot_in (put_all now slots vs) key ≡ fold (put_on now key) (slot_in slots key) vs
unfolding put_all
slot_in-put_all now slots [] key = refl
slot_in-put_all now slots (v ∷ vs) key =
    slot_in-put_all now (insert slots v.0 (slot_of now v.1)) vs key
    ∙ ap (λ s. fold (put_on now key) s vs) (slot_in-insert slots v.0 (slot_of now v.1) key)

-- values put one list after the other
pub put_all-append : (now : ℕ) (slots : Slots) (vs ws : ValuesAt) → put_all now slots (vs ++ ws) ≡ put_all now (put_all now slots vs) ws
unfolding put_all
put_all-append now slots [] ws = refl
put_all-append now slots (v ∷ vs) ws = put_all-append now (insert slots v.0 (slot_of now v.1)) vs ws

-- a slot without its value where that is expired
found_swept : (now : ℕ) (o : Option SlotEntry) → unwrap_or (option_map (swept_slot now) o) empty_slot ≡ swept_slot now (unwrap_or o empty_slot)
unfolding unexpired
found_swept now None = refl
found_swept now (Some s) = refl

pub slot_in-swept : (now : ℕ) (k : KindEntry) (key : List ℕ) → slot_in (swept now k).slots key ≡ swept_slot now (slot_in k.slots key)
unfolding swept
slot_in-swept now k key =
    ap (λ o. unwrap_or o empty_slot) (get-map_values (slice_cmp nat_cmp) (swept_slot now) k.slots key)
    ∙ found_swept now (get k.slots key)

-- where values go depends on the keys alone
pub keys-put_all : (now : ℕ) (slots others : Slots) (vs : ValuesAt) → keys slots ≡ keys others → keys (put_all now slots vs) ≡ keys (put_all now others vs)
unfolding put_all
keys-put_all now slots others [] e = e
keys-put_all now slots others (v ∷ vs) e =
    keys-put_all now (insert slots v.0 (slot_of now v.1)) (insert others v.0 (slot_of now v.1)) vs
    (keys-insert nat_list_cmp_total slots v.0 (slot_of now v.1) ∙ ap (with_key (slice_cmp nat_cmp) v.0) e ∙ sym (keys-insert nat_list_cmp_total others v.0 (slot_of now v.1)))

pub places-keys : (now : ℕ) (slots others : Slots) (values : List Value) → keys slots ≡ keys others → places now slots values ≡ places now others values
unfolding places next_index
places-keys now slots others values e =
    ap (λ qs. at_keys (placed values) ++ at_end (option_map_or (λ key. from_be_bytes w32 key + 1) (last_or None qs) 0) (appended values))
    (keys-put_all now slots others (at_keys (placed values)) e)

-- so it is the same without expired values
pub places-swept : (now : ℕ) (k : KindEntry) (values : List Value) → places now (swept now k).slots values ≡ places now k.slots values
unfolding swept
places-swept now k values = places-keys now _ k.slots values (keys-map_values (slice_cmp nat_cmp) (swept_slot now) k.slots)
