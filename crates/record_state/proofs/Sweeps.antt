-- Expired values leave one by one, and then all have left.
use Rattle.std.proofs.Common.{◌≡◌, ◌<◌, ◌≤◌, ℕ, Bool, true, false, cond, List, [], ◌∷◌, ◌++◌, refl, ap, sym, ◌∙◌, arith}
use Rattle.std.specs.Prelude.{Option, Some, None, is_some, unwrap_or, option_map, fold, nat_le, ◌||◌, if◌then◌else◌}
use Rattle.std.proofs.lemmas.List.Sums.{fold-append}
use Rattle.std.specs.Option.{option_map_or}
use Rattle.std.specs.List.{list_any}
use Rattle.std.specs.declared.cmp.Ordering.{Ordering}
use Rattle.std.specs.Ordering.{is_eq, eq_by_cmp}
use Rattle.std.specs.Cmp.{IsTotalOrder, tied_itself, nat_cmp_total}
use Rattle.std.specs.Cmp.Lexicographic.{nat_list_cmp_total}
use Rattle.std.specs.FinMap.{FinMap, IsAntisymmetric, nat_cmp-IsAntisymmetric, get, insert, keys, same_map, contains_key-keys}
use Rattle.storage_model.specs.declared.record.Held.{Held}
use Rattle.storage_model.specs.Records.{SlotEntry, Slots, KindEntry, Kinds, map_values, unexpired, swept_slot, swept, all_swept, empty_slot}
use Rattle.storage_model.proofs.Maps.{get-map_values}
use Rattle.record_state.specs.Light.{expiry_of, IsNoSooner}
use Rattle.record_state.specs.Undo.{slot_put}
use Rattle.record_state.specs.Sweep.{is_expired, emptied_at, with_slots, emptied_on, swept_on}
use Rattle.ordered_tables.proofs.KeyMaps.{key_cmp_same}
use Rattle.ordered_tables.proofs.Finite.{at_key, get-insert_there, get-insert_elsewhere, insert-insert, insert-same}
use Rattle.record_state.proofs.Undos.{slot_put_there}

mapped_twice : {X : Type 0} (f : X → X) → ((x : X) → f (f x) ≡ f x) → (o : Option X) → option_map f (option_map f o) ≡ option_map f o
mapped_twice f twice None = refl
mapped_twice f twice (Some x) = ap Some (twice x)

one_or_other : {X : Type 0} (f : X → X) (twice : (x : X) → f (f x) ≡ f x) (a b : Bool) (o : Option X)
    → cond b (option_map f (cond a (option_map f o) o)) (cond a (option_map f o) o) ≡ cond (a || b) (option_map f o) o
one_or_other f twice true true o = mapped_twice f twice o
one_or_other f twice true false o = refl
one_or_other f twice false true o = refl
one_or_other f twice false false o = refl

there_or_not : {X : Type 0} (f : X → X) (o : Option X) → cond (is_some o) (option_map f o) o ≡ option_map f o
there_or_not f None = refl
there_or_not f (Some x) = refl

-- the value of each key is changed in turn
module _ {K X : Type 0} {R : K → K → Ordering} (o : IsTotalOrder R) (same : IsAntisymmetric R) (f : X → X) where
  abbrev step : FinMap R X → K → FinMap R X
  step m k = option_map_or (λ x. insert m k (f x)) (get m k) m

  step_there : (m : FinMap R X) (k : K) (v : Option X) → get m k ≡ v → get (option_map_or (λ x. insert m k (f x)) v m) k ≡ option_map f v
  step_there m k None is = is
  step_there m k (Some x) is = get-insert_there o m k (f x)

  step_elsewhere : (m : FinMap R X) (k q : K) (v : Option X) → eq_by_cmp R q k ≡ false → get (option_map_or (λ x. insert m k (f x)) v m) q ≡ get m q
  step_elsewhere m k q None e = refl
  step_elsewhere m k q (Some x) e = get-insert_elsewhere o m k q (f x) e

  get-step : (m : FinMap R X) (k q : K) → get (step m k) q ≡ cond (eq_by_cmp R q k) (option_map f (get m q)) (get m q)
  get-step m k q = at_key R same k q (get (step m k)) (λ q. cond (eq_by_cmp R q k) (option_map f (get m q)) (get m q))
      (step_there m k (get m k) refl ∙ ap (λ r. cond (is_eq r) (option_map f (get m k)) (get m k)) (sym (tied_itself o k)))
      (λ e. step_elsewhere m k q (get m k) e ∙ ap (λ b. cond b (option_map f (get m q)) (get m q)) (sym e))

  module _ (twice : (x : X) → f (f x) ≡ f x) where
    get-steps : (ks : List K) (m : FinMap R X) (q : K) → get (fold step m ks) q ≡ cond (list_any (eq_by_cmp R q) ks) (option_map f (get m q)) (get m q)
    get-steps [] m q = refl
    get-steps (k ∷ ks) m q =
        get-steps ks (step m k) q
        ∙ ap (λ g. cond (list_any (eq_by_cmp R q) ks) (option_map f g) g) (get-step m k q)
        ∙ one_or_other f twice (eq_by_cmp R q k) (list_any (eq_by_cmp R q) ks) (get m q)

    -- a key whose value stays may be left out
    same_either : (b : Bool) (x : X) → f x ≡ x → cond b (option_map f (Some x)) (Some x) ≡ Some x
    same_either true x idle = ap Some idle
    same_either false x idle = refl

    step_idle : (m : FinMap R X) (ks : List K) (k : K) (x : X) → get m k ≡ Some x → f x ≡ x → step (fold step m ks) k ≡ fold step m ks
    step_idle m ks k x is idle =
        let n = fold step m ks in
        let there = get-steps ks m k ∙ ap (λ g. cond (list_any (eq_by_cmp R k) ks) (option_map f g) g) is ∙ same_either (list_any (eq_by_cmp R k) ks) x idle in
        ap (λ v. option_map_or (λ x. insert n k (f x)) v n) there ∙ ap (insert n k) idle ∙ insert-same o same n k x there

    idle_left_out : (m : FinMap R X) (ks : List K) (k : K) (rest : List K) (x : X) → get m k ≡ Some x → f x ≡ x → fold step m (ks ++ k ∷ rest) ≡ fold step m (ks ++ rest)
    idle_left_out m ks k rest x is idle =
        fold-append step m ks (k ∷ rest) ∙ ap (λ n. fold step n rest) (step_idle m ks k x is idle) ∙ sym (fold-append step m ks rest)

    all_steps : (m : FinMap R X) → fold step m (keys m) ≡ map_values f m
    all_steps m = same_map o same _ _ (λ q.
        get-steps (keys m) m q
        ∙ ap (λ b. cond b (option_map f (get m q)) (get m q)) (sym (contains_key-keys m q))
        ∙ there_or_not f (get m q)
        ∙ sym (get-map_values R f m q))

  map_values-twice : ((x : X) → f (f x) ≡ f x) → (m : FinMap R X) → map_values f (map_values f m) ≡ map_values f m
  map_values-twice twice m = same_map o same _ _ (λ q.
      get-map_values R f (map_values f m) q ∙ ap (option_map f) (get-map_values R f m q) ∙ mapped_twice f twice (get m q) ∙ sym (get-map_values R f m q))

  map_values-same : (m : FinMap R X) → ((q : K) → option_map f (get m q) ≡ get m q) → map_values f m ≡ m
  map_values-same m stays = same_map o same _ _ (λ q. get-map_values R f m q ∙ stays q)

-- what isn't expired stays
abbrev pub with_held : SlotEntry → Option Held → SlotEntry
with_held s held = record { floor = s.floor; held = held }

unexpired_on : (now : ℕ) (held : Option Held) → false ≡ option_map_or (λ h. nat_le h.expiry now) held false → unexpired now held ≡ held
unfolding unexpired
unexpired_on now None e = refl
unexpired_on now (Some h) e = ap (λ b. if b then None else Some h) (sym e)

kept : (now : ℕ) (h : Held) (b : Bool) → nat_le h.expiry now ≡ b → unexpired now (if b then None else Some h) ≡ (if b then None else Some h)
unfolding unexpired
kept now h true e = refl
kept now h false e = ap (λ b. if b then None else Some h) e

unexpired-twice : (now : ℕ) (held : Option Held) → unexpired now (unexpired now held) ≡ unexpired now held
unfolding unexpired
unexpired-twice now None = refl
unexpired-twice now (Some h) = kept now h (nat_le h.expiry now) refl

swept_slot-twice : (now : ℕ) (s : SlotEntry) → swept_slot now (swept_slot now s) ≡ swept_slot now s
swept_slot-twice now s = ap (λ (held : Option Held). let t : SlotEntry = record { floor = s.floor; held = held } in t) (unexpired-twice now s.held)

swept-twice : (now : ℕ) (k : KindEntry) → swept now (swept now k) ≡ swept now k
unfolding swept
swept-twice now k = ap (with_slots k) (map_values-twice nat_list_cmp_total key_cmp_same (swept_slot now) (swept_slot-twice now) k.slots)

pub all_swept_by : (now : ℕ) (kinds : Kinds) → fold (swept_on now) kinds (keys kinds) ≡ all_swept now kinds
unfolding swept_on all_swept
all_swept_by now kinds = all_steps nat_cmp_total nat_cmp-IsAntisymmetric (swept now) (swept-twice now) kinds

pub slots_swept : (now : ℕ) (slots : Slots) → fold (emptied_at now) slots (keys slots) ≡ map_values (swept_slot now) slots
unfolding emptied_at
slots_swept now slots = all_steps nat_list_cmp_total key_cmp_same (swept_slot now) (swept_slot-twice now) slots

-- what isn't expired may be left out
pub kind_left_out : (now : ℕ) (kinds : Kinds) (ids : List ℕ) (id : ℕ) (rest : List ℕ) (k : KindEntry) → get kinds id ≡ Some k → swept now k ≡ k → fold (swept_on now) kinds (ids ++ id ∷ rest) ≡ fold (swept_on now) kinds (ids ++ rest)
unfolding swept_on
kind_left_out now kinds = idle_left_out nat_cmp_total nat_cmp-IsAntisymmetric (swept now) (swept-twice now) kinds

pub key_left_out : (now : ℕ) (slots : Slots) (ks : List (List ℕ)) (key : List ℕ) (rest : List (List ℕ)) (s : SlotEntry) → get slots key ≡ Some s → false ≡ is_expired now s → fold (emptied_at now) slots (ks ++ key ∷ rest) ≡ fold (emptied_at now) slots (ks ++ rest)
unfolding emptied_at
key_left_out now slots ks key rest s is fresh =
    idle_left_out nat_list_cmp_total key_cmp_same (swept_slot now) (swept_slot-twice now) slots ks key rest s is (ap (with_held s) (unexpired_on now s.held fresh))

-- in a kind that is there
emptied_in : (now id : ℕ) (kinds : Kinds) (k : KindEntry) (key : List ℕ) → get kinds id ≡ Some k → emptied_on now id kinds key ≡ insert kinds id (with_slots k (emptied_at now k.slots key))
unfolding emptied_on
emptied_in now id kinds k key is = ap (λ o. option_map_or (λ k. insert kinds id (with_slots k (emptied_at now k.slots key))) o kinds) is

emptied_all : (now id : ℕ) (keys : List (List ℕ)) (kinds : Kinds) (k : KindEntry) → get kinds id ≡ Some k → fold (emptied_on now id) kinds keys ≡ insert kinds id (with_slots k (fold (emptied_at now) k.slots keys))
emptied_all now id [] kinds k is = sym (insert-same nat_cmp_total nat_cmp-IsAntisymmetric kinds id k is)
emptied_all now id (key ∷ keys) kinds k is =
    let k1 = with_slots k (emptied_at now k.slots key) in
    ap (λ ks. fold (emptied_on now id) ks keys) (emptied_in now id kinds k key is)
    ∙ emptied_all now id keys (insert kinds id k1) k1 (get-insert_there nat_cmp_total kinds id k1)
    ∙ insert-insert nat_cmp_total nat_cmp-IsAntisymmetric kinds id k1 (with_slots k1 (fold (emptied_at now) k1.slots keys))

swept_in : (now id : ℕ) (kinds : Kinds) (k : KindEntry) → get kinds id ≡ Some k → swept_on now kinds id ≡ insert kinds id (swept now k)
unfolding swept_on
swept_in now id kinds k is = ap (λ o. option_map_or (λ k. insert kinds id (swept now k)) o kinds) is

pub swept_by : (now id : ℕ) (kinds : Kinds) (k : KindEntry) (ks : List (List ℕ)) → Some k ≡ get kinds id → fold (emptied_at now) k.slots ks ≡ map_values (swept_slot now) k.slots → fold (emptied_on now id) kinds ks ≡ swept_on now kinds id
unfolding swept
swept_by now id kinds k ks is all =
    emptied_all now id ks kinds k (sym is) ∙ ap (λ slots. insert kinds id (with_slots k slots)) all ∙ sym (swept_in now id kinds k (sym is))

-- nothing is due
held_on : (now soonest : ℕ) (held : Option Held) → soonest ≤ expiry_of held → now < soonest → unexpired now held ≡ held
unfolding unexpired
held_on now soonest None le lt = refl
held_on now soonest (Some h) le lt = ap (λ b. if b then None else Some h) (not_le h.expiry now soonest le lt)
  where
    not_le : (e n s : ℕ) → s ≤ e → n < s → nat_le e n ≡ false
    not_le e n s p q = grind arith

slot_on : (now soonest : ℕ) (o : Option SlotEntry) → soonest ≤ expiry_of (unwrap_or o empty_slot).held → now < soonest → option_map (swept_slot now) o ≡ o
slot_on now soonest None le lt = refl
slot_on now soonest (Some s) le lt = ap (λ (held : Option Held). Some (let t : SlotEntry = record { floor = s.floor; held = held } in t)) (held_on now soonest s.held le lt)

pub not_due : (now soonest : ℕ) (k : KindEntry) → IsNoSooner soonest k.slots → now < soonest → swept now k ≡ k
unfolding IsNoSooner swept
not_due now soonest k none lt =
    ap (with_slots k) (map_values-same nat_list_cmp_total key_cmp_same (swept_slot now) k.slots (λ q. slot_on now soonest (get k.slots q) (none.1 q) lt))

pub none_swept : (now id : ℕ) (kinds : Kinds) → None ≡ get kinds id → kinds ≡ swept_on now kinds id
unfolding swept_on
none_swept now id kinds is = ap (λ o. option_map_or (λ k. insert kinds id (swept now k)) o kinds) is

pub none_there : (now id : ℕ) (kinds : Kinds) (key : List ℕ) → None ≡ get kinds id → kinds ≡ emptied_on now id kinds key
unfolding emptied_on
none_there now id kinds key is = ap (λ o. option_map_or (λ k. insert kinds id (with_slots k (emptied_at now k.slots key))) o kinds) is

stays : (now id : ℕ) (kinds : Kinds) (k : KindEntry) (key : List ℕ) → Some k ≡ get kinds id → emptied_at now k.slots key ≡ k.slots → kinds ≡ emptied_on now id kinds key
stays now id kinds k key is e =
    sym (emptied_in now id kinds k key (sym is) ∙ ap (λ slots. insert kinds id (with_slots k slots)) e ∙ insert-same nat_cmp_total nat_cmp-IsAntisymmetric kinds id k (sym is))

pub none_at : (now id : ℕ) (kinds : Kinds) (k : KindEntry) (key : List ℕ) → Some k ≡ get kinds id → None ≡ get k.slots key → kinds ≡ emptied_on now id kinds key
unfolding emptied_at
none_at now id kinds k key is none = stays now id kinds k key is (ap (λ o. option_map_or (λ s. insert k.slots key (swept_slot now s)) o k.slots) (sym none))

unexpired_off : (now : ℕ) (held : Option Held) → true ≡ option_map_or (λ h. nat_le h.expiry now) held false → unexpired now held ≡ None
unfolding unexpired
unexpired_off now None e = refl
unexpired_off now (Some h) e = ap (λ b. if b then None else Some h) (sym e)

emptied_slot : (now : ℕ) (slots : Slots) (key : List ℕ) (s : SlotEntry) → Some s ≡ get slots key → emptied_at now slots key ≡ insert slots key (swept_slot now s)
unfolding emptied_at
emptied_slot now slots key s is = ap (λ o. option_map_or (λ s. insert slots key (swept_slot now s)) o slots) (sym is)

pub not_expired : (now id : ℕ) (kinds : Kinds) (k : KindEntry) (key : List ℕ) (s : SlotEntry) → Some k ≡ get kinds id → Some s ≡ get k.slots key → false ≡ is_expired now s → kinds ≡ emptied_on now id kinds key
not_expired now id kinds k key s is at fresh =
    stays now id kinds k key is
    (emptied_slot now k.slots key s at ∙ ap (λ held. insert k.slots key (with_held s held)) (unexpired_on now s.held fresh) ∙ insert-same nat_list_cmp_total key_cmp_same k.slots key s (sym at))

pub emptied : (now id : ℕ) (kinds : Kinds) (k : KindEntry) (key : List ℕ) (s : SlotEntry) → Some k ≡ get kinds id → Some s ≡ get k.slots key → true ≡ is_expired now s
    → slot_put kinds id k.generation k.append_floor key (with_held s None) ≡ emptied_on now id kinds key
emptied now id kinds k key s is at old =
    sym (slot_put_there kinds id k.generation k.append_floor k key (with_held s None) (sym is))
    ∙ ap (λ slots. insert kinds id (with_slots k slots)) (sym (emptied_slot now k.slots key s at ∙ ap (λ held. insert k.slots key (with_held s held)) (unexpired_off now s.held old)))
    ∙ sym (emptied_in now id kinds k key (sym is))
