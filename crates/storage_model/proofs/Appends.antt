-- What is appended goes to slots that nothing was put in before.
use Rattle.std.proofs.Common.{◌≡◌, ℕ, suc, ◌+◌, ◌^◌, ◌<◌, ◌≤◌, ◌⊎◌, inl, inr, ⊎_elim, true, false, cond, List, [], ◌∷◌, filter, length, Option, Some, None, is_some, unwrap_or, refl, sym, ap, ◌∙◌, subst, nat_cmp, Less, Equal, Greater, arith, true≢false, lt_irrefl, lt_of_lt_of_le, ◌||◌, le_trans, lt_of_le_of_lt, ltb}
use Rattle.std.proofs.lemmas.Bool.{ltb-true, ltb-false}
use Rattle.std.proofs.lemmas.Nat.{from_be_bytes-to_be_bytes_4}
use Rattle.std.specs.List.{AllByRecursion, list_any}
use Rattle.std.specs.Int.{w32, to_be_bytes}
use Rattle.std.specs.Ordering.{is_eq, eq_by_cmp}
use Rattle.std.specs.Cmp.Lexicographic.{slice_cmp, nat_list_cmp_total}
use Rattle.std.specs.FinMap.{get, insert, keys, contains_key-keys, nat_cmp-IsAntisymmetric, slice_cmp-IsAntisymmetric}
use Rattle.std.specs.FinMap.Entries as entries_of
use Rattle.storage_model.specs.declared.request.Value.{Value}
use Rattle.storage_model.specs.Records.{SlotEntry, Slots, slot_in, empty_slot, next_index}
use Rattle.storage_model.specs.Requests.{is_same_key}
use Rattle.storage_model.specs.Puts.{ValuesAt, slot_of, put_all, at_end}
use Rattle.storage_model.proofs.Maps.{with_key, keys-insert}
use Rattle.storage_model.proofs.Indexes.{IsIndexKey, AreIndexKeys, AreBelow, index_of, index_key, below_next, next_least}

-- what holds of one more key and of the others holds of all, and the other way round
pub all-with_key : (P : List ℕ → Type 0) (k : List ℕ) (ks : List (List ℕ)) → P k → AllByRecursion P ks → AllByRecursion P (with_key (slice_cmp nat_cmp) k ks)
all-with_key P k [] p h = (p, tt)
all-with_key P k (q ∷ qs) p h =
    elim (slice_cmp nat_cmp k q) as (λ o. AllByRecursion P (entries_of.by_order o (k ∷ q ∷ qs) (q ∷ qs) (q ∷ with_key (slice_cmp nat_cmp) k qs))) [
      | Less ↦ (p, h)
      | Equal ↦ h
      | Greater ↦ (h.0, all-with_key P k qs p h.1)
    ]

pub with_key-all : (P : List ℕ → Type 0) (k : List ℕ) (ks : List (List ℕ)) → AllByRecursion P (with_key (slice_cmp nat_cmp) k ks) → P k × AllByRecursion P ks
with_key-all P k [] h = h
with_key-all P k (q ∷ qs) h =
    (elim (slice_cmp nat_cmp k q) as (λ o. slice_cmp nat_cmp k q ≡ o → AllByRecursion P (entries_of.by_order o (k ∷ q ∷ qs) (q ∷ qs) (q ∷ with_key (slice_cmp nat_cmp) k qs)) → P k × AllByRecursion P (q ∷ qs)) [
      | Less ↦ λ e g. g
      | Equal ↦ λ e g. (subst P (sym (slice_cmp-IsAntisymmetric nat_cmp-IsAntisymmetric k q e)) g.0, g)
      | Greater ↦ λ e g. let later = with_key-all P k qs g.1 in (later.0, (g.0, later.1))
    ]) refl h

-- keys of slots after values were put
abbrev pub KeysOf : (List ℕ → Type 0) → ValuesAt → Type 0
KeysOf P vs = AllByRecursion (λ (v : List ℕ × Value). P v.0) vs

pub keys_after : (P : List ℕ → Type 0) (now : ℕ) (slots : Slots) (vs : ValuesAt) → AllByRecursion P (keys slots) → KeysOf P vs → AllByRecursion P (keys (put_all now slots vs))
unfolding put_all
keys_after P now slots [] h k = h
keys_after P now slots (v ∷ vs) h k =
    keys_after P now (insert slots v.0 (slot_of now v.1)) vs (subst (AllByRecursion P) (sym (keys-insert nat_list_cmp_total slots v.0 (slot_of now v.1))) (all-with_key P v.0 (keys slots) k.0 h)) k.1

pub keys_before : (P : List ℕ → Type 0) (now : ℕ) (slots : Slots) (vs : ValuesAt) → AllByRecursion P (keys (put_all now slots vs)) → AllByRecursion P (keys slots) × KeysOf P vs
unfolding put_all
keys_before P now slots [] h = (h, tt)
keys_before P now slots (v ∷ vs) h =
    let later = keys_before P now (insert slots v.0 (slot_of now v.1)) vs h in
    let first = with_key-all P v.0 (keys slots) (subst (AllByRecursion P) (keys-insert nat_list_cmp_total slots v.0 (slot_of now v.1)) later.0) in
    (first.1, (first.0, later.1))

-- a key whose index isn't below a number isn't among those that are
is_none_of : (n : ℕ) (key : List ℕ) (ks : List (List ℕ)) → n ≤ index_of key → AreBelow n ks → list_any (eq_by_cmp (slice_cmp nat_cmp) key) ks ≡ false
is_none_of n key [] l b = refl
is_none_of n key (k ∷ ks) l b =
    (elim (slice_cmp nat_cmp key k) as (λ o. slice_cmp nat_cmp key k ≡ o → (is_eq o || list_any (eq_by_cmp (slice_cmp nat_cmp) key) ks) ≡ false) [
      | Less ↦ λ e. is_none_of n key ks l b.1
      | Equal ↦ λ e. absurd (lt_irrefl _ (lt_of_lt_of_le b.0 (subst (λ q. n ≤ index_of q) (slice_cmp-IsAntisymmetric nat_cmp-IsAntisymmetric key k e) l)))
      | Greater ↦ λ e. is_none_of n key ks l b.1
    ]) refl

empty_of : (o : Option SlotEntry) → is_some o ≡ false → unwrap_or o empty_slot ≡ empty_slot
empty_of None e = refl
empty_of (Some s) e = absurd (true≢false e)

pub fresh : (slots : Slots) (n : ℕ) (key : List ℕ) → AreBelow n (keys slots) → n ≤ index_of key → slot_in slots key ≡ empty_slot
fresh slots n key b l = empty_of (get slots key) (contains_key-keys slots key ∙ is_none_of n key (keys slots) l b)

-- the keys of appends are those of indices
pub end_keys : (n : ℕ) (vs : List Value) → KeysOf IsIndexKey (at_end n vs)
unfolding at_end
end_keys n [] = tt
end_keys n (v ∷ vs) = (index_key n, end_keys (n + 1) vs)

-- an index stays where further values are put
pub next_grows : (now : ℕ) (slots : Slots) (vs : ValuesAt) → AreIndexKeys (keys slots) → KeysOf IsIndexKey vs → next_index slots ≤ next_index (put_all now slots vs)
next_grows now slots vs i k = next_least slots _ (keys_before (λ q. index_of q < next_index (put_all now slots vs)) now slots vs (below_next (put_all now slots vs) (keys_after IsIndexKey now slots vs i k))).0

at_both : (m n j : ℕ) → j ≡ n → m ≤ n + 1 → j < m → m ≡ n + 1
at_both m n j e up down = omega (arith, e, up, down)

-- the next index behind an append
below_more : (n : ℕ) (ks : List (List ℕ)) → AreBelow n ks → AreBelow (n + 1) ks
below_more n [] b = tt
below_more n (k ∷ ks) b = (omega (arith, b.0), below_more n ks b.1)

next_behind : (now : ℕ) (slots : Slots) (v : Value) → AreIndexKeys (keys slots) → next_index slots < 2 ^ 32 → next_index (insert slots (to_be_bytes w32 (next_index slots)) (slot_of now v)) ≡ next_index slots + 1
next_behind now slots v i l =
    let n : ℕ = next_index slots in
    let key : List ℕ = to_be_bytes w32 n in
    let is : index_of key ≡ n = from_be_bytes-to_be_bytes_4 n l in
    let after : Slots = insert slots key (slot_of now v) in
    let same = keys-insert nat_list_cmp_total slots key (slot_of now v) in
    let up = next_least after (n + 1) (subst (AreBelow (n + 1)) (sym same) (all-with_key (λ k. index_of k < n + 1) key (keys slots) (subst (λ j. j < n + 1) (sym is) (omega arith)) (below_more n (keys slots) (below_next slots i)))) in
    let down = (with_key-all (λ k. index_of k < next_index after) key (keys slots) (subst (AreBelow (next_index after)) same (below_next after (subst AreIndexKeys (sym same) (all-with_key IsIndexKey key (keys slots) (index_key n) i))))).0 in
    at_both (next_index after) n (index_of key) is up down

bound_nil : (m n b : ℕ) → m ≡ n → m ≤ b → n + 0 ≤ b
bound_nil m n b e l = omega (arith, e, l)

bound_suc : (n k b : ℕ) → n + 1 + k ≤ b → n + suc k ≤ b
bound_suc n k b l = omega (arith, l)

room : (n k : ℕ) → n + suc k ≤ 2 ^ 32 → n < 2 ^ 32
room n k l = omega (arith, l)

room_later : (n k : ℕ) → n + suc k ≤ 2 ^ 32 → n + 1 + k ≤ 2 ^ 32
room_later n k l = omega (arith, l)

-- appends that leave the next index at most b, are no more than fit below it
pub appends_bound : (now : ℕ) (vs : List Value) (slots : Slots) (n b : ℕ) → next_index slots ≡ n → AreIndexKeys (keys slots) → next_index (put_all now slots (at_end n vs)) ≤ b → b < 2 ^ 32 → n + length vs ≤ b
unfolding put_all at_end
appends_bound now [] slots n b e i l s = bound_nil (next_index slots) n b e l
appends_bound now (v ∷ vs) slots n b e i l s =
    let key : List ℕ = to_be_bytes w32 n in
    let more : Slots = insert slots key (slot_of now v) in
    let indexes = keys_after IsIndexKey now slots ((key, v) ∷ []) i (index_key n, tt) in
    let small = le_trans (next_grows now slots ((key, v) ∷ at_end (n + 1) vs) i (index_key n, end_keys (n + 1) vs)) l in
    let behind : next_index more ≡ n + 1 = subst (λ j. next_index (insert slots (to_be_bytes w32 j) (slot_of now v)) ≡ j + 1) e (next_behind now slots v i (lt_of_le_of_lt small s)) in
    bound_suc n (length vs) b (appends_bound now vs more (n + 1) b behind indexes l s)

-- the values that go to one key
abbrev pub at_key : List ℕ → ValuesAt → ValuesAt
at_key key vs = filter (λ v. is_same_key key v.0) vs

pub same_key : (p q : List ℕ) → is_same_key p q ≡ true → p ≡ q
same_key p q e =
    (elim (slice_cmp nat_cmp p q) as (λ o. slice_cmp nat_cmp p q ≡ o → is_eq o ≡ true → p ≡ q) [
      | Less ↦ λ c f. absurd (true≢false (sym f))
      | Equal ↦ λ c f. slice_cmp-IsAntisymmetric nat_cmp-IsAntisymmetric p q c
      | Greater ↦ λ c f. absurd (true≢false (sym f))
    ]) refl e

-- appends from an index on go to no key below it
pub end_below : (key : List ℕ) (n : ℕ) (vs : List Value) → n + length vs ≤ 2 ^ 32 → index_of key < n → at_key key (at_end n vs) ≡ []
unfolding at_end
end_below key n [] l h = refl
end_below key n (v ∷ vs) l h =
    (elim (is_same_key key (to_be_bytes w32 n)) as (λ b. is_same_key key (to_be_bytes w32 n) ≡ b → cond b ((to_be_bytes w32 n, v) ∷ at_key key (at_end (n + 1) vs)) (at_key key (at_end (n + 1) vs)) ≡ []) [
      | true ↦ λ e. absurd (lt_irrefl n (subst (λ j. j < n) (ap index_of (same_key key (to_be_bytes w32 n) e) ∙ from_be_bytes-to_be_bytes_4 n (room n (length vs) l)) h))
      | false ↦ λ e. end_below key (n + 1) vs (room_later n (length vs) l) (omega (arith, h))
    ]) refl

-- no two appends go to one key
pub end_once : (key : List ℕ) (n : ℕ) (vs : List Value) → n + length vs ≤ 2 ^ 32 → length (at_key key (at_end n vs)) ≤ 1
unfolding at_end
end_once key n [] l = omega arith
end_once key n (v ∷ vs) l =
    (elim (is_same_key key (to_be_bytes w32 n)) as (λ b. is_same_key key (to_be_bytes w32 n) ≡ b → length (cond b ((to_be_bytes w32 n, v) ∷ at_key key (at_end (n + 1) vs)) (at_key key (at_end (n + 1) vs))) ≤ 1) [
      | true ↦ λ e. subst (λ (ws : ValuesAt). suc (length ws) ≤ 1)
          (sym (end_below key (n + 1) vs (room_later n (length vs) l) (subst (λ j. j < n + 1) (sym (ap index_of (same_key key (to_be_bytes w32 n) e) ∙ from_be_bytes-to_be_bytes_4 n (room n (length vs) l))) (omega arith)))) (omega arith)
      | false ↦ λ e. end_once key (n + 1) vs (room_later n (length vs) l)
    ]) refl

lt_or_le : (a b : ℕ) → (a < b) ⊎ (b ≤ a)
lt_or_le a b =
    (elim (ltb a b) as (λ t. ltb a b ≡ t → (a < b) ⊎ (b ≤ a)) [
      | true ↦ λ e. inl (ltb-true a b e)
      | false ↦ λ e. inr (ltb-false a b e)
    ]) refl

-- appends go to a key from their first index on, or not at all
pub end_over : (key : List ℕ) (n : ℕ) (vs : List Value) → n + length vs ≤ 2 ^ 32 → (at_key key (at_end n vs) ≡ []) ⊎ (n ≤ index_of key)
end_over key n vs l = ⊎_elim (λ h. inl (end_below key n vs l h)) (λ h. inr h) (lt_or_le (index_of key) n)
