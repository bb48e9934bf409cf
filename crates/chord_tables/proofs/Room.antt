-- What fixed room holds after an insert.
use Rattle.std.proofs.Common.{⊎_elim, ◌≡◌, ℕ, ◌+◌, ◌-◌, ◌<◌, ◌≤◌, List, [], ◌∷◌, ◌++◌, length, get_or, take, drop, refl, ap, sym, ◌∙◌, arith}
use Rattle.std.specs.Prelude.{zero, suc, min, insert, slice_set}
use Rattle.std.proofs.lemmas.List.{take-take, take_at, drop_at, take-map, drop-map, map-append, set_at, drop_more, drop_all}
use Rattle.std.proofs.lemmas.Bool.{cases_lt}
use Rattle.reload_ids.specs.declared.NodeId.{NodeId}
use Rattle.chord_tables.specs.Tables.{ids}

-- the ids of nodes with one more are the ids with one more
pub insert_ids : (xs : List NodeId) (i : ℕ) (x : NodeId)
    → insert (ids xs) i x.0 ≡ ids (insert xs i x)
insert_ids xs i x = simp (take-map, drop-map, map-append)

take_front : {X : Type 0} (front xs : List X) (j : ℕ)
    → take (length front + j) (front ++ xs) ≡ front ++ take j xs
take_front [] xs j = ap (λ i. take i xs) (omega arith)
take_front (y ∷ front) xs j =
    let e : length (y ∷ front) + j ≡ suc (length front + j) = omega arith in
    ap (λ i. take i (y ∷ front ++ xs)) e ∙ ap (λ l. y ∷ l) (take_front front xs j)

take_none : {X : Type 0} (i : ℕ) → take {A = X} i [] ≡ []
take_none zero = refl
take_none (suc i) = refl

take_swap : {X : Type 0} (xs : List X) (i j : ℕ) → take i (take j xs) ≡ take j (take i xs)
take_swap [] i j =
    ap (take i) (take_none j) ∙ take_none i ∙ sym (take_none j) ∙ ap (take j) (sym (take_none i))
take_swap (x ∷ xs) zero j = sym (take_none j)
take_swap (x ∷ xs) (suc i) zero = refl
take_swap (x ∷ xs) (suc i) (suc j) = ap (λ l. x ∷ l) (take_swap xs i j)

last_alone : {X : Type 0} (xs : List X) (k : ℕ) (d : X) → length xs ≡ k + 1
    → drop k xs ≡ get_or xs k d ∷ []
last_alone xs k d e =
    drop_more xs k d (omega arith) ∙ ap (λ l. get_or xs k d ∷ l) (drop_all (k + 1) xs (omega arith))

room_behind : {X : Type 0} (back : List X) (b n : ℕ) → n ≤ b + 1
    → take (min b n) (take b back) ≡ take b (take n back)
room_behind back b n le = ⊎_elim
    (λ full. let e : min b n ≡ b = omega arith in
    ap (λ i. take i (take b back)) e ∙ take-take b b back (omega arith)
    ∙ sym (take-take b n back (omega arith)))
    (λ room. let e : min b n ≡ n = omega arith in
    ap (λ i. take i (take b back)) e ∙ take_swap back n b)
    (cases_lt b n)

-- an insert before a place within the room, at which the last leaves
pub room : (front back turned : List NodeId) (n p m : ℕ) (x : NodeId) → length front ≡ p
    → length front + length back ≡ m → p ≤ n → n ≤ m → p < m
    → turned ≡ drop (length back - 1) back ++ take (length back - 1) back
    → ids (take (min m (n + 1)) (slice_set (front ++ turned) p x))
    ≡ take m (insert (ids (take n (front ++ back))) p x.0)
room front back turned n p m x at whole le within lt e =
    let b : ℕ = length back - 1 in
    let turn : turned ≡ get_or back b x ∷ take b back = e
    ∙ ap (λ l. l ++ take b back) (last_alone back b x (omega arith)) in
    let put : slice_set (front ++ turned) p x ≡ front ++ x ∷ take b back =
    ap (λ l. slice_set (front ++ l) p x) turn ∙ set_at front _ (take b back) x p at in
    let long : min m (n + 1) ≡ length front + suc (min b (n - p)) = omega arith in
    let left : take (min m (n + 1)) (front ++ x ∷ take b back)
    ≡ front ++ x ∷ take (min b (n - p)) (take b back) =
    ap (λ i. take i (front ++ x ∷ take b back)) long
    ∙ take_front front (x ∷ take b back) (suc (min b (n - p))) in
    let there : take n (front ++ back) ≡ front ++ take (n - p) back =
    ap (λ i. take i (front ++ back)) (let f : n ≡ length front + (n - p) = omega arith in f)
    ∙ take_front front back (n - p) in
    let into : insert (front ++ take (n - p) back) p x ≡ front ++ x ∷ take (n - p) back =
    (λ t. take_at front (take (n - p) back) p at t
    ++ x ∷ drop_at front (take (n - p) back) p at t) in
    let wide : m ≡ length front + suc b = omega arith in
    let right : take m (front ++ x ∷ take (n - p) back) ≡ front ++ x ∷ take b (take (n - p) back) =
    ap (λ i. take i (front ++ x ∷ take (n - p) back)) wide
    ∙ take_front front (x ∷ take (n - p) back) (suc b) in
    let same : take (min m (n + 1)) (slice_set (front ++ turned) p x)
    ≡ take m (insert (take n (front ++ back)) p x) =
    ap (take (min m (n + 1))) put ∙ left
    ∙ ap (λ l. front ++ x ∷ l) (room_behind back b (n - p) (omega arith))
    ∙ sym right ∙ ap (take m) (sym into) ∙ ap (λ l. take m (insert l p x)) (sym there) in
    ap ids same ∙ sym (take-map (λ y. y.0) m (insert (take n (front ++ back)) p x))
    ∙ ap (take m) (sym (insert_ids (take n (front ++ back)) p x))
