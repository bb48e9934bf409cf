-- Ids that rise, and what a search among them finds.
use Rattle.std.proofs.Common.{⊎_elim, ◌≡◌, ℕ, ◌+◌, ◌-◌, ◌<◌, ◌≤◌, Bool, true, false, cond, List, [], ◌∷◌, length, get_or, refl, ap, sym, ◌∙◌, arith, nat_cmp}
use Rattle.std.specs.Prelude.{Result, Ok, Err, ◌==◌, ◌||◌, nat_lt, insert, not, filter}
use Rattle.std.specs.List.{list_any}
use Rattle.std.specs.List.Sorted.{IsBinarySearchResult}
use Rattle.std.specs.Ordering.{ordering_index}
use Rattle.std.specs.Result.{is_ok}
use Rattle.std.proofs.lemmas.List.{length-map, get_or_default}
use Rattle.std.proofs.lemmas.List.Edits.{length-insert, get_or-insert_below, get_or-insert_at, get_or-insert_above}
use Rattle.std.proofs.lemmas.List.Elements.{All-from_get_or}
use Rattle.std.proofs.lemmas.List.Sorted.{searched}
use Rattle.std.proofs.lemmas.List.Folds.{list_any_at, list_any_none}
use Rattle.std.proofs.lemmas.Bool.{cases_lt, cases_eq}
use Rattle.std.proofs.lemmas.Bool.Decides.{nat_tests}
use Rattle.reload_ids.specs.declared.NodeId.{NodeId}
use Rattle.chord_tables.specs.Neighbours.{put_by, without}
use Rattle.chord_tables.specs.Rising.{IsRising}
use Rattle.chord_tables.specs.Tables.{ids}
use Rattle.chord_tables.proofs.Places.{put_last, put_there, put_before, id_at}

-- what a search among nodes tells of their ids
searched_ids : (nodes : List NodeId) (x : ℕ) (r : Result ℕ ℕ)
    → IsBinarySearchResult (λ y. nat_cmp y.0 x) nodes r
    → IsBinarySearchResult (λ y. nat_cmp y x) (ids nodes) r
searched_ids nodes x (Ok i) h = λ d. ap (λ y. nat_cmp y x) (id_at nodes i d) ∙ h (record { 0 = d })
searched_ids nodes x (Err i) h = λ up.
    let parts = h (λ j k d le lt.
    let a = ap (λ y. ordering_index (nat_cmp y x)) (id_at nodes j d.0) in
    let b = ap (λ y. ordering_index (nat_cmp y x)) (id_at nodes k d.0) in
    omega (arith, a, b, up j k d.0 le (simp length-map lt))) in (
      λ k d low high. ap (λ y. nat_cmp y x) (id_at nodes k d)
          ∙ parts.0 k (record { 0 = d }) low high,
      λ k d low high. ap (λ y. nat_cmp y x) (id_at nodes k d)
          ∙ parts.1 k (record { 0 = d }) low (simp length-map at high),
    )

never_falls : (xs : List ℕ) → IsRising xs → (i j : ℕ) → i ≤ j → j < length xs
    → get_or xs i 0 ≤ get_or xs j 0
never_falls xs up i j le lt = ⊎_elim
    (λ (l : i < j). let h : get_or xs i 0 < get_or xs j 0 = up i j 0 l lt in omega arith)
    (λ (g : j ≤ i).
    let s : i ≡ j = omega arith in
    let e : get_or xs i 0 ≡ get_or xs j 0 = ap (λ k. get_or xs k 0) s in omega arith)
    (cases_lt i j)

same : (x a : ℕ) → a ≡ x → (x == a) ≡ true
same x a e = grind (arith, nat_tests)

apart : (x a : ℕ) → x < a → (x == a) ≡ false
apart x a lt = grind (arith, nat_tests)

behind : (x a : ℕ) → a < x → ((x == a) || nat_lt x a) ≡ false
behind x a lt = grind (arith, nat_tests)

ahead : (x a : ℕ) → x < a → ((x == a) || nat_lt x a) ≡ true
ahead x a lt = grind (arith, nat_tests)

differs : (a x : ℕ) → (a ≡ x → ⊥) → (a == x) ≡ false
differs a x h = grind (arith, nat_tests)

kept : (b : Bool) (n : NodeId) (xs : List NodeId) (ys : List ℕ) → ids xs ≡ ys
    → ids (cond b (n ∷ xs) xs) ≡ cond b (n.0 ∷ ys) ys
kept true n xs ys e = ap (λ l. n.0 ∷ l) e
kept false n xs ys e = e

-- where an id was found
found_at : (nodes : List NodeId) (x i : ℕ) → IsRising (ids nodes)
    → IsBinarySearchResult (λ y. nat_cmp y.0 x) nodes (Ok i)
    → (i < length (ids nodes)) × (get_or (ids nodes) i 0 ≡ x)
found_at nodes x i up h =
    searched (ids nodes) x (Ok i) (searched_ids nodes x (Ok i) h) (never_falls (ids nodes) up)

-- where an id would stand
missed_at : (nodes : List NodeId) (x i : ℕ) → IsRising (ids nodes)
    → IsBinarySearchResult (λ y. nat_cmp y.0 x) nodes (Err i)
    → (i ≤ length (ids nodes)) × ((k : ℕ) → k < i → get_or (ids nodes) k 0 < x)
    × ((k : ℕ) → i ≤ k → k < length (ids nodes) → x < get_or (ids nodes) k 0)
missed_at nodes x i up h =
    searched (ids nodes) x (Err i) (searched_ids nodes x (Err i) h) (never_falls (ids nodes) up)

-- an id that was found is there already
pub put_found : (nodes : List NodeId) (x i : ℕ) → IsRising (ids nodes)
    → IsBinarySearchResult (λ y. nat_cmp y.0 x) nodes (Ok i)
    → ids nodes ≡ put_by (λ y. y) x (ids nodes)
put_found nodes x i up h =
    let at = found_at nodes x i up h in
    sym (put_there (λ y. y) x i (ids nodes) at.0 (same x _ at.1) (λ k lt.
    let l : get_or (ids nodes) k 0 < get_or (ids nodes) i 0 = up k i 0 lt at.0 in
    let e : get_or (ids nodes) i 0 ≡ x = at.1 in
    behind x (get_or (ids nodes) k 0) (omega arith)))

-- an id that was missed comes to where it would stand
pub put_missed : (nodes : List NodeId) (x i : ℕ) → IsRising (ids nodes)
    → IsBinarySearchResult (λ y. nat_cmp y.0 x) nodes (Err i)
    → insert (ids nodes) i x ≡ put_by (λ y. y) x (ids nodes)
put_missed nodes x i up h =
    let at = missed_at nodes x i up h in ⊎_elim
    (λ (lt : i < length (ids nodes)).
    let l = at.2 i (let s : i ≤ i = omega arith in s) lt in
    sym (put_before (λ y. y) x i (ids nodes) lt (apart x _ l) (ahead x _ l)
    (λ k b. behind x _ (at.1 k b))))
    (λ (ge : length (ids nodes) ≤ i).
    let le : i ≤ length (ids nodes) = at.0 in
    sym (put_last (λ y. y) x i (ids nodes) (omega arith) (λ k b. behind x _ (at.1 k b))))
    (cases_lt i (length (ids nodes)))

section_low : (xs : List ℕ) (i x j d : ℕ) → i ≤ length xs → j < i
    → get_or (insert xs i x) j d ≡ get_or xs j d
section_low xs i x j d le lt = get_or-insert_below xs i x d j lt le

section_high : (xs : List ℕ) (i x j d : ℕ) → i ≤ length xs → i < j
    → get_or (insert xs i x) j d ≡ get_or xs (j - 1) d
section_high xs i x j d le lt =
    let e : j ≡ j - 1 + 1 = omega arith in
    ap (λ k. get_or (insert xs i x) k d) e ∙ get_or-insert_above xs i x d (j - 1) (omega arith) le

section_at : (xs : List ℕ) (i x j d : ℕ) → i ≤ length xs → j ≡ i → get_or (insert xs i x) j d ≡ x
section_at xs i x j d le e = ap (λ k. get_or (insert xs i x) k d) e ∙ get_or-insert_at xs i x d le

-- ids that rise do with one more between those below and those above it
in_order : (xs : List ℕ) (i x : ℕ) → i ≤ length xs → IsRising xs
    → ((k d : ℕ) → k < i → get_or xs k d < x)
    → ((k d : ℕ) → i ≤ k → k < length xs → x < get_or xs k d)
    → (j k d : ℕ) → j < k → k < length xs + 1
    → get_or (insert xs i x) j d < get_or (insert xs i x) k d
in_order xs i x le up low high j k d lt within = ⊎_elim
    (λ (a : k < i).
    let e = section_low xs i x j d le (omega arith) in
    let f = section_low xs i x k d le a in
    let h : get_or xs j d < get_or xs k d = up j k d lt (omega arith) in
    omega (arith, e, f))
    (λ (a : i ≤ k). ⊎_elim
    (λ (b : k ≡ i).
    let e = section_low xs i x j d le (omega arith) in
    let f = section_at xs i x k d le b in
    let h : get_or xs j d < x = low j d (omega arith) in
    omega (arith, e, f))
    (λ (b : k ≡ i → ⊥).
    let f = section_high xs i x k d le (omega arith) in
    let h : x < get_or xs (k - 1) d = high (k - 1) d (omega arith) (omega arith) in ⊎_elim
    (λ (g : j < i).
    let e = section_low xs i x j d le g in
    let l : get_or xs j d < x = low j d g in
    omega (arith, e, f))
    (λ (g : i ≤ j). ⊎_elim
    (λ (s : j ≡ i). let e = section_at xs i x j d le s in omega (arith, e, f))
    (λ (s : j ≡ i → ⊥).
    let e = section_high xs i x j d le (omega arith) in
    let l : get_or xs (j - 1) d < get_or xs (k - 1) d = up (j - 1) (k - 1) d
    (omega arith) (omega arith) in
    omega (arith, e, f))
    (cases_eq j i))
    (cases_lt j i))
    (cases_eq k i))
    (cases_lt k i)

-- ids rise where one was missed and comes to where it would stand
pub rises_missed : (nodes : List NodeId) (x i : ℕ) → IsRising (ids nodes)
    → IsBinarySearchResult (λ y. nat_cmp y.0 x) nodes (Err i)
    → IsRising (insert (ids nodes) i x)
rises_missed nodes x i up h =
    let at = missed_at nodes x i up h in
    let long = length-insert (ids nodes) i x at.0 in
    λ j k d lt within. in_order (ids nodes) i x at.0 up
    (λ a d l. let b : get_or (ids nodes) a 0 < x = at.1 a l in
    let w : i ≤ length (ids nodes) = at.0 in
    let e = get_or_default (ids nodes) a d 0 (omega arith) in omega (arith, e))
    (λ a d l w. let b : x < get_or (ids nodes) a 0 = at.2 a l w in
    let e = get_or_default (ids nodes) a d 0 w in omega (arith, e))
    j k d lt (omega (arith, long))

-- whether an id was found is whether it is there
pub told : (nodes : List NodeId) (x : ℕ) (r : Result ℕ ℕ) → IsRising (ids nodes)
    → IsBinarySearchResult (λ y. nat_cmp y.0 x) nodes r
    → is_ok r ≡ list_any (λ y. y == x) (ids nodes)
told nodes x (Ok i) up h =
    let at = found_at nodes x i up h in
    sym (list_any_at (λ y. y == x) (ids nodes) i 0 at.0
    (same (get_or (ids nodes) i 0) x (sym at.1)))
told nodes x (Err i) up h =
    let at = missed_at nodes x i up h in
    let other : (k : ℕ) → k < length (ids nodes) → (get_or (ids nodes) k 0 == x) ≡ false = λ k lt. ⊎_elim
    (λ (l : k < i). let b : get_or (ids nodes) k 0 < x = at.1 k l in
    differs (get_or (ids nodes) k 0) x (omega arith))
    (λ (g : i ≤ k). let b : x < get_or (ids nodes) k 0 = at.2 k g lt in
    differs (get_or (ids nodes) k 0) x (omega arith))
    (cases_lt k i) in
    sym (list_any_none (λ y. y == x) (ids nodes)
    (All-from_get_or (λ y. (y == x) ≡ false) (ids nodes) 0 other))

-- the ids of the nodes but one are the ids but one
pub without_ids : (nodes : List NodeId) (x : ℕ)
    → ids (filter (λ n. not (n.0 == x)) nodes) ≡ without x (ids nodes)
without_ids [] x = refl
without_ids (n ∷ nodes) x = kept (not (n.0 == x)) n _ _ (without_ids nodes x)
