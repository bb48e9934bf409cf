-- A ring that is full gives its oldest item up.
use Rattle.std.proofs.Common.{◌≡◌, ◌∙◌, ◌⊎◌, ℕ, ◌-◌, ◌<◌, ◌≤◌, List, [], ◌∷◌, ◌++◌, length, drop, take, nat_lt, cond, true, false, refl, ap, lt-ltb, le-ltb, ⊎_elim, arith, length-append}
use Rattle.std.proofs.lemmas.Bool.{cond_both}
use Rattle.std.proofs.lemmas.Bool.Decides.{nat_tests}
use Rattle.std.proofs.lemmas.List.{drop-append-le}
use Rattle.circular_buffer.specs.Buffer.{keep_last}
use Rattle.reload_base.specs.Lists.{pushed_within}
use Rattle.std.specs.Prelude.{Option, Some, None, slice_get}
use Rattle.storage_model.specs.declared.limits.TheConstants.{MAX_KEPT}
use Rattle.storage_model.specs.declared.record.Kept.{Kept}
use Rattle.record_state.specs.Rings.{taken_back, with_oldest}

is_less : (a b : ℕ) → nat_lt a b ≡ true → a < b
is_less a b e = grind (arith, nat_tests, e)

is_not_less : (a b : ℕ) → nat_lt a b ≡ false → b ≤ a
is_not_less a b e = grind (arith, nat_tests, e)

pub has_room : {X : Type 0} → (capacity : ℕ) (items : List X) (x : X) → length items < capacity → keep_last capacity (items ++ x ∷ []) ≡ items ++ x ∷ []
has_room capacity items x less =
    let none : length (items ++ x ∷ []) - capacity ≡ 0 = omega (arith, length-append items (x ∷ []), less) in
    ap (λ n. drop n (items ++ x ∷ [])) none

has_none : {X : Type 0} → (capacity : ℕ) (items : List X) (x : X) → length items ≡ capacity → 0 < capacity → keep_last capacity (items ++ x ∷ []) ≡ drop 1 items ++ x ∷ []
has_none capacity items x full some =
    let one : length (items ++ x ∷ []) - capacity ≡ 1 = omega (arith, length-append items (x ∷ []), full) in
    let there : 1 ≤ length items = omega (arith, full, some) in
    ap (λ n. drop n (items ++ x ∷ [])) one ∙ drop-append-le 1 items (x ∷ []) there

room_if_less : (len capacity most : ℕ) → (len < capacity) ⊎ (capacity ≡ most) → len < most → len < capacity
room_if_less len capacity most room less = ⊎_elim (λ (r : len < capacity). r) (λ (e : capacity ≡ most). omega (arith, e, less)) room

full_if_not : (len capacity most : ℕ) → len ≤ capacity → capacity ≤ most → most ≤ len → len ≡ capacity
full_if_not len capacity most filled within more = omega (arith, filled, within, more)

pub kept_last : {X : Type 0} → (most capacity : ℕ) (items : List X) (x : X) → length items ≤ capacity → capacity ≤ most
    → (length items < capacity) ⊎ (capacity ≡ most) → 0 < most → keep_last capacity (items ++ x ∷ []) ≡ pushed_within most items x
unfolding pushed_within
kept_last most capacity items x filled within room some =
    cond_both (nat_lt (length items) most) items (drop 1 items) (λ front. keep_last capacity (items ++ x ∷ []) ≡ front ++ x ∷ [])
    (λ e. has_room capacity items x (room_if_less (length items) capacity most room (is_less (length items) most e)))
    (λ e. let more = is_not_less (length items) most e in
    has_none capacity items x (full_if_not (length items) capacity most filled within more) (omega (arith, filled, more, some)))

pub first_kept : {X : Type 0} → (x : X) → pushed_within MAX_KEPT [] x ≡ x ∷ []
unfolding pushed_within
first_kept x = refl

-- fewer than are kept: the item stands behind them
pub kept_within : {X : Type 0} → (items : List X) (x : X) → length items < MAX_KEPT → pushed_within MAX_KEPT items x ≡ items ++ x ∷ []
unfolding pushed_within
kept_within items x less =
    cond_both (nat_lt (length items) MAX_KEPT) items (drop 1 items) (λ front. front ++ x ∷ [] ≡ items ++ x ∷ [])
    (λ e. refl) (λ e. absurd (omega (arith, is_not_less (length items) MAX_KEPT e, less)))

-- an answer that was kept is taken back
take_front_of : {X : Type 0} → (items rest : List X) → take (length items) (items ++ rest) ≡ items
take_front_of [] rest = refl
take_front_of (k ∷ items) rest = ap (λ front. k ∷ front) (take_front_of items rest)

take_front : {X : Type 0} → (items : List X) (x : X) → take (length (items ++ x ∷ []) - 1) (items ++ x ∷ []) ≡ items
take_front items x =
    let one : length (items ++ x ∷ []) - 1 ≡ length items = omega (arith, length-append items (x ∷ [])) in
    ap (λ n. take n (items ++ x ∷ [])) one ∙ take_front_of items (x ∷ [])

taken_last : (items : List Kept) (x : Kept) (oldest : Option Kept) → taken_back oldest (items ++ x ∷ []) ≡ with_oldest oldest items
unfolding taken_back
taken_last [] x oldest = refl
taken_last (k ∷ items) x oldest = ap (with_oldest oldest) (take_front (k ∷ items) x)

pub first_taken : (x : Kept) → taken_back None (x ∷ []) ≡ []
first_taken x = taken_last [] x None

taken_full : (items : List Kept) (x : Kept) → 0 < length items → taken_back (slice_get (items ++ x ∷ []) 0) (drop 1 items ++ x ∷ []) ≡ items
taken_full [] x some = absurd (omega (arith, some))
taken_full (k ∷ items) x some = taken_last items x (Some k)

pub last_taken : (most capacity : ℕ) (items : List Kept) (x : Kept) → length items ≤ capacity → capacity ≤ most
    → (length items < capacity) ⊎ (capacity ≡ most) → 0 < most
    → taken_back (cond (nat_lt (length items) capacity) None (slice_get (items ++ x ∷ []) 0)) (pushed_within most items x) ≡ items
unfolding pushed_within
last_taken most capacity items x filled within room some =
    cond_both (nat_lt (length items) most) items (drop 1 items) (λ front. taken_back (cond (nat_lt (length items) capacity) None (slice_get (items ++ x ∷ []) 0)) (front ++ x ∷ []) ≡ items)
    (λ e. let less = room_if_less (length items) capacity most room (is_less (length items) most e) in
    ap (λ b. taken_back (cond b None (slice_get (items ++ x ∷ []) 0)) (items ++ x ∷ [])) (lt-ltb (length items) capacity less) ∙ taken_last items x None)
    (λ e. let more = is_not_less (length items) most e in
    let full = full_if_not (length items) capacity most filled within more in
    let none : nat_lt (length items) capacity ≡ false = le-ltb (length items) capacity (omega (arith, full)) in
    ap (λ b. taken_back (cond b None (slice_get (items ++ x ∷ []) 0)) (drop 1 items ++ x ∷ [])) none ∙ taken_full items x (omega (arith, filled, more, some)))
