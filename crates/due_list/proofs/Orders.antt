-- Entries in order.
use Rattle.std.proofs.Common.{◌≡◌, ℕ, ◌==◌, ◌<◌, Bool, true, false, cond, ◌||◌, ◌&&◌, nat_lt, List, [], ◌∷◌, refl, ap, sym, subst, ◌∙◌, arith}
use Rattle.std.specs.Prelude.{Option, Some, None, IsTrue}
use Rattle.std.specs.List.{AllByRecursion}
use Rattle.std.proofs.lemmas.Bool.Decides.{nat_tests}
use Rattle.due_list.specs.Entries.{Entry, comes_before, with_entry, without, entry_at, entry_of, StandsBefore, AreInOrder}

abbrev pub before : ℕ → ℕ → ℕ → ℕ → Bool
before d i e j = nat_lt d e || (d == e && nat_lt i j)

pub before-trans : (d i e j f k : ℕ) → before d i e j ≡ true → before e j f k ≡ true → before d i f k ≡ true
before-trans d i e j f k p q = grind (arith, nat_tests, p, q)

before-flip : (d i e j : ℕ) → before d i e j ≡ false → (i ≡ j → ⊥) → before e j d i ≡ true
before-flip d i e j p q = grind (arith, nat_tests, p, q)

-- two entries with other ids and other places
abbrev pub Apart : Entry → Entry → Type 0
Apart a b = (a.id ≡ b.id → ⊥) × (a.place ≡ b.place → ⊥)

all-map : (P Q : Entry → Type 0) → ((x : Entry) → P x → Q x) → (xs : List Entry) → AllByRecursion P xs → AllByRecursion Q xs
all-map P Q f [] h = tt
all-map P Q f (x ∷ xs) h = (f x h.0, all-map P Q f xs h.1)

all-both : (P Q : Entry → Type 0) (xs : List Entry) → AllByRecursion P xs → AllByRecursion Q xs → AllByRecursion (λ x. P x × Q x) xs
all-both P Q [] h k = tt
all-both P Q (x ∷ xs) h k = ((h.0, k.0), all-both P Q xs h.1 k.1)

all-with : (P : Entry → Type 0) (e : Entry) (xs : List Entry) → P e → AllByRecursion P xs → AllByRecursion P (with_entry e xs)
all-with P e [] p h = (p, tt)
all-with P e (x ∷ xs) p h =
    elim (comes_before x e) as (λ b. AllByRecursion P (cond b (x ∷ with_entry e xs) (e ∷ x ∷ xs))) [
      | true ↦ (h.0, all-with P e xs p h.1)
      | false ↦ (p, h)
    ]

all-without : (P : Entry → Type 0) (p : ℕ) (xs : List Entry) → AllByRecursion P xs → AllByRecursion P (without p xs)
all-without P p [] h = tt
all-without P p (x ∷ xs) h =
    elim (x.place == p) as (λ b. AllByRecursion P (cond b xs (x ∷ without p xs))) [
      | true ↦ h.1
      | false ↦ (h.0, all-without P p xs h.1)
    ]

in_order_cases : (e x : Entry) (xs : List Entry) → Apart e x → AreInOrder (x ∷ xs) → AreInOrder (with_entry e xs) → AllByRecursion (Apart e) xs
    → (b : Bool) → comes_before x e ≡ b → AreInOrder (cond b (x ∷ with_entry e xs) (e ∷ x ∷ xs))
in_order_cases e x xs a h later apart true t =
    (all-with (StandsBefore x) e xs (t, (λ i. a.0 (sym i)), (λ i. a.1 (sym i))) h.0, later)
in_order_cases e x xs a h later apart false t =
    let here : IsTrue (comes_before e x) = before-flip x.due x.id e.due e.id t (λ i. a.0 (sym i)) in
    (((here, a.0, a.1), all-map (λ y. Apart e y × StandsBefore x y) (StandsBefore e) (λ y s. (before-trans e.due e.id x.due x.id y.due y.id here s.1.0, s.0.0, s.0.1)) xs (all-both (Apart e) (StandsBefore x) xs apart h.0)), h)

-- entries with a new one are in order
pub in_order_with : (e : Entry) (es : List Entry) → AreInOrder es → AllByRecursion (Apart e) es → AreInOrder (with_entry e es)
in_order_with e [] h a = (tt, tt)
in_order_with e (x ∷ xs) h a = in_order_cases e x xs a.0 h (in_order_with e xs h.1 a.1) a.1 (comes_before x e) refl

-- what is left without one is in order
pub in_order_without : (p : ℕ) (es : List Entry) → AreInOrder es → AreInOrder (without p es)
in_order_without p [] h = tt
in_order_without p (x ∷ xs) h =
    elim (x.place == p) as (λ b. AreInOrder (cond b xs (x ∷ without p xs))) [
      | true ↦ h.1
      | false ↦ (all-without (StandsBefore x) p xs h.0, in_order_without p xs h.1)
    ]

pub none-here : {X : Type 0} (b : Bool) (x : X) (o : Option X) → cond b (Some x) o ≡ None → (b ≡ false) × (o ≡ None)
none-here true x o e = absurd (cc)
none-here false x o e = (refl, e)

-- an id and a place that no entry has
pub apart_from_none : (e : Entry) (es : List Entry) → entry_of e.id es ≡ None → entry_at e.place es ≡ None → AllByRecursion (Apart e) es
apart_from_none e [] p q = tt
apart_from_none e (x ∷ xs) p q =
    let p2 = none-here (x.id == e.id) x (entry_of e.id xs) p in
    let q2 = none-here (x.place == e.place) x (entry_at e.place xs) q in
    ((differs e.id x.id p2.0, differs e.place x.place q2.0), apart_from_none e xs p2.1 q2.1)
  where
    differs : (a b : ℕ) → (b == a) ≡ false → a ≡ b → ⊥
    differs a b f i = grind (arith, nat_tests, f, i)

pub all-found : (P : Entry → Type 0) (p : ℕ) (xs : List Entry) (e : Entry) → AllByRecursion P xs → entry_at p xs ≡ Some e → P e
all-found P p [] e h f = absurd (cc)
all-found P p (x ∷ xs) e h f =
    elim (x.place == p) as (λ b. cond b (Some x) (entry_at p xs) ≡ Some e → P e) [
      | true ↦ λ g. let same : x ≡ e = cc in subst P same h.0
      | false ↦ λ g. all-found P p xs e h.1 g
    ] f

-- an entry is apart from those that are left without it
pub apart_without : (p : ℕ) (es : List Entry) (e : Entry) → AreInOrder es → entry_at p es ≡ Some e → AllByRecursion (Apart e) (without p es)
apart_without p [] e h f = tt
apart_without p (x ∷ xs) e h f =
    elim (x.place == p) as (λ b. cond b (Some x) (entry_at p xs) ≡ Some e → AllByRecursion (Apart e) (cond b xs (x ∷ without p xs))) [
      | true ↦ λ g. let same : x ≡ e = cc in subst (λ y. AllByRecursion (Apart y) xs) same (all-map (StandsBefore x) (Apart x) (λ y s. (s.1, s.2)) xs h.0)
      | false ↦ λ g. let s : StandsBefore x e = all-found (StandsBefore x) p xs e h.0 g in
          (((λ i. s.1 (sym i)), (λ i. s.2 (sym i))), apart_without p xs e h.1 g)
    ] f
