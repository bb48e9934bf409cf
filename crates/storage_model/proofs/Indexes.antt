-- Keys of arrays: their order as bytes is that of their indices, so the greatest index stands last.
use Rattle.std.proofs.Common.{◌≡◌, ℕ, ◌+◌, ◌*◌, ◌<◌, ◌≤◌, Bool, true, false, T, ◌&&◌, List, [], ◌∷◌, map, Option, Some, None, refl, sym, ap, ◌∙◌, subst, nat_cmp, Ordering, Less, Equal, Greater, arith, ◌⊎◌, inl, inr, ⊎_elim, lt_trans}
use Rattle.std.proofs.lemmas.Bool.Decides.{nat_tests}
use Rattle.std.specs.Option.{option_map_or}
use Rattle.std.specs.List.{AllByRecursion, last_or}
use Rattle.std.specs.Int.{w32, from_be_bytes, to_be_bytes}
use Rattle.std.specs.Ordering.{is_lt, ordering_then}
use Rattle.std.specs.Cmp.Lexicographic.{slice_cmp}
use Rattle.std.specs.FinMap.{entries, keys, entries_sorted, nat_cmp-IsAntisymmetric}
use Rattle.std.specs.FinMap as map
use Rattle.std.specs.FinMap.Entries as entries_of
use Rattle.storage_model.specs.Records.{Slots, next_index}

-- the index of a key
abbrev pub index_of : List ℕ → ℕ
index_of key = from_be_bytes w32 key

-- a key of four bytes
pub record IsIndexKey (key : List ℕ) : Type 0 where
  pub a : ℕ
  pub b : ℕ
  pub c : ℕ
  pub d : ℕ
  pub is : key ≡ a ∷ b ∷ c ∷ d ∷ []
  pub a_byte : a < 256
  pub b_byte : b < 256
  pub c_byte : c < 256
  pub d_byte : d < 256

-- an index as a key
pub index_key : (n : ℕ) → IsIndexKey (to_be_bytes w32 n)
index_key n = record { a = _; b = _; c = _; d = _; is = refl; a_byte = omega arith; b_byte = omega arith; c_byte = omega arith; d_byte = omega arith }

nat_less : (a e : ℕ) → nat_cmp a e ≡ Less → a < e
nat_less a e o = grind (arith, nat_tests, o)

-- the first digit that differs decides
digit : (a e x y : ℕ) (o : Ordering) (r : Ordering) → nat_cmp a e ≡ r → T (is_lt (ordering_then r o)) → (T (is_lt o) → x < y) → (a < e) ⊎ ((a ≡ e) × (x < y))
digit a e x y o Less c h later = inl (nat_less a e c)
digit a e x y o Equal c h later = inr (nat_cmp-IsAntisymmetric a e c, later h)
digit a e x y o Greater c h later = absurd h

three : (a e x y : ℕ) → x < 16777216 → (a < e) ⊎ ((a ≡ e) × (x < y)) → a * 16777216 + x < e * 16777216 + y
three a e x y l h = ⊎_elim (λ (p : a < e). omega (arith, p, l)) (λ (p : (a ≡ e) × (x < y)). omega (arith, p.0, p.1)) h

two : (a e x y : ℕ) → x < 65536 → (a < e) ⊎ ((a ≡ e) × (x < y)) → a * 65536 + x < e * 65536 + y
two a e x y l h = ⊎_elim (λ (p : a < e). omega (arith, p, l)) (λ (p : (a ≡ e) × (x < y)). omega (arith, p.0, p.1)) h

one : (a e x y : ℕ) → x < 256 → (a < e) ⊎ ((a ≡ e) × (x < y)) → a * 256 + x < e * 256 + y
one a e x y l h = ⊎_elim (λ (p : a < e). omega (arith, p, l)) (λ (p : (a ≡ e) × (x < y)). omega (arith, p.0, p.1)) h

last_digit : (a e : ℕ) (r : Ordering) → nat_cmp a e ≡ r → T (is_lt (ordering_then r Equal)) → a < e
last_digit a e Less c h = nat_less a e c
last_digit a e Equal c h = absurd h
last_digit a e Greater c h = absurd h

-- the number of four digits
value : ℕ → ℕ → ℕ → ℕ → ℕ
value a b c d = a * 16777216 + (b * 65536 + (c * 256 + d))

value_is : (a b c d : ℕ) → index_of (a ∷ b ∷ c ∷ d ∷ []) ≡ value a b c d
unfolding value
value_is a b c d = omega arith

less_at : (a b c d e f g h : ℕ) → b < 256 → c < 256 → d < 256 → T (is_lt (slice_cmp nat_cmp (a ∷ b ∷ c ∷ d ∷ []) (e ∷ f ∷ g ∷ h ∷ []))) → value a b c d < value e f g h
unfolding value
less_at a b c d e f g h lb lc ld t =
    three a e (b * 65536 + (c * 256 + d)) (f * 65536 + (g * 256 + h)) (omega (arith, lb, lc, ld))
    (digit a e _ _ _ (nat_cmp a e) refl t (λ t2.
    two b f (c * 256 + d) (g * 256 + h) (omega (arith, lc, ld))
    (digit b f _ _ _ (nat_cmp b f) refl t2 (λ t3.
    one c g d h ld
    (digit c g _ _ _ (nat_cmp c g) refl t3 (λ t4. last_digit d h (nat_cmp d h) refl t4))))))

-- keys rise as their indices do
pub less : (p q : List ℕ) → IsIndexKey p → IsIndexKey q → T (is_lt (slice_cmp nat_cmp p q)) → index_of p < index_of q
less p q k l t =
    subst (λ n. n < index_of q) (sym (value_is k.a k.b k.c k.d) ∙ ap index_of (sym k.is))
    (subst (λ n. value k.a k.b k.c k.d < n) (sym (value_is l.a l.b l.c l.d) ∙ ap index_of (sym l.is))
    (less_at k.a k.b k.c k.d l.a l.b l.c l.d k.b_byte k.c_byte k.d_byte
    (subst (λ x. T (is_lt (slice_cmp nat_cmp x (l.a ∷ l.b ∷ l.c ∷ l.d ∷ [])))) k.is (subst (λ x. T (is_lt (slice_cmp nat_cmp p x))) l.is t))))

-- keys that strictly rise
abbrev pub Rising : List (List ℕ) → Type 0
Rising [] = Unit {0}
Rising (k ∷ ks) = AllByRecursion (λ q. T (is_lt (slice_cmp nat_cmp k q))) ks × Rising ks

and_of : (b c : Bool) → T (b && c) → T b × T c
and_of true c h = (tt, h)
and_of false c h = absurd h

below_of : {X : Type 0} (k : List ℕ) (es : List (List ℕ × X)) → T (entries_of.below_all (slice_cmp nat_cmp) k es) → AllByRecursion (λ q. T (is_lt (slice_cmp nat_cmp k q))) (map (λ e. e.0) es)
below_of k [] h = tt
below_of k (e ∷ es) h = let parts = and_of _ _ h in (parts.0, below_of k es parts.1)

rising_of : {X : Type 0} (es : List (List ℕ × X)) → T (map.is_sorted (slice_cmp nat_cmp) es) → Rising (map (λ e. e.0) es)
rising_of [] h = tt
rising_of (e ∷ es) h = let parts = and_of _ _ h in (below_of e.0 es parts.0, rising_of es parts.1)

-- all keys are those of indices
abbrev pub AreIndexKeys : List (List ℕ) → Type 0
AreIndexKeys ks = AllByRecursion IsIndexKey ks

-- all indices are below a number
abbrev pub AreBelow : ℕ → List (List ℕ) → Type 0
AreBelow n ks = AllByRecursion (λ k. index_of k < n) ks

-- the index behind the last key
abbrev behind_last : Option (List ℕ) → ℕ
behind_last o = option_map_or (λ key. index_of key + 1) o 0

below_last : (ks : List (List ℕ)) → Rising ks → AreIndexKeys ks → AreBelow (behind_last (last_or None ks)) ks
below_last [] r i = tt
below_last (k ∷ []) r i = (omega arith, tt)
below_last (k ∷ l ∷ ks) r i =
    let later = below_last (l ∷ ks) r.1 i.1 in
    (lt_trans (less k l i.0 i.1.0 r.0.0) later.0, later)

last_below : (n : ℕ) (k : List ℕ) (ks : List (List ℕ)) → index_of k < n → AreBelow n ks → behind_last (last_or (Some k) ks) ≤ n
last_below n k [] h b = omega (arith, h)
last_below n k (l ∷ ks) h b = last_below n l ks b.0 b.1

-- the indices of slots are below the next one, which is the least such number
pub below_next : (slots : Slots) → AreIndexKeys (keys slots) → AreBelow (next_index slots) (keys slots)
unfolding next_index
below_next slots i = below_last (keys slots) (rising_of (entries slots) (entries_sorted slots)) i

next_least_of : (n : ℕ) (ks : List (List ℕ)) → AreBelow n ks → behind_last (last_or None ks) ≤ n
next_least_of n [] b = omega arith
next_least_of n (k ∷ ks) b = last_below n k ks b.0 b.1

pub next_least : (slots : Slots) (n : ℕ) → AreBelow n (keys slots) → next_index slots ≤ n
unfolding next_index
next_least slots n b = next_least_of n (keys slots) b
