-- The set of what was heard, kept as sorted keys, and the marks of a mask.
use Rattle.std.proofs.Common.{◌≡◌, ◌≢◌, ℕ, zero, suc, ◌+◌, ◌-◌, ◌<◌, ◌≤◌, ◌==◌, ◌&&◌, ◌||◌, nat_le, inl, inr, Bool, true, false, cond, List, refl, sym, ap, subst, ◌∙◌, arith}
use Rattle.std.proofs.lemmas.Bool.{cases_lt}
use Rattle.std.proofs.lemmas.Bool.Decides.{nat_tests}
use Rattle.std.specs.Int.{bit_at}
use Rattle.std.specs.List.{list_any}
use Rattle.std.specs.Ordering.{nat_cmp, is_eq, eq_by_cmp}
use Rattle.std.specs.Cmp.{nat_cmp_total, unsigned_tied, nat_eq_equiv}
use Rattle.std.specs.FinSet.{FinSet, contains, insert, from_list, contains-insert, contains-from_list, same_set, nat_cmp-IsAntisymmetric}
use Rattle.std.proofs.lemmas.Bool.{eqb-true}
use Rattle.link_framing.specs.Acked.{heard_before, heard_up_to}

-- a test that says yes at once, or else another
cond_or : (a b : Bool) → cond a true b ≡ (a || b)
cond_or true b = refl
cond_or false b = refl

-- two numbers tie either way
tied_swap : (a b : ℕ) → is_eq (nat_cmp a b) ≡ is_eq (nat_cmp b a)
tied_swap a b = unsigned_tied a b ∙ nat_eq_equiv.symm a b ∙ sym (unsigned_tied b a)

-- keys that have one more
pub keys_insert : (old new : List ℕ) (k : ℕ) → ((q : ℕ) → list_any (eq_by_cmp nat_cmp q) new ≡ cond (is_eq (nat_cmp k q)) true (list_any (eq_by_cmp nat_cmp q) old))
    → from_list {R = nat_cmp} new ≡ insert (from_list {R = nat_cmp} old) k
keys_insert old new k updated = same_set nat_cmp_total nat_cmp-IsAntisymmetric _ _ (λ q.
    contains-from_list nat_cmp_total new q ∙ updated q ∙ cond_or (is_eq (nat_cmp k q)) (list_any (eq_by_cmp nat_cmp q) old)
    ∙ ap (λ (b : Bool). b || list_any (eq_by_cmp nat_cmp q) old) (tied_swap k q)
    ∙ ap (λ (b : Bool). is_eq (nat_cmp q k) || b) (sym (contains-from_list nat_cmp_total old q))
    ∙ sym (contains-insert nat_cmp_total (from_list old) k q))

-- a key among keys
pub keys_contain : (keys : List ℕ) (n : ℕ) → list_any (eq_by_cmp nat_cmp n) keys ≡ contains (from_list {R = nat_cmp} keys) n
keys_contain keys n = sym (contains-from_list nat_cmp_total keys n)

or_left : (a b : Bool) → a ≡ true → (a || b) ≡ true
or_left true b e = refl
or_left false b e = absurd cc

or_right : (a b : Bool) → b ≡ true → (a || b) ≡ true
or_right true b e = refl
or_right false b e = e

or_swap : (a b c : Bool) → (a || (b || c)) ≡ (b || (a || c))
or_swap true true c = refl
or_swap true false c = refl
or_swap false true c = refl
or_swap false false c = refl

-- numbers that differ don't tie
untied : (a b : ℕ) → a ≢ b → eq_by_cmp nat_cmp a b ≡ false
untied a b other =
    elim (a == b) as (λ t. (a == b) ≡ t → eq_by_cmp nat_cmp a b ≡ false) [
      | true ↦ λ e. absurd (other (eqb-true a b e))
      | false ↦ λ e. unsigned_tied a b ∙ e
    ] refl

-- the order in which two were heard doesn't matter
insert_swap : (heard : FinSet nat_cmp) (m n : ℕ) → insert (insert heard m) n ≡ insert (insert heard n) m
insert_swap heard m n = same_set nat_cmp_total nat_cmp-IsAntisymmetric _ _ (λ q.
    contains-insert nat_cmp_total (insert heard m) n q
    ∙ ap (λ (b : Bool). eq_by_cmp nat_cmp q n || b) (contains-insert nat_cmp_total heard m q)
    ∙ or_swap (eq_by_cmp nat_cmp q n) (eq_by_cmp nat_cmp q m) (contains heard q)
    ∙ ap (λ (b : Bool). eq_by_cmp nat_cmp q m || b) (sym (contains-insert nat_cmp_total heard n q))
    ∙ sym (contains-insert nat_cmp_total (insert heard n) m q))

-- the payload behind a front joins those up to it
pub heard_next : (front n : ℕ) (others : FinSet nat_cmp) → n ≡ front + 1 → heard_up_to n others ≡ insert (heard_up_to front others) n
unfolding heard_up_to
heard_next front n others e =
    let next : suc front ≡ n = omega (arith, e) in
    subst (λ (m : ℕ). heard_up_to m others ≡ insert (heard_up_to front others) m) next refl

-- any other joins the others
pub heard_other : (front n : ℕ) (others : FinSet nat_cmp) → heard_up_to front (insert others n) ≡ insert (heard_up_to front others) n
unfolding heard_up_to
heard_other zero n others = refl
heard_other (suc front) n others =
    ap (λ (s : FinSet nat_cmp). insert s (suc front)) (heard_other front n others) ∙ insert_swap (heard_up_to front others) n (suc front)

-- each up to a front was heard
pub heard_there : (front : ℕ) (others : FinSet nat_cmp) (n : ℕ) → 1 ≤ n → n ≤ front → contains (heard_up_to front others) n ≡ true
unfolding heard_up_to
heard_there zero others n low le = absurd (omega (arith, low, le))
heard_there (suc front) others n low le =
    contains-insert nat_cmp_total (heard_up_to front others) (suc front) n
    ∙ elim (cases_lt n (suc front)) [
      | inl less ↦ or_right _ _ (heard_there front others n low (omega (arith, less)))
      | inr ge ↦ let same : n ≡ suc front = omega (arith, le, ge) in or_left _ _ (ap (λ i. is_eq (nat_cmp i (suc front))) same ∙ unsigned_tied (suc front) (suc front) ∙ nat_eq_equiv.refl (suc front))
    ]

-- any other was where it is one of the others
pub heard_elsewhere : (front : ℕ) (others : FinSet nat_cmp) (n : ℕ) → ((1 ≤ n) → front < n) → contains (heard_up_to front others) n ≡ contains others n
unfolding heard_up_to
heard_elsewhere zero others n past = refl
heard_elsewhere (suc front) others n past =
    contains-insert nat_cmp_total (heard_up_to front others) (suc front) n
    ∙ ap (λ (b : Bool). b || contains (heard_up_to front others) n) (untied n (suc front) (λ e. omega (arith, e, past (omega (arith, e)))))
    ∙ heard_elsewhere front others n (λ low. omega (arith, past low))

-- a mark
abbrev pub marked : Bool → ℕ
marked b = cond b 1 0

-- what isn't heard isn't marked
unmarked : (a b : Bool) → a ≡ false → marked (a && b) ≡ 0
unmarked false b e = refl
unmarked true b e = absurd cc

-- there is none before the first
pub none_before : (heard : FinSet nat_cmp) (n k : ℕ) → n < k → marked (heard_before heard n k) ≡ 0
none_before heard n k lt =
    let past : nat_le k n ≡ false = grind (arith, nat_tests, lt) in
    unmarked (nat_le k n) (contains heard (n - k)) past

-- one bit more is as told
pub bits_more : (want : ℕ → ℕ) (old new k : ℕ) → ((j : ℕ) → 1 ≤ j → j < k → bit_at old j ≡ want j) → bit_at new k ≡ want k
    → ((j : ℕ) → j ≢ k → bit_at new j ≡ bit_at old j) → (j : ℕ) → 1 ≤ j → j < k + 1 → bit_at new j ≡ want j
bits_more want old new k below there others j low lt =
    elim (cases_lt j k) [
      | inl less ↦ others j (λ e. omega (arith, e, less)) ∙ below j low less
      | inr le ↦ let e : k ≡ j = omega arith in subst (λ (i : ℕ). bit_at new i ≡ want i) e there
    ]
