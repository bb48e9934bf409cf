-- One member less.
use Rattle.std.proofs.Common.{◌≡◌, ◌≢◌, ◌⊎◌, ℕ, ◌^◌, ◌<◌, ◌≤◌, if◌then◌else◌, List, [], ◌∷◌, ◌++◌, map, filter_map, Option, Some, None, sym, ◌∙◌, subst, inl, inr, ⊎_elim, arith}
use Rattle.std.proofs.lemmas.Bool.{cases_eq, cases_lt, eq-eqb, ne_eqb}
use Rattle.reload_ids.specs.Ring.{distance}
use Rattle.chord_tables.specs.declared.TheConstants.{MAX_NEIGHBOURS}
use Rattle.chord_tables.specs.Neighbours.{predecessors_of, successors_of, without}
use Rattle.chord_tables.specs.Tables.{Tables, merged, removed, spared}
use Rattle.ring_laws.specs.Members.{IsAmong, AreAmong, AreMembers, IsExact}
use Rattle.ring_laws.proofs.Lists.{member-small, among-left, among-right, append-among, among-without, without_has, members-without}
use Rattle.ring_laws.proofs.Rising.{TellsApart}
use Rattle.ring_laws.proofs.Counts.{count_below, count_le, count_le_skip}
use Rattle.ring_laws.proofs.Near.{near, among-near, near-few, near-from_few, near-apart, near-before}
use Rattle.ring_laws.proofs.Ways.{beyond, beyond_before, nearer_back, nearer_on}
use Rattle.ring_laws.proofs.Owners.{tells_after, tells_before}
use Rattle.ring_laws.proofs.Merging.{among-predecessors, among-successors, enough-merged, exact-predecessors, exact-successors, predecessors-members, successors-members}
use Rattle.ring_laws.proofs.Sides.{successor-predecessor, predecessor-successor}

-- who is next to a peer once another is gone was next to it before, or to the one that is gone
module _ (p l : ℕ) (xs : List ℕ) (d : AreMembers xs) (hp : IsAmong p xs) (hl : IsAmong l xs)
    (n : p ≢ l) where
  lp : p < 2 ^ 128
  lp = member-small p xs d hp

  ll : l < 2 ^ 128
  ll = member-small l xs d hl

  small : (m : ℕ) → IsAmong m (without l xs) → m < 2 ^ 128
  small m i = member-small m xs d (among-without l m xs i).0

  after : TellsApart (λ m. distance p m) xs
  after = tells_after p xs lp d

  before : TellsApart (λ m. distance m p) xs
  before = tells_before p xs lp d

  few_after : (y : ℕ) → IsAmong y (near (λ m. distance p m) p (without l xs))
      → count_below (λ m. distance p m) (distance p y) (without p (without l xs)) < MAX_NEIGHBOURS
  few_after y h = near-few (λ m. distance p m) p y (without l xs)
      (tells_after p (without l xs) lp (members-without l xs d)) (members-without l xs d) h

  few_before : (y : ℕ) → IsAmong y (near (λ m. distance m p) p (without l xs))
      → count_below (λ m. distance m p) (distance y p) (without p (without l xs)) < MAX_NEIGHBOURS
  few_before y h = near-few (λ m. distance m p) p y (without l xs)
      (tells_before p (without l xs) lp (members-without l xs d)) (members-without l xs d) h

  successors-told : (y : ℕ) → IsAmong y (successors_of p (without l xs))
      → IsAmong y (successors_of p xs) ⊎ IsAmong y (successors_of l xs)
  unfolding successors_of
  successors-told y h =
      let there = among-near (λ m. distance p m) p y (without l xs) h in
      let a = among-without l y xs there.0 in
      ⊎_elim
      (λ (e : distance p l < distance p y).
      let few = few_after y h in
      let le = count_le_skip (λ m. distance l m) (λ m. distance p m) (distance l y) (distance p y) p
      (without l xs)
      (λ m i. beyond p l y m lp ll (small y there.0) (small m i) n e) in
      inr (near-from_few (λ m. distance l m) l y xs (tells_after l xs ll d) d a.0 a.1
      (omega arith)))
      (λ (e : distance p y ≤ distance p l). inl
      (near-before (λ m. distance p m) p l y xs after d e h))
      (cases_lt (distance p l) (distance p y))

  predecessors-told : (y : ℕ) → IsAmong y (predecessors_of p (without l xs))
      → IsAmong y (predecessors_of p xs) ⊎ IsAmong y (predecessors_of l xs)
  unfolding predecessors_of
  predecessors-told y h =
      let there = among-near (λ m. distance m p) p y (without l xs) h in
      let a = among-without l y xs there.0 in
      ⊎_elim
      (λ (e : distance l p < distance y p).
      let few = few_before y h in
      let le = count_le_skip (λ m. distance m l) (λ m. distance m p) (distance y l) (distance y p) p
      (without l xs)
      (λ m i. beyond_before p l y m lp ll (small y there.0) (small m i) n e) in
      inr (near-from_few (λ m. distance m l) l y xs (tells_before l xs ll d) d a.0 a.1
      (omega arith)))
      (λ (e : distance y p ≤ distance l p). inl
      (near-before (λ m. distance m p) p l y xs before d e h))
      (cases_lt (distance l p) (distance y p))

  -- what a peer knows itself, of one that was near on the other side
  successors-own : IsAmong l (predecessors_of p xs) → (y : ℕ)
      → IsAmong y (successors_of p (without l xs))
      → IsAmong y (successors_of p xs) ⊎ IsAmong y (predecessors_of p xs)
  unfolding successors_of predecessors_of
  successors-own near_l y h =
      let there = among-near (λ m. distance p m) p y (without l xs) h in
      let a = among-without l y xs there.0 in
      ⊎_elim
      (λ (e : distance p l < distance p y).
      let few = near-few (λ m. distance m p) p l xs before d near_l in
      let le = count_le (λ m. distance m p) (λ m. distance m p) (distance y p) (distance l p)
      (without p xs)
      (λ m i. nearer_back p l y m lp ll (small y there.0) n (λ f. there.1 (sym f)) e) in
      inr (near-from_few (λ m. distance m p) p y xs before d a.0 there.1 (omega arith)))
      (λ (e : distance p y ≤ distance p l). inl
      (near-before (λ m. distance p m) p l y xs after d e h))
      (cases_lt (distance p l) (distance p y))

  predecessors-own : IsAmong l (successors_of p xs) → (y : ℕ)
      → IsAmong y (predecessors_of p (without l xs))
      → IsAmong y (predecessors_of p xs) ⊎ IsAmong y (successors_of p xs)
  unfolding successors_of predecessors_of
  predecessors-own near_l y h =
      let there = among-near (λ m. distance m p) p y (without l xs) h in
      let a = among-without l y xs there.0 in
      ⊎_elim
      (λ (e : distance l p < distance y p).
      let few = near-few (λ m. distance p m) p l xs after d near_l in
      let le = count_le (λ m. distance p m) (λ m. distance p m) (distance p y) (distance p l)
      (without p xs)
      (λ m i. nearer_on p l y m lp ll (small y there.0) n (λ f. there.1 (sym f)) e) in
      inr (near-from_few (λ m. distance p m) p y xs after d a.0 there.1 (omega arith)))
      (λ (e : distance y p ≤ distance l p). inl
      (near-before (λ m. distance m p) p l y xs before d e h))
      (cases_lt (distance l p) (distance y p))

  -- of one that wasn't near
  successors-far : ¬ IsAmong l (successors_of p xs)
      → successors_of p (without l xs) ≡ successors_of p xs
  unfolding successors_of
  successors-far = near-apart (λ m. distance p m) p l xs after

  predecessors-far : ¬ IsAmong l (predecessors_of p xs)
      → predecessors_of p (without l xs) ≡ predecessors_of p xs
  unfolding predecessors_of
  predecessors-far = near-apart (λ m. distance m p) p l xs before

-- whom a peer knows, or is told of, it has once it has merged what it is told
record Mends (p l : ℕ) (xs names : List ℕ) : Type 0 where
  predecessors : (y : ℕ) → IsAmong y (predecessors_of p (without l xs))
      → (IsAmong y (predecessors_of p xs) ⊎ IsAmong y (successors_of p xs)) ⊎ IsAmong y names
  successors : (y : ℕ) → IsAmong y (successors_of p (without l xs))
      → (IsAmong y (predecessors_of p xs) ⊎ IsAmong y (successors_of p xs)) ⊎ IsAmong y names

module _ (p l : ℕ) (xs : List ℕ) (d : AreMembers xs) (hp : IsAmong p xs) (hl : IsAmong l xs)
    (n : p ≢ l) where
  -- a successor of the leaver is told of its predecessors
  mends-successor : IsAmong p (successors_of l xs) → Mends p l xs (predecessors_of l xs)
  mends-successor h =
      let near_l = successor-predecessor l p xs d hl hp (λ e. n (sym e)) h in
      record {
        predecessors = λ y i. ⊎_elim
            (λ (a : IsAmong y (predecessors_of p xs)). inl (inl a))
            (λ (a : IsAmong y (predecessors_of l xs)). inr a)
            (predecessors-told p l xs d hp hl n y i);
        successors = λ y i. ⊎_elim
            (λ (a : IsAmong y (successors_of p xs)). inl (inr a))
            (λ (a : IsAmong y (predecessors_of p xs)). inl (inl a))
            (successors-own p l xs d hp hl n near_l y i);
      }

  -- a predecessor is told of its successors
  mends-predecessor : IsAmong p (predecessors_of l xs) → Mends p l xs (successors_of l xs)
  mends-predecessor h =
      let near_l = predecessor-successor p l xs d hp hl n h in
      record {
        predecessors = λ y i. ⊎_elim
            (λ (a : IsAmong y (predecessors_of p xs)). inl (inl a))
            (λ (a : IsAmong y (successors_of p xs)). inl (inr a))
            (predecessors-own p l xs d hp hl n near_l y i);
        successors = λ y i. ⊎_elim
            (λ (a : IsAmong y (successors_of p xs)). inl (inr a))
            (λ (a : IsAmong y (successors_of l xs)). inr a)
            (successors-told p l xs d hp hl n y i);
      }

  -- anybody else knows already who is next to it
  mends-far : (names : List ℕ) → ¬ IsAmong p (predecessors_of l xs)
      → ¬ IsAmong p (successors_of l xs) → Mends p l xs names
  mends-far names a b =
      let ep = predecessors-far p l xs d hp hl n
      (λ i. b (predecessor-successor l p xs d hl hp (λ e. n (sym e)) i)) in
      let es = successors-far p l xs d hp hl n
      (λ i. a (successor-predecessor p l xs d hp hl n i)) in
      record {
        predecessors = λ y i. inl (inl (subst (λ z. IsAmong y z) ep i));
        successors = λ y i. inl (inr (subst (λ z. IsAmong y z) es i));
      }

others-before : (l : ℕ) (xs : List ℕ) → AreAmong (predecessors_of l xs) (without l xs)
unfolding predecessors_of
others-before l xs =
    λ y h. let a = among-near (λ m. distance m l) l y xs h in without_has l y xs a.0 a.1

others-after : (l : ℕ) (xs : List ℕ) → AreAmong (successors_of l xs) (without l xs)
unfolding successors_of
others-after l xs =
    λ y h. let a = among-near (λ m. distance l m) l y xs h in without_has l y xs a.0 a.1

-- a finger that isn't the one that is gone
fingers-spared : (l : ℕ) (xs : List ℕ) (fingers : List (Option ℕ))
    → AreAmong (filter_map (λ f. f) fingers) xs
    → AreAmong (filter_map (λ f. f) (map (spared l) fingers)) (without l xs)
fingers-spared l xs [] sub = λ y h. absurd h
fingers-spared l xs (None ∷ fs) sub = fingers-spared l xs fs sub
fingers-spared l xs (Some x ∷ fs) sub =
    let later = fingers-spared l xs fs (λ y i. sub y (inr i)) in
    ⊎_elim
    (λ (e : x ≡ l). subst (λ b. P (if b then None else Some x)) (sym (eq-eqb x l e)) later)
    (λ (n : x ≢ l). subst (λ b. P (if b then None else Some x)) (sym (ne_eqb x l n))
    (λ y. ⊎_elim
    (λ (i : y ≡ x). without_has l y xs (sub y (inl i)) (λ f. n (sym i ∙ f)))
    (later y)))
    (cases_eq x l)
  where
    P : Option ℕ → Type 0
    P o = AreAmong (filter_map (λ f. f) (o ∷ map (spared l) fs)) (without l xs)

module _ (members : List ℕ) (t l : Tables) (d : AreMembers members) (ht : IsExact members t)
    (hl : IsExact members l) (n : t.me ≢ l.me) where
  stays : (xs : List ℕ) → AreAmong xs members → AreAmong (without l.me xs) (without l.me members)
  stays xs sub y i =
      let a = among-without l.me y xs i in
      without_has l.me y members (sub y a.0) a.1

  keeps : (names : List ℕ) (y : ℕ) → y ≢ l.me
      → (IsAmong y (predecessors_of t.me members) ⊎ IsAmong y (successors_of t.me members))
      ⊎ IsAmong y names
      → IsAmong y (without l.me t.predecessors ++ without l.me t.successors ++ names)
  keeps names y m = ⊎_elim
      (⊎_elim
      (λ (a : IsAmong y (predecessors_of t.me members)).
      let b = without_has l.me y t.predecessors (exact-predecessors members t ht y a) m in
      among-left y (without l.me t.predecessors ++ without l.me t.successors) names
      (among-left y (without l.me t.predecessors) (without l.me t.successors) b))
      (λ (a : IsAmong y (successors_of t.me members)).
      let b = without_has l.me y t.successors (exact-successors members t ht y a) m in
      among-left y (without l.me t.predecessors ++ without l.me t.successors) names
      (among-right y (without l.me t.predecessors) (without l.me t.successors) b)))
      (λ (a : IsAmong y names).
      among-right y (without l.me t.predecessors ++ without l.me t.successors) names a)

  -- with names of those who stay, which mend
  leaver-removed : (names : List ℕ) → AreAmong names (without l.me members)
      → Mends t.me l.me members names
      → IsExact (without l.me members) (merged names (removed l.me t))
  unfolding removed
  leaver-removed names told mends =
      let rest = without l.me members in
      enough-merged rest names (removed l.me t) (members-without l.me members d)
      (without_has l.me t.me members ht.member n)
      (fingers-spared l.me members t.fingers ht.fingers)
      (record {
        among = append-among (without l.me t.predecessors ++ without l.me t.successors) names rest
            (append-among (without l.me t.predecessors) (without l.me t.successors) rest
            (stays t.predecessors (predecessors-members members t ht))
            (stays t.successors (successors-members members t ht)))
            told;
        predecessors = λ y i. keeps names y
            (among-without l.me y members (among-predecessors t.me rest y i)).1
            (mends.predecessors y i);
        successors = λ y i. keeps names y
            (among-without l.me y members (among-successors t.me rest y i)).1
            (mends.successors y i);
      })

  told-predecessors : Mends t.me l.me members (predecessors_of l.me members)
      → IsExact (without l.me members) (merged l.predecessors (removed l.me t))
  told-predecessors mends =
      subst (λ z. IsExact (without l.me members) (merged z (removed l.me t))) (sym hl.predecessors)
      (leaver-removed (predecessors_of l.me members) (others-before l.me members) mends)

  pub successor-left : IsAmong t.me l.successors
      → IsExact (without l.me members) (merged l.predecessors (removed l.me t))
  successor-left i =
      told-predecessors (mends-successor t.me l.me members d ht.member hl.member n
      (subst (λ z. IsAmong t.me z) hl.successors i))

  pub predecessor-left : IsAmong t.me l.predecessors
      → IsExact (without l.me members) (merged l.successors (removed l.me t))
  predecessor-left i =
      subst (λ z. IsExact (without l.me members) (merged z (removed l.me t))) (sym hl.successors)
      (leaver-removed (successors_of l.me members) (others-after l.me members)
      (mends-predecessor t.me l.me members d ht.member hl.member n
      (subst (λ z. IsAmong t.me z) hl.predecessors i)))

  pub other-left : ¬ IsAmong t.me l.predecessors → ¬ IsAmong t.me l.successors
      → IsExact (without l.me members) (merged l.predecessors (removed l.me t))
  other-left a b =
      told-predecessors (mends-far t.me l.me members d ht.member hl.member n
      (predecessors_of l.me members)
      (λ i. a (subst (λ z. IsAmong t.me z) (sym hl.predecessors) i))
      (λ i. b (subst (λ z. IsAmong t.me z) (sym hl.successors) i)))
