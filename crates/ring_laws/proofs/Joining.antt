-- One member more.
use Rattle.std.proofs.Common.{◌≡◌, ◌≢◌, ◌⊎◌, ℕ, ◌^◌, ◌<◌, IsTrue, List, [], ◌∷◌, ◌++◌, refl, sym, ap, subst, inl, inr, ⊎_elim, arith}
use Rattle.std.proofs.lemmas.Bool.{cases_eq}
use Rattle.reload_ids.specs.Ring.{distance}
use Rattle.chord_tables.specs.Neighbours.{predecessors_of, successors_of, without}
use Rattle.chord_tables.specs.Tables.{Tables, merged, alone, owns}
use Rattle.ring_laws.specs.Members.{IsAmong, AreAmong, AreMembers, IsOwner, IsExact, set_fingers}
use Rattle.ring_laws.proofs.Lists.{member-small, append-among, among-left, among-right, among-without, without-head}
use Rattle.ring_laws.proofs.Counts.{count_below, count_le, count_without_le}
use Rattle.ring_laws.proofs.Near.{among-near, near-few, near-from_few, near-old_or_new}
use Rattle.ring_laws.proofs.Ways.{after_next, before_next}
use Rattle.ring_laws.proofs.Owners.{tells_after, tells_before, owns_own}
use Rattle.ring_laws.proofs.Merging.{among-predecessors, among-successors, enough-merged, exact-predecessors, exact-successors, predecessors-members, successors-members, known-predecessors, known-successors, known-others}

pub predecessors-old_or_new : (p j y : ℕ) (xs : List ℕ) → p < 2 ^ 128 → AreMembers (j ∷ xs)
    → IsAmong y (predecessors_of p (j ∷ xs)) → (y ≡ j) ⊎ IsAmong y (predecessors_of p xs)
unfolding predecessors_of
predecessors-old_or_new p j y xs lp d h =
    near-old_or_new (λ m. distance m p) p j y xs (tells_before p (j ∷ xs) lp d) d h

pub successors-old_or_new : (p j y : ℕ) (xs : List ℕ) → p < 2 ^ 128 → AreMembers (j ∷ xs)
    → IsAmong y (successors_of p (j ∷ xs)) → (y ≡ j) ⊎ IsAmong y (successors_of p xs)
unfolding successors_of
successors-old_or_new p j y xs lp d h =
    near-old_or_new (λ m. distance p m) p j y xs (tells_after p (j ∷ xs) lp d) d h

-- who hears of the joiner, and of members
pub joiner-heard : (members : List ℕ) (j : ℕ) (others : List ℕ) (t : Tables)
    → AreMembers (j ∷ members) → IsExact members t → IsAmong j others
    → AreAmong others (j ∷ members) → IsExact (j ∷ members) (merged others t)
joiner-heard members j others t d h there sub =
    let known = t.predecessors ++ t.successors ++ others in
    let lp = member-small t.me members d.2 h.member in
    enough-merged (j ∷ members) others t d (inr h.member) (λ y i. inr (h.fingers y i))
    (record {
      among = append-among (t.predecessors ++ t.successors) others (j ∷ members)
          (append-among t.predecessors t.successors (j ∷ members)
          (λ y i. inr (predecessors-members members t h y i))
          (λ y i. inr (successors-members members t h y i)))
          sub;
      predecessors = λ y i. ⊎_elim
          (λ (e : y ≡ j). known-others t others y (subst (λ z. IsAmong z others) (sym e) there))
          (λ (a : IsAmong y (predecessors_of t.me members)). known-predecessors t others y
          (exact-predecessors members t h y a))
          (predecessors-old_or_new t.me j y members lp d i);
      successors = λ y i. ⊎_elim
          (λ (e : y ≡ j). known-others t others y (subst (λ z. IsAmong z others) (sym e) there))
          (λ (a : IsAmong y (successors_of t.me members)). known-successors t others y
          (exact-successors members t h y a))
          (successors-old_or_new t.me j y members lp d i);
    })

pub joiner-merged : (members : List ℕ) (j : ℕ) (t : Tables) → AreMembers (j ∷ members)
    → IsExact members t → IsExact (j ∷ members) (merged (j ∷ []) t)
joiner-merged members j t d h =
    joiner-heard members j (j ∷ []) t d h (inl refl) (λ y. ⊎_elim (λ (e : y ≡ j). inl e) absurd)

-- those next to the joiner are its owner and those next to that one
module _ (members : List ℕ) (j o : ℕ) (d : AreMembers (j ∷ members)) (h : IsOwner members j o) where
  lj : j < 2 ^ 128
  lj = d.0

  lo : o < 2 ^ 128
  lo = member-small o members d.2 h.member

  small : (m : ℕ) → IsAmong m members → m < 2 ^ 128
  small m i = member-small m members d.2 i

  apart : (m : ℕ) → IsAmong m members → j ≢ m
  apart m i e = d.1 (subst (λ z. IsAmong z members) (sym e) i)

  old : (y : ℕ) → IsAmong y (j ∷ members) → y ≢ j → IsAmong y members
  old y (inl e) n = absurd (n e)
  old y (inr a) n = a

  pub joiner-successors : (y : ℕ) → IsAmong y (successors_of j (j ∷ members))
      → (y ≡ o) ⊎ IsAmong y (successors_of o members)
  unfolding successors_of
  joiner-successors y i =
      let k = among-near (λ m. distance j m) j y (j ∷ members) i in
      let a = old y k.0 k.1 in
      ⊎_elim
      (λ (e : y ≡ o). inl e)
      (λ (n : y ≢ o).
      let few =
      near-few (λ m. distance j m) j y (j ∷ members) (tells_after j (j ∷ members) lj d) d i in
      let e = ap (count_below (λ m. distance j m) (distance j y)) (without-head j members d.1) in
      let l1 =
      count_le (λ m. distance o m) (λ m. distance j m) (distance o y) (distance j y) members
      (λ m b. after_next j o y m lj lo (small y a) (small m b) (h.nearest m b) (h.nearest y a)) in
      let l2 = count_without_le (λ m. distance o m) (distance o y) o members in
      inr (near-from_few (λ m. distance o m) o y members (tells_after o members lo d.2) d.2 a n
      (omega arith)))
      (cases_eq y o)

  pub joiner-predecessors : (y : ℕ) → IsAmong y (predecessors_of j (j ∷ members))
      → (y ≡ o) ⊎ IsAmong y (predecessors_of o members)
  unfolding predecessors_of
  joiner-predecessors y i =
      let k = among-near (λ m. distance m j) j y (j ∷ members) i in
      let a = old y k.0 k.1 in
      ⊎_elim
      (λ (e : y ≡ o). inl e)
      (λ (n : y ≢ o).
      let few =
      near-few (λ m. distance m j) j y (j ∷ members) (tells_before j (j ∷ members) lj d) d i in
      let e = ap (count_below (λ m. distance m j) (distance y j)) (without-head j members d.1) in
      let l1 = count_le (λ m. distance m o) (λ m. distance m j) (distance y o) (distance y j)
      (without o members)
      (λ m b. let q = among-without o m members b in
      before_next j o y m lj lo (small y a) (small m q.0) (apart o h.member) (apart m q.0)
      (apart y a) q.1 n
      (h.nearest m q.0) (h.nearest y a)) in
      let l2 = count_without_le (λ m. distance m j) (distance y j) o members in
      inr (near-from_few (λ m. distance m o) o y members (tells_before o members lo d.2) d.2 a n
      (omega arith)))
      (cases_eq y o)

-- nobody is set among the fingers of a peer that knows nobody
pub alone-fingers : (j : ℕ) (xs : List ℕ) → AreAmong (set_fingers (alone j)) xs
alone-fingers j xs = λ y h. absurd h

-- what the joiner hears of the peer that owned its id
pub joiner-told : (members : List ℕ) (j : ℕ) (o : Tables) (others : List ℕ)
    → AreMembers (j ∷ members) → IsExact members o → IsTrue (owns o j)
    → AreAmong others (j ∷ members) → IsAmong o.me others → AreAmong o.predecessors others
    → AreAmong o.successors others → IsExact (j ∷ members) (merged others (alone j))
joiner-told members j o others d h own sub me before after =
    let owner = (owns_own members o j d.2 d.0 h).0 own in
    let at : ℕ → Type 0 = λ z. IsAmong z others in
    enough-merged (j ∷ members) others (alone j) d (inl refl) (alone-fingers j (j ∷ members))
    (record {
      among = sub;
      predecessors = λ y i. ⊎_elim
          (λ (e : y ≡ o.me). subst at (sym e) me)
          (λ (a : IsAmong y (predecessors_of o.me members)). before y
          (exact-predecessors members o h y a))
          (joiner-predecessors members j o.me d owner y i);
      successors = λ y i. ⊎_elim
          (λ (e : y ≡ o.me). subst at (sym e) me)
          (λ (a : IsAmong y (successors_of o.me members)). after y
          (exact-successors members o h y a))
          (joiner-successors members j o.me d owner y i);
    })

-- a list with another id in front, and two lists in a row
pub joiner-handed : (members : List ℕ) (j : ℕ) (o : Tables) → AreMembers (j ∷ members)
    → IsExact members o → IsTrue (owns o j)
    → IsExact (j ∷ members) (merged (o.me ∷ o.predecessors ++ o.successors) (alone j))
joiner-handed members j o d h own =
    joiner-told members j o (o.me ∷ o.predecessors ++ o.successors) d h own
    (λ y. ⊎_elim
    (λ (e : y ≡ o.me). inr (subst (λ z. IsAmong z members) (sym e) h.member))
    (append-among o.predecessors o.successors (j ∷ members)
    (λ z i. inr (predecessors-members members o h z i))
    (λ z i. inr (successors-members members o h z i)) y))
    (inl refl)
    (λ y i. inr (among-left y o.predecessors o.successors i))
    (λ y i. inr (among-right y o.predecessors o.successors i))

-- the same where the joiner is named too
pub joiner-handed_over : (members : List ℕ) (j : ℕ) (o : Tables) → AreMembers (j ∷ members)
    → IsExact members o → IsTrue (owns o j)
    → IsExact (j ∷ members) (merged (o.me ∷ j ∷ o.predecessors ++ o.successors) (alone j))
joiner-handed_over members j o d h own =
    joiner-told members j o (o.me ∷ j ∷ o.predecessors ++ o.successors) d h own
    (λ y. ⊎_elim
    (λ (e : y ≡ o.me). inr (subst (λ z. IsAmong z members) (sym e) h.member))
    (⊎_elim
    (λ (e : y ≡ j). inl e)
    (append-among o.predecessors o.successors (j ∷ members)
    (λ z i. inr (predecessors-members members o h z i))
    (λ z i. inr (successors-members members o h z i)) y)))
    (inl refl)
    (λ y i. inr (inr (among-left y o.predecessors o.successors i)))
    (λ y i. inr (inr (among-right y o.predecessors o.successors i)))

-- who hears of all members
pub all-merged : (members : List ℕ) (p : ℕ) → AreMembers members → IsAmong p members
    → IsExact members (merged members (alone p))
all-merged members p d here =
    enough-merged members members (alone p) d here (alone-fingers p members)
    (record {
      among = λ _ i. i;
      predecessors = among-predecessors p members;
      successors = among-successors p members;
    })
