-- Each id has one owner, and the tables of members tell who it is.
use Rattle.std.proofs.Common.{◌≡◌, ◌≢◌, ◌↔◌, ℕ, ◌^◌, ◌<◌, ◌≤◌, IsTrue, true, List, [], ◌∷◌, length, slice_get, Option, Some, None, refl, sym, ap, ◌∙◌, subst, inl, ⊎_elim, arith}
use Rattle.std.proofs.lemmas.Bool.{cases_eq}
use Rattle.std.specs.Option.{option_map_or}
use Rattle.reload_ids.specs.Ring.{distance, between}
use Rattle.chord_tables.specs.Neighbours.{by_way, predecessors_of, successors_of}
use Rattle.chord_tables.specs.Tables.{Tables, owns}
use Rattle.ring_laws.specs.Members.{IsAmong, AreMembers, IsOwner, IsExact}
use Rattle.ring_laws.proofs.Lists.{member-small}
use Rattle.ring_laws.proofs.Rising.{TellsApart, by_way_has, least_first}
use Rattle.ring_laws.proofs.Near.{near, near-first, near-none}
use Rattle.ring_laws.proofs.Ways.{tells-from, tells-to, between-nearest, nearest-between}

pub tells_after : (p : ℕ) (xs : List ℕ) → p < 2 ^ 128 → AreMembers xs
    → TellsApart (λ m. distance p m) xs
tells_after p xs lp d x y h i e =
    tells-from p x y lp (member-small x xs d h) (member-small y xs d i) e

pub tells_before : (p : ℕ) (xs : List ℕ) → p < 2 ^ 128 → AreMembers xs
    → TellsApart (λ m. distance m p) xs
tells_before p xs lp d x y h i e =
    tells-to p x y lp (member-small x xs d h) (member-small y xs d i) e

pub predecessors-near : (p : ℕ) (xs : List ℕ) → predecessors_of p xs ≡ near (λ m. distance m p) p xs
unfolding predecessors_of
predecessors-near p xs = refl

pub successors-near : (p : ℕ) (xs : List ℕ) → successors_of p xs ≡ near (λ m. distance p m) p xs
unfolding successors_of
successors-near p xs = refl

pub first_some : (y : ℕ) (xs : List ℕ) → IsAmong y xs → (x : ℕ) × (slice_get xs 0 ≡ Some x)
first_some y [] h = absurd h
first_some y (x ∷ xs) h = (x, refl)

pub owner_among : (members : List ℕ) (k y : ℕ) → AreMembers members → IsAmong y members
    → k < 2 ^ 128 → (m : ℕ) × IsOwner members k m
owner_among members k y d a lk =
    let way : ℕ → ℕ = λ m. distance k m in
    let first = first_some y (by_way way members) (by_way_has way y members a) in
    let least = least_first way first.0 members (tells_after k members lk d) first.1 in
    (first.0, record { member = least.0; nearest = least.1 })

pub owner_there : (members : List ℕ) (k : ℕ) → AreMembers members → 0 < length members → k < 2 ^ 128
    → (m : ℕ) × IsOwner members k m
owner_there [] k d n lk = absurd (omega arith)
owner_there (x ∷ xs) k d n lk = owner_among (x ∷ xs) k x d (inl refl) lk

pub owner_one : (members : List ℕ) (k m n : ℕ) → AreMembers members → k < 2 ^ 128
    → IsOwner members k m → IsOwner members k n → m ≡ n
owner_one members k m n d lk h i =
    let a = h.nearest n i.member in
    let b = i.nearest m h.member in
    let e : distance k m ≡ distance k n = omega arith in
    tells_after k members lk d m n h.member i.member e

-- a member without a predecessor is alone
alone_among : (members : List ℕ) (p y : ℕ)
    → slice_get (near (λ m. distance m p) p members) 0 ≡ None → IsAmong y members → y ≡ p
alone_among members p y e a = ⊎_elim
    (λ (i : y ≡ p). i)
    (λ (n : y ≢ p). absurd (near-none (λ m. distance m p) p y members e a n))
    (cases_eq y p)

-- without a predecessor, and with a first one
module _ (members : List ℕ) (p k : ℕ) (d : AreMembers members) (here : IsAmong p members)
    (lk : k < 2 ^ 128) where
  lp : p < 2 ^ 128
  lp = member-small p members d here

  owner-alone : slice_get (near (λ m. distance m p) p members) 0 ≡ None → IsOwner members k p
  owner-alone e = record {
    member = here;
    nearest = λ y a. let i = ap (distance k) (alone_among members p y e a) in omega arith;
  }

  owner-between : (f : ℕ) → slice_get (near (λ m. distance m p) p members) 0 ≡ Some f
      → IsTrue (between f k p) ↔ IsOwner members k p
  owner-between f e =
      let first = near-first (λ m. distance m p) p f members (tells_before p members lp d) e in
      let lf = member-small f members d first.0.0 in
      let nearest : IsTrue (between f k p) → (y : ℕ) → IsAmong y members
      → distance k p ≤ distance k y =
      λ b y a. ⊎_elim
      (λ (i : y ≡ p). let j = ap (distance k) i in omega arith)
      (λ (n : y ≢ p).
      let ly = member-small y members d a in
      between-nearest f k p y lf lk lp ly first.0.1 b (first.1 y a n))
      (cases_eq y p) in (
        (λ b. record { member = here; nearest = nearest b }),
        (λ o. nearest-between f k p lf lk lp first.0.1 (o.nearest f first.0.0)),
      )

  owner-first : (first : Option ℕ) → slice_get (near (λ m. distance m p) p members) 0 ≡ first
      → IsTrue (option_map_or (λ f. between f k p) first true) ↔ IsOwner members k p
  owner-first None e = ((λ _. owner-alone e), (λ _. refl))
  owner-first (Some f) e = owner-between f e

pub owns_own : (members : List ℕ) (t : Tables) (k : ℕ) → AreMembers members → k < 2 ^ 128
    → IsExact members t → IsTrue (owns t k) ↔ IsOwner members k t.me
unfolding owns
owns_own members t k d lk h =
    let first = slice_get (near (λ m. distance m t.me) t.me members) 0 in
    let e = ap (λ z. slice_get z 0) (h.predecessors ∙ predecessors-near t.me members) in
    let P : Option ℕ → Type 0 =
    λ z. IsTrue (option_map_or (λ f. between f k t.me) z true) ↔ IsOwner members k t.me in
    subst P (sym e) (owner-first members t.me k d h.member lk first refl)
