-- What is merged is exact where what is known is enough.
use Rattle.std.proofs.Common.{◌≡◌, ℕ, ◌^◌, ◌<◌, List, ◌++◌, sym, subst}
use Rattle.reload_ids.specs.Ring.{distance}
use Rattle.chord_tables.specs.Neighbours.{predecessors_of, successors_of}
use Rattle.chord_tables.specs.Tables.{Tables, merged}
use Rattle.ring_laws.specs.Members.{IsAmong, AreAmong, AreMembers, IsExact, IsEnough, set_fingers}
use Rattle.ring_laws.proofs.Lists.{member-small, append-among, among-left, among-right}
use Rattle.ring_laws.proofs.Near.{among-near, near-named}
use Rattle.ring_laws.proofs.Owners.{tells_after, tells_before}

pub among-predecessors : (p : ℕ) (xs : List ℕ) → AreAmong (predecessors_of p xs) xs
unfolding predecessors_of
among-predecessors p xs = λ y h. (among-near (λ m. distance m p) p y xs h).0

pub among-successors : (p : ℕ) (xs : List ℕ) → AreAmong (successors_of p xs) xs
unfolding successors_of
among-successors p xs = λ y h. (among-near (λ m. distance p m) p y xs h).0

module _ (members : List ℕ) (p : ℕ) (named : List ℕ) (d : AreMembers members) (lp : p < 2 ^ 128)
    (h : IsEnough members p named) where
  predecessors-enough : predecessors_of p named ≡ predecessors_of p members
  unfolding predecessors_of
  predecessors-enough =
      near-named (λ m. distance m p) p named members
      (tells_before p members lp d) h.among h.predecessors

  successors-enough : successors_of p named ≡ successors_of p members
  unfolding successors_of
  successors-enough =
      near-named (λ m. distance p m) p named members
      (tells_after p members lp d) h.among h.successors

pub enough-merged : (members others : List ℕ) (t : Tables) → AreMembers members
    → IsAmong t.me members → AreAmong (set_fingers t) members
    → IsEnough members t.me (t.predecessors ++ t.successors ++ others)
    → IsExact members (merged others t)
unfolding merged
enough-merged members others t d here fingers h =
    let known = t.predecessors ++ t.successors ++ others in
    let lp = member-small t.me members d here in
    record {
      member = here;
      predecessors = predecessors-enough members t.me known d lp h;
      successors = successors-enough members t.me known d lp h;
      fingers = fingers;
    }

-- what exact tables have of the members
pub exact-predecessors : (members : List ℕ) (t : Tables) → IsExact members t
    → AreAmong (predecessors_of t.me members) t.predecessors
exact-predecessors members t h = λ y i. subst (λ z. IsAmong y z) (sym h.predecessors) i

pub exact-successors : (members : List ℕ) (t : Tables) → IsExact members t
    → AreAmong (successors_of t.me members) t.successors
exact-successors members t h = λ y i. subst (λ z. IsAmong y z) (sym h.successors) i

pub predecessors-members : (members : List ℕ) (t : Tables) → IsExact members t
    → AreAmong t.predecessors members
predecessors-members members t h = λ y i.
    among-predecessors t.me members y (subst (λ z. IsAmong y z) h.predecessors i)

pub successors-members : (members : List ℕ) (t : Tables) → IsExact members t
    → AreAmong t.successors members
successors-members members t h = λ y i.
    among-successors t.me members y (subst (λ z. IsAmong y z) h.successors i)

-- a place in what is known before a merge
pub known-predecessors : (t : Tables) (others : List ℕ)
    → AreAmong t.predecessors (t.predecessors ++ t.successors ++ others)
known-predecessors t others = λ y h.
    among-left y (t.predecessors ++ t.successors) others
    (among-left y t.predecessors t.successors h)

pub known-successors : (t : Tables) (others : List ℕ)
    → AreAmong t.successors (t.predecessors ++ t.successors ++ others)
known-successors t others = λ y h.
    among-left y (t.predecessors ++ t.successors) others
    (among-right y t.predecessors t.successors h)

pub known-others : (t : Tables) (others : List ℕ)
    → AreAmong others (t.predecessors ++ t.successors ++ others)
known-others t others = λ y h. among-right y (t.predecessors ++ t.successors) others h

-- who has exact tables keeps them at what names members
pub again-merged : (members others : List ℕ) (t : Tables) → AreMembers members → IsExact members t
    → AreAmong others members → IsExact members (merged others t)
again-merged members others t d h sub =
    enough-merged members others t d h.member h.fingers
    (record {
      among = append-among (t.predecessors ++ t.successors) others members
          (append-among t.predecessors t.successors members
          (predecessors-members members t h) (successors-members members t h))
          sub;
      predecessors = λ y i. known-predecessors t others y (exact-predecessors members t h y i);
      successors = λ y i. known-successors t others y (exact-successors members t h y i);
    })
