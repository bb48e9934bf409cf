-- Who is in the ring, and what is exact of a peer among them, on ids as numbers below 2^128.
use Rattle.std.specs.Prelude.{◌≡◌, ◌⊎◌, ℕ, ◌^◌, ◌<◌, ◌≤◌, ◌-◌, min, true, List, [], ◌∷◌, length, None, filter_map}
use Rattle.std.specs.Option.{IsSomeAnd}
use Rattle.std.specs.List.{last_or}
use Rattle.reload_ids.specs.Ring.{distance}
use Rattle.chord_tables.specs.declared.TheConstants.{MAX_NEIGHBOURS}
use Rattle.chord_tables.specs.Neighbours.{without, predecessors_of, successors_of}
use Rattle.chord_tables.specs.Tables.{Tables}
use Rattle.peer_routing.specs.declared.Hop.TheVariants.{Here, To}
use Rattle.peer_routing.specs.Routes.{next_hop}

-- an id is one of a list
abbrev pub IsAmong : ℕ → List ℕ → Type 0
IsAmong id [] = ⊥
IsAmong id (x ∷ xs) = (id ≡ x) ⊎ IsAmong id xs

-- each id of a list is one of another
abbrev pub AreAmong : List ℕ → List ℕ → Type 0
AreAmong ids others = (id : ℕ) → IsAmong id ids → IsAmong id others

-- the members of a ring: ids below 2^128, each once
abbrev pub AreMembers : List ℕ → Type 0
AreMembers [] = Unit {0}
AreMembers (x ∷ xs) = (x < 2 ^ 128) × ¬ IsAmong x xs × AreMembers xs

-- a member is the nearest from an id on: it owns that id (RFC 6940, 10.1)
pub record IsOwner (members : List ℕ) (k m : ℕ) : Type 0 where
  pub member : IsAmong m members
  pub nearest : (x : ℕ) → IsAmong x members → distance k m ≤ distance k x

-- the fingers of a peer that are set
abbrev pub set_fingers : Tables → List ℕ
set_fingers t = filter_map (λ finger. finger) t.fingers

-- ids rise by a way
abbrev pub IsRising : (ℕ → ℕ) → List ℕ → Type 0
IsRising way [] = Unit {0}
IsRising way (x ∷ xs) = ((y : ℕ) → IsAmong y xs → way x < way y) × IsRising way xs

-- ids are the nearest of the members but one, by a way: as many as this profile has, or as there
-- are, the nearest first
pub record AreNearest (members : List ℕ) (p : ℕ) (way : ℕ → ℕ) (ids : List ℕ) : Type 0 where
  pub among : AreAmong ids (without p members)
  pub rising : IsRising way ids
  pub others : (x y : ℕ) → IsAmong x ids → IsAmong y (without p members) → ¬ IsAmong y ids
      → way x < way y
  pub many : length ids ≡ min MAX_NEIGHBOURS (length members - 1)

-- a member has the nearest of the members on both sides, and no finger but members
pub record IsExact (members : List ℕ) (t : Tables) : Type 0 where
  pub member : IsAmong t.me members
  pub predecessors : t.predecessors ≡ predecessors_of t.me members
  pub successors : t.successors ≡ successors_of t.me members
  pub fingers : AreAmong (set_fingers t) members

-- each member is exact
abbrev pub AreExact : List ℕ → (ℕ → Tables) → Type 0
AreExact members tables =
    (p : ℕ) → IsAmong p members → ((tables p).me ≡ p) × IsExact members (tables p)

-- nobody but members is named, and at least those next to a member
pub record IsEnough (members : List ℕ) (p : ℕ) (named : List ℕ) : Type 0 where
  pub among : AreAmong named members
  pub predecessors : AreAmong (predecessors_of p members) named
  pub successors : AreAmong (successors_of p members) named

-- from a peer on, requests for an id go to the first of a list, from there to the second, and so
-- on; at the last they are handled
abbrev pub GoesBy : (ℕ → Tables) → ℕ → ℕ → List ℕ → Type 0
GoesBy tables k p [] = next_hop (tables p) true k ≡ Here
GoesBy tables k p (q ∷ path) =
    (next_hop (tables p) true k ≡ To (record { 0 = q })) × GoesBy tables k q path

-- the walk to an id from a peer: the peer, and then whom requests go by
abbrev pub IsWalk : (ℕ → Tables) → ℕ → ℕ → List ℕ → Type 0
IsWalk tables k p [] = ⊥
IsWalk tables k p (x ∷ path) = (x ≡ p) × GoesBy tables k p path

-- a path names nobody but members, no more than there are, and at its end the owner of an id
pub record LeadsToOwner (members : List ℕ) (k : ℕ) (path : List ℕ) : Type 0 where
  pub among : AreAmong path members
  pub short : length path ≤ length members
  pub ends : IsSomeAnd (last_or None path) (IsOwner members k)
