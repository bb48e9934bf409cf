-- Entries by the time at which they are due.
use Rattle.std.specs.Prelude.{ℕ, ◌≡◌, ◌==◌, ◌<◌, nat_lt, nat_le, Bool, true, cond, ◌||◌, ◌&&◌, List, [], ◌∷◌, Option, Some, None, IsTrue, find}
use Rattle.std.specs.List.{AllByRecursion}

-- when something is due, in milliseconds, under which id, whose it is, if it has an owner, and the
-- place by which it is reached
pub record Entry : Type 0 where
  pub due : ℕ
  pub id : ℕ
  pub owner : Option ℕ
  pub place : ℕ

-- entries in order, and the number of further ones for which memory is surely there
pub record DueList : Type 0 where
  pub entries : List Entry
  pub spare : ℕ

-- the earlier entry goes first, and of two that are due at once the one with the lesser id
abbrev pub comes_before : Entry → Entry → Bool
comes_before a b = nat_lt a.due b.due || (a.due == b.due && nat_lt a.id b.id)

-- entries with one more, in its order
abbrev pub with_entry : Entry → List Entry → List Entry
with_entry e [] = e ∷ []
with_entry e (x ∷ xs) = cond (comes_before x e) (x ∷ with_entry e xs) (e ∷ x ∷ xs)

-- entries without the one at a place
abbrev pub without : ℕ → List Entry → List Entry
without p [] = []
without p (x ∷ xs) = cond (x.place == p) xs (x ∷ without p xs)

-- the entry at a place
abbrev pub entry_at : ℕ → List Entry → Option Entry
entry_at p [] = None
entry_at p (x ∷ xs) = cond (x.place == p) (Some x) (entry_at p xs)

-- the entry of an id
abbrev pub entry_of : ℕ → List Entry → Option Entry
entry_of id [] = None
entry_of id (x ∷ xs) = cond (x.id == id) (Some x) (entry_of id xs)

-- entries in which the one at a place is due at another time; it keeps its place
abbrev pub shifted : ℕ → ℕ → List Entry → List Entry
shifted p due es = elim (entry_at p es) [
  | None ↦ es
  | Some e ↦ with_entry (record e { due = due }) (without p es)
]

-- the entry comes before the other one, which has another id and another place
abbrev pub StandsBefore : Entry → Entry → Type 0
StandsBefore a b = IsTrue (comes_before a b) × (a.id ≡ b.id → ⊥) × (a.place ≡ b.place → ⊥)

-- the entries rise, and no two have one id or one place
abbrev pub AreInOrder : List Entry → Type 0
AreInOrder [] = Unit {0}
AreInOrder (x ∷ xs) = AllByRecursion (StandsBefore x) xs × AreInOrder xs

-- the entries from the first on that are due at a time
abbrev pub due_until : ℕ → List Entry → List Entry
due_until time [] = []
due_until time (x ∷ xs) = cond (nat_le x.due time) (x ∷ due_until time xs) []

-- when an entry is due, under which id, and whose it is
abbrev pub told : Entry → ℕ × ℕ × Option ℕ
told e = (e.due, e.id, e.owner)
