-- The nearest nodes on a side of a node, one node at a time.
use Rattle.std.specs.Prelude.{ℕ, ◌==◌, ◌||◌, Bool, nat_lt, List, [], ◌∷◌, take, if◌then◌else◌}
use Rattle.reload_ids.specs.Ring.{distance}
use Rattle.chord_tables.specs.declared.side.Side.{Side}
use Rattle.chord_tables.specs.declared.side.Side.TheVariants.{Before, Behind}
use Rattle.chord_tables.specs.declared.TheConstants.{MAX_NEIGHBOURS}
use Rattle.chord_tables.specs.Neighbours.{put_by, by_way, without}

-- how far an id is from a node on a side
abbrev pub way : Side → ℕ → ℕ → ℕ
way Before me x = distance x me
way Behind me x = distance me x

-- whether an id stands here among ids by a rising way, or would stand before this one
unfoldable pub is_place : Side → ℕ → ℕ → ℕ → Bool
is_place side me id x = (id == x) || nat_lt (way side me id) (way side me x)

-- the nearest of ids on a side
unfoldable pub nearest : Side → ℕ → List ℕ → List ℕ
nearest side me ids = take MAX_NEIGHBOURS (by_way (way side me) (without me ids))

-- the nearest, with one more id
unfoldable pub with_id : Side → ℕ → ℕ → List ℕ → List ℕ
with_id side me id near =
    if id == me then near else take MAX_NEIGHBOURS (put_by (way side me) id near)

-- the nearest, with each of further ids, the last first
abbrev pub gathered : Side → ℕ → List ℕ → List ℕ → List ℕ
gathered side me [] near = near
gathered side me (x ∷ xs) near = with_id side me x (gathered side me xs near)
