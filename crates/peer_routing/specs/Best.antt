-- The best of peers, one peer at a time.
use Rattle.std.specs.Prelude.{ℕ, not, nat_lt, nat_le, List, [], ◌∷◌, map, Option, Some, if◌then◌else◌}
use Rattle.std.specs.Option.{option_map_or}
use Rattle.std.specs.List.{filter_map}
use Rattle.reload_ids.specs.declared.NodeId.{NodeId}
use Rattle.reload_ids.specs.Ring.{distance, between}
use Rattle.chord_tables.specs.Tables.{number}

-- the ids of the nodes that fingers are
abbrev pub pointed : List (Option NodeId) → List ℕ
pointed fingers = filter_map (λ finger. finger) (map number fingers)

-- the farther of the farthest so far and of an id that is up to another
unfoldable pub farther : ℕ → ℕ → Option ℕ → ℕ → Option ℕ
farther me k best x =
    if not (between me x k) then best
    else option_map_or
    (λ far. if nat_lt (distance me x) (distance me far) then Some far else Some x)
    best
    (Some x)

-- the nearer of the nearest so far and of an id
unfoldable pub nearer : ℕ → Option ℕ → ℕ → Option ℕ
nearer k best x =
    option_map_or
    (λ near. if nat_le (distance k near) (distance k x) then Some near else Some x)
    best
    (Some x)

-- the farthest with each of further ids, the last first
abbrev pub farthest_with : ℕ → ℕ → List ℕ → Option ℕ → Option ℕ
farthest_with me k [] best = best
farthest_with me k (x ∷ xs) best = farther me k (farthest_with me k xs best) x

-- the nearest with each of further ids, the last first
abbrev pub nearest_with : ℕ → List ℕ → Option ℕ → Option ℕ
nearest_with k [] best = best
nearest_with k (x ∷ xs) best = nearer k (nearest_with k xs best) x
