-- Which nodes are nearest on the ring (RFC 6940, 10.1), on ids as numbers below 2^128.
use Rattle.std.specs.Prelude.{ℕ, ◌==◌, not, List, [], ◌∷◌, take, filter, nat_lt, if◌then◌else◌}
use Rattle.reload_ids.specs.Ring.{distance}
use Rattle.chord_tables.specs.declared.TheConstants.{MAX_NEIGHBOURS}

-- an id put among ids that stand by a rising way, where it doesn't stand yet
abbrev pub put_by : (ℕ → ℕ) → ℕ → List ℕ → List ℕ
put_by way id [] = id ∷ []
put_by way id (x ∷ xs) =
    if id == x then x ∷ xs
    else (if nat_lt (way id) (way x) then id ∷ x ∷ xs else x ∷ put_by way id xs)

-- ids by a rising way, each once
abbrev pub by_way : (ℕ → ℕ) → List ℕ → List ℕ
by_way way [] = []
by_way way (x ∷ xs) = put_by way x (by_way way xs)

-- ids but one
abbrev pub without : ℕ → List ℕ → List ℕ
without id ids = filter (λ x. not (x == id)) ids

-- the successors of a node among others: the nearest behind it, the nearest first (RFC 6940, 10.1;
-- how many, this profile)
unfoldable pub successors_of : ℕ → List ℕ → List ℕ
successors_of me ids = take MAX_NEIGHBOURS (by_way (λ x. distance me x) (without me ids))

-- the predecessors of a node among others: the nearest before it, the nearest first (RFC 6940,
-- 10.1; how many, this profile)
unfoldable pub predecessors_of : ℕ → List ℕ → List ℕ
predecessors_of me ids = take MAX_NEIGHBOURS (by_way (λ x. distance x me) (without me ids))
