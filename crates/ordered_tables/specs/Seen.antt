-- An ordered map of std, as the map that contracts see.
use Rattle.std.specs.Prelude.{List, map}
use Rattle.std.specs.declared.cmp.Ordering.{Ordering}
use Rattle.std.specs.List.Sorted.{IsStrictlySortedBy}
use Rattle.std.specs.Map.{keys_of}
use Rattle.std.specs.FinMap.{FinMap, from_sorted}

-- the order of the tree's keys
abbrev pub cmp_by : {K L : Type 0} → (K → L) → (L → L → Ordering) → K → K → Ordering
cmp_by f R a b = R (f a) (f b)

-- the entries with their keys as contracts see them
abbrev pub shown : {K L X : Type 0} → (K → L) → List (K × X) → List (L × X)
shown f es = map (λ e. (f e.0, e.1)) es

-- the map of the entries
abbrev pub seen : {K L X : Type 0} → (K → L) → (R : L → L → Ordering) → List (K × X) → FinMap R X
seen f R es = from_sorted (shown f es)

-- the keys rise
abbrev pub IsRising : {K L X : Type 0} → (K → L) → (L → L → Ordering) → List (K × X) → Type 0
IsRising f R es = IsStrictlySortedBy (cmp_by f R) (keys_of es)
