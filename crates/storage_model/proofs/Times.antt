-- Storage times that rise over a floor.
use Rattle.std.proofs.Common.{◌≡◌, ℕ, ◌<◌, ◌≤◌, List, [], ◌∷◌, ◌++◌, fold, length, refl, arith, lt_trans}
use Rattle.std.specs.List.{AllByRecursion}
use Rattle.storage_model.specs.Records.{SlotEntry}
use Rattle.storage_model.specs.Decisions.{Put, Rises, times_of}
use Rattle.storage_model.proofs.PutLaws.{slot_with, slot_after}

-- the last of some times, or else the floor before them
abbrev pub last_time : ℕ → List ℕ → ℕ
last_time floor ts = fold (λ before t. t) floor ts

-- times that rise, and are over a floor
abbrev pub RisesOver : ℕ → List ℕ → Type 0
RisesOver f ts = Rises ts × AllByRecursion (λ t. f < t) ts

pub rises_none : (f : ℕ) → RisesOver f []
unfolding Rises
rises_none f = (tt, tt)

-- what is over g is over what g is over
pub over_less : (f g : ℕ) (ts : List ℕ) → f < g → AllByRecursion (λ t. g < t) ts → AllByRecursion (λ t. f < t) ts
over_less f g [] l h = tt
over_less f g (t ∷ ts) l h = (lt_trans l h.0, over_less f g ts l h.1)

-- times, and then times over the floor that they leave
pub rises_join : (f : ℕ) (xs ys : List ℕ) → RisesOver f xs → RisesOver (last_time f xs) ys → RisesOver f (xs ++ ys)
unfolding Rises
rises_join f [] ys h k = k
rises_join f (t ∷ xs) ys h k =
    let rest = rises_join t xs ys (h.0.1, h.0.0) k in
    ((rest.1, rest.0), (h.1.0, over_less f t (xs ++ ys) h.1.0 rest.1))

-- one time at most, over a floor
pub rises_one : (f : ℕ) (ts : List ℕ) → length ts ≤ 1 → AllByRecursion (λ t. f < t) ts → RisesOver f ts
unfolding Rises
rises_one f [] l h = (tt, tt)
rises_one f (t ∷ []) l h = ((tt, tt), (h.0, tt))
rises_one f (t ∷ u ∷ ts) l h = absurd (omega (arith, l))

-- floors after puts
pub floor_after : (s : SlotEntry) (ps : List Put) → (slot_after s ps).floor ≡ last_time s.floor (times_of ps)
floor_after s [] = refl
floor_after s (p ∷ ps) = floor_after (slot_with s p) ps

later : (f t l : ℕ) → f < t → t ≤ l → f ≤ l
later f t l h k = omega (arith, h, k)

-- the last of times that rise over a floor isn't below it
pub last_not_below : (f : ℕ) (ts : List ℕ) → RisesOver f ts → f ≤ last_time f ts
unfolding Rises
last_not_below f [] h = omega arith
last_not_below f (t ∷ ts) h = later f t (last_time t ts) h.1.0 (last_not_below t ts (h.0.1, h.0.0))
