-- The parts of a list, by what lies between two numbers on the ring.
use Rattle.std.proofs.Common.{◌≡◌, ℕ, ◌<◌, ◌≤◌, ◌^◌, Bool, List, [], ◌++◌, refl, sym}
use Rattle.std.specs.List.{All, filter}
use Rattle.std.proofs.lemmas.List.{append-nil}
use Rattle.std.proofs.lemmas.List.Elements.{filter-append}
use Rattle.reload_ids.specs.Ring.{between}
use Rattle.replica_sets.proofs.Arcs.{between-same, between-before, between-within, between-beyond, between-low, between-outside, between-high}
use Rattle.replica_sets.proofs.Lists.{front_part, back_part, filter_all, filter_none}

pub whole_arc : {X : Type 0} (n : X → ℕ) (a b : ℕ) (all : List X) → a ≡ b
    → all ≡ filter (λ x. between a (n x) b) all
whole_arc n a b all is =
    sym (filter_all (λ x. between a (n x) b) all (λ k d lt. between-same a _ b is))

pub rising_arc : {X : Type 0} (n : X → ℕ) (a b : ℕ) (low middle high until all : List X)
    → a < b → b < 2 ^ 128 → all ≡ until ++ high → until ≡ low ++ middle
    → All (λ x. n x ≤ a) low → All (λ x. n x ≤ b) until
    → All (λ x. (a < n x) × (n x < 2 ^ 128)) middle
    → All (λ x. (b < n x) × (n x < 2 ^ 128)) high
    → middle ≡ filter (λ x. between a (n x) b) all
rising_arc {X = X} n a b low middle high until all lt small whole cut le_a le_b over_a over_b =
    let p : X → Bool = λ x. between a (n x) b in
    let up = back_part (λ x. n x ≤ b) low middle until cut le_b in
    let first : filter p low ≡ [] =
    filter_none p low (λ k d in'. between-before a _ b lt small (le_a k d in')) in
    let second : filter p middle ≡ middle =
    filter_all p middle
    (λ k d in'. between-within a _ b (over_a k d in').0 small (up k d in')) in
    let third : filter p high ≡ [] =
    filter_none p high
    (λ k d in'. between-beyond a _ b lt (over_b k d in').1 (over_b k d in').0) in
    let parts = filter-append p low middle in
    rw (whole, cut, filter-append p (low ++ middle) high, parts)
    (rw (first, second, third, append-nil) refl)

pub wrapping_arc : {X : Type 0} (n : X → ℕ) (a b : ℕ) (until middle high above all : List X)
    → b < a → a < 2 ^ 128 → all ≡ until ++ above → above ≡ middle ++ high
    → All (λ x. n x ≤ b) until → All (λ x. n x ≤ a) middle
    → All (λ x. (b < n x) × (n x < 2 ^ 128)) above
    → All (λ x. (a < n x) × (n x < 2 ^ 128)) high
    → until ++ high ≡ filter (λ x. between a (n x) b) all
wrapping_arc {X = X} n a b until middle high above all lt small whole cut le_b le_a over_b over_a =
    let p : X → Bool = λ x. between a (n x) b in
    let over = front_part (λ x. (b < n x) × (n x < 2 ^ 128)) middle high above cut over_b in
    let first : filter p until ≡ until =
    filter_all p until (λ k d in'. between-low a _ b lt small (le_b k d in')) in
    let second : filter p middle ≡ [] =
    filter_none p middle
    (λ k d in'. between-outside a _ b (over k d in').0 small (le_a k d in')) in
    let third : filter p high ≡ high =
    filter_all p high
    (λ k d in'. between-high a _ b lt (over_a k d in').0 (over_a k d in').1) in
    let parts = filter-append p middle high in
    rw (whole, cut, filter-append p until (middle ++ high), parts)
    (rw (first, second, third) refl)
