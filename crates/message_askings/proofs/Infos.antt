-- What is said of an error that tells generation counters.
use Rattle.std.proofs.Common.{◌≡◌, ℕ, ◌%◌, ◌/◌, List, [], ◌∷◌, refl, arith, lit<}
use Rattle.std.specs.Prelude.{All}
use Rattle.std.specs.List.{AllByRecursion}
use Rattle.std.proofs.lemmas.List.Elements.{All-from_recursion}
use Rattle.wire_core.specs.Spelling.{number}
use Rattle.message_bodies.specs.StoreAns.{IsSpelledStoreResponse}
use Rattle.node_model.specs.Replies.{responses}

high : (x : ℕ) → x % 65536 / 256 % 256 ≡ x / 256 % 256
high x = omega arith

low : (x : ℕ) → x % 65536 % 256 ≡ x % 256
low x = omega arith

-- two bytes of a number are those of its rest by 65,536
pub number-cut : (x : ℕ) → number 2 (x % 65536) ≡ number 2 x
unfolding number
number-cut x = rw (high x, low x) refl

none_named : (c : ℕ × ℕ) → IsSpelledStoreResponse (record { kind = c.0; generation = c.1; replicas = [] })
none_named c = lit< tt

all_fit : (cs : List (ℕ × ℕ)) → AllByRecursion IsSpelledStoreResponse (responses [] cs)
unfolding responses
all_fit [] = tt
all_fit (c ∷ cs) = (none_named c, all_fit cs)

-- each response without replicas has a spelling
pub without_replicas : (cs : List (ℕ × ℕ)) → All IsSpelledStoreResponse (responses [] cs)
without_replicas cs = All-from_recursion IsSpelledStoreResponse (responses [] cs) (all_fit cs)

pub ruleset cuts = number-cut

pub ruleset told = without_replicas
