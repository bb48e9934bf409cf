-- The clocks of decisions: each at one clock, none before one, and each at most as late as the next.
use Rattle.std.proofs.Common.{◌≡◌, ℕ, ◌≤◌, ◌++◌, List, [], ◌∷◌, refl, arith}
use Rattle.std.specs.List.{AllByRecursion}
use Rattle.storage_model.specs.Decisions.{Decision}
use Rattle.overlay_laws.specs.Gives.{InTime}

abbrev pub AreAt : ℕ → List Decision → Type 0
AreAt clock ds = AllByRecursion (λ d. d.time ≡ clock) ds

abbrev pub AreFrom : ℕ → List Decision → Type 0
AreFrom clock ds = AllByRecursion (λ d. clock ≤ d.time) ds

from_less : (n m : ℕ) (ds : List Decision) → n ≤ m → AreFrom m ds → AreFrom n ds
from_less n m [] le all = tt
from_less n m (d ∷ ds) le all = (omega (arith, le, all.0), from_less n m ds le all.1)

from-append : (n clock : ℕ) (ds es : List Decision) → n ≡ clock → AreAt clock ds → AreFrom clock es → AreFrom n (ds ++ es)
from-append n clock [] es same first later = from_less n clock es (omega (arith, same)) later
from-append n clock (d ∷ ds) es same first later = (omega (arith, same, first.0), from-append n clock ds es same first.1 later)

in_time-append : (clock : ℕ) (ds es : List Decision) → AreAt clock ds → AreFrom clock es → InTime es → InTime (ds ++ es)
unfolding InTime
in_time-append clock [] es first later rest = rest
in_time-append clock (d ∷ ds) es first later rest = (from-append d.time clock ds es first.0 first.1 later, in_time-append clock ds es first.1 later rest)

-- decisions from a clock on, whose clocks never fall
pub record IsTimed (clock : ℕ) (ds : List Decision) : Type 0 where
  pub since : AreFrom clock ds
  pub in_time : InTime ds

pub timed_none : (clock : ℕ) → IsTimed clock []
unfolding InTime
timed_none clock = record { since = tt; in_time = tt }

-- decisions at a clock, and then others from a later one on
pub timed-append : (clock next : ℕ) (ds es : List Decision) → clock ≤ next → AreAt clock ds → IsTimed next es → IsTimed clock (ds ++ es)
timed-append clock next ds es le first rest =
    let later : AreFrom clock es = from_less clock next es le rest.since in
    record { since = from-append clock clock ds es refl first later; in_time = in_time-append clock ds es first later rest.in_time }

-- each of these is at most as late as the next
at_next : (n : ℕ) (before after : List Decision) (d : Decision) → AreFrom n (before ++ d ∷ after) → n ≤ d.time
at_next n [] after d all = all.0
at_next n (e ∷ before) after d all = at_next n before after d all.1

pub before_next : (before after : List Decision) (d : Decision) → InTime (before ++ d ∷ after) → AllByRecursion (λ e. e.time ≤ d.time) before
unfolding InTime
before_next [] after d all = tt
before_next (e ∷ before) after d all = (at_next e.time before after d all.0, before_next before after d all.1)
