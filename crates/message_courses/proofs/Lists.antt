-- Destination lists that are parts of others.
use Rattle.std.proofs.Common.{ℕ, ◌≤◌, List, [], ◌∷◌, length, All, length-append, arith}
use Rattle.std.proofs.lemmas.Bool.{cond_both}
use Rattle.std.proofs.lemmas.List.Elements.{All-tail}
use Rattle.forwarding_header.specs.declared.destination.Destination.{Destination}
use Rattle.forwarding_header.specs.Destinations.{destination, destinations, IsSpelledDestination, IsDestinationInRange}
use Rattle.node_model.specs.Ways.{is_node}
use Rattle.node_model.specs.Courses.{without_own}

-- each entry fits
pub record AreFit (ds : List Destination) : Type 0 where
  pub spelled : All IsSpelledDestination ds
  pub in_range : All IsDestinationInRange ds

-- a list of entries that fit, which isn't longer than another
pub record IsPart (ds es : List Destination) : Type 0 where
  pub fit : AreFit es
  pub shorter : length (destinations es) ≤ length (destinations ds)

pub IsPart-self : (ds : List Destination) → AreFit ds → IsPart ds ds
IsPart-self ds f = record { fit = f; shorter = omega arith }

AreFit-tail : (d : Destination) (ds : List Destination) → AreFit (d ∷ ds) → AreFit ds
AreFit-tail d ds f = record {
  spelled = All-tail IsSpelledDestination d ds f.spelled;
  in_range = All-tail IsDestinationInRange d ds f.in_range;
}

-- a list without its first entry
pub IsPart-tail : (d : Destination) (ds : List Destination) → AreFit (d ∷ ds) → IsPart (d ∷ ds) ds
IsPart-tail d ds f = record {
  fit = AreFit-tail d ds f;
  shorter = omega (arith, length-append (destination d) (destinations ds));
}

longer : (d : Destination) (ds es : List Destination) → IsPart ds es → IsPart (d ∷ ds) es
longer d ds es p = record {
  fit = p.fit;
  shorter = omega (arith, p.shorter, length-append (destination d) (destinations ds));
}

-- a list without the leading entries of a node itself
pub IsPart-without_own : (me : ℕ) (ds : List Destination) → AreFit ds → IsPart ds (without_own me ds)
unfolding without_own
IsPart-without_own me [] f = IsPart-self [] f
IsPart-without_own me (first ∷ []) f = IsPart-self (first ∷ []) f
IsPart-without_own me (first ∷ next ∷ rest) f =
    cond_both (is_node me first) _ _ (IsPart (first ∷ next ∷ rest))
    (λ own. longer first (next ∷ rest) _
    (IsPart-without_own me (next ∷ rest) (AreFit-tail first (next ∷ rest) f)))
    (λ other. IsPart-self (first ∷ next ∷ rest) f)
