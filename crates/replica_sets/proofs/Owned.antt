-- What a range owns, by its parts.
use Rattle.std.proofs.Common.{◌≡◌, refl, true, false, Some, None}
use Rattle.reload_ids.specs.declared.NodeId.{NodeId}
use Rattle.reload_ids.specs.declared.ResourceId.{ResourceId}
use Rattle.reload_ids.specs.Ring.{between}
use Rattle.replica_sets.specs.declared.range.Range.{Range}
use Rattle.replica_sets.specs.Refills.{owns}

pub owns-none : (range : Range) (r : ResourceId) → range.owning ≡ false → owns range r ≡ false
unfolding owns
owns-none range r is = rw is refl

pub owns-all : (range : Range) (r : ResourceId) → range.owning ≡ true → range.from ≡ None
    → owns range r ≡ true
unfolding owns
owns-all range r is whole = rw (is, whole) refl

pub owns-from : (range : Range) (from : NodeId) (r : ResourceId) → range.owning ≡ true
    → range.from ≡ Some from
    → owns range r ≡ between from.0 r.0 range.me.0
unfolding owns
owns-from range from r is some = rw (is, some) refl
