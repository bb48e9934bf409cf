-- Requests that nodes hand on.
use Rattle.std.specs.Prelude.{◌≡◌, ℕ, ◌≤◌, false, [], ◌∷◌}
use Rattle.std.specs.List.{list_any}
use Rattle.reload_ids.specs.declared.ResourceId.{ResourceId}
use Rattle.forwarding_header.specs.declared.header.Header.{Header}
use Rattle.forwarding_header.specs.declared.destination.Destination.TheVariants.{Resource}
use Rattle.forwarding_header.specs.declared.forwarding_option.TheConstants.{FORWARD_CRITICAL}
use Rattle.node_model.specs.declared.limits.TheConstants.{MAX_REQUEST}
use Rattle.node_model.specs.Ways.{has_flag}

-- a request of so many bytes, to a resource alone, that each node may hand on: it isn't too large,
-- and has no option that a node on the way must know
pub record IsRouted (size : ℕ) (resource : ResourceId) (h : Header) : Type 0 where
  pub small : size ≤ MAX_REQUEST
  pub dest : h.dest ≡ Resource resource ∷ []
  pub plain : list_any (has_flag FORWARD_CRITICAL) h.options ≡ false
