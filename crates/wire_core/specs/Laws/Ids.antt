-- Ids are read as they are spelled.
use Rattle.std.proofs.Common.{ℕ, ◌<◌, ◌^◌, ◌++◌, length, refl, length-append, lit<, arith}
use Rattle.reload_ids.specs.declared.NodeId.{NodeId}
use Rattle.reload_ids.specs.declared.ResourceId.{ResourceId}
use Rattle.wire_core.specs.Spelling.{number}
use Rattle.wire_core.specs.Layout.{IsLayout}
use Rattle.wire_core.specs.Ids.{node_id, resource_id, IsNodeIdInRange, IsResourceIdInRange, node_id_at, resource_id_at}
use Rattle.wire_core.specs.Laws.Bytes.{length-number}
use Rattle.wire_core.specs.Laws.Steps.{laid, made, fits_as, seq_fixed}
use Rattle.wire_core.specs.Laws.Words.{number_laid, exact_laid}

pub node_id_laid : IsLayout (λ node. Unit {0} × IsNodeIdInRange node) node_id node_id_at
unfolding node_id_at
node_id_laid = laid (λ n. made {n = n} (λ x. record { 0 = x }) (number_laid 16)
    (λ x lt. (tt, (tt, lt), refl)) (λ node k f. (node.0, f.1, refl)))

pub node_id-some : (node : NodeId) → 0 < length (node_id node)
node_id-some node = omega (arith, length-number 16 node.0)

pub resource_id_laid : IsLayout (λ resource. Unit {0} × IsResourceIdInRange resource) resource_id
    resource_id_at
unfolding resource_id_at
resource_id_laid = laid
    (λ n. seq_fixed {n = n} (exact_laid 1 16 (lit< tt))
    (made (λ x. record { 0 = x }) (number_laid 16) (λ x lt. (tt, (tt, lt), refl))
    (λ resource k f. (resource.0, f.1, refl))))

pub resource_id-some : (resource : ResourceId) → 0 < length (resource_id resource)
resource_id-some resource =
    omega (arith, length-number 1 16, length-append (number 1 16) (number 16 resource.0))
