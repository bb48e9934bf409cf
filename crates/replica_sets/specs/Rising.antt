-- Lists of resources by rising ids.
use Rattle.std.specs.Prelude.{List}
use Rattle.std.specs.List.Sorted.{IsNonDecreasingBy}
use Rattle.reload_ids.specs.declared.ResourceId.{ResourceId}

-- no resource is less than one before it
abbrev pub IsRising : List ResourceId → Type 0
IsRising resources = IsNonDecreasingBy (λ r. r.0) resources
