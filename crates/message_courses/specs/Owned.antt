-- A request for a resource that a peer owns.
use Rattle.std.specs.Prelude.{List, [], ◌∷◌}
use Rattle.reload_ids.specs.declared.ResourceId.{ResourceId}
use Rattle.forwarding_header.specs.declared.destination.Destination.{Destination}
use Rattle.storage_model.specs.declared.refusal.Refusal.TheVariants.{InvalidMessage}
use Rattle.node_model.specs.declared.course.Course.{Course}
use Rattle.node_model.specs.declared.course.Course.TheVariants.{Refused, Owned}

-- its course by the entries behind that resource
abbrev pub owned_with : ResourceId → List Destination → Course
owned_with resource [] = Owned resource
owned_with resource (next ∷ rest) = Refused InvalidMessage
