-- What is queued to the mirrors after a change of tables or range (RFC 6940, 10.4 and 10.7.3).
use Rattle.std.specs.Prelude.{◌==◌, ◌&&◌, ◌||◌, not, Bool, true, List, map, filter}
use Rattle.std.specs.List.{flat_map, list_any}
use Rattle.std.specs.Option.{option_map_or}
use Rattle.reload_ids.specs.declared.NodeId.{NodeId}
use Rattle.reload_ids.specs.declared.ResourceId.{ResourceId}
use Rattle.reload_ids.specs.Ring.{between}
use Rattle.replica_sets.specs.declared.range.Range.{Range}

-- whether a range owns a resource: one behind `from`, up to and including the peer itself; where
-- `from` is none any
unfoldable pub owns : Range → ResourceId → Bool
owns range r = range.owning && option_map_or (λ from. between from.0 r.0 range.me.0) range.from true

-- whether a node is among the mirrors of a range
unfoldable pub is_mirror : Range → NodeId → Bool
is_mirror range node = list_any (λ mirror. mirror.0 == node.0) range.mirrors

-- whether a mirror lacks an owned resource: it wasn't a mirror before, or the resource wasn't owned
-- before
unfoldable pub is_lacking : Range → NodeId → ResourceId → Bool
is_lacking before mirror r = not (is_mirror before mirror) || not (owns before r)

-- each of some resources, queued to a mirror
unfoldable pub to_mirror : NodeId → List ResourceId → List (NodeId × ResourceId)
to_mirror mirror resources = map (λ r. (mirror, r)) resources

-- what is queued to a mirror: by rising resource, each held one that is owned now and that it lacks
unfoldable pub refilled_to : Range → Range → List ResourceId → NodeId → List (NodeId × ResourceId)
refilled_to before after held mirror =
    to_mirror mirror (filter (λ r. owns after r && is_lacking before mirror r) held)

-- what is queued to each mirror, in their order
unfoldable pub refilled : Range → Range → List ResourceId → List (NodeId × ResourceId)
refilled before after held = flat_map (refilled_to before after held) after.mirrors
