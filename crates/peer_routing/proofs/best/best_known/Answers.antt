use Rattle.std.proofs.Common.{rules, ◌<◌, ◌^◌, ap}
use Rattle.std.specs.List.{filter_map}
use Rattle.chord_tables.specs.Tables.{ids, number}
use Rattle.peer_routing.specs.Best.{pointed}
use Rattle.peer_routing.proofs.Farthest.{farthest_known, nearest_known}
use Rattle.peer_routing.proofs.best.best_known.Goals as goal

pub returns-clause-farthest : goal.returns-clause-farthest
returns-clause-farthest c =
    let fits : c.me-me.result.0 < 2 ^ 128 = search rules in
    farthest_known c.args.t.now c.args.k c.me-me.result.0
    (ids c.predecessors.result.now) (ids c.successors.result.now) (pointed c.fingers.result.now)
    (number c.look_at_fingers.result.farthest) (number c.look_at.result.farthest)
    (number c.look_at-2.result.farthest)
    c.me-me.ensures c.predecessors.ensures.value c.successors.ensures.value
    (ap (filter_map (λ finger. finger)) c.fingers.ensures.value)
    fits c.look_at-2.ensures.fit c.look_at.ensures.fit c.look_at_fingers.ensures.fit
    c.look_at_fingers.ensures.farthest c.look_at.ensures.farthest c.look_at-2.ensures.farthest

pub returns-clause-nearest : goal.returns-clause-nearest
returns-clause-nearest c =
    nearest_known c.args.t.now c.args.k
    (ids c.predecessors.result.now) (ids c.successors.result.now) (pointed c.fingers.result.now)
    (number c.look_at_fingers.result.nearest) (number c.look_at.result.nearest)
    (number c.look_at-2.result.nearest)
    c.predecessors.ensures.value c.successors.ensures.value
    (ap (filter_map (λ finger. finger)) c.fingers.ensures.value)
    c.look_at_fingers.ensures.nearest c.look_at.ensures.nearest c.look_at-2.ensures.nearest
