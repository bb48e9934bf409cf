use Rattle.std.proofs.lemmas.List.{drop_all}
use Rattle.transaction_table.specs.declared.spot.Spot.TheVariants.{Head}
use Rattle.node_links.proofs.Again.{split, again_more, again_all}
use Rattle.node_links.proofs.frames.frames_again.Goals as goal

pub loop-spot-preserved : goal.loop-spot-preserved
loop-spot-preserved c =
    let more = again_more c.args.limit c.args.table.now c.loop-spot.links c.add_again.new.links _ _ _ c.loop-spot.out c.add_again.new.out _ _
    (split c.args.spots.now c.loop-spot.spot-index (Head 0) c.loop-spot-test.true) c.in_ok-add_again.ensures.frames c.in_ok-add_again.ensures.links c.loop-spot.invariant.frames c.loop-spot.invariant.links in
    record { frames = more.0; links = more.1 }

pub returns-clause-frames : goal.returns-clause-frames
returns-clause-frames c =
    (again_all c.args.limit c.args.table.now c.loop-spot.links _ c.loop-spot.out _ _ (drop_all c.loop-spot.spot-index c.args.spots.now c.loop-spot-test.false) c.loop-spot.invariant.frames c.loop-spot.invariant.links).0

pub returns-clause-links : goal.returns-clause-links
returns-clause-links c =
    (again_all c.args.limit c.args.table.now c.loop-spot.links _ c.loop-spot.out _ _ (drop_all c.loop-spot.spot-index c.args.spots.now c.loop-spot-test.false) c.loop-spot.invariant.frames c.loop-spot.invariant.links).1
