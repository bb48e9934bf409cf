use Rattle.std.proofs.Common.{length}
use Rattle.frame_listing.proofs.Frames.{Listed}
use Rattle.frame_listing.proofs.listing.list.Given as goal

abbrev pub invariant-frames : goal.invariant-frames
invariant-frames l = Listed l.stream l.rest l.text l.frames

abbrev pub decreases-frames : goal.decreases-frames
decreases-frames l = length l.rest
