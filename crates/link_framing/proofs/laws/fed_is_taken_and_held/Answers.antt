use Rattle.std.proofs.Common.{arith}
use Rattle.link_framing.specs.Streams.{nothing}
use Rattle.link_framing.proofs.Runs.{run_bytes, run_frames, run_place, run_stream}
use Rattle.link_framing.proofs.laws.fed_is_taken_and_held.Goals as goal

pub returns : goal.returns
returns c = record {
  bytes = λ calls held run. run_bytes calls nothing held run;
  frames = λ calls held run. run_frames calls nothing held run;
  place = λ calls held run. omega (arith, run_place calls nothing held run);
  stream = run_stream;
}
