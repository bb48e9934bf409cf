use Rattle.scenario_text.proofs.SayingLaws.{saying_codec}
use Rattle.scenario_text.proofs.laws.lines_both_ways.Goals as goal

pub returns : goal.returns
returns c = saying_codec
