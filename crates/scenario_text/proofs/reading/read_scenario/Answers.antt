use Rattle.scenario_text.proofs.ReadLaws.{found_by, only_by, bad_by, config_by}
use Rattle.scenario_text.proofs.reading.read_scenario.Goals as goal

pub returns-clause-found : goal.returns-clause-found
returns-clause-found c = found_by c.args.text.now c.read.result c.read.ensures.reads

pub returns-clause-only : goal.returns-clause-only
returns-clause-only c = λ s is. only_by c.args.text.now c.read.result s c.read.ensures.reads is

pub returns-clause-first_bad : goal.returns-clause-first_bad
returns-clause-first_bad c = bad_by c.args.text.now c.read.result c.read.ensures.reads

pub returns-clause-config : goal.returns-clause-config
returns-clause-config c = config_by c.args.text.now c.read.result c.read.ensures.reads
