-- What a reader of the code returned, by the laws of reading on lists.
use Rattle.std.proofs.Common.{ℕ, List, Result, Ok, Err, subst}
use Rattle.std.specs.Prelude.{IfOk, IfErr}
use Rattle.scenario_text.specs.declared.scenario.Scenario.{Scenario}
use Rattle.scenario_text.specs.declared.fault.TextFault.{TextFault}
use Rattle.scenario_text.specs.declared.fault.TextFault.TheVariants.{BadLine, NoMemory}
use Rattle.data_models.specs.Configs.{IsConfig}
use Rattle.scenario_text.specs.Scenarios.{IsTextOf}
use Rattle.scenario_text.specs.Reading.{reading}
use Rattle.scenario_text.specs.Reads.{Reads, IsBad}
use Rattle.scenario_text.proofs.TextLaws.{reading-takes, reading-again}
use Rattle.scenario_text.proofs.BadLineLaws.{reading-bad}

pub found_by : (text : List ℕ) (r : Result Scenario TextFault) → Reads r (reading text) → IfOk r (λ s. IsTextOf text s)
found_by text (Ok s) e = reading-takes text s e
found_by text (Err f) e = tt

pub only_by : (text : List ℕ) (r : Result Scenario TextFault) (s : Scenario) → Reads r (reading text) → IsTextOf text s → Reads r (Ok s)
only_by text r s e is = subst (λ (read : Result Scenario ℕ). Reads r read) (reading-again text s is) e

pub bad_by : (text : List ℕ) (r : Result Scenario TextFault) → Reads r (reading text) → IfErr r (IsBad text)
bad_by text (Ok s) e = tt
bad_by text (Err (BadLine n)) e = reading-bad text n e
bad_by text (Err NoMemory) e = tt

-- what is read has a configuration within its limits
pub config_by : (text : List ℕ) (r : Result Scenario TextFault) → Reads r (reading text) → IfOk r (λ s. IsConfig s.config)
config_by text (Ok s) e = (reading-takes text s e).scenario.begun.config
config_by text (Err f) e = tt
