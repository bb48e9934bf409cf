-- What a reader of the code returned, beside what reading on lists finds.
use Rattle.std.specs.Prelude.{◌≡◌, ℕ, ◌≤◌, List, length, Option, Some, None, Result, Ok, Err}
use Rattle.scenario_text.specs.declared.scenario.Scenario.{Scenario}
use Rattle.scenario_text.specs.declared.fault.TextFault.{TextFault}
use Rattle.scenario_text.specs.declared.fault.TextFault.TheVariants.{BadLine, NoMemory}
use Rattle.scenario_text.specs.Scenarios.{IsFirstBad}

-- the scenario or the bad line, unless memory was missing
abbrev pub Reads : {X : Type 0} → Result X TextFault → Result X ℕ → Type 0
Reads (Ok x) read = read ≡ Ok x
Reads (Err (BadLine n)) read = read ≡ Err n
Reads (Err NoMemory) read = Unit {0}

-- no more than n events so far
abbrev pub HasAtMost : ℕ → Option Scenario → Type 0
HasAtMost n None = Unit {0}
HasAtMost n (Some s) = length s.events ≤ n

-- the line of a fault is the first that is outside the grammar
abbrev pub IsBad : List ℕ → TextFault → Type 0
IsBad text (BadLine n) = IsFirstBad text n
IsBad text NoMemory = Unit {0}
