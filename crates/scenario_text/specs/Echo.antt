-- What a transcript begins with.
use Rattle.std.specs.Prelude.{ℕ, List}
use Rattle.std.specs.List.{flat_map}
use Rattle.text_words.specs.Lines.{ended}
use Rattle.scenario_text.specs.declared.scenario.Scenario.{Scenario}

-- the declarations, as they stand in the scenario
unfoldable pub echo : Scenario → List ℕ
echo s = flat_map ended s.declarations
