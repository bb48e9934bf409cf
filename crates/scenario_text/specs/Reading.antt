-- Reading a scenario's lines from the first to the last: what the lines so far say, or the number
-- of the first bad line.
use Rattle.std.specs.Prelude.{ℕ, ◌+◌, ◌==◌, ◌&&◌, not, List, [], ◌∷◌, ◌++◌, length, Option, Some, None, Result, Ok, Err, if◌then◌else◌}
use Rattle.text_words.specs.Steps.{◌>>=◌, allowed}
use Rattle.text_words.specs.Lines.{lines_of, words_of, is_sound_line, is_passed_over}
use Rattle.data_models.specs.declared.config.KindDef.{KindDef}
use Rattle.scenario_text.specs.declared.scenario.TheConstants.{FIRST_SEQUENCE, REPLICAS}
use Rattle.request_words.specs.declared.node.DeclaredNode.{DeclaredNode}
use Rattle.scenario_text.specs.declared.scenario.Scenario.{Scenario}
use Rattle.scenario_text.specs.declared.scenario.EventKind.{EventKind}
use Rattle.scenario_text.specs.declared.saying.Declaration.TheVariants.{Kind, Node}
use Rattle.scenario_text.specs.declared.saying.Saying.{Saying}
use Rattle.scenario_text.specs.declared.saying.Saying.TheVariants as said
use Rattle.scenario_text.specs.Declaring.{has_peer, is_new_kind, is_new_node}
use Rattle.scenario_text.specs.Sayings.{saying_of}

-- what the first line that isn't passed over says
abbrev pub opened : List ℕ → Saying → Option Scenario
opened line (said.Overlay name) = Some (record {
  config = record { name = name; sequence = FIRST_SEQUENCE; replicas = REPLICAS; kinds = [] };
  declarations = line ∷ [];
  nodes = [];
  events = [];
})
opened line (said.Declaration declaration) = None
opened line (said.Event what) = None

-- a scenario with one more kind, node or event
abbrev pub and_kind : Scenario → List ℕ → KindDef → Scenario
and_kind s line kind =
    record s {
      config = record s.config { kinds = s.config.kinds ++ kind ∷ [] };
      declarations = s.declarations ++ line ∷ [];
    }

-- a scenario with one more node
abbrev pub and_node : Scenario → List ℕ → DeclaredNode → Scenario
and_node s line node =
    record s { declarations = s.declarations ++ line ∷ []; nodes = s.nodes ++ node ∷ [] }

-- a scenario with one more event
abbrev pub and_event : Scenario → ℕ → EventKind → Scenario
and_event s n what = record s { events = s.events ++ record { line = n; what = what } ∷ [] }

-- one more kind, where it may be declared
unfoldable pub with_kind : Scenario → List ℕ → KindDef → Option Scenario
with_kind s line kind = do
  fits ← allowed (length s.events == 0 && is_new_kind s.config kind)
  Some (and_kind s line kind)

-- one more node, where it may be declared
unfoldable pub with_node : Scenario → List ℕ → DeclaredNode → Option Scenario
with_node s line node = do
  fits ← allowed (length s.events == 0 && is_new_node s.nodes node)
  Some (and_node s line node)

-- one more event, where a peer was declared
unfoldable pub with_event : Scenario → ℕ → EventKind → Option Scenario
with_event s n what = do
  fits ← allowed (has_peer s.nodes)
  Some (and_event s n what)

-- the scenario with what line n says, where it may say so
unfoldable pub with_saying : Option Scenario → ℕ → List ℕ → Saying → Option Scenario
with_saying None n line saying = opened line saying
with_saying (Some s) n line (said.Overlay name) = None
with_saying (Some s) n line (said.Declaration (Kind kind)) = with_kind s line kind
with_saying (Some s) n line (said.Declaration (Node node)) = with_node s line node
with_saying (Some s) n line (said.Event what) = with_event s n what

-- the scenario after line n, where that is in the grammar
unfoldable pub said_at : Option Scenario → ℕ → List ℕ → Option Scenario
said_at so_far n line = do
  saying ← saying_of (words_of line)
  with_saying so_far n line saying

-- what is read behind line n, where it is in the grammar
abbrev pub read_on : Option Scenario → Option (Option Scenario)
read_on None = None
read_on (Some s) = Some (Some s)

-- the same of a line that may be passed over
unfoldable pub line_at : Option Scenario → ℕ → List ℕ → Option (Option Scenario)
line_at so_far n line =
    if not (is_sound_line line) then None
    else (if is_passed_over line then Some so_far else read_on (said_at so_far n line))

-- one line after the other from line n on
abbrev pub next_or_bad : ℕ → Option (Option Scenario)
    → (Option Scenario → Result (Option Scenario) ℕ) → Result (Option Scenario) ℕ
next_or_bad n None next = Err n
next_or_bad n (Some so_far) next = next so_far

-- what is read of lines, or the number of the first that is outside the grammar
unfoldable pub reading_from : Option Scenario → ℕ → List (List ℕ) → Result (Option Scenario) ℕ
reading_from so_far n [] = Ok so_far
reading_from so_far n (line ∷ lines) =
    next_or_bad n (line_at so_far n line) (λ next. reading_from next (n + 1) lines)

-- the scenario where nothing is missing, else line n is bad
abbrev pub scenario_of : ℕ → Option Scenario → Result Scenario ℕ
scenario_of n None = Err n
scenario_of n (Some s) = if has_peer s.nodes then Ok s else Err n

-- the scenario where the lines are whole, else the bad line
abbrev pub whole_or_bad : ℕ → List ℕ → Result (Option Scenario) ℕ → Result Scenario ℕ
whole_or_bad n rest (Err bad) = Err bad
whole_or_bad n rest (Ok so_far) = if length rest == 0 then scenario_of n so_far else Err n

-- what is made of the rest of a text from line n on
unfoldable pub reading_on : Option Scenario → ℕ → List ℕ → Result Scenario ℕ
reading_on so_far n text =
    whole_or_bad (n + length (lines_of text).0) (lines_of text).1
    (reading_from so_far n (lines_of text).0)

-- the scenario of a text, or the number of its first bad line
unfoldable pub reading : List ℕ → Result Scenario ℕ
reading text = reading_on None 1 text
