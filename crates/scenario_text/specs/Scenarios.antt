-- Which scenarios there are, and the text of each.
use Rattle.std.specs.Prelude.{◌≡◌, ℕ, ◌+◌, ◌-◌, ◌≤◌, List, [], ◌∷◌, ◌++◌, length, map, filter, take, drop, not, Bool, true}
use Rattle.std.specs.List.{flat_map, enumerate_from, AllByRecursion}
use Rattle.text_words.specs.Lines.{lines_of, is_sound_line, is_passed_over}
use Rattle.data_models.specs.declared.config.KindDef.{KindDef}
use Rattle.data_models.specs.Configs.{IsConfig}
use Rattle.scenario_text.specs.declared.scenario.TheConstants.{MAX_NODES, MAX_PEERS, FIRST_SEQUENCE, REPLICAS}
use Rattle.request_words.specs.declared.node.DeclaredNode.{DeclaredNode}
use Rattle.scenario_text.specs.declared.scenario.Scenario.{Scenario}
use Rattle.scenario_text.specs.declared.scenario.Event.{Event}
use Rattle.scenario_text.specs.declared.saying.Declaration.{Declaration}
use Rattle.scenario_text.specs.declared.saying.Declaration.TheVariants.{Kind, Node}
use Rattle.scenario_text.specs.Declaring.{are_apart, has_peer, peer_count}
use Rattle.scenario_text.specs.Sayings.{declaration_line, event_line, overlay_line, IsDeclaration, IsEvent}

-- the kinds and the nodes among declarations
abbrev pub kind_in : Declaration → List KindDef
kind_in (Kind kind) = kind ∷ []
kind_in (Node node) = []

-- the node of a declaration
abbrev pub node_in : Declaration → List DeclaredNode
node_in (Kind kind) = []
node_in (Node node) = node ∷ []

-- some declarations within their limits, in any order, make the lines, the kinds and the nodes of a
-- scenario
pub record IsDeclared (s : Scenario) : Type 0 where
  pub declared : List Declaration
  pub each : AllByRecursion IsDeclaration declared
  pub lines : s.declarations ≡ overlay_line s.config.name ∷ map declaration_line declared
  pub kinds : s.config.kinds ≡ flat_map kind_in declared
  pub nodes : s.nodes ≡ flat_map node_in declared

-- no two nodes have one number or one Node-ID
abbrev pub AreApart : List DeclaredNode → Type 0
AreApart [] = Unit {0}
AreApart (node ∷ nodes) =
    AllByRecursion (λ other. are_apart node other ≡ true) nodes × AreApart nodes

-- an event whose words are within their limits, behind nodes of which some is a peer
abbrev pub IsEventOf : List DeclaredNode → Event → Type 0
IsEventOf nodes e = IsEvent e.what × (has_peer nodes ≡ true)

-- the beginning of a scenario: perhaps without a peer yet, and then without events
pub record IsBegun (s : Scenario) : Type 0 where
  pub config : IsConfig s.config
  pub sequence : s.config.sequence ≡ FIRST_SEQUENCE
  pub replicas : s.config.replicas ≡ REPLICAS
  pub declared : IsDeclared s
  pub few : length s.nodes ≤ MAX_NODES
  pub few_peers : peer_count s.nodes ≤ MAX_PEERS
  pub apart : AreApart s.nodes
  pub events : AllByRecursion (IsEventOf s.nodes) s.events

-- a scenario has a peer
pub record IsScenario (s : Scenario) : Type 0 where
  pub begun : IsBegun s
  pub peer : has_peer s.nodes ≡ true

-- the lines that say something, each with its number
unfoldable pub said : List (List ℕ) → List (ℕ × List ℕ)
said lines = filter (λ l. not (is_passed_over l.1)) (enumerate_from 1 lines)

-- these lines say a scenario: its declarations, and then its events, each at its line
pub record Say (lines : List (List ℕ)) (s : Scenario) : Type 0 where
  pub sound : AllByRecursion (λ l. is_sound_line l ≡ true) lines
  pub texts : map (λ l. l.1) (said lines) ≡ s.declarations ++ map (λ e. event_line e.what) s.events
  pub places : drop (length s.declarations) (map (λ l. l.0) (said lines))
      ≡ map (λ e. e.line) s.events

-- the text of a scenario: whole lines, each ended by a line feed, that say it
pub record IsTextOf (text : List ℕ) (s : Scenario) : Type 0 where
  pub scenario : IsScenario s
  pub whole : (lines_of text).1 ≡ []
  pub says : Say (lines_of text).0 s

-- lines in the grammar: nothing is said yet, or they say the beginning of a scenario
pub data Begin (lines : List (List ℕ)) : Type 0 where
  Nothing : AllByRecursion (λ l. is_sound_line l ≡ true) lines → said lines ≡ [] → Begin lines
  Beginning : (s : Scenario) → IsBegun s → Say lines s → Begin lines

-- line n is the first that is outside the grammar: the lines before it are in it, and with it they
-- aren't; or it is the line behind the last whole one, and the text is no scenario's
pub record IsFirstBad (text : List ℕ) (n : ℕ) : Type 0 where
  pub counted : 1 ≤ n
  pub within : n ≤ length (lines_of text).0 + 1
  pub before : Begin (take (n - 1) (lines_of text).0)
  pub there : n ≤ length (lines_of text).0 → Begin (take n (lines_of text).0) → ⊥
  pub none : (s : Scenario) → IsTextOf text s → ⊥
