-- What a line of a scenario says, and its words.
use Rattle.std.specs.Prelude.{ℕ, List, ◌∷◌, Option, Some, codes}
use Rattle.text_words.specs.Lines.{line_of}
use Rattle.text_words.specs.Name.{IsName}
use Rattle.text_words.specs.Steps.{◌>>=◌, first_of}
use Rattle.request_words.specs.declared.node.Role.{Role}
use Rattle.request_words.specs.declared.node.Role.TheVariants.{Peer, Client, Hostile}
use Rattle.scenario_text.specs.declared.scenario.EventKind.{EventKind}
use Rattle.scenario_text.specs.declared.scenario.EventKind.TheVariants.{Clock, Deliver, Lose, Drain, Store, Fetch}
use Rattle.scenario_text.specs.declared.saying.Declaration.{Declaration}
use Rattle.scenario_text.specs.declared.saying.Declaration.TheVariants.{Kind, Node}
use Rattle.scenario_text.specs.declared.saying.Saying.{Saying}
use Rattle.scenario_text.specs.declared.saying.Saying.TheVariants as said
use Rattle.scenario_text.specs.declared.form.Form.{Form}
use Rattle.scenario_text.specs.declared.form.Form.TheVariants as forms
use Rattle.scenario_text.specs.Forms.{form_of, form_text}
use Rattle.scenario_text.specs.Lines.Overlay.{overlay_of, overlay_words}
use Rattle.scenario_text.specs.Lines.Kind.{kind_of, kind_words, IsKindLine}
use Rattle.scenario_text.specs.Lines.Node.{node_of, node_words, IsNode}
use Rattle.scenario_text.specs.Lines.Clock.{clock_of, clock_words, IsClock}
use Rattle.scenario_text.specs.Lines.Deliver.{deliver_of, deliver_words, IsDeliver}
use Rattle.scenario_text.specs.Lines.Lose.{lose_of, lose_words, IsLose}
use Rattle.scenario_text.specs.Lines.Drain.{drain_of, drain_words, IsDrain}
use Rattle.scenario_text.specs.Lines.Store.{store_of, store_words, IsStore}
use Rattle.scenario_text.specs.Lines.Fetch.{fetch_of, fetch_words, IsFetch}

-- the first word of a node's line
unfoldable pub role_text : Role → List ℕ
role_text Peer = codes "peer"
role_text Client = codes "client"
role_text Hostile = codes "hostile"

-- the words of a declaration
abbrev pub declaration_words : Declaration → List (List ℕ)
declaration_words (Kind kind) = form_text forms.Kind ∷ kind_words kind
declaration_words (Node node) = role_text node.role ∷ node_words node

-- the words of an event
abbrev pub event_words : EventKind → List (List ℕ)
event_words (Clock ms) = form_text forms.Clock ∷ clock_words ms
event_words (Deliver k) = form_text forms.Deliver ∷ deliver_words k
event_words (Lose k) = form_text forms.Lose ∷ lose_words k
event_words (Drain n) = form_text forms.Drain ∷ drain_words n
event_words (Store e) = form_text forms.Store ∷ store_words e
event_words (Fetch e) = form_text forms.Fetch ∷ fetch_words e

-- the words of what a line says
abbrev pub saying_words : Saying → List (List ℕ)
saying_words (said.Overlay name) = form_text forms.Overlay ∷ overlay_words name
saying_words (said.Declaration declaration) = declaration_words declaration
saying_words (said.Event what) = event_words what

-- peers and clients are declared, and no other nodes
abbrev pub IsRole : Role → Type 0
IsRole Peer = Unit {0}
IsRole Client = Unit {0}
IsRole Hostile = ⊥

-- each word is within its limits
abbrev pub IsDeclaration : Declaration → Type 0
IsDeclaration (Kind kind) = IsKindLine kind
IsDeclaration (Node node) = IsRole node.role × IsNode node

-- an event within its limits
abbrev pub IsEvent : EventKind → Type 0
IsEvent (Clock ms) = IsClock ms
IsEvent (Deliver k) = IsDeliver k
IsEvent (Lose k) = IsLose k
IsEvent (Drain n) = IsDrain n
IsEvent (Store e) = IsStore e
IsEvent (Fetch e) = IsFetch e

-- what a line says is within its limits
abbrev pub IsSaying : Saying → Type 0
IsSaying (said.Overlay name) = IsName name
IsSaying (said.Declaration declaration) = IsDeclaration declaration
IsSaying (said.Event what) = IsEvent what

-- what the words behind the first one say
abbrev pub said_overlay : List (List ℕ) → Option Saying
said_overlay words = overlay_of words >>= λ name. Some (said.Overlay name)

-- a kind, as what a line says
abbrev pub said_kind : List (List ℕ) → Option Saying
said_kind words = kind_of words >>= λ kind. Some (said.Declaration (Kind kind))

-- a node, as what a line says
abbrev pub said_node : Role → List (List ℕ) → Option Saying
said_node role words = node_of role words >>= λ node. Some (said.Declaration (Node node))

-- a move of the clock, as what a line says
abbrev pub said_clock : List (List ℕ) → Option Saying
said_clock words = clock_of words >>= λ ms. Some (said.Event (Clock ms))

-- a delivery, as what a line says
abbrev pub said_deliver : List (List ℕ) → Option Saying
said_deliver words = deliver_of words >>= λ k. Some (said.Event (Deliver k))

-- a loss, as what a line says
abbrev pub said_lose : List (List ℕ) → Option Saying
said_lose words = lose_of words >>= λ k. Some (said.Event (Lose k))

-- deliveries, as what a line says
abbrev pub said_drain : List (List ℕ) → Option Saying
said_drain words = drain_of words >>= λ n. Some (said.Event (Drain n))

-- a Store, as what a line says
abbrev pub said_store : List (List ℕ) → Option Saying
said_store words = store_of words >>= λ e. Some (said.Event (Store e))

-- a Fetch, as what a line says
abbrev pub said_fetch : List (List ℕ) → Option Saying
said_fetch words = fetch_of words >>= λ e. Some (said.Event (Fetch e))

-- what the words behind the first one of a form say
unfoldable pub saying_in : Form → List (List ℕ) → Option Saying
saying_in forms.Overlay words = said_overlay words
saying_in forms.Kind words = said_kind words
saying_in forms.Peer words = said_node Peer words
saying_in forms.Client words = said_node Client words
saying_in forms.Clock words = said_clock words
saying_in forms.Deliver words = said_deliver words
saying_in forms.Lose words = said_lose words
saying_in forms.Drain words = said_drain words
saying_in forms.Store words = said_store words
saying_in forms.Fetch words = said_fetch words

-- what words say
unfoldable pub saying_of : List (List ℕ) → Option Saying
saying_of words = do
  first ← first_of words
  form ← form_of first.0
  saying_in form first.1

-- the lines of a declaration and of an event
unfoldable pub declaration_line : Declaration → List ℕ
declaration_line declaration = line_of (declaration_words declaration)

-- the line of an event
unfoldable pub event_line : EventKind → List ℕ
event_line what = line_of (event_words what)

-- the line that names the overlay
unfoldable pub overlay_line : List ℕ → List ℕ
overlay_line name = line_of (form_text forms.Overlay ∷ overlay_words name)
