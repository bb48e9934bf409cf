-- Lines that say something are read as a beginning of a scenario exactly where they spell it.
use Rattle.std.proofs.Common.{◌≡◌, ℕ, zero, suc, ◌+◌, ◌≤◌, Bool, true, ◌&&◌, List, [], ◌∷◌, ◌++◌, length, drop, Option, Some, None, refl, sym, ap, subst, ◌∙◌, append_assoc, append-nil, inl, inr}
use Rattle.std.specs.Prelude.{◌⊎◌, map, ◌==◌}
use Rattle.std.specs.List.{AllByRecursion, flat_map}
use Rattle.std.proofs.lemmas.Option.{same_Some}
use Rattle.text_words.specs.Name.{IsName}
use Rattle.data_models.specs.declared.config.KindDef.{KindDef}
use Rattle.data_models.specs.declared.config.TheConstants.{MAX_KINDS}
use Rattle.data_models.specs.Configs.{AreDistinct}
use Rattle.request_words.specs.declared.node.DeclaredNode.{DeclaredNode}
use Rattle.scenario_text.specs.declared.scenario.Scenario.{Scenario}
use Rattle.scenario_text.specs.declared.scenario.Event.{Event}
use Rattle.scenario_text.specs.declared.saying.Declaration.{Declaration}
use Rattle.scenario_text.specs.declared.saying.Declaration.TheVariants.{Kind, Node}
use Rattle.scenario_text.specs.declared.saying.Saying.TheVariants as said
use Rattle.scenario_text.specs.Declaring.{has_peer, is_new_kind, is_new_node}
use Rattle.scenario_text.specs.Sayings.{declaration_line, event_line, overlay_line, IsDeclaration, IsEvent}
use Rattle.scenario_text.specs.Scenarios.{kind_in, node_in, IsDeclared, IsEventOf, IsBegun}
use Rattle.scenario_text.specs.Reading.{with_kind, with_node, with_event, with_saying, said_at}
use Rattle.scenario_text.proofs.Chains.{reads, reads-nil, reads-takes, reads-step}
use Rattle.scenario_text.proofs.DeclaringLaws.{kind-new, node-new, AreNodes}
use Rattle.scenario_text.proofs.StepLaws.{Spell, named, length-map, first-takes, first-again, step-takes, said_at-again}

-- ---- what is read spells a beginning

reads-spell : (done : List (ℕ × List ℕ)) (s : Scenario) (ls : List (ℕ × List ℕ)) (last : Option Scenario) → Spell done s → IsBegun s → reads (Some s) ls ≡ Some last → (t : Scenario) × (last ≡ Some t) × Spell (done ++ ls) t × IsBegun t
reads-spell done s [] last spell begun e =
    (s, sym (same_Some (Some s) last (sym (reads-nil (Some s)) ∙ e)), subst (λ (ls : List (ℕ × List ℕ)). Spell ls s) (sym (append-nil done)) spell, begun)
reads-spell done s (l ∷ ls) last spell begun e =
    let step = reads-takes (Some s) l ls last e in
    let next = step-takes done l.0 l.1 s step.0 spell begun step.1 in
    let later = reads-spell (done ++ l ∷ []) step.0 ls last next.0 next.1 step.2 in
    (later.0, later.1, subst (λ (all : List (ℕ × List ℕ)). Spell all later.0) (append_assoc done (l ∷ []) ls) later.2, later.3)

-- nothing was said, or the lines spell a beginning
pub lines-spell : (ls : List (ℕ × List ℕ)) (last : Option Scenario) → reads None ls ≡ Some last → ((ls ≡ []) × (last ≡ None)) ⊎ ((t : Scenario) × (last ≡ Some t) × Spell ls t × IsBegun t)
lines-spell [] last e = inl (refl, sym (same_Some None last (sym (reads-nil None) ∙ e)))
lines-spell (l ∷ ls) last e =
    let step = reads-takes None l ls last e in
    let first = first-takes l.0 l.1 step.0 step.1 in
    inr (reads-spell (l ∷ []) step.0 ls last first.0 first.1 step.2)

-- ---- and backwards

-- what stands before the events that are still to come
so_far : List ℕ → List (List ℕ) → List KindDef → List DeclaredNode → List Event → Scenario
so_far name declarations kinds nodes events = record {
  config = record { name = name; sequence = 1; replicas = 0; kinds = kinds };
  declarations = declarations;
  nodes = nodes;
  events = events;
}

event-read : (name : List ℕ) (ds : List (List ℕ)) (ks : List KindDef) (ns : List DeclaredNode) (before : List Event) (e : Event) → IsEventOf ns e
    → said_at (Some (so_far name ds ks ns before)) e.line (event_line e.what) ≡ Some (so_far name ds ks ns (before ++ e ∷ []))
unfolding so_far event_line with_saying with_event
event-read name ds ks ns before e is = said_at-again (Some (so_far name ds ks ns before)) e.line (said.Event e.what) is.0 ∙ rw is.1 refl

events-read : (name : List ℕ) (ds : List (List ℕ)) (ks : List KindDef) (ns : List DeclaredNode) (before es : List Event) (ls : List (ℕ × List ℕ)) → AllByRecursion (IsEventOf ns) es
    → map (λ l. l.1) ls ≡ map (λ e. event_line e.what) es → map (λ l. l.0) ls ≡ map (λ e. e.line) es → reads (Some (so_far name ds ks ns before)) ls ≡ Some (Some (so_far name ds ks ns (before ++ es)))
events-read name ds ks ns before [] [] all texts places = reads-nil (Some (so_far name ds ks ns before)) ∙ ap (λ (es : List Event). Some (Some (so_far name ds ks ns es))) (sym (append-nil before))
events-read name ds ks ns before [] (l ∷ ls) all texts places = absurd cc
events-read name ds ks ns before (e ∷ es) [] all texts places = absurd cc
events-read name ds ks ns before (e ∷ es) (l ∷ ls) all texts places =
    let text : l.1 ≡ event_line e.what = cc in
    let place : l.0 ≡ e.line = cc in
    let rest_texts : map (λ l. l.1) ls ≡ map (λ e. event_line e.what) es = cc in
    let rest_places : map (λ l. l.0) ls ≡ map (λ e. e.line) es = cc in
    let step = (λ i. said_at (Some (so_far name ds ks ns before)) (place i) (text i)) ∙ event-read name ds ks ns before e all.0 in
    reads-step (Some (so_far name ds ks ns before)) l ls (so_far name ds ks ns (before ++ e ∷ [])) step
    ∙ events-read name ds ks ns (before ++ e ∷ []) es ls all.1 rest_texts rest_places
    ∙ ap (λ (later : List Event). Some (Some (so_far name ds ks ns later))) (append_assoc before (e ∷ []) es)

-- what declarations must be, behind those before them
record AreDeclarable (ks : List KindDef) (ns : List DeclaredNode) (declared : List Declaration) : Type 0 where
  each : AllByRecursion IsDeclaration declared
  few_kinds : length (ks ++ flat_map kind_in declared) ≤ MAX_KINDS
  distinct : AreDistinct (ks ++ flat_map kind_in declared)
  nodes : AreNodes (ns ++ flat_map node_in declared)

-- a declaration that is read
declaration-read : (name : List ℕ) (ds : List (List ℕ)) (ks : List KindDef) (ns : List DeclaredNode) (n : ℕ) (d : Declaration) (more : List Declaration) → AreDeclarable ks ns (d ∷ more)
    → said_at (Some (so_far name ds ks ns [])) n (declaration_line d) ≡ Some (so_far name (ds ++ declaration_line d ∷ []) (ks ++ kind_in d) (ns ++ node_in d) [])
unfolding so_far declaration_line with_saying with_kind with_node
declaration-read name ds ks ns n (Kind kind) more are =
    said_at-again (Some (so_far name ds ks ns [])) n (said.Declaration (Kind kind)) are.each.0
    ∙ rw (kind-new (so_far name ds ks ns []).config kind (flat_map kind_in more) are.few_kinds are.distinct) (ap Some (λ i. so_far name (ds ++ declaration_line (Kind kind) ∷ []) (ks ++ kind ∷ []) (sym (append-nil ns) i) []))
declaration-read name ds ks ns n (Node node) more are =
    said_at-again (Some (so_far name ds ks ns [])) n (said.Declaration (Node node)) are.each.0
    ∙ rw (node-new ns node (flat_map node_in more) are.nodes) (ap Some (λ i. so_far name (ds ++ declaration_line (Node node) ∷ []) (sym (append-nil ks) i) (ns ++ node ∷ []) []))

-- those behind it
declarable-rest : (ks : List KindDef) (ns : List DeclaredNode) (d : Declaration) (more : List Declaration) → AreDeclarable ks ns (d ∷ more) → AreDeclarable (ks ++ kind_in d) (ns ++ node_in d) more
declarable-rest ks ns d more are =
    let kinds : ks ++ (kind_in d ++ flat_map kind_in more) ≡ (ks ++ kind_in d) ++ flat_map kind_in more = sym (append_assoc ks (kind_in d) (flat_map kind_in more)) in
    let nodes : ns ++ (node_in d ++ flat_map node_in more) ≡ (ns ++ node_in d) ++ flat_map node_in more = sym (append_assoc ns (node_in d) (flat_map node_in more)) in
    record {
      each = are.each.1;
      few_kinds = subst (λ (all : List KindDef). length all ≤ MAX_KINDS) kinds are.few_kinds;
      distinct = subst AreDistinct kinds are.distinct;
      nodes = subst AreNodes nodes are.nodes;
    }

-- the scenario that declarations and events make
made : List ℕ → List (List ℕ) → List KindDef → List DeclaredNode → List Declaration → List Event → Scenario
made name ds ks ns declared es = so_far name (ds ++ map declaration_line declared) (ks ++ flat_map kind_in declared) (ns ++ flat_map node_in declared) es

made-nil : (name : List ℕ) (ds : List (List ℕ)) (ks : List KindDef) (ns : List DeclaredNode) (es : List Event) → so_far name ds ks ns es ≡ made name ds ks ns [] es
unfolding made
made-nil name ds ks ns es = λ i. so_far name (sym (append-nil ds) i) (sym (append-nil ks) i) (sym (append-nil ns) i) es

made-cons : (name : List ℕ) (ds : List (List ℕ)) (ks : List KindDef) (ns : List DeclaredNode) (d : Declaration) (more : List Declaration) (es : List Event)
    → made name (ds ++ declaration_line d ∷ []) (ks ++ kind_in d) (ns ++ node_in d) more es ≡ made name ds ks ns (d ∷ more) es
unfolding made
made-cons name ds ks ns d more es =
    λ i. so_far name (append_assoc ds (declaration_line d ∷ []) (map declaration_line more) i) (append_assoc ks (kind_in d) (flat_map kind_in more) i) (append_assoc ns (node_in d) (flat_map node_in more) i) es

-- the events of what was made
EventsOf : List DeclaredNode → List Declaration → List Event → Type 0
EventsOf ns declared es = AllByRecursion (IsEventOf (ns ++ flat_map node_in declared)) es

declarations-read : (name : List ℕ) (ds : List (List ℕ)) (ks : List KindDef) (ns : List DeclaredNode) (declared : List Declaration) (es : List Event) (ls : List (ℕ × List ℕ)) → AreDeclarable ks ns declared → EventsOf ns declared es
    → map (λ l. l.1) ls ≡ map declaration_line declared ++ map (λ e. event_line e.what) es → drop (length declared) (map (λ l. l.0) ls) ≡ map (λ e. e.line) es
    → reads (Some (so_far name ds ks ns [])) ls ≡ Some (Some (made name ds ks ns declared es))
unfolding EventsOf so_far
declarations-read name ds ks ns [] es ls are events texts places =
    let here = subst (λ (all : List DeclaredNode). AllByRecursion (IsEventOf all) es) (append-nil ns) events in
    events-read name ds ks ns [] es ls here texts places ∙ ap (λ (s : Scenario). Some (Some s)) (made-nil name ds ks ns es)
declarations-read name ds ks ns (d ∷ more) es [] are events texts places = absurd cc
declarations-read name ds ks ns (d ∷ more) es (l ∷ ls) are events texts places =
    let text : l.1 ≡ declaration_line d = cc in
    let rest_texts : map (λ l. l.1) ls ≡ map declaration_line more ++ map (λ e. event_line e.what) es = cc in
    let nodes : ns ++ (node_in d ++ flat_map node_in more) ≡ (ns ++ node_in d) ++ flat_map node_in more = sym (append_assoc ns (node_in d) (flat_map node_in more)) in
    let step = ap (said_at (Some (so_far name ds ks ns [])) l.0) text ∙ declaration-read name ds ks ns l.0 d more are in
    let later = subst (λ (all : List DeclaredNode). AllByRecursion (IsEventOf all) es) nodes events in
    reads-step (Some (so_far name ds ks ns [])) l ls (so_far name (ds ++ declaration_line d ∷ []) (ks ++ kind_in d) (ns ++ node_in d) []) step
    ∙ declarations-read name (ds ++ declaration_line d ∷ []) (ks ++ kind_in d) (ns ++ node_in d) more es ls (declarable-rest ks ns d more are) later rest_texts places
    ∙ ap (λ (s : Scenario). Some (Some s)) (made-cons name ds ks ns d more es)

-- a beginning is what its parts make
begun-made : (s : Scenario) (begun : IsBegun s) → made s.config.name (overlay_line s.config.name ∷ []) [] [] begun.declared.declared s.events ≡ s
unfolding made so_far
begun-made s begun =
    λ i. record {
      config = record { name = s.config.name; sequence = sym begun.sequence i; replicas = sym begun.replicas i; kinds = sym begun.declared.kinds i };
      declarations = sym begun.declared.lines i;
      nodes = sym begun.declared.nodes i;
      events = s.events;
    }

pub spelled-reads : (ls : List (ℕ × List ℕ)) (s : Scenario) → IsBegun s → Spell ls s → reads None ls ≡ Some (Some s)
unfolding so_far named EventsOf
spelled-reads ls s begun spell =
    by_lines ls (spell.texts ∙ ap (λ (ds : List (List ℕ)). ds ++ map (λ e. event_line e.what) s.events) declared.lines) (ap (λ (ds : List (List ℕ)). drop (length ds) (map (λ l. l.0) ls)) (sym declared.lines) ∙ spell.places)
  where
    declared : IsDeclared s
    declared = begun.declared

    name : List ℕ
    name = s.config.name

    is_name : IsName name
    is_name = (begun.config.name_from, begun.config.name_to, begun.config.visible)

    are : AreDeclarable [] [] declared.declared
    are =
        record {
          each = declared.each;
          few_kinds = subst (λ (ks : List KindDef). length ks ≤ MAX_KINDS) declared.kinds begun.config.few;
          distinct = subst AreDistinct declared.kinds begun.config.distinct;
          nodes = subst AreNodes declared.nodes (record { few = begun.few; few_peers = begun.few_peers; apart = begun.apart });
        }

    events : EventsOf [] declared.declared s.events
    events = subst (λ (all : List DeclaredNode). AllByRecursion (IsEventOf all) s.events) declared.nodes begun.events

    by_lines : (ls : List (ℕ × List ℕ)) → map (λ l. l.1) ls ≡ (overlay_line name ∷ map declaration_line declared.declared) ++ map (λ e. event_line e.what) s.events
        → drop (length (overlay_line name ∷ map declaration_line declared.declared)) (map (λ l. l.0) ls) ≡ map (λ e. e.line) s.events → reads None ls ≡ Some (Some s)
    by_lines [] texts places = absurd cc
    by_lines (l ∷ ls) texts places =
        let text : l.1 ≡ overlay_line name = cc in
        let rest_texts : map (λ l. l.1) ls ≡ map declaration_line declared.declared ++ map (λ e. event_line e.what) s.events = cc in
        let step : said_at None l.0 l.1 ≡ Some (so_far name (overlay_line name ∷ []) [] [] []) = ap (said_at None l.0) text ∙ first-again l.0 name is_name in
        let long : length (map declaration_line declared.declared) ≡ length declared.declared = length-map declaration_line declared.declared in
        reads-step None l ls (so_far name (overlay_line name ∷ []) [] [] []) step
        ∙ declarations-read name (overlay_line name ∷ []) [] [] declared.declared s.events ls are events rest_texts (ap (λ (n : ℕ). drop n (map (λ l. l.0) ls)) (sym long) ∙ places)
        ∙ ap (λ (t : Scenario). Some (Some t)) (begun-made s begun)
