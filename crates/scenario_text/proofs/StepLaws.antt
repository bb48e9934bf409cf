-- A line that says something makes a longer beginning of a scenario, and says what it says there.
use Rattle.std.proofs.Common.{◌≡◌, ℕ, zero, suc, ◌+◌, ◌≤◌, Bool, true, ◌&&◌, List, [], ◌∷◌, ◌++◌, length, drop, Option, Some, None, refl, sym, ap, subst, ◌∙◌, append_assoc, append-nil, length-append, arith}
use Rattle.std.specs.Prelude.{map, ◌==◌}
use Rattle.std.specs.List.{AllByRecursion, flat_map}
use Rattle.std.proofs.lemmas.Bool.{and_parts, eqb-true}
use Rattle.std.proofs.lemmas.List.{nil_from_length, drop_all, drop_at}
use Rattle.std.proofs.lemmas.Option.{same_Some}
use Rattle.text_words.specs.Codec.{IsCodec}
use Rattle.text_words.specs.Lines.{line_of, words_of}
use Rattle.text_words.specs.Name.{IsName}
use Rattle.text_words.specs.Steps.{◌>>=◌, allowed}
use Rattle.text_words.proofs.StepsLaws.{bind_some, allowed_some}
use Rattle.data_models.specs.declared.config.KindDef.{KindDef}
use Rattle.data_models.specs.Configs.{IsConfig}
use Rattle.request_words.specs.declared.node.DeclaredNode.{DeclaredNode}
use Rattle.scenario_text.specs.declared.scenario.Scenario.{Scenario}
use Rattle.scenario_text.specs.declared.scenario.Event.{Event}
use Rattle.scenario_text.specs.declared.scenario.EventKind.{EventKind}
use Rattle.scenario_text.specs.declared.saying.Declaration.{Declaration}
use Rattle.scenario_text.specs.declared.saying.Declaration.TheVariants.{Kind, Node}
use Rattle.scenario_text.specs.declared.saying.Saying.{Saying}
use Rattle.scenario_text.specs.declared.saying.Saying.TheVariants as said
use Rattle.scenario_text.specs.Declaring.{has_peer, is_new_kind, is_new_node}
use Rattle.scenario_text.specs.Sayings.{declaration_line, event_line, overlay_line, declaration_words, event_words, saying_of, saying_words, IsDeclaration, IsEvent, IsSaying}
use Rattle.scenario_text.specs.Scenarios.{kind_in, node_in, IsDeclared, IsEventOf, IsBegun}
use Rattle.scenario_text.specs.Reading.{opened, and_kind, and_node, and_event, with_kind, with_node, with_event, with_saying, said_at}
use Rattle.scenario_text.proofs.DeclaringLaws.{new-kind, new-node, no_peers}
use Rattle.request_words.proofs.GroupLaws.{all-snoc, map-snoc, flat_map-snoc}
use Rattle.scenario_text.proofs.SayingLaws.{saying_codec}

-- numbered lines that say something spell a scenario
pub record Spell (ls : List (ℕ × List ℕ)) (s : Scenario) : Type 0 where
  pub texts : map (λ l. l.1) ls ≡ s.declarations ++ map (λ e. event_line e.what) s.events
  pub places : drop (length s.declarations) (map (λ l. l.0) ls) ≡ map (λ e. e.line) s.events

-- ---- lists of lines

pub length-map : {A B : Type 0} (f : A → B) (xs : List A) → length (map f xs) ≡ length xs
length-map f [] = refl
length-map f (x ∷ xs) = ap suc (length-map f xs)

-- there are as many lines as texts
lines_many : (ls : List (ℕ × List ℕ)) (texts : List (List ℕ)) → map (λ l. l.1) ls ≡ texts → length (map (λ l. l.0) ls) ≡ length texts
lines_many ls texts e = length-map (λ l. l.0) ls ∙ sym (length-map (λ l. l.1) ls) ∙ ap length e

-- one line more, behind texts without an event
texts-declared : (ls : List (ℕ × List ℕ)) (l : ℕ × List ℕ) (texts : List (List ℕ)) → map (λ l. l.1) ls ≡ texts ++ [] → map (λ l. l.1) (ls ++ l ∷ []) ≡ (texts ++ l.1 ∷ []) ++ []
texts-declared ls l texts e =
    map-snoc (λ (m : ℕ × List ℕ). m.1) ls l ∙ ap (λ (ts : List (List ℕ)). ts ++ l.1 ∷ []) (e ∙ append-nil texts) ∙ sym (append-nil (texts ++ l.1 ∷ []))

places-declared : (ls : List (ℕ × List ℕ)) (l : ℕ × List ℕ) (texts : List (List ℕ)) → map (λ l. l.1) ls ≡ texts ++ [] → drop (length (texts ++ l.1 ∷ [])) (map (λ l. l.0) (ls ++ l ∷ [])) ≡ []
places-declared ls l texts e =
    let many = lines_many (ls ++ l ∷ []) (texts ++ l.1 ∷ []) (texts-declared ls l texts e ∙ append-nil (texts ++ l.1 ∷ [])) in
    drop_all (length (texts ++ l.1 ∷ [])) (map (λ l. l.0) (ls ++ l ∷ [])) (omega (arith, many))

-- dropping no more than there are
drop-snoc : {A : Type 0} (n : ℕ) (xs : List A) (x : A) → n ≤ length xs → drop n (xs ++ x ∷ []) ≡ drop n xs ++ x ∷ []
drop-snoc zero xs x few = refl
drop-snoc (suc n) [] x few = absurd (omega (arith, few))
drop-snoc (suc n) (y ∷ xs) x few = drop-snoc n xs x (omega (arith, few))

-- ---- what was said

-- a line said something
said_at-takes : (so_far : Option Scenario) (n : ℕ) (line : List ℕ) (next : Scenario) → said_at so_far n line ≡ Some next
    → (saying : Saying) × IsSaying saying × (line ≡ line_of (saying_words saying)) × (with_saying so_far n line saying ≡ Some next)
unfolding said_at
said_at-takes so_far n line next e =
    let a = bind_some (saying_of (words_of line)) _ next e in
    let read = saying_codec.takes line a.0 a.1 in
    (a.0, read.0, read.1, a.2)

-- and what a line spells is said
pub said_at-again : (so_far : Option Scenario) (n : ℕ) (saying : Saying) → IsSaying saying → said_at so_far n (line_of (saying_words saying)) ≡ with_saying so_far n (line_of (saying_words saying)) saying
unfolding said_at
said_at-again so_far n saying is = rw (saying_codec.again saying is) refl

-- ---- the first line

-- a scenario of which only the name is known
unfoldable pub named : List ℕ → List ℕ → Scenario
named name line = record {
  config = record { name = name; sequence = 1; replicas = 0; kinds = [] };
  declarations = line ∷ [];
  nodes = [];
  events = [];
}

begun-named : (name : List ℕ) → IsName name → IsBegun (named name (overlay_line name))
unfolding named
begun-named name is =
    record {
      config = record {
        name_from = is.0;
        name_to = is.1;
        visible = is.2;
        sequence_from = omega arith;
        sequence_to = omega arith;
        replicas = omega arith;
        few = omega arith;
        distinct = tt;
        kinds = tt;
      };
      sequence = refl;
      replicas = refl;
      declared = record { declared = []; each = tt; lines = refl; kinds = refl; nodes = refl };
      few = omega arith;
      few_peers = omega (arith, no_peers);
      apart = tt;
      events = tt;
    }

pub first-takes : (n : ℕ) (line : List ℕ) (next : Scenario) → said_at None n line ≡ Some next → Spell ((n, line) ∷ []) next × IsBegun next
unfolding with_saying named overlay_line
first-takes n line next e =
    let saying = said_at-takes None n line next e in
    by_saying saying.0 saying.1 saying.2 saying.3
  where
    by_saying : (saying : Saying) → IsSaying saying → line ≡ line_of (saying_words saying) → with_saying None n line saying ≡ Some next → Spell ((n, line) ∷ []) next × IsBegun next
    by_saying (said.Declaration declaration) is spelled e = absurd cc
    by_saying (said.Event what) is spelled e = absurd cc
    by_saying (said.Overlay name) is spelled e =
        subst (λ (s : Scenario). Spell ((n, line) ∷ []) s × IsBegun s) (same_Some (named name line) next e)
        (record { texts = refl; places = refl }, subst (λ (l : List ℕ). IsBegun (named name l)) (sym spelled) (begun-named name is))

-- the first line is read again
pub first-again : (n : ℕ) (name : List ℕ) → IsName name → said_at None n (overlay_line name) ≡ Some (named name (overlay_line name))
unfolding overlay_line with_saying named
first-again n name is = said_at-again None n (said.Overlay name) is

-- ---- one line more

-- no events yet
no_events : (s : Scenario) (test : Bool) → (length s.events == 0 && test) ≡ true → (s.events ≡ []) × (test ≡ true)
no_events s test e =
    let parts = and_parts (length s.events == 0) test e in
    (nil_from_length s.events (eqb-true (length s.events) 0 parts.0), parts.1)

-- texts of lines without an event
texts-early : (ls : List (ℕ × List ℕ)) (s : Scenario) → Spell ls s → s.events ≡ [] → map (λ l. l.1) ls ≡ s.declarations ++ []
texts-early ls s spell none = spell.texts ∙ ap (λ (es : List Event). s.declarations ++ map (λ e. event_line e.what) es) none

kind-takes : (ls : List (ℕ × List ℕ)) (n : ℕ) (s : Scenario) (kind : KindDef) (next : Scenario) → Spell ls s → IsBegun s → IsDeclaration (Kind kind) → with_kind s (declaration_line (Kind kind)) kind ≡ Some next
    → Spell (ls ++ (n, declaration_line (Kind kind)) ∷ []) next × IsBegun next
unfolding with_kind
kind-takes ls n s kind next spell begun is e =
    let line : List ℕ = declaration_line (Kind kind) in
    let a = bind_some (allowed (length s.events == 0 && is_new_kind s.config kind)) _ next e in
    let tests = no_events s (is_new_kind s.config kind) (allowed_some (length s.events == 0 && is_new_kind s.config kind) a.0 a.1) in
    let new = new-kind s.config kind tests.1 begun.config.distinct in
    let early = texts-early ls s spell tests.0 in
    subst (λ (t : Scenario). Spell (ls ++ (n, line) ∷ []) t × IsBegun t) (same_Some (and_kind s line kind) next a.2) (
      record {
        texts = texts-declared ls (n, line) s.declarations early ∙ ap (λ (es : List Event). (s.declarations ++ line ∷ []) ++ map (λ e. event_line e.what) es) (sym tests.0);
        places = places-declared ls (n, line) s.declarations early ∙ ap (map (λ (e : Event). e.line)) (sym tests.0);
      },
      record {
        config = record {
          name_from = begun.config.name_from;
          name_to = begun.config.name_to;
          visible = begun.config.visible;
          sequence_from = begun.config.sequence_from;
          sequence_to = begun.config.sequence_to;
          replicas = begun.config.replicas;
          few = new.0;
          distinct = new.1;
          kinds = all-snoc _ s.config.kinds kind begun.config.kinds is.1;
        };
        sequence = begun.sequence;
        replicas = begun.replicas;
        declared = record {
          declared = begun.declared.declared ++ Kind kind ∷ [];
          each = all-snoc IsDeclaration begun.declared.declared (Kind kind) begun.declared.each is;
          lines = ap (λ (ds : List (List ℕ)). ds ++ line ∷ []) begun.declared.lines
              ∙ ap (λ (ds : List (List ℕ)). overlay_line s.config.name ∷ ds) (sym (map-snoc declaration_line begun.declared.declared (Kind kind)));
          kinds = ap (λ (ks : List KindDef). ks ++ kind ∷ []) begun.declared.kinds ∙ sym (flat_map-snoc kind_in begun.declared.declared (Kind kind));
          nodes = begun.declared.nodes ∙ sym (append-nil (flat_map node_in begun.declared.declared)) ∙ sym (flat_map-snoc node_in begun.declared.declared (Kind kind));
        };
        few = begun.few;
        few_peers = begun.few_peers;
        apart = begun.apart;
        events = subst (λ (es : List Event). AllByRecursion (IsEventOf s.nodes) es) (sym tests.0) tt;
      },
    )

node-takes : (ls : List (ℕ × List ℕ)) (n : ℕ) (s : Scenario) (node : DeclaredNode) (next : Scenario) → Spell ls s → IsBegun s → IsDeclaration (Node node) → with_node s (declaration_line (Node node)) node ≡ Some next
    → Spell (ls ++ (n, declaration_line (Node node)) ∷ []) next × IsBegun next
unfolding with_node
node-takes ls n s node next spell begun is e =
    let line : List ℕ = declaration_line (Node node) in
    let a = bind_some (allowed (length s.events == 0 && is_new_node s.nodes node)) _ next e in
    let tests = no_events s (is_new_node s.nodes node) (allowed_some (length s.events == 0 && is_new_node s.nodes node) a.0 a.1) in
    let new = new-node s.nodes node tests.1 begun.few_peers begun.apart in
    let early = texts-early ls s spell tests.0 in
    subst (λ (t : Scenario). Spell (ls ++ (n, line) ∷ []) t × IsBegun t) (same_Some (and_node s line node) next a.2) (
      record {
        texts = texts-declared ls (n, line) s.declarations early ∙ ap (λ (es : List Event). (s.declarations ++ line ∷ []) ++ map (λ e. event_line e.what) es) (sym tests.0);
        places = places-declared ls (n, line) s.declarations early ∙ ap (map (λ (e : Event). e.line)) (sym tests.0);
      },
      record {
        config = begun.config;
        sequence = begun.sequence;
        replicas = begun.replicas;
        declared = record {
          declared = begun.declared.declared ++ Node node ∷ [];
          each = all-snoc IsDeclaration begun.declared.declared (Node node) begun.declared.each is;
          lines = ap (λ (ds : List (List ℕ)). ds ++ line ∷ []) begun.declared.lines
              ∙ ap (λ (ds : List (List ℕ)). overlay_line s.config.name ∷ ds) (sym (map-snoc declaration_line begun.declared.declared (Node node)));
          kinds = begun.declared.kinds ∙ sym (append-nil (flat_map kind_in begun.declared.declared)) ∙ sym (flat_map-snoc kind_in begun.declared.declared (Node node));
          nodes = ap (λ (ns : List DeclaredNode). ns ++ node ∷ []) begun.declared.nodes ∙ sym (flat_map-snoc node_in begun.declared.declared (Node node));
        };
        few = new.few;
        few_peers = new.few_peers;
        apart = new.apart;
        events = subst (λ (es : List Event). AllByRecursion (IsEventOf (s.nodes ++ node ∷ [])) es) (sym tests.0) tt;
      },
    )

event-takes : (ls : List (ℕ × List ℕ)) (n : ℕ) (s : Scenario) (what : EventKind) (next : Scenario) → Spell ls s → IsBegun s → IsEvent what → with_event s n what ≡ Some next
    → Spell (ls ++ (n, event_line what) ∷ []) next × IsBegun next
unfolding with_event
event-takes ls n s what next spell begun is e =
    let line : List ℕ = event_line what in
    let event : Event = record { line = n; what = what } in
    let a = bind_some (allowed (has_peer s.nodes)) _ next e in
    let peer = allowed_some (has_peer s.nodes) a.0 a.1 in
    let many = lines_many ls (s.declarations ++ map (λ (e : Event). event_line e.what) s.events) spell.texts in
    let longer = length-append s.declarations (map (λ (e : Event). event_line e.what) s.events) in
    subst (λ (t : Scenario). Spell (ls ++ (n, line) ∷ []) t × IsBegun t) (same_Some (and_event s n what) next a.2) (
      record {
        texts = map-snoc (λ (l : ℕ × List ℕ). l.1) ls (n, line) ∙ ap (λ (ts : List (List ℕ)). ts ++ line ∷ []) spell.texts
            ∙ append_assoc s.declarations (map (λ (e : Event). event_line e.what) s.events) (line ∷ [])
            ∙ ap (λ (ts : List (List ℕ)). s.declarations ++ ts) (sym (map-snoc (λ (e : Event). event_line e.what) s.events event));
        places = ap (drop (length s.declarations)) (map-snoc (λ (l : ℕ × List ℕ). l.0) ls (n, line))
            ∙ drop-snoc (length s.declarations) (map (λ (l : ℕ × List ℕ). l.0) ls) n (omega (arith, many, longer))
            ∙ ap (λ (ns : List ℕ). ns ++ n ∷ []) spell.places
            ∙ sym (map-snoc (λ (e : Event). e.line) s.events event);
      },
      record {
        config = begun.config;
        sequence = begun.sequence;
        replicas = begun.replicas;
        declared = record {
          declared = begun.declared.declared;
          each = begun.declared.each;
          lines = begun.declared.lines;
          kinds = begun.declared.kinds;
          nodes = begun.declared.nodes;
        };
        few = begun.few;
        few_peers = begun.few_peers;
        apart = begun.apart;
        events = all-snoc (IsEventOf s.nodes) s.events event begun.events (is, peer);
      },
    )

pub step-takes : (ls : List (ℕ × List ℕ)) (n : ℕ) (line : List ℕ) (s next : Scenario) → Spell ls s → IsBegun s → said_at (Some s) n line ≡ Some next → Spell (ls ++ (n, line) ∷ []) next × IsBegun next
unfolding with_saying declaration_line event_line
step-takes ls n line s next spell begun e =
    let saying = said_at-takes (Some s) n line next e in
    subst (λ (l : List ℕ). Spell (ls ++ (n, l) ∷ []) next × IsBegun next) (sym saying.2) (by_saying saying.0 saying.1 (ap (λ (l : List ℕ). with_saying (Some s) n l saying.0) (sym saying.2) ∙ saying.3))
  where
    by_saying : (saying : Saying) → IsSaying saying → with_saying (Some s) n (line_of (saying_words saying)) saying ≡ Some next → Spell (ls ++ (n, line_of (saying_words saying)) ∷ []) next × IsBegun next
    by_saying (said.Overlay name) is e = absurd cc
    by_saying (said.Declaration (Kind kind)) is e = kind-takes ls n s kind next spell begun is e
    by_saying (said.Declaration (Node node)) is e = node-takes ls n s node next spell begun is e
    by_saying (said.Event what) is e = event-takes ls n s what next spell begun is e
