-- The lines of what happens, and that a frame that is heard leaves the names of nodes.
use Rattle.std.proofs.Common.{◌≡◌, ℕ, List, [], ◌++◌, Bool, true, false, cond, refl, sym}
use Rattle.std.specs.Prelude.{Option, Some, None, slice_get}
use Rattle.std.specs.Option.{option_map_or}
use Rattle.std.specs.FinMap.{get}
use Rattle.std.proofs.lemmas.Grind.{flat_map-append}
use Rattle.std.proofs.lemmas.List.{append-nil}
use Rattle.reload_ids.specs.declared.NodeId.{NodeId}
use Rattle.request_words.specs.declared.node.DeclaredNode.{DeclaredNode}
use Rattle.node_messages.specs.Signed.{SignerWords}
use Rattle.node_model.specs.Nodes.{Cause, Framed}
use Rattle.run_model.specs.declared.flight.Flight.{Flight}
use Rattle.run_model.specs.declared.flight.Fate.TheVariants.{Delivered, Lost}
use Rattle.run_model.specs.declared.happening.Happening.{Happening}
use Rattle.run_model.specs.Worlds.{World, Actor, Done, quiet, acts, after_step, handled, node_of}
use Rattle.run_model.specs.Moves.{with_fate, is_waiting, is_hearing, flown, flown_at, lost_at}
use Rattle.run_text.specs.Lines.{ended_by, happening_line, happened_text}

-- ---- lines

pub no_lines : (names : List DeclaredNode) (out : List ℕ) → out ≡ out ++ happened_text names []
unfolding happened_text
no_lines names out = sym (append-nil out)

pub more_lines : (names : List DeclaredNode) (first later : List Happening) → happened_text names (first ++ later) ≡ happened_text names first ++ happened_text names later
unfolding happened_text
more_lines names first later = flat_map-append (ended_by (happening_line names)) first later

-- ---- names

-- a part of an event leaves the names of the nodes
abbrev pub Names : World → Done → Type 0
Names w d = d.world.names ≡ w.names

names_if : (w : World) (b : Bool) (d e : Done) → Names w d → Names w e → Names w (cond b d e)
names_if w true d e first other = first
names_if w false d e first other = other

lost_if : (w : World) (b : Bool) (at : ℕ) (f : Flight) → (cond b (with_fate Lost at f w) w).names ≡ w.names
lost_if w true at f = refl
lost_if w false at f = refl

lost_of : (at : ℕ) (w : World) (o : Option Flight) → (option_map_or (λ f. cond (is_waiting f) (with_fate Lost at f w) w) o w).names ≡ w.names
lost_of at w None = refl
lost_of at w (Some f) = lost_if w (is_waiting f) at f

names_lost_at : (at : ℕ) (w : World) → (lost_at at w).names ≡ w.names
unfolding lost_at
names_lost_at at w = lost_of at w (slice_get w.flights at)

names_actor : (words : SignerWords) (cause : Cause) (w : World) (n : ℕ) (o : Option Actor) → Names w (option_map_or (λ a. after_step n w (acts words w.clock cause a)) o (quiet w))
unfolding after_step
names_actor words cause w n None = refl
names_actor words cause w n (Some a) = refl

pub names_handled : (words : SignerWords) (n : ℕ) (cause : Cause) (w : World) → Names w (handled words n cause w)
unfolding handled
names_handled words n cause w = names_actor words cause w n (get w.actors n)

names_heard : (words : SignerWords) (at : ℕ) (f : Flight) (w : World) (o : Option NodeId) → Names w (option_map_or (λ from. handled words f.hearer (Framed from f.bytes) (with_fate Delivered at f w)) o (quiet w))
names_heard words at f w None = refl
names_heard words at f w (Some from) = names_handled words f.hearer (Framed from f.bytes) (with_fate Delivered at f w)

names_flown : (words : SignerWords) (at : ℕ) (f : Flight) (w : World) → Names w (flown words at f w)
unfolding flown
names_flown words at f w =
    names_if w (is_hearing (get w.actors f.hearer)) _ _ (names_heard words at f w (node_of w.names f.sender)) (names_lost_at at w)

names_place : (words : SignerWords) (at : ℕ) (w : World) (o : Option Flight) → Names w (option_map_or (λ f. flown words at f w) o (quiet w))
names_place words at w None = refl
names_place words at w (Some f) = names_flown words at f w

pub names_flown_at : (words : SignerWords) (at : ℕ) (w : World) → Names w (flown_at words at w)
unfolding flown_at
names_flown_at words at w = names_place words at w (slice_get w.flights at)
