-- A client that is told to ask something.
use Rattle.std.proofs.Common.{◌≡◌, ℕ, ◌&&◌, Bool, true, false, cond, not, refl, sym, ap, ◌∙◌, arith}
use Rattle.std.specs.Prelude.{Option, Some, None, Result, Ok, Err}
use Rattle.std.specs.Option.{option_map_or}
use Rattle.std.specs.FinMap.{get}
use Rattle.reload_ids.specs.declared.NodeId.{NodeId}
use Rattle.reload_base.specs.Outside.{AirView}
use Rattle.node_messages.specs.Signed.{SignerWords}
use Rattle.node_model.specs.declared.command.Command.{Command}
use Rattle.node_model.specs.Nodes.{Commanded}
use Rattle.node_model.specs.Clients.{is_busy}
use Rattle.run_model.specs.declared.happening.Happening.{Happening}
use Rattle.run_model.specs.declared.happening.Happening.TheVariants.{UnknownNode, Busy}
use Rattle.run_model.specs.declared.moves.Move.TheVariants.{Ask}
use Rattle.run_model.specs.Worlds.{World, Actor, APeer, AClient, Done, refused, handled, node_of}
use Rattle.run_model.specs.Moves.{aimed, drained, is_asked, told_by, told}
use Rattle.run_model.specs.Stops.{frames_in, is_ready, IsNodeFull}
use Rattle.overlay_world.specs.declared.fault.StepFault.{StepFault}
use Rattle.overlay_world.specs.Sendings.{Halts, IsHeavy}
use Rattle.overlay_world.specs.Steps.{busy_in, asked_unless, asked_by}
use Rattle.overlay_world.proofs.Airs.{halts_same, halts_wider}

-- an event by whom the client asks
abbrev by_asked : SignerWords → ℕ → (NodeId → Command) → World → Result NodeId Happening → Done
by_asked words client command w (Ok id) = handled words client (Commanded (command id)) w
by_asked words client command w (Err why) = refused w why

told_at : (words : SignerWords) (line client : ℕ) (command : NodeId → Command) (w : World) (b : Bool) (o : Option NodeId) (a : Option Actor)
    → cond b (option_map_or (λ id. told_by words line client (command id) w a) o (refused w (UnknownNode line))) (refused w (UnknownNode line))
    ≡ by_asked words client command w (cond b (option_map_or (λ id. asked_unless line id (busy_in a)) o (Err (UnknownNode line))) (Err (UnknownNode line)))
told_at words line client command w false o a = refl
told_at words line client command w true None a = refl
told_at words line client command w true (Some id) None = refl
told_at words line client command w true (Some id) (Some (APeer p)) = refl
told_at words line client command w true (Some id) (Some (AClient c)) =
    elim (is_busy c) as (λ b. cond b (refused w (Busy line)) (handled words client (Commanded (command id)) w) ≡ by_asked words client command w (asked_unless line id (Some b))) [ true ↦ refl | false ↦ refl ]

told_is : (words : SignerWords) (line client peer : ℕ) (command : NodeId → Command) (w : World) → told words line client peer command w ≡ by_asked words client command w (asked_by line client peer w)
unfolding told asked_by
told_is words line client peer command w = told_at words line client command w (is_asked (get w.actors peer)) (node_of w.names peer) (get w.actors client)

-- the client asks this peer
pub told_ok : (words : SignerWords) (line client peer : ℕ) (command : NodeId → Command) (w : World) (id : NodeId) → asked_by line client peer w ≡ Ok id → told words line client peer command w ≡ handled words client (Commanded (command id)) w
told_ok words line client peer command w id e = told_is words line client peer command w ∙ ap (λ (r : Result NodeId Happening). by_asked words client command w r) e

-- it doesn't
pub told_err : (words : SignerWords) (line client peer : ℕ) (command : NodeId → Command) (w : World) (why : Happening) → asked_by line client peer w ≡ Err why → told words line client peer command w ≡ refused w why
told_err words line client peer command w why e = told_is words line client peer command w ∙ ap (λ (r : Result NodeId Happening). by_asked words client command w r) e

ready_if : (line : ℕ) (id other : NodeId) (b : Bool) → asked_unless line other (Some b) ≡ Ok id → not b ≡ true
ready_if line id other true e = absurd (cc)
ready_if line id other false e = refl

ready_at : (line : ℕ) (id : NodeId) (b : Bool) (o : Option NodeId) (a : Option Actor)
    → cond b (option_map_or (λ x. asked_unless line x (busy_in a)) o (Err (UnknownNode line))) (Err (UnknownNode line)) ≡ Ok id → (b && is_ready a) ≡ true
ready_at line id false o a e = absurd (cc)
ready_at line id true None a e = absurd (cc)
ready_at line id true (Some x) None e = absurd (cc)
ready_at line id true (Some x) (Some (APeer p)) e = absurd (cc)
ready_at line id true (Some x) (Some (AClient c)) e = ready_if line id x (is_busy c) e

-- what stops a client that asks
pub ask_halts : (words : SignerWords) (line client peer : ℕ) (command : Command) (w : World) (id : NodeId) (old new : AirView) (e : StepFault) → asked_by line client peer w ≡ Ok id
    → Halts (frames_in (handled words client (Commanded (aimed command id)) w).world) (IsHeavy client w) old new e
    → Halts (frames_in (told words line client peer (aimed command) w).world) (IsNodeFull words (Ask client peer command) w) old new e
unfolding drained asked_by
ask_halts words line client peer command w id old new e asks h =
    let ready : (is_asked (get w.actors peer) && is_ready (get w.actors client)) ≡ true = ready_at line id (is_asked (get w.actors peer)) (node_of w.names peer) (get w.actors client) asks in
    let full : (number : ℕ) → IsHeavy client w number → IsNodeFull words (Ask client peer command) w number = λ number g.
    (0, omega arith, ap (λ b. cond b (Some client) None) ready ∙ ap (λ m. Some m) (sym g.0), g.1) in
    halts_wider (frames_in (told words line client peer (aimed command) w).world) (IsHeavy client w) (IsNodeFull words (Ask client peer command) w) old new e full
    (halts_same (frames_in (handled words client (Commanded (aimed command id)) w).world) (frames_in (told words line client peer (aimed command) w).world) (IsHeavy client w) old new e
    (ap (λ (d : Done). frames_in d.world) (sym (told_ok words line client peer (aimed command) w id asks))) h)
