-- Airs, and what stops the frames on their way into them.
use Rattle.std.proofs.Common.{◌≡◌, ℕ, ◌+◌, ◌<◌, ◌≤◌, List, [], ◌∷◌, ◌++◌, length, take, get_or, drop, sym, ap, subst, ◌∙◌, arith, append_assoc}
use Rattle.std.specs.Prelude.{Result, Ok, Err, OnOk}
use Rattle.std.proofs.lemmas.List.{append-nil, take-append-drop, drop_more}
use Rattle.reload_base.specs.declared.air.AirFrame.{AirFrame}
use Rattle.reload_base.specs.Outside.{AirView, raised, size_of}
use Rattle.run_model.specs.declared.limits.TheConstants.{MAX_AIR}
use Rattle.overlay_world.specs.declared.fault.StepFault.{StepFault}
use Rattle.overlay_world.specs.declared.fault.StepFault.TheVariants.{LinkFault, AirFull, NodeFull, NoMemory}
use Rattle.overlay_world.specs.Sendings.{IsUnsent, IsFrontOf, IsFullFor, Halts}

-- ---- lists

-- an item, and the rest, behind a front that was taken
pub split_at_turn : {X : Type 0} (ys all : List X) (x : X) → ys ≡ take (length ys) all → (length ys < length all) × (x ≡ get_or all (length ys) x) → all ≡ ys ++ x ∷ drop (length ys + 1) all
split_at_turn ys all x front turn =
    sym (take-append-drop (length ys) all)
    ∙ ap (λ l. l ++ drop (length ys) all) (sym front)
    ∙ ap (λ l. ys ++ l) (drop_more all (length ys) x turn.0)
    ∙ ap (λ y. ys ++ y ∷ drop (length ys + 1) all) (sym turn.1)

-- ---- results

-- what follows from four things that an answer ensures
pub on_ok_all : {X E : Type 0} {P Q R S T : Type 0} (r : Result X E) → OnOk r P → OnOk r Q → OnOk r R → OnOk r S → (P → Q → R → S → T) → OnOk r T
on_ok_all (Ok x) p q t s f = f p q t s
on_ok_all (Err e) p q t s f = tt

-- ---- airs

-- an air that has frames has these
pub same_air : (air : AirView) (frames : List AirFrame) → air.sent ≡ frames → air ≡ record air { sent = frames }
same_air air frames e = ap (λ (l : List AirFrame). record air { sent = l }) e

pub front_of_all : (air : AirView) (all : List AirFrame) → air.sent ≡ all → IsFrontOf air all
front_of_all air all e = ([], sym e ∙ sym (append-nil air.sent))

more_front : (air : AirView) (all more : List AirFrame) → IsFrontOf air all → IsFrontOf air (all ++ more)
more_front air all more h = (h.0 ++ more, ap (λ l. l ++ more) h.1 ∙ append_assoc air.sent h.0 more)

more_full : (air : AirView) (all more : List AirFrame) (b : ℕ) → IsFullFor air all b → IsFullFor air (all ++ more) b
more_full air all more b h =
    (h.0, h.1 ++ more, ap (λ l. l ++ more) h.2 ∙ append_assoc air.sent (h.0 ∷ h.1) more, h.3, h.4, h.5)

-- ---- what stops

-- what stops a part stops the whole
pub halts_more : (all more : List AirFrame) (Full All : ℕ → Type 0) (old new : AirView) (e : StepFault) → ((n : ℕ) → Full n → All n) → Halts all Full old new e → Halts (all ++ more) All old new e
halts_more all more Full All old new LinkFault wider h = (more_front new all more h.0, h.1)
halts_more all more Full All old new (AirFull b) wider h = (more_full new all more b h.0, h.1)
halts_more all more Full All old new (NodeFull n) wider h = (more_front new all more h.0, h.1, wider n h.2)
halts_more all more Full All old new NoMemory wider h = (more_front new all more h.0, h.1)

pub halts_wider : (all : List AirFrame) (Full All : ℕ → Type 0) (old new : AirView) (e : StepFault) → ((n : ℕ) → Full n → All n) → Halts all Full old new e → Halts all All old new e
halts_wider all Full All old new LinkFault wider h = h
halts_wider all Full All old new (AirFull b) wider h = h
halts_wider all Full All old new (NodeFull n) wider h = (h.0, h.1, wider n h.2)
halts_wider all Full All old new NoMemory wider h = h

-- it stops those that are the same
pub halts_same : (all these : List AirFrame) (Full : ℕ → Type 0) (old new : AirView) (e : StepFault) → all ≡ these → Halts all Full old new e → Halts these Full old new e
halts_same all these Full old new e is h = subst (λ l. Halts l Full old new e) is h

-- counted from an air with the same faults
pub halts_since : (all : List AirFrame) (Full : ℕ → Type 0) (old mid new : AirView) (e : StepFault) → mid.faults ≡ old.faults → Halts all Full mid new e → Halts all Full old new e
halts_since all Full old mid new LinkFault same h = (h.0, h.1 ∙ ap raised same)
halts_since all Full old mid new (AirFull b) same h = (h.0, h.1 ∙ same)
halts_since all Full old mid new (NodeFull n) same h = (h.0, h.1 ∙ same, h.2)
halts_since all Full old mid new NoMemory same h = (h.0, h.1 ∙ same)

-- memory is missing, and all of these were sent
pub halts_at_front : (all : List AirFrame) (Full : ℕ → Type 0) (old new : AirView) (e : StepFault) → e ≡ NoMemory → IsFrontOf new all → new.faults ≡ old.faults → Halts all Full old new e
halts_at_front all Full old new e is front same = subst (λ x. Halts all Full old new x) (sym is) (front, same)

-- one frame of these wasn't sent
pub unsent_halts : (all rest : List AirFrame) (f : AirFrame) (Full : ℕ → Type 0) (mid new : AirView) (e : StepFault) → size_of mid.sent ≤ MAX_AIR → all ≡ mid.sent ++ f ∷ rest → IsUnsent f mid new e → Halts all Full mid new e
unsent_halts all rest f Full mid new LinkFault room is h =
    ((f ∷ rest, is ∙ ap (λ (a : AirView). a.sent ++ f ∷ rest) (sym h)), ap (λ (a : AirView). a.faults) h)
unsent_halts all rest f Full mid new (AirFull b) room is h =
    let size : size_of new.sent ≡ b = ap (λ (a : AirView). size_of a.sent) h.0 ∙ sym h.1 in
    let few : b ≤ MAX_AIR = omega (arith, room, h.1) in
    ((f, rest, is ∙ ap (λ (a : AirView). a.sent ++ f ∷ rest) (sym h.0), size, few, h.2), ap (λ (a : AirView). a.faults) h.0)
unsent_halts all rest f Full mid new (NodeFull n) room is h = absurd h
unsent_halts all rest f Full mid new NoMemory room is h =
    ((f ∷ rest, is ∙ ap (λ (a : AirView). a.sent ++ f ∷ rest) (sym h)), ap (λ (a : AirView). a.faults) h)
