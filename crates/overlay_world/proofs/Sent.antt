-- The frames of a node on their way into an air.
use Rattle.std.proofs.Common.{◌≡◌, ℕ, ◌+◌, ◌<◌, ◌≤◌, List, [], ◌∷◌, ◌++◌, length, map, take, get_or, drop, sym, ap, subst, ◌∙◌, append_assoc}
use Rattle.std.specs.Prelude.{All}
use Rattle.std.proofs.lemmas.List.{append-nil, map-append, map-id}
use Rattle.reload_base.specs.declared.air.AirFrame.{AirFrame}
use Rattle.reload_base.specs.Outside.{AirView, size_of}
use Rattle.request_words.specs.declared.node.DeclaredNode.{DeclaredNode}
use Rattle.node_model.specs.Links.{Sent}
use Rattle.run_model.specs.declared.flight.Flight.{Flight}
use Rattle.run_model.specs.declared.flight.Fate.{Fate}
use Rattle.run_model.specs.declared.flight.Fate.TheVariants.{Waiting}
use Rattle.run_model.specs.declared.limits.TheConstants.{MAX_AIR}
use Rattle.run_model.specs.Worlds.{flight_of}
use Rattle.run_model.specs.Stops.{air_frame}
use Rattle.overlay_world.specs.declared.fault.StepFault.{StepFault}
use Rattle.overlay_world.specs.declared.fault.StepFault.TheVariants.{NoMemory}
use Rattle.overlay_world.specs.Sendings.{sent_by, waiting_for, with_frame, with_frames, IsUnsent, Halts, IsNone}
use Rattle.overlay_world.proofs.Airs.{split_at_turn, halts_since, halts_at_front, unsent_halts}

-- what holds of each item holds of one of them
pub item_of : {X : Type 0} (P : X → Type 0) (xs : List X) (k : ℕ) (x : X) → All P xs → (k < length xs) × (x ≡ get_or xs k x) → P x
item_of P xs k x all at = subst P (sym at.1) (all k x at.0)

sent_both : (names : List DeclaredNode) (from : ℕ) (xs ys : List Sent) → sent_by names from (xs ++ ys) ≡ sent_by names from xs ++ sent_by names from ys
sent_both names from xs ys =
    ap (λ (l : List Flight). map air_frame l) (map-append (flight_of names from) xs ys)
    ∙ map-append air_frame (map (flight_of names from) xs) (map (flight_of names from) ys)

-- nothing was sent yet
pub air_at_first : (air : AirView) → air ≡ with_frames air []
air_at_first air = ap (λ (l : List AirFrame). let a : AirView = record air { sent = l } in a) (sym (append-nil air.sent))

-- one more was sent
pub air_more : (names : List DeclaredNode) (from : ℕ) (ys : List Sent) (x : Sent) (old mid new : AirView) → mid ≡ with_frames old (sent_by names from ys) → new ≡ with_frame mid (air_frame (flight_of names from x))
    → new ≡ with_frames old (sent_by names from (ys ++ x ∷ []))
air_more names from ys x old mid new is more =
    let frame = air_frame (flight_of names from x) in
    more ∙ ap (λ (a : AirView). with_frame a frame) is
    ∙ ap (λ (l : List AirFrame). let a : AirView = record old { sent = l } in a)
    (append_assoc old.sent (sent_by names from ys) (frame ∷ []) ∙ ap (λ (l : List AirFrame). old.sent ++ l) (sym (sent_both names from ys (x ∷ []))))

pub fates_more : (ys : List Sent) (x : Sent) (old mid new : List Fate) → mid ≡ old ++ waiting_for ys → new ≡ mid ++ Waiting ∷ [] → new ≡ old ++ waiting_for (ys ++ x ∷ [])
fates_more ys x old mid new is more =
    more ∙ ap (λ (l : List Fate). l ++ Waiting ∷ []) is ∙ append_assoc old (waiting_for ys) (Waiting ∷ [])
    ∙ ap (λ (l : List Fate). old ++ l) (sym (map-append (λ (f : Sent). Waiting) ys (x ∷ [])))

-- all frames, at one of them
whole_at : (names : List DeclaredNode) (from : ℕ) (all ys : List Sent) (x : Sent) (old mid : AirView) → ys ≡ take (length ys) all → (length ys < length all) × (x ≡ get_or all (length ys) x) → mid ≡ with_frames old (sent_by names from ys)
    → old.sent ++ sent_by names from all ≡ mid.sent ++ air_frame (flight_of names from x) ∷ sent_by names from (drop (length ys + 1) all)
whole_at names from all ys x old mid front turn is =
    let rest = drop (length ys + 1) all in
    let frame = air_frame (flight_of names from x) in
    ap (λ (l : List Sent). old.sent ++ sent_by names from l) (split_at_turn ys all x front turn)
    ∙ ap (λ (l : List AirFrame). old.sent ++ l) (sent_both names from ys (x ∷ rest))
    ∙ sym (append_assoc old.sent (sent_by names from ys) (frame ∷ sent_by names from rest))
    ∙ ap (λ (a : AirView). a.sent ++ frame ∷ sent_by names from rest) (sym is)

-- one of them wasn't sent
pub send_halts : (names : List DeclaredNode) (from : ℕ) (all ys : List Sent) (x : Sent) (old mid new : AirView) (e : StepFault) → map (λ y. y) ys ≡ take (length ys) all → (length ys < length all) × (x ≡ get_or all (length ys) x)
    → mid ≡ with_frames old (sent_by names from ys) → size_of mid.sent ≤ MAX_AIR → IsUnsent (air_frame (flight_of names from x)) mid new e
    → Halts (old.sent ++ sent_by names from all) IsNone old new e
send_halts names from all ys x old mid new e front turn is room unsent =
    let whole = old.sent ++ sent_by names from all in
    let rest = sent_by names from (drop (length ys + 1) all) in
    let at = whole_at names from all ys x old mid (sym (map-id ys) ∙ front) turn is in
    halts_since whole IsNone old mid new e (ap (λ (a : AirView). a.faults) is)
    (unsent_halts whole rest (air_frame (flight_of names from x)) IsNone mid new e room at unsent)

-- one of them was sent, and memory is missing then
pub keep_halts : (names : List DeclaredNode) (from : ℕ) (all ys : List Sent) (x : Sent) (old mid new : AirView) (e : StepFault) → map (λ y. y) ys ≡ take (length ys) all → (length ys < length all) × (x ≡ get_or all (length ys) x)
    → mid ≡ with_frames old (sent_by names from ys) → new ≡ with_frame mid (air_frame (flight_of names from x)) → e ≡ NoMemory
    → Halts (old.sent ++ sent_by names from all) IsNone old new e
keep_halts names from all ys x old mid new e front turn is more missing =
    let whole = old.sent ++ sent_by names from all in
    let rest = sent_by names from (drop (length ys + 1) all) in
    let frame = air_frame (flight_of names from x) in
    let at = whole_at names from all ys x old mid (sym (map-id ys) ∙ front) turn is in
    let sent : whole ≡ new.sent ++ rest = at ∙ sym (append_assoc mid.sent (frame ∷ []) rest) ∙ ap (λ (a : AirView). a.sent ++ rest) (sym more) in
    halts_at_front whole IsNone old new e missing (rest, sent) (ap (λ (a : AirView). a.faults) more ∙ ap (λ (a : AirView). a.faults) is)

-- all of them were sent, and memory is missing then
pub after_halts : (frames : List AirFrame) (old new : AirView) (e : StepFault) → new ≡ with_frames old frames → e ≡ NoMemory → Halts (old.sent ++ frames) IsNone old new e
after_halts frames old new e is missing =
    halts_at_front (old.sent ++ frames) IsNone old new e missing
    ([], sym (append-nil (old.sent ++ frames)) ∙ ap (λ (a : AirView). a.sent ++ []) (sym is)) (ap (λ (a : AirView). a.faults) is)
