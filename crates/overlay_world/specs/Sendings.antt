-- What the frames of nodes come to in an air, and what stops a part of an event.
use Rattle.std.specs.Prelude.{◌≡◌, ℕ, ◌+◌, ◌<◌, ◌≤◌, List, [], ◌∷◌, ◌++◌, length, map, take, slice_get, Some}
use Rattle.std.specs.FinMap.{get}
use Rattle.reload_base.specs.declared.air.AirFrame.{AirFrame}
use Rattle.reload_base.specs.Outside.{AirView, raised, size_of}
use Rattle.node_messages.specs.Signed.{SignerWords}
use Rattle.request_words.specs.declared.node.DeclaredNode.{DeclaredNode}
use Rattle.node_model.specs.declared.limits.TheConstants.{MAX_LOAD}
use Rattle.node_model.specs.Links.{Sent}
use Rattle.run_model.specs.declared.limits.TheConstants.{MAX_AIR}
use Rattle.run_model.specs.declared.flight.Fate.{Fate}
use Rattle.run_model.specs.declared.flight.Fate.TheVariants.{Waiting}
use Rattle.run_model.specs.Worlds.{World, flight_of, told_time}
use Rattle.run_model.specs.Stops.{air_frame, load_of, hearer_at}
use Rattle.overlay_world.specs.declared.fault.StepFault.{StepFault}
use Rattle.overlay_world.specs.declared.fault.StepFault.TheVariants.{LinkFault, AirFull, NodeFull, NoMemory}

-- the frames that the node with a number sends, as what carries them has them
abbrev pub sent_by : List DeclaredNode → ℕ → List Sent → List AirFrame
sent_by names from frames = map air_frame (map (flight_of names from) frames)

-- what becomes of them at first: each waits
abbrev pub waiting_for : List Sent → List Fate
waiting_for frames = map (λ f. Waiting) frames

-- whether a frame has a byte
abbrev pub HasBytes : Sent → Type 0
HasBytes f = 0 < length f.1

-- an air with a frame more
abbrev pub with_frame : AirView → AirFrame → AirView
with_frame air f = record air { sent = air.sent ++ f ∷ [] }

-- an air with some frames more
abbrev pub with_frames : AirView → List AirFrame → AirView
with_frames air frames = record air { sent = air.sent ++ frames }

-- a frame wasn't sent, and why: the send failed, it doesn't fit the air, or memory was missing
abbrev pub IsUnsent : AirFrame → AirView → AirView → StepFault → Type 0
IsUnsent f old new LinkFault = new ≡ record old { faults = raised old.faults }
IsUnsent f old new (AirFull b) =
    (new ≡ old) × (b ≡ size_of old.sent) × (MAX_AIR < b + length f.bytes)
IsUnsent f old new (NodeFull number) = ⊥
IsUnsent f old new NoMemory = new ≡ old

-- a node wasn't given an input, and why: it handled all that it may, or memory was missing
abbrev pub IsUnheard : ℕ → ℕ → StepFault → Type 0
IsUnheard number load (NodeFull n) = (n ≡ number) × (MAX_LOAD ≤ load)
IsUnheard number load NoMemory = Unit {0}
IsUnheard number load _ = ⊥

-- an air has the first of some frames, and no others
abbrev pub IsFrontOf : AirView → List AirFrame → Type 0
IsFrontOf air all = (rest : List AirFrame) × (all ≡ air.sent ++ rest)

-- an air has the first of some frames, of so many bytes, and the next one doesn't fit it
abbrev pub IsFullFor : AirView → List AirFrame → ℕ → Type 0
IsFullFor air all b =
    (f : AirFrame) × (rest : List AirFrame) × (all ≡ air.sent ++ f ∷ rest)
    × (size_of air.sent ≡ b) × (b ≤ MAX_AIR) × (MAX_AIR < b + length f.bytes)

-- what stopped a part of an event: these are all frames that there would have been, and the second
-- says which node was to handle something, and handled all that it may
abbrev pub Halts : List AirFrame → (ℕ → Type 0) → AirView → AirView → StepFault → Type 0
Halts all Full old new LinkFault = IsFrontOf new all × (new.faults ≡ raised old.faults)
Halts all Full old new (AirFull b) = IsFullFor new all b × (new.faults ≡ old.faults)
Halts all Full old new (NodeFull number) =
    IsFrontOf new all × (new.faults ≡ old.faults) × Full number
Halts all Full old new NoMemory = IsFrontOf new all × (new.faults ≡ old.faults)

-- no node
abbrev pub IsNone : ℕ → Type 0
IsNone number = ⊥

-- the node that hears the frame at a place handled all that it may
abbrev pub IsFullAt : ℕ → World → ℕ → Type 0
IsFullAt at w number =
    (hearer_at at w ≡ Some number) × (MAX_LOAD ≤ load_of (get w.actors number))

-- this node handled all that it may
abbrev pub IsHeavy : ℕ → World → ℕ → Type 0
IsHeavy number w n = (n ≡ number) × (MAX_LOAD ≤ load_of (get w.actors n))

-- one of some nodes is to be told of the time, after those before it, and handled all that it may
abbrev pub IsTellingFull : SignerWords → List ℕ → World → ℕ → Type 0
IsTellingFull words ns w number =
    (k : ℕ) × (slice_get ns k ≡ Some number)
    × (MAX_LOAD ≤ load_of (get (told_time words (take k ns) w).world.actors number))
