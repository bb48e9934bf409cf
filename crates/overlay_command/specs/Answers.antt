-- What the parts of a call do to its sink and its air.
use Rattle.std.specs.Prelude.{◌≡◌, ℕ, List, Option, None, Some, Result, Ok, Err, IfOk, ◌⊎◌, ◌↔◌}
use Rattle.reload_base.specs.Outside.{SinkView, Adds}
use Rattle.reload_base.specs.Whole.{StopsWriting, WritesAll}
use Rattle.reload_base.specs.declared.writing.WriteError.{WriteError}
use Rattle.reload_base.specs.declared.writing.WriteError.TheVariants as write_error
use Rattle.text_words.specs.Lines.{ended}
use Rattle.wire_core.specs.declared.bad.Bad.{Bad}
use Rattle.node_messages.specs.Signed.{SignerWords}
use Rattle.transcript_text.specs.Transcript.{air_full_line, node_full_line}
use Rattle.frame_listing.specs.Listing.{IsWhole, IsListing}
use Rattle.scenario_run.specs.declared.fault.RunFault.{RunFault}
use Rattle.scenario_run.specs.declared.fault.RunFault.TheVariants as faults
use Rattle.scenario_run.specs.Outcomes.{Outlets}
use Rattle.overlay_command.specs.declared.status.Status.{Status}
use Rattle.overlay_command.specs.declared.status.Status.TheVariants.{Done, WriteFault, NoMemory, LinkFault, AirFull, NodeFull, BadBytes}
use Rattle.overlay_command.specs.declared.form.Form.{Form}
use Rattle.overlay_command.specs.Due.{IsDue, IsStopped}

-- a last text was added, and nothing was sent
abbrev pub Tells : Outlets → Outlets → List ℕ → Type 0
Tells so_far after last = Adds so_far.sink after.sink last × (after.air ≡ so_far.air)

-- a front of a last text was added, behind which writing stopped
abbrev pub Cuts : Outlets → Outlets → List ℕ → WriteError → Type 0
Cuts so_far after last error =
    StopsWriting so_far.sink after.sink last error × (after.air ≡ so_far.air)

-- writing stopped in the last text that is due for an input, or before it
abbrev pub StopsAnswering :
    SignerWords → Form → List ℕ → Outlets → Outlets → WriteError → Type 0
StopsAnswering signer form input before after error =
    ((status : Status) × (so_far : Outlets) × (last : List ℕ)
    × IsDue signer form input before so_far status last × Cuts so_far after last error)
    ⊎ IsStopped signer form input before after error

-- what is due for an input was written and sent, or a front of it, or nothing for want of memory
abbrev pub AnswersInput :
    SignerWords → Form → List ℕ → Outlets → Outlets → Result Status WriteError → Type 0
AnswersInput signer form input before after (Ok status) =
    (so_far : Outlets) × (last : List ℕ)
    × IsDue signer form input before so_far status last × Tells so_far after last
AnswersInput signer form input before after (Err write_error.Failed) =
    StopsAnswering signer form input before after write_error.Failed
AnswersInput signer form input before after (Err write_error.NoMemory) =
    StopsAnswering signer form input before after write_error.NoMemory ⊎ (after ≡ before)

-- lines were written that tell a status, or a front of them
abbrev pub TellsStatus :
    SinkView → SinkView → List ℕ → Status → Result Status WriteError → Type 0
TellsStatus old new lines status told = WritesAll old new lines told × IfOk told (λ s. s ≡ status)

-- the status of a listing with this fault, or without one
abbrev pub listed : Option Bad → Status
listed None = Done
listed (Some fault) = BadBytes

-- the listing of a stream was written, or a front of it, or nothing for want of memory
abbrev pub ListsStream : List ℕ → SinkView → SinkView → Result Status WriteError → Type 0
ListsStream stream old new told =
    ((text : List ℕ) × (fault : Option Bad) × IsListing stream text fault
    × ((fault ≡ None) ↔ IsWhole stream) × TellsStatus old new text (listed fault) told)
    ⊎ ((told ≡ Err write_error.NoMemory) × (new ≡ old))

-- what is told of a run that stopped: the air and a node have a line, and a write that stopped has
-- none
abbrev pub TellsFault : RunFault → SinkView → SinkView → Result Status WriteError → Type 0
TellsFault faults.LinkFault old new told = (told ≡ Ok LinkFault) × (new ≡ old)
TellsFault (faults.AirFull bytes) old new told =
    TellsStatus old new (ended (air_full_line bytes)) AirFull told
TellsFault (faults.NodeFull number) old new told =
    TellsStatus old new (ended (node_full_line number)) NodeFull told
TellsFault faults.WriteFault old new told = (told ≡ Err write_error.Failed) × (new ≡ old)
TellsFault faults.NoMemory old new told = (told ≡ Err write_error.NoMemory) × (new ≡ old)

-- the status of a call: that which its last text tells, or that of the write that stopped
abbrev pub status_of : Result Status WriteError → Status
status_of (Ok status) = status
status_of (Err write_error.Failed) = WriteFault
status_of (Err write_error.NoMemory) = NoMemory
