-- What was told of an input answers it.
use Rattle.std.proofs.Common.{◌≡◌, ◌↔◌, ℕ, Bool, true, false, cond, List, [], Option, Some, None, Result, Ok, Err, refl, sym, subst, ◌∙◌, inl, inr}
use Rattle.reload_base.specs.Outside.{Adds}
use Rattle.reload_base.specs.declared.writing.WriteError.{WriteError}
use Rattle.reload_base.specs.declared.writing.WriteError.TheVariants as write_error
use Rattle.reload_base.proofs.Pieces.{Adds-none}
use Rattle.text_words.specs.Lines.{ended}
use Rattle.wire_core.specs.declared.bad.Bad.{Bad}
use Rattle.node_messages.specs.Signed.{SignerWords}
use Rattle.frame_listing.specs.Listing.{IsWhole, IsListing}
use Rattle.scenario_text.specs.declared.scenario.Scenario.{Scenario}
use Rattle.scenario_text.specs.Scenarios.{IsTextOf, IsFirstBad}
use Rattle.scenario_text.proofs.TextLaws.{reading-again}
use Rattle.transcript_text.specs.Transcript.{bad_line, air_full_line, node_full_line}
use Rattle.scenario_run.specs.declared.fault.RunFault.{RunFault}
use Rattle.scenario_run.specs.declared.fault.RunFault.TheVariants as faults
use Rattle.scenario_run.specs.Broken.{of_write}
use Rattle.scenario_run.specs.Outcomes.{Outlets, Completes, Breaks}
use Rattle.overlay_command.specs.declared.status.Status.{Status}
use Rattle.overlay_command.specs.declared.status.Status.TheVariants.{Done, BadLine, LinkFault, AirFull, NodeFull}
use Rattle.overlay_command.specs.declared.form.Form.{Form}
use Rattle.overlay_command.specs.declared.form.Form.TheVariants.{Run, Trace, Show}
use Rattle.overlay_command.specs.Due.{IsOnlyTextOf, IsBroken, IsRunDue, IsDue, IsStopped}
use Rattle.overlay_command.specs.Answers.{AnswersInput, TellsStatus, TellsFault, ListsStream, listed}

-- the form of a run
abbrev pub run_form : Bool → Form
run_form traced = cond traced Trace Run

-- what is due of a run is due for its form
due_for : (signer : SignerWords) (traced : Bool) (text : List ℕ) (before so_far : Outlets) (status : Status) (last : List ℕ) → IsRunDue signer traced text before so_far status last → IsDue signer (run_form traced) text before so_far status last
due_for signer true text before so_far status last is = is
due_for signer false text before so_far status last is = is

stopped_for : (signer : SignerWords) (traced : Bool) (text : List ℕ) (before after : Outlets) (error : WriteError) → IsBroken signer traced text before after (of_write error) → IsStopped signer (run_form traced) text before after error
stopped_for signer true text before after error is = is
stopped_for signer false text before after error is = is

-- a text is of one scenario at most
only_text : (text : List ℕ) (s : Scenario) → IsTextOf text s → IsOnlyTextOf text s
only_text text s is = record { spells = is; only = one }
  where
    one : (other : Scenario) → IsTextOf text other → other ≡ s
    one other also =
        let same : ◌≡◌ {A = Result Scenario ℕ} (Ok other) (Ok s) = sym (reading-again text other also) ∙ reading-again text s is in
        cc

-- a last text that is due was told, or a front of it
pub due_told : (signer : SignerWords) (form : Form) (input last : List ℕ) (before so_far after : Outlets) (status : Status) (told : Result Status WriteError) → IsDue signer form input before so_far status last → TellsStatus so_far.sink after.sink last status told → after.air ≡ so_far.air
    → AnswersInput signer form input before after told
due_told signer form input last before so_far after status (Ok s) due tells air = rw tells.1 (so_far, last, due, (tells.0, air))
due_told signer form input last before so_far after status (Err write_error.Failed) due tells air = inl (status, so_far, last, due, (tells.0, air))
due_told signer form input last before so_far after status (Err write_error.NoMemory) due tells air = inl (inl (status, so_far, last, due, (tells.0, air)))

-- the first bad line of a text was told
pub bad_told : (signer : SignerWords) (traced : Bool) (text : List ℕ) (n : ℕ) (before after : Outlets) (told : Result Status WriteError) → IsFirstBad text n → TellsStatus before.sink after.sink (ended (bad_line n)) BadLine told → after.air ≡ before.air
    → AnswersInput signer (run_form traced) text before after told
bad_told signer traced text n before after told bad tells air =
    due_told signer (run_form traced) text (ended (bad_line n)) before before after BadLine told (due_for signer traced text before before BadLine (ended (bad_line n)) (n, bad, refl, refl)) tells air

-- a run came to its end
pub run_done : (signer : SignerWords) (traced : Bool) (text : List ℕ) (s : Scenario) (before after : Outlets) → IsTextOf text s → Completes signer traced s before after → AnswersInput signer (run_form traced) text before after (Ok Done)
run_done signer traced text s before after is done = (after, [], due_for signer traced text before after Done [] (s, only_text text s is, done, refl), (Adds-none after.sink, refl))

-- nothing was written or sent
same_outlets : (a b : Outlets) → a.sink ≡ b.sink → a.air ≡ b.air → a ≡ b
same_outlets a b sink air = λ i. record { sink = sink i; air = air i }

-- a run stopped, and what stopped it was told
pub fault_told : (signer : SignerWords) (traced : Bool) (text : List ℕ) (s : Scenario) (fault : RunFault) (before so_far after : Outlets) (told : Result Status WriteError) → IsTextOf text s → Breaks signer traced s before so_far fault → TellsFault fault so_far.sink after.sink told → after.air ≡ so_far.air
    → AnswersInput signer (run_form traced) text before after told
fault_told signer traced text s faults.LinkFault before so_far after told is breaks tells air =
    rw tells.0 (so_far, [], due_for signer traced text before so_far LinkFault [] ((s, only_text text s is, breaks), refl), (subst (λ sink. Adds so_far.sink sink []) (sym tells.1) (Adds-none so_far.sink), air))
fault_told signer traced text s (faults.AirFull bytes) before so_far after told is breaks tells air =
    due_told signer (run_form traced) text (ended (air_full_line bytes)) before so_far after AirFull told (due_for signer traced text before so_far AirFull (ended (air_full_line bytes)) (bytes, (s, only_text text s is, breaks), refl)) tells air
fault_told signer traced text s (faults.NodeFull number) before so_far after told is breaks tells air =
    due_told signer (run_form traced) text (ended (node_full_line number)) before so_far after NodeFull told (due_for signer traced text before so_far NodeFull (ended (node_full_line number)) (number, (s, only_text text s is, breaks), refl)) tells air
fault_told signer traced text s faults.WriteFault before so_far after told is breaks tells air =
    let there = subst (λ outlets. Breaks signer traced s before outlets faults.WriteFault) (sym (same_outlets after so_far tells.1 air)) breaks in
    rw tells.0 (inr (stopped_for signer traced text before after write_error.Failed (s, only_text text s is, there)))
fault_told signer traced text s faults.NoMemory before so_far after told is breaks tells air =
    let there = subst (λ outlets. Breaks signer traced s before outlets faults.NoMemory) (sym (same_outlets after so_far tells.1 air)) breaks in
    rw tells.0 (inl (inr (stopped_for signer traced text before after write_error.NoMemory (s, only_text text s is, there))))

-- the listing of a stream is due
listing_due : (signer : SignerWords) (bytes text : List ℕ) (outlets : Outlets) (fault : Option Bad) → IsListing bytes text fault → ((fault ≡ None) ↔ IsWhole bytes) → IsDue signer Show bytes outlets outlets (listed fault) text
listing_due signer bytes text outlets None is whole = (refl, whole.0 refl, is)
listing_due signer bytes text outlets (Some fault) is whole = (refl, λ w. absurd (let e = whole.1 w in cc), fault, is)

-- a stream was listed
pub listing_told : (signer : SignerWords) (bytes : List ℕ) (before after : Outlets) (told : Result Status WriteError) → ListsStream bytes before.sink after.sink told → after.air ≡ before.air → AnswersInput signer Show bytes before after told
listing_told signer bytes before after told lists air =
    elim lists [
      | inl l ↦ due_told signer Show bytes l.0 before before after (listed l.1) told (listing_due signer bytes l.0 before l.1 l.2 l.3) l.4 air
      | inr none ↦ rw none.0 (inr (same_outlets after before none.1 air))
    ]
