-- What is due for an input that was read to its end.
use Rattle.std.specs.Prelude.{◌≡◌, ℕ, Bool, true, false, List, [], None, Some}
use Rattle.reload_base.specs.declared.writing.WriteError.{WriteError}
use Rattle.text_words.specs.Lines.{ended}
use Rattle.wire_core.specs.declared.bad.Bad.{Bad}
use Rattle.node_messages.specs.Signed.{SignerWords}
use Rattle.frame_listing.specs.Listing.{IsWhole, IsListing}
use Rattle.scenario_text.specs.declared.scenario.Scenario.{Scenario}
use Rattle.scenario_text.specs.Scenarios.{IsTextOf, IsFirstBad}
use Rattle.transcript_text.specs.Transcript.{bad_line, air_full_line, node_full_line}
use Rattle.scenario_run.specs.declared.fault.RunFault.{RunFault}
use Rattle.scenario_run.specs.declared.fault.RunFault.TheVariants as faults
use Rattle.scenario_run.specs.Broken.{of_write}
use Rattle.scenario_run.specs.Outcomes.{Outlets, Completes, Breaks}
use Rattle.overlay_command.specs.declared.status.Status.{Status}
use Rattle.overlay_command.specs.declared.status.Status.TheVariants.{Done, BadLine, LinkFault, AirFull, NodeFull, BadBytes}
use Rattle.overlay_command.specs.declared.form.Form.{Form}
use Rattle.overlay_command.specs.declared.form.Form.TheVariants.{Run, Trace, Show}

-- the one scenario that a text is of
pub record IsOnlyTextOf (text : List ℕ) (s : Scenario) : Type 0 where
  pub spells : IsTextOf text s
  pub only : (other : Scenario) → IsTextOf text other → other ≡ s

-- a run of a text's scenario stopped
abbrev pub IsBroken : SignerWords → Bool → List ℕ → Outlets → Outlets → RunFault → Type 0
IsBroken signer traced text before after fault =
    (s : Scenario) × IsOnlyTextOf text s × Breaks signer traced s before after fault

-- What a run of a text writes and sends, up to its last line, and this line, under the status that
-- it tells. A run that comes to its end, and one that the air stopped, has no further line.
abbrev pub IsRunDue :
    SignerWords → Bool → List ℕ → Outlets → Outlets → Status → List ℕ → Type 0
IsRunDue signer traced text before so_far Done last =
    (s : Scenario) × IsOnlyTextOf text s × Completes signer traced s before so_far × (last ≡ [])
IsRunDue signer traced text before so_far BadLine last =
    (n : ℕ) × IsFirstBad text n × (so_far ≡ before) × (last ≡ ended (bad_line n))
IsRunDue signer traced text before so_far LinkFault last =
    IsBroken signer traced text before so_far faults.LinkFault × (last ≡ [])
IsRunDue signer traced text before so_far AirFull last =
    (bytes : ℕ) × IsBroken signer traced text before so_far (faults.AirFull bytes)
    × (last ≡ ended (air_full_line bytes))
IsRunDue signer traced text before so_far NodeFull last =
    (number : ℕ) × IsBroken signer traced text before so_far (faults.NodeFull number)
    × (last ≡ ended (node_full_line number))
IsRunDue _ _ _ _ _ _ _ = ⊥

-- The same for the input of a form: `run` and `trace` read the text of a scenario, and `show` a
-- stream of frames.
abbrev pub IsDue : SignerWords → Form → List ℕ → Outlets → Outlets → Status → List ℕ → Type 0
IsDue signer Run text before so_far status last =
    IsRunDue signer false text before so_far status last
IsDue signer Trace text before so_far status last =
    IsRunDue signer true text before so_far status last
IsDue signer Show bytes before so_far Done last =
    (so_far ≡ before) × IsWhole bytes × IsListing bytes last None
IsDue signer Show bytes before so_far BadBytes last =
    (so_far ≡ before) × ¬ IsWhole bytes × (fault : Bad) × IsListing bytes last (Some fault)
IsDue _ _ _ _ _ _ _ = ⊥

-- writing stopped before the last line of a run
abbrev pub IsStopped : SignerWords → Form → List ℕ → Outlets → Outlets → WriteError → Type 0
IsStopped signer Run text before after error =
    IsBroken signer false text before after (of_write error)
IsStopped signer Trace text before after error =
    IsBroken signer true text before after (of_write error)
IsStopped signer Show bytes before after error = ⊥
