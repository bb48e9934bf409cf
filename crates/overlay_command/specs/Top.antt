-- What a call of `overlay` has read, written and sent, by the status that it answers.
use Rattle.std.specs.Prelude.{◌≡◌, ℕ, ◌≤◌, List, [], ◌∷◌, length, map, codes, Option, IfSome, Ok, ◌⊎◌, String, string_bytes}
use Rattle.std.specs.Global.{Global}
use Rattle.reload_base.specs.Outside.{SourceView}
use Rattle.reload_base.specs.Whole.{ReadsAll, StopsReading}
use Rattle.reload_base.specs.declared.reading.TheConstants.{MAX_INPUT}
use Rattle.reload_base.specs.declared.reading.ReadError.TheVariants as read_error
use Rattle.reload_base.specs.declared.writing.WriteError.{WriteError}
use Rattle.reload_base.specs.declared.writing.WriteError.TheVariants as write_error
use Rattle.text_words.specs.Lines.{ended}
use Rattle.node_messages.specs.Signed.{SignerWords}
use Rattle.scenario_text.specs.declared.scenario.Scenario.{Scenario}
use Rattle.scenario_text.specs.Scenarios.{IsTextOf}
use Rattle.frame_listing.specs.Listing.{IsWhole}
use Rattle.scenario_run.specs.Outcomes.{Outlets}
use Rattle.overlay_command.specs.declared.status.Status.{Status}
use Rattle.overlay_command.specs.declared.status.Status.TheVariants.{Done, Usage, ReadFault, WriteFault, NoMemory, BadLine, TooLong, LinkFault, AirFull, BadBytes, NodeFull}
use Rattle.overlay_command.specs.declared.form.Form.{Form}
use Rattle.overlay_command.specs.declared.form.Form.TheVariants.{Run, Trace, Show}
use Rattle.overlay_command.specs.Answers.{Tells, Cuts}
use Rattle.overlay_command.specs.Due.{IsDue, IsStopped}

-- the outside of a call: its source, and the sink and the air
pub record Outside : Type 0 where
  pub source : SourceView
  pub outlets : Outlets

-- the one word of a form
abbrev pub word_of : Form → List ℕ
word_of Run = codes "run"
word_of Trace = codes "trace"
word_of Show = codes "show"

-- the lines for words of no form, and for an input that is too long
unfoldable pub usage_line : List ℕ
usage_line = codes "usage: overlay run|trace|show"

unfoldable pub too_long_line : List ℕ
too_long_line = codes "too long"

-- the words are those of a form
abbrev pub HasForm : Form → List (String Global) → Type 0
HasForm form words = map string_bytes words ≡ word_of form ∷ []

-- the words are those of some form
abbrev pub IsCommand : List (String Global) → Type 0
IsCommand words = (form : Form) × HasForm form words

-- What a call takes, writes and sends, up to its last text, and this text, under the status that it
-- tells. Words of no form take nothing; others read to the end, or until it is too long.
abbrev pub IsDueFor :
    SignerWords → List (String Global) → Outside → Outside → Status → List ℕ → Type 0
IsDueFor signer words before so_far Usage last =
    ¬ IsCommand words × (so_far ≡ before) × (last ≡ ended usage_line)
IsDueFor signer words before so_far TooLong last =
    IsCommand words × StopsReading MAX_INPUT before.source so_far.source read_error.TooLong
    × (so_far.outlets ≡ before.outlets) × (last ≡ ended too_long_line)
IsDueFor signer words before so_far status last =
    (form : Form) × HasForm form words
    × (input : List ℕ) × ReadsAll MAX_INPUT before.source so_far.source (Ok input)
    × IsDue signer form input before.outlets so_far.outlets status last

-- writing stopped in the last text of a call
abbrev pub IsCutOff : SignerWords → List (String Global) → Outside → Outside → WriteError → Type 0
IsCutOff signer words before after error =
    (status : Status) × (so_far : Outside) × (last : List ℕ)
    × IsDueFor signer words before so_far status last
    × (after.source ≡ so_far.source) × Cuts so_far.outlets after.outlets last error

-- writing stopped before it, in the transcript of a run
abbrev pub IsBrokenOff :
    SignerWords → List (String Global) → Outside → Outside → WriteError → Type 0
IsBrokenOff signer words before after error =
    (form : Form) × HasForm form words
    × (input : List ℕ) × ReadsAll MAX_INPUT before.source after.source (Ok input)
    × IsStopped signer form input before.outlets after.outlets error

-- what a call has read, written and sent when it answers a status
abbrev pub Ends : SignerWords → List (String Global) → Outside → Outside → Status → Type 0
Ends signer words before after ReadFault =
    IsCommand words × StopsReading MAX_INPUT before.source after.source read_error.Failed
    × (after.outlets ≡ before.outlets)
Ends signer words before after WriteFault =
    IsCutOff signer words before after write_error.Failed
    ⊎ IsBrokenOff signer words before after write_error.Failed
Ends signer words before after NoMemory =
    IsCutOff signer words before after write_error.NoMemory
    ⊎ (IsBrokenOff signer words before after write_error.NoMemory
    ⊎ (IsCommand words × StopsReading MAX_INPUT before.source after.source read_error.NoMemory
    × (after.outlets ≡ before.outlets)))
Ends signer words before after status =
    (so_far : Outside) × (last : List ℕ) × IsDueFor signer words before so_far status last
    × (after.source ≡ so_far.source) × Tells so_far.outlets after.outlets last

-- what a form is for: the text of a scenario, or whole frames of whole messages
abbrev pub IsInput : Form → List ℕ → Type 0
IsInput Run text = (s : Scenario) × IsTextOf text s
IsInput Trace text = (s : Scenario) × IsTextOf text s
IsInput Show bytes = IsWhole bytes

-- how a call may end over an input of its form: at its end, or where the source, the sink, the air,
-- a node or the memory stops it
abbrev pub MayEnd : Status → Type 0
MayEnd Usage = ⊥
MayEnd BadLine = ⊥
MayEnd TooLong = ⊥
MayEnd BadBytes = ⊥
MayEnd status = Unit {0}

-- the input of a form is answered to its end, unless one of these stops it
abbrev pub Completes : List (String Global) → Option (List ℕ) → Status → Type 0
Completes words left status = (form : Form) → HasForm form words
    → IfSome left (λ input. (length input ≤ MAX_INPUT) → IsInput form input → MayEnd status)

-- the exit status of a program that ends so (this profile)
abbrev pub exit_status : Status → ℕ
exit_status Done = 0
exit_status Usage = 2
exit_status ReadFault = 3
exit_status WriteFault = 4
exit_status NoMemory = 5
exit_status BadLine = 6
exit_status TooLong = 7
exit_status LinkFault = 8
exit_status AirFull = 9
exit_status BadBytes = 10
exit_status NodeFull = 12
