-- Over an input of its form a call comes to its end, or one of a few stops it.
use Rattle.std.proofs.Common.{◌≡◌, ℕ, ◌≤◌, Bool, true, false, List, [], ◌∷◌, ◌++◌, length, Option, Some, None, String, Result, Ok, Err, refl, ap, sym, subst, ◌∙◌, append-nil}
use Rattle.std.specs.Prelude.{IfSome}
use Rattle.std.specs.Global.{Global}
use Rattle.std.specs.Io.KnownBytes.{Consumes, IsAtEnd}
use Rattle.reload_base.specs.Outside.{SourceView}
use Rattle.reload_base.specs.Whole.{ReadsAll}
use Rattle.reload_base.specs.declared.reading.TheConstants.{MAX_INPUT}
use Rattle.reload_base.specs.declared.writing.WriteError.{WriteError}
use Rattle.reload_base.specs.declared.writing.WriteError.TheVariants as write_error
use Rattle.node_messages.specs.Signed.{SignerWords}
use Rattle.frame_listing.specs.Listing.{IsWhole}
use Rattle.scenario_text.specs.declared.scenario.Scenario.{Scenario}
use Rattle.scenario_text.specs.Scenarios.{IsTextOf}
use Rattle.scenario_run.specs.Outcomes.{Outlets}
use Rattle.overlay_command.specs.declared.status.Status.{Status}
use Rattle.overlay_command.specs.declared.status.Status.TheVariants.{Done, Usage, ReadFault, WriteFault, NoMemory, BadLine, TooLong, LinkFault, AirFull, BadBytes, NodeFull}
use Rattle.overlay_command.specs.declared.form.Form.{Form}
use Rattle.overlay_command.specs.declared.form.Form.TheVariants.{Run, Trace, Show}
use Rattle.overlay_command.specs.Due.{IsRunDue, IsDue}
use Rattle.overlay_command.specs.Answers.{AnswersInput, status_of}
use Rattle.overlay_command.specs.Top.{word_of, HasForm, IsInput, MayEnd, Completes}

-- the text of a scenario has no bad line
run_may_end : (signer : SignerWords) (traced : Bool) (text : List ℕ) (before so_far : Outlets) (status : Status) (last : List ℕ) → ((s : Scenario) × IsTextOf text s) → IsRunDue signer traced text before so_far status last → MayEnd status
run_may_end signer traced text before so_far Done last is due = tt
run_may_end signer traced text before so_far Usage last is due = due
run_may_end signer traced text before so_far ReadFault last is due = tt
run_may_end signer traced text before so_far WriteFault last is due = tt
run_may_end signer traced text before so_far NoMemory last is due = tt
run_may_end signer traced text before so_far BadLine last is due = due.1.none is.0 is.1
run_may_end signer traced text before so_far TooLong last is due = due
run_may_end signer traced text before so_far LinkFault last is due = tt
run_may_end signer traced text before so_far AirFull last is due = tt
run_may_end signer traced text before so_far BadBytes last is due = due
run_may_end signer traced text before so_far NodeFull last is due = tt

-- a whole stream has no fault
show_may_end : (signer : SignerWords) (bytes : List ℕ) (before so_far : Outlets) (status : Status) (last : List ℕ) → IsWhole bytes → IsDue signer Show bytes before so_far status last → MayEnd status
show_may_end signer bytes before so_far Done last is due = tt
show_may_end signer bytes before so_far Usage last is due = due
show_may_end signer bytes before so_far ReadFault last is due = tt
show_may_end signer bytes before so_far WriteFault last is due = tt
show_may_end signer bytes before so_far NoMemory last is due = tt
show_may_end signer bytes before so_far BadLine last is due = due
show_may_end signer bytes before so_far TooLong last is due = due
show_may_end signer bytes before so_far LinkFault last is due = tt
show_may_end signer bytes before so_far AirFull last is due = tt
show_may_end signer bytes before so_far BadBytes last is due = due.1 is
show_may_end signer bytes before so_far NodeFull last is due = tt

due_may_end : (signer : SignerWords) (form : Form) (input : List ℕ) (before so_far : Outlets) (status : Status) (last : List ℕ) → IsInput form input → IsDue signer form input before so_far status last → MayEnd status
due_may_end signer Run input before so_far status last is due = run_may_end signer false input before so_far status last is due
due_may_end signer Trace input before so_far status last is due = run_may_end signer true input before so_far status last is due
due_may_end signer Show input before so_far status last is due = show_may_end signer input before so_far status last is due

answer_may_end : (signer : SignerWords) (form : Form) (input : List ℕ) (before after : Outlets) (told : Result Status WriteError) → IsInput form input → AnswersInput signer form input before after told → MayEnd (status_of told)
answer_may_end signer form input before after (Ok status) is answers = due_may_end signer form input before answers.0 status answers.1 is answers.2
answer_may_end signer form input before after (Err write_error.Failed) is answers = tt
answer_may_end signer form input before after (Err write_error.NoMemory) is answers = tt

-- words have one form
one_form : (a b : Form) → word_of a ∷ [] ≡ word_of b ∷ [] → a ≡ b
one_form Run Run e = refl
one_form Run Trace e = absurd cc
one_form Run Show e = absurd cc
one_form Trace Run e = absurd cc
one_form Trace Trace e = refl
one_form Trace Show e = absurd cc
one_form Show Run e = absurd cc
one_form Show Trace e = absurd cc
one_form Show Show e = refl

-- what a source tells that it has left is what was read
known_may_end : (signer : SignerWords) (form other : Form) (input : List ℕ) (left rest : Option (List ℕ)) (before after : Outlets) (told : Result Status WriteError) → other ≡ form → Consumes left rest input → IsAtEnd rest → AnswersInput signer form input before after told
    → IfSome left (λ content. (length content ≤ MAX_INPUT) → IsInput other content → MayEnd (status_of told))
known_may_end signer form other input None rest before after told same takes end answers = tt
known_may_end signer form other input (Some content) None before after told same takes end answers = absurd takes
known_may_end signer form other input (Some content) (Some rest) before after told same takes end answers = λ short is.
    let whole : content ≡ input = takes ∙ ap (λ (more : List ℕ). input ++ more) end ∙ append-nil input in
    answer_may_end signer form input before after told (subst (λ (f : Form). IsInput f input) same (subst (IsInput other) whole is)) answers

-- an input that was read whole is answered to its end, unless something stops it
pub completes_input : (signer : SignerWords) (words : List (String Global)) (old new : SourceView) (form : Form) (input : List ℕ) (before after : Outlets) (told : Result Status WriteError) → HasForm form words → ReadsAll MAX_INPUT old new (Ok input)
    → AnswersInput signer form input before after told → Completes words old.left (status_of told)
completes_input signer words old new form input before after told has reads answers = λ other other_has. known_may_end signer form other input old.left new.left before after told (one_form other form (sym other_has ∙ has)) reads.1.0 reads.2 answers
