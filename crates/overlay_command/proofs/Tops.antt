-- What a status says of what was read, written and sent.
use Rattle.std.proofs.Common.{◌≡◌, ℕ, List, [], ◌∷◌, length, get_or, String, Bool, IsTrue, Result, Ok, Err, refl, ap, sym, ◌∙◌, inl, inr, arith}
use Rattle.std.specs.Prelude.{map, string_bytes}
use Rattle.std.specs.Global.{Global}
use Rattle.std.specs.Str.{bytes_eq}
use Rattle.std.proofs.lemmas.Slice.Eq.{bytes_eq-Decides}
use Rattle.reload_base.specs.Whole.{ReadsAll}
use Rattle.reload_base.specs.declared.reading.TheConstants.{MAX_INPUT}
use Rattle.reload_base.specs.declared.writing.WriteError.{WriteError}
use Rattle.reload_base.specs.declared.writing.WriteError.TheVariants as write_error
use Rattle.node_messages.specs.Signed.{SignerWords}
use Rattle.scenario_run.specs.Outcomes.{Outlets}
use Rattle.overlay_command.specs.declared.status.Status.{Status}
use Rattle.overlay_command.specs.declared.status.Status.TheVariants.{Done, Usage, ReadFault, WriteFault, NoMemory, BadLine, TooLong, LinkFault, AirFull, BadBytes, NodeFull}
use Rattle.overlay_command.specs.declared.form.Form.{Form}
use Rattle.overlay_command.specs.declared.form.Form.TheVariants.{Run, Trace, Show}
use Rattle.overlay_command.specs.Due.{IsDue}
use Rattle.overlay_command.specs.Top.{Outside, HasForm, IsDueFor, Ends}
use Rattle.overlay_command.specs.Answers.{Tells, AnswersInput, TellsStatus, status_of}

-- one element is the whole list
only_one : {X : Type 0} (xs : List X) (x : X) → length xs ≡ 1 → x ≡ get_or xs 0 x → xs ≡ x ∷ []
only_one [] x one is = absurd (omega arith)
only_one (y ∷ []) x one is = ap (λ z. z ∷ []) (sym is)
only_one (y ∷ z ∷ xs) x one is = absurd (omega arith)

-- one word, which is seen to be a fixed one
pub one_word : (words : List (String Global)) (x : String Global) (b : Bool) (seen fixed : List ℕ) → length words ≡ 1 → x ≡ get_or words 0 x → b ≡ bytes_eq seen fixed → seen ≡ string_bytes x → IsTrue b → map string_bytes words ≡ fixed ∷ []
one_word words x b seen fixed one is test same holds =
    let decides = bytes_eq-Decides seen fixed in
    rw (only_one words x one is) (ap (λ (word : List ℕ). word ∷ []) (sym same ∙ decides.0 (sym test ∙ holds)))

-- nothing is due for an input under the statuses of other causes
record IsNoCause (signer : SignerWords) (form : Form) (input last : List ℕ) (before so_far : Outlets) : Type 0 where
  usage : IsDue signer form input before so_far Usage last → ⊥
  read : IsDue signer form input before so_far ReadFault last → ⊥
  write : IsDue signer form input before so_far WriteFault last → ⊥
  memory : IsDue signer form input before so_far NoMemory last → ⊥
  long : IsDue signer form input before so_far TooLong last → ⊥

no_cause : (signer : SignerWords) (form : Form) (input last : List ℕ) (before so_far : Outlets) → IsNoCause signer form input last before so_far
no_cause signer Run input last before so_far = record { usage = λ is. is; read = λ is. is; write = λ is. is; memory = λ is. is; long = λ is. is }
no_cause signer Trace input last before so_far = record { usage = λ is. is; read = λ is. is; write = λ is. is; memory = λ is. is; long = λ is. is }
no_cause signer Show input last before so_far = record { usage = λ is. is; read = λ is. is; write = λ is. is; memory = λ is. is; long = λ is. is }

-- the last text was told
ends_whole : (signer : SignerWords) (words : List (String Global)) (before so_far after : Outside) (status : Status) (last : List ℕ) → IsDueFor signer words before so_far status last → after.source ≡ so_far.source → Tells so_far.outlets after.outlets last → Ends signer words before after status
ends_whole signer words before so_far after Done last due source tells = (so_far, last, due, source, tells)
ends_whole signer words before so_far after Usage last due source tells = (so_far, last, due, source, tells)
ends_whole signer words before so_far after BadLine last due source tells = (so_far, last, due, source, tells)
ends_whole signer words before so_far after TooLong last due source tells = (so_far, last, due, source, tells)
ends_whole signer words before so_far after LinkFault last due source tells = (so_far, last, due, source, tells)
ends_whole signer words before so_far after AirFull last due source tells = (so_far, last, due, source, tells)
ends_whole signer words before so_far after BadBytes last due source tells = (so_far, last, due, source, tells)
ends_whole signer words before so_far after NodeFull last due source tells = (so_far, last, due, source, tells)
ends_whole signer words before so_far after ReadFault last due source tells = absurd ((no_cause signer due.0 due.2 last before.outlets so_far.outlets).read due.4)
ends_whole signer words before so_far after WriteFault last due source tells = absurd ((no_cause signer due.0 due.2 last before.outlets so_far.outlets).write due.4)
ends_whole signer words before so_far after NoMemory last due source tells = absurd ((no_cause signer due.0 due.2 last before.outlets so_far.outlets).memory due.4)

-- a last text that is due was told, or a front of it
pub ends_told : (signer : SignerWords) (words : List (String Global)) (before so_far after : Outside) (status : Status) (last : List ℕ) (told : Result Status WriteError) → IsDueFor signer words before so_far status last → after.source ≡ so_far.source
    → TellsStatus so_far.outlets.sink after.outlets.sink last status told → after.outlets.air ≡ so_far.outlets.air → Ends signer words before after (status_of told)
ends_told signer words before so_far after status last (Ok s) due source tells air = rw tells.1 (ends_whole signer words before so_far after status last due source (tells.0, air))
ends_told signer words before so_far after status last (Err write_error.Failed) due source tells air = inl (status, so_far, last, due, source, (tells.0, air))
ends_told signer words before so_far after status last (Err write_error.NoMemory) due source tells air = inl (status, so_far, last, due, source, (tells.0, air))

-- what is due for an input is due for the words of its form
input_due : (signer : SignerWords) (words : List (String Global)) (before so_far : Outside) (form : Form) (input : List ℕ) (status : Status) (last : List ℕ) → HasForm form words → ReadsAll MAX_INPUT before.source so_far.source (Ok input)
    → IsDue signer form input before.outlets so_far.outlets status last → IsDueFor signer words before so_far status last
input_due signer words before so_far form input Usage last has reads is = absurd ((no_cause signer form input last before.outlets so_far.outlets).usage is)
input_due signer words before so_far form input TooLong last has reads is = absurd ((no_cause signer form input last before.outlets so_far.outlets).long is)
input_due signer words before so_far form input Done last has reads is = (form, has, input, reads, is)
input_due signer words before so_far form input ReadFault last has reads is = (form, has, input, reads, is)
input_due signer words before so_far form input WriteFault last has reads is = (form, has, input, reads, is)
input_due signer words before so_far form input NoMemory last has reads is = (form, has, input, reads, is)
input_due signer words before so_far form input BadLine last has reads is = (form, has, input, reads, is)
input_due signer words before so_far form input LinkFault last has reads is = (form, has, input, reads, is)
input_due signer words before so_far form input AirFull last has reads is = (form, has, input, reads, is)
input_due signer words before so_far form input BadBytes last has reads is = (form, has, input, reads, is)
input_due signer words before so_far form input NodeFull last has reads is = (form, has, input, reads, is)

-- an input was answered, or memory was missing before anything was due
pub ends_input : (signer : SignerWords) (words : List (String Global)) (before after : Outside) (form : Form) (input : List ℕ) (told : Result Status WriteError) → HasForm form words → ReadsAll MAX_INPUT before.source after.source (Ok input)
    → AnswersInput signer form input before.outlets after.outlets told → Ends signer words before after (status_of told)
ends_input signer words before after form input (Ok status) has reads told =
    let so_far : Outside = record { source = after.source; outlets = told.0 } in
    ends_whole signer words before so_far after status told.1 (input_due signer words before so_far form input status told.1 has reads told.2) refl told.3
ends_input signer words before after form input (Err write_error.Failed) has reads told =
    elim told [
      | inl cut ↦ inl (cut.0, record { source = after.source; outlets = cut.1 }, cut.2, input_due signer words before (record { source = after.source; outlets = cut.1 }) form input cut.0 cut.2 has reads cut.3, refl, cut.4)
      | inr stopped ↦ inr (form, has, input, reads, stopped)
    ]
ends_input signer words before after form input (Err write_error.NoMemory) has reads told =
    elim told [
      | inl stops ↦ elim stops [
        | inl cut ↦ inl (cut.0, record { source = after.source; outlets = cut.1 }, cut.2, input_due signer words before (record { source = after.source; outlets = cut.1 }) form input cut.0 cut.2 has reads cut.3, refl, cut.4)
        | inr stopped ↦ inr (inl (form, has, input, reads, stopped))
      ]
      | inr same ↦ inr (inr ((form, has), (input, reads.0, reads.1), same))
    ]
