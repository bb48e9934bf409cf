-- A note is read as it is spelled.
use Rattle.std.proofs.Common.{◌≡◌, ℕ, ◌<◌, ◌≤◌, List, [], ◌++◌, length, refl, length-append, lit<, arith}
use Rattle.wire_core.specs.Layout.{IsLayout}
use Rattle.wire_core.specs.Spelling.{number}
use Rattle.wire_core.specs.Laws.Bytes.{length-number}
use Rattle.wire_core.specs.Laws.Steps.{Anything, Always, Lays, laid, known, seq, done_laid, fits_as, spelled_as, placed}
use Rattle.wire_core.specs.Laws.Forms.{Takes, Again, HasCode, takes_made, takes_code, takes_none, again_made, forms_laid, done_takes, done_again}
use Rattle.wire_core.specs.Laws.Words.{number_laid, boolean_laid}
use Rattle.wire_core.specs.Laws.Lists.{vector_of}
use Rattle.peer_note.specs.declared.note.StoreNote.{StoreNote}
use Rattle.peer_note.specs.declared.note.NoteForm.{NoteForm}
use Rattle.peer_note.specs.declared.note.NoteForm.TheVariants.{Store, Plain}
use Rattle.peer_note.specs.declared.note.PeerNote.{PeerNote}
use Rattle.peer_note.specs.Notes.{store_note, form, note, IsSpelledStoreNote, IsSpelledForm, IsSpelledNote, IsStoreNoteInRange, IsFormInRange, IsNoteInRange, store_note_at, store_form_at, form_of, form_at, note_at}
use Rattle.peer_note.specs.Laws.Kinds.{turn_laid, kind_note_laid, kind_note-some}
use Rattle.peer_note.specs.Laws.Kept.{kept_answer_laid, kept_answer-some}

-- ---- what the note of a Store says of the record

same_store : (a b : StoreNote) → a.turn ≡ b.turn → a.joined ≡ b.joined → a.kinds ≡ b.kinds → a.kept
    ≡ b.kept → a ≡ b
same_store a b e f g h = λ i. record { turn = e i; joined = f i; kinds = g i; kept = h i }

abbrev pub StoreFits : StoreNote → Type 0
StoreFits n = IsSpelledStoreNote n × IsStoreNoteInRange n

pub store_note_laid : IsLayout StoreFits store_note store_note_at
unfolding store_note store_note_at
store_note_laid = laid (λ n.
    fits_as _ (seq {n = n} {Known = Always} (λ s. s.turn) turn_laid (λ turn _. seq (λ s.
    s.joined) boolean_laid (λ joined _.
    seq (λ s. s.kinds) (vector_of 4 kind_note_laid (λ k _. kind_note-some k)) (λ kinds _. seq (λ s.
    s.kept) (vector_of 4 kept_answer_laid (λ k _. kept_answer-some k)) (λ kept _.
    done_laid (record { turn = turn; joined = joined; kinds = kinds; kept = kept }) (
      refl,
      (
        refl,
        (refl, (refl, tt)),
      ),
    ) (λ s k. same_store s _ k.1.1.1.0 k.1.1.0 k.1.0 k.0))))))
    (λ s k f. (
      record {
        turn = f.0;
        each_kind = f.1.1.0.1.0;
        each_kept = f.1.1.1.0.1.0;
        kinds_fit =
            f.1.1.0.0;
        kept_fit = f.1.1.1.0.0;
      },
      record { kinds = f.1.1.0.1.1; kept = f.1.1.1.0.1.1 },
    ))
    (λ s k f. (
      f.0.turn,
      (
        tt,
        (
          (f.0.kinds_fit, (f.0.each_kind, f.1.kinds)),
          (
            (
              f.0.kept_fit,
              (f.0.each_kept, f.1.kept),
            ),
            tt,
          ),
        ),
      ),
    )))

-- it has a byte at least
pub store_note-some : (n : StoreNote) → 0 < length (store_note n)
unfolding store_note
store_note-some n = omega (arith, length-number 8 n.turn, length-append {A = ℕ})

-- ---- forms

abbrev pub FormFits : NoteForm → Type 0
FormFits f = IsSpelledForm f × IsFormInRange f

-- the first byte
code_of : NoteForm → ℕ
code_of f = elim f [ Store n ↦ 1 | Plain ↦ 2 ]

-- what is behind it
body : NoteForm → List ℕ
body f = elim f [ Store n ↦ store_note n | Plain ↦ [] ]

body-code : (f : NoteForm) → number 1 (code_of f) ++ body f ≡ form f
unfolding form code_of body
body-code (Store n) = refl
body-code Plain = refl

code_of-lt : (f : NoteForm) → code_of f < 256
unfolding code_of
code_of-lt (Store n) = lit< tt
code_of-lt Plain = lit< tt

module _ {n : ℕ} where
  -- what is read under each code
  forms_take : (place : ℕ) → place ≤ n → (code : ℕ) → code < 256
      → Takes n (HasCode code_of code) FormFits body (form_of place code)
  unfolding form_of store_form_at code_of body
  forms_take place le code lt =
      takes_code 1 (takes_made Store (known store_note_laid) (λ s h. ((refl, tt), h, refl))) (
      takes_code 2 (done_takes Plain (refl, tt) (tt, tt) refl) (
      takes_none le))

  -- and what is spelled is read under its code
  forms_again : (place : ℕ) (f : NoteForm) → FormFits f
      → Again n Anything f (body f) (form_of place (code_of f))
  unfolding form_of store_form_at code_of body
  forms_again place (Store s) h = again_made Store (known store_note_laid) s h
  forms_again place Plain h = done_again Plain

  form_lays : Lays n Anything Always FormFits form form_at
  unfolding form_at
  form_lays =
      let law = placed (λ place le. seq {Known = Always} code_of (number_laid 1)
      (λ code lt. forms_laid (forms_take place le) (forms_again place) code lt)) in
      spelled_as form (fits_as FormFits law (λ f k h. h.1) (λ f k h. (code_of-lt f, h))) (λ f k h.
      body-code f)

pub form_laid : IsLayout FormFits form form_at
form_laid = laid (λ n. form_lays {n = n})

-- it has a byte at least
pub form-some : (f : NoteForm) → 0 < length (form f)
form-some f = rw (← body-code f) (omega (
  arith,
  length-number 1 (code_of f),
  length-append (number 1
      (code_of f)) (body f),
))

-- ---- notes

same_note : (a b : PeerNote) → a.channel ≡ b.channel → a.form ≡ b.form → a ≡ b
same_note a b e f = λ i. record { channel = e i; form = f i }

pub note_laid : IsLayout (λ n. IsSpelledNote n × IsNoteInRange n) note note_at
unfolding note note_at
note_laid = laid (λ n.
    fits_as _ (seq {n = n} {Known = Always} (λ s. s.channel) (number_laid 8) (λ channel _. seq (λ s.
    s.form) (known form_laid) (λ form _.
    done_laid (record { channel = channel; form = form }) (refl, (refl, tt)) (λ s k.
    same_note s _ k.1.0 k.0))))
    (λ s k f. (f.1.0.0, record { channel = f.0; form = f.1.0.1 }))
    (λ s k f. (f.1.channel, ((f.0, f.1.form), tt))))

-- it has a byte at least
pub note-some : (n : PeerNote) → 0 < length (note n)
unfolding note
note-some n = omega (arith, length-number 8 n.channel, length-append {A = ℕ})
