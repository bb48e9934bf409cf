-- What a note says of kinds is read as it is spelled.
use Rattle.std.proofs.Common.{◌≡◌, ℕ, ◌^◌, ◌<◌, ltb, length, refl, length-append, arith}
use Rattle.std.proofs.lemmas.Bool.{ltb-true, lt-ltb}
use Rattle.std.proofs.lemmas.List.{append-nil}
use Rattle.wire_core.specs.declared.bad.Reason.TheVariants.{BadValue}
use Rattle.wire_core.specs.Layout.{IsLayout}
use Rattle.wire_core.specs.Spelling.{number}
use Rattle.wire_core.specs.Laws.Bytes.{length-number}
use Rattle.wire_core.specs.Laws.Steps.{Anything, Always, Lays, laid, seq, done_laid, fits_as, spelled_as, placed, tested}
use Rattle.wire_core.specs.Laws.Words.{number_laid, boolean_laid, vector_laid, rest_laid}
use Rattle.wire_core.specs.Laws.Lists.{vector_of}
use Rattle.peer_note.specs.declared.TheConstants.{TURN_LIMIT}
use Rattle.peer_note.specs.declared.kind_note.SlotNote.{SlotNote}
use Rattle.peer_note.specs.declared.kind_note.KindNote.{KindNote}
use Rattle.peer_note.specs.Kinds.{turn_at, slot_note, kind_note, IsSpelledSlotNote, IsSpelledKindNote, IsSlotNoteInRange, IsKindNoteInRange, slot_note_at, kind_note_at}

-- a number below the limit of turns
pub turn_laid : {n : ℕ} → Lays n Anything Always (λ x. x < TURN_LIMIT) (number 8) turn_at
unfolding turn_at
turn_laid {n} =
    let law = placed {n = n} (λ place le. seq {Known = Always} {Fits = λ x. x < TURN_LIMIT} (λ x. x)
    (number_laid 8) (λ x _.
    tested (ltb x TURN_LIMIT) place BadValue (λ _. le) (λ y k f. let lt : x < TURN_LIMIT = omega
    (arith, k.0, f) in lt-ltb x TURN_LIMIT lt)
    (λ within. fits_as _ (done_laid x (refl, tt) (λ z k. k.0)) (λ y k f.
    let lt = ltb-true x TURN_LIMIT within in omega (arith, k.0, lt)) (λ y k f. tt)))) in
    fits_as _ (spelled_as (number 8) law (λ x k f. append-nil (number 8 x))) (λ x k f. f.1)
    (λ x k f. (omega (arith, f), f))

same_slot : (a b : SlotNote) → a.key ≡ b.key → a.floor ≡ b.floor → a.held ≡ b.held → a.expiry
    ≡ b.expiry → a ≡ b
same_slot a b e f g h = λ i. record { key = e i; floor = f i; held = g i; expiry = h i }

abbrev pub SlotFits : SlotNote → Type 0
SlotFits s = IsSpelledSlotNote s × IsSlotNoteInRange s

pub slot_note_laid : IsLayout SlotFits slot_note slot_note_at
unfolding slot_note slot_note_at
slot_note_laid = laid (λ n.
    fits_as _ (seq {n = n} {Known = Always} (λ s. s.key) (vector_laid 2 rest_laid) (λ key _. seq
    (λ s. s.floor) (number_laid 8) (λ floor _. seq (λ s. s.held) boolean_laid (λ held _. seq
    (λ s. s.expiry) (number_laid 8) (λ expiry _.
    done_laid (record { key = key; floor = floor; held = held; expiry = expiry }) (
      refl,
      (
        refl,
        (refl, (refl, tt)),
      ),
    ) (λ s k. same_slot s _ k.1.1.1.0 k.1.1.0 k.1.0 k.0))))))
    (λ s k f. (f.0.0, record { key = f.0.1; floor = f.1.0; expiry = f.1.1.1.0 }))
    (λ s k f. ((f.0, f.1.key), (f.1.floor, (tt, (f.1.expiry, tt))))))

-- it has a byte at least
pub slot_note-some : (s : SlotNote) → 0 < length (slot_note s)
unfolding slot_note
slot_note-some s = omega (arith, length-number 2 (length s.key), length-append {A = ℕ})

same_kind : (a b : KindNote) → a.kind ≡ b.kind → a.generation ≡ b.generation → a.append_floor
    ≡ b.append_floor → a.slots ≡ b.slots → a ≡ b
same_kind a b e f g h = λ i. record {
  kind = e i;
  generation = f i;
  append_floor = g i;
  slots = h i;
}

abbrev pub KindFits : KindNote → Type 0
KindFits k = IsSpelledKindNote k × IsKindNoteInRange k

pub kind_note_laid : IsLayout KindFits kind_note kind_note_at
unfolding kind_note kind_note_at
kind_note_laid = laid (λ n.
    fits_as _ (seq {n = n} {Known = Always} (λ k. k.kind) (number_laid 4) (λ kind _. seq (λ k.
    k.generation) turn_laid (λ generation _. seq (λ k. k.append_floor) (number_laid 8)
    (λ floor _.
    seq (λ k. k.slots) (vector_of 4 slot_note_laid (λ s _. slot_note-some s)) (λ slots _.
    done_laid (record { kind = kind; generation = generation; append_floor = floor; slots = slots })
    (refl, (refl, (refl, (refl, tt)))) (λ s k. same_kind s _ k.1.1.1.0 k.1.1.0 k.1.0 k.0))))))
    (λ s k f. (
      record { generation = f.1.0; each = f.1.1.1.0.1.0; fits = f.1.1.1.0.0 },
      record { kind = f.0; append_floor = f.1.1.0; slots = f.1.1.1.0.1.1 },
    ))
    (λ s k f. (
      f.1.kind,
      (
        f.0.generation,
        (
          f.1.append_floor,
          (
            (f.0.fits, (f.0.each, f.1.slots)),
            tt,
          ),
        ),
      ),
    )))

-- it has a byte at least
pub kind_note-some : (k : KindNote) → 0 < length (kind_note k)
unfolding kind_note
kind_note-some k = omega (arith, length-number 4 k.kind, length-append {A = ℕ})
