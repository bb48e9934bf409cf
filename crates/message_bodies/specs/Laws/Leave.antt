-- What a leaving peer tells is read as it is spelled.
use Rattle.std.proofs.Common.{◌≡◌, ℕ, ◌^◌, ◌<◌, ◌≤◌, List, ◌++◌, length, All, refl, length-append, lit<, arith}
use Rattle.reload_ids.specs.declared.NodeId.{NodeId}
use Rattle.wire_core.specs.Layout.{IsLayout}
use Rattle.wire_core.specs.Spelling.{number, vector}
use Rattle.wire_core.specs.Ids.{IsNodeIdInRange, node_id_at}
use Rattle.wire_core.specs.Reading.{vector_at, list_at}
use Rattle.wire_core.specs.Laws.Bytes.{length-number}
use Rattle.wire_core.specs.Laws.Ids.{node_id_laid, node_id-some}
use Rattle.wire_core.specs.Laws.Steps.{Anything, Always, Lays, laid, seq, fits_as, spelled_as, placed}
use Rattle.wire_core.specs.Laws.Forms.{Takes, Again, HasCode, takes_made, takes_code, takes_none, again_made, forms_laid}
use Rattle.wire_core.specs.Laws.Words.{number_laid}
use Rattle.wire_core.specs.Laws.Lists.{vector_of}
use Rattle.message_bodies.specs.declared.leave.ChordLeave.{ChordLeave}
use Rattle.message_bodies.specs.declared.leave.ChordLeave.TheVariants.{FromSucc, FromPred}
use Rattle.message_bodies.specs.NodeIds.{node_ids}
use Rattle.message_bodies.specs.Leave.{chord_leave, IsSpelledChordLeave, IsChordLeaveInRange, from_succ_at, from_pred_at, chord_leave_of, chord_leave_at}

-- ---- vectors of Node-IDs

abbrev pub NodesFit : List NodeId → Type 0
NodesFit nodes = (length (node_ids nodes) < 256 ^ 2) × All IsNodeIdInRange nodes

pub nodes_laid : {n : ℕ} → Lays n Anything Always NodesFit (λ nodes. vector 2 (node_ids nodes))
    (vector_at 2 (list_at node_id_at))
nodes_laid {n} = fits_as _ (vector_of {n = n} 2 node_id_laid (λ x _. node_id-some x)) (λ nodes k f.
    (f.0, f.1.1)) (λ nodes k f. (f.0, (λ i x at. tt, f.1)))

-- ---- what is told

-- the first byte
code_of : ChordLeave → ℕ
code_of x = elim x [ FromSucc nodes ↦ 1 | FromPred nodes ↦ 2 ]

-- what is behind it
body : ChordLeave → List ℕ
body x = elim x [
  | FromSucc nodes ↦ vector 2 (node_ids nodes)
  | FromPred nodes ↦ vector 2
      (node_ids nodes)
]

abbrev pub LeaveFits : ChordLeave → Type 0
LeaveFits x = IsSpelledChordLeave x × IsChordLeaveInRange x

body-code : (x : ChordLeave) → number 1 (code_of x) ++ body x ≡ chord_leave x
unfolding chord_leave code_of body
body-code (FromSucc nodes) = refl
body-code (FromPred nodes) = refl

code_of-lt : (x : ChordLeave) → code_of x < 256
unfolding code_of
code_of-lt (FromSucc nodes) = lit< tt
code_of-lt (FromPred nodes) = lit< tt

module _ {n : ℕ} where
  -- what is read under each code
  forms_take : (place : ℕ) → place ≤ n → (code : ℕ) → code < 256
      → Takes n (HasCode code_of code) LeaveFits body (chord_leave_of place code)
  unfolding chord_leave_of from_succ_at from_pred_at code_of body
  forms_take place le code lt =
      takes_code 1 (takes_made FromSucc nodes_laid (λ nodes f. ((refl, tt), f, refl))) (
      takes_code 2 (takes_made FromPred nodes_laid (λ nodes f. ((refl, tt), f, refl))) (
      takes_none le))

  -- and what is spelled is read under its code
  forms_again : (place : ℕ) (x : ChordLeave) → LeaveFits x
      → Again n Anything x (body x) (chord_leave_of place (code_of x))
  unfolding chord_leave_of from_succ_at from_pred_at code_of body
  forms_again place (FromSucc nodes) f = again_made FromSucc nodes_laid nodes f
  forms_again place (FromPred nodes) f = again_made FromPred nodes_laid nodes f

  chord_leave_lays : Lays n Anything Always LeaveFits chord_leave chord_leave_at
  unfolding chord_leave_at
  chord_leave_lays =
      let law = placed (λ place le. seq {Known = Always} code_of (number_laid 1)
      (λ code lt. forms_laid (forms_take place le) (forms_again place) code lt)) in
      spelled_as chord_leave (fits_as LeaveFits law (λ x k f. f.1) (λ x k f. (code_of-lt x, f)))
      (λ x k f. body-code x)

pub chord_leave_laid : IsLayout LeaveFits chord_leave chord_leave_at
chord_leave_laid = laid (λ n. chord_leave_lays {n = n})

-- it has a byte at least
pub chord_leave-some : (x : ChordLeave) → 0 < length (chord_leave x)
chord_leave-some x = rw (← body-code x) (omega (
  arith,
  length-number 1 (code_of x),
  length-append
      (number 1 (code_of x)) (body x),
))
