-- Whom an Update tells of is read as it is spelled.
use Rattle.std.proofs.Common.{◌≡◌, ℕ, ◌^◌, ◌<◌, ◌≤◌, List, [], ◌∷◌, ◌++◌, length, refl, length-append, lit<, arith}
use Rattle.wire_core.specs.Layout.{IsLayout}
use Rattle.wire_core.specs.Spelling.{number, vector, joined}
use Rattle.wire_core.specs.Laws.Bytes.{length-number}
use Rattle.wire_core.specs.Laws.Steps.{Anything, Always, Lays, laid, seq, fits_as, spelled_as, placed}
use Rattle.wire_core.specs.Laws.Forms.{Takes, Again, HasCode, takes_code, takes_none, forms_laid, done_takes, done_again, two_take, two_again, three_take, three_again}
use Rattle.wire_core.specs.Laws.Words.{number_laid}
use Rattle.message_bodies.specs.declared.update.ChordUpdate.{ChordUpdate}
use Rattle.message_bodies.specs.declared.update.ChordUpdate.TheVariants.{PeerReady, Neighbors, Full}
use Rattle.message_bodies.specs.NodeIds.{node_ids}
use Rattle.message_bodies.specs.Update.{chord_update, IsSpelledChordUpdate, IsChordUpdateInRange, neighbors_at, full_at, chord_update_of, chord_update_at}
use Rattle.message_bodies.specs.Laws.Leave.{nodes_laid}

-- the first byte
code_of : ChordUpdate → ℕ
code_of x = elim x [ PeerReady ↦ 1 | Neighbors a b ↦ 2 | Full a b c ↦ 3 ]

-- what is behind it
body : ChordUpdate → List ℕ
body x = elim x [
  | PeerReady ↦ []
  | Neighbors a b ↦ joined (vector 2 (node_ids a) ∷ vector 2 (node_ids b) ∷ [])
  | Full a b c ↦ joined (vector 2 (node_ids a) ∷ vector 2 (node_ids b) ∷ vector 2
      (node_ids c) ∷ [])
]

abbrev pub UpdateFits : ChordUpdate → Type 0
UpdateFits x = IsSpelledChordUpdate x × IsChordUpdateInRange x

body-code : (x : ChordUpdate) → number 1 (code_of x) ++ body x ≡ chord_update x
unfolding chord_update code_of body
body-code PeerReady = refl
body-code (Neighbors a b) = refl
body-code (Full a b c) = refl

code_of-lt : (x : ChordUpdate) → code_of x < 256
unfolding code_of
code_of-lt PeerReady = lit< tt
code_of-lt (Neighbors a b) = lit< tt
code_of-lt (Full a b c) = lit< tt

module _ {n : ℕ} where
  -- what is read under each code
  forms_take : (place : ℕ) → place ≤ n → (code : ℕ) → code < 256
      → Takes n (HasCode code_of code) UpdateFits body (chord_update_of place code)
  unfolding chord_update_of neighbors_at full_at code_of body
  forms_take place le code lt =
      takes_code 1 (done_takes PeerReady (refl, tt) (tt, tt) refl) (
      takes_code 2 (two_take nodes_laid nodes_laid Neighbors (λ a b f g. (
        (refl, tt),
        (
          (f.0, g.0),
          (f.1, g.1),
        ),
        refl,
      ))) (
      takes_code 3 (three_take nodes_laid nodes_laid nodes_laid Full
      (λ a b c f g h. ((refl, tt), ((f.0, g.0, h.0), (f.1, g.1, h.1)), refl))) (
      takes_none le)))

  -- and what is spelled is read under its code
  forms_again : (place : ℕ) (x : ChordUpdate) → UpdateFits x
      → Again n Anything x (body x) (chord_update_of place (code_of x))
  unfolding chord_update_of neighbors_at full_at code_of body
  forms_again place PeerReady f = done_again PeerReady
  forms_again place (Neighbors a b) f = two_again nodes_laid nodes_laid Neighbors a b (f.0.0, f.1.0)
      (f.0.1, f.1.1)
  forms_again place (Full a b c) f =
      three_again nodes_laid nodes_laid nodes_laid Full a b c (f.0.0, f.1.0) (f.0.1, f.1.1) (
        f.0.2,
        f.1.2,
      )

  chord_update_lays : Lays n Anything Always UpdateFits chord_update chord_update_at
  unfolding chord_update_at
  chord_update_lays =
      let law = placed (λ place le. seq {Known = Always} code_of (number_laid 1)
      (λ code lt. forms_laid (forms_take place le) (forms_again place) code lt)) in
      spelled_as chord_update (fits_as UpdateFits law (λ x k f. f.1) (λ x k f. (code_of-lt x, f)))
      (λ x k f. body-code x)

pub chord_update_laid : IsLayout UpdateFits chord_update chord_update_at
chord_update_laid = laid (λ n. chord_update_lays {n = n})

-- it has a byte at least
pub chord_update-some : (x : ChordUpdate) → 0 < length (chord_update x)
chord_update-some x = rw (← body-code x) (omega (
  arith,
  length-number 1 (code_of x),
  length-append
      (number 1 (code_of x)) (body x),
))
