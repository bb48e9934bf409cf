-- The bodies of PathTrack and of its answer are read as they are spelled.
use Rattle.std.proofs.Common.{◌≡◌, ℕ, ◌^◌, ◌<◌, ◌≤◌, List, ◌++◌, length, refl, length-append, lit<, arith}
use Rattle.reload_ids.specs.declared.TheConstants.{ID_LENGTH}
use Rattle.wire_core.specs.declared.limits.TheConstants.{RESOURCE_ID_LENGTH}
use Rattle.wire_core.specs.Layout.{IsLayout}
use Rattle.wire_core.specs.Spelling.{number, vector}
use Rattle.wire_core.specs.Ids.{node_id, resource_id, IsNodeIdInRange, IsResourceIdInRange, node_id_at, resource_id_at}
use Rattle.wire_core.specs.Reading.{sized_at}
use Rattle.wire_core.specs.Laws.Bytes.{length-number}
use Rattle.wire_core.specs.Laws.Ids.{node_id_laid, resource_id_laid}
use Rattle.wire_core.specs.Laws.Steps.{Anything, Always, Lays, laid, known, seq, seq_fixed, done_laid, fits_as, spelled_as, placed}
use Rattle.wire_core.specs.Laws.Forms.{Takes, Again, HasCode, takes_made, takes_code, takes_none, again_made, forms_laid}
use Rattle.wire_core.specs.Laws.Words.{number_laid, exact_laid}
use Rattle.wire_core.specs.Laws.Lists.{sized_of}
use Rattle.path_diagnostics.specs.declared.track.Target.{Target}
use Rattle.path_diagnostics.specs.declared.track.Target.TheVariants.{Node, Resource}
use Rattle.path_diagnostics.specs.declared.track.TrackRequest.{TrackRequest}
use Rattle.path_diagnostics.specs.declared.track.TrackAnswer.{TrackAnswer}
use Rattle.path_diagnostics.specs.Tracks.{target, IsTargetInRange, track_request, track_answer, IsSpelledTrackAnswer, IsTrackRequestInRange, IsTrackAnswerInRange, target_node_at, target_resource_at, target_of, target_at, track_request_at, track_answer_at}
use Rattle.path_diagnostics.specs.Laws.Diags.{diag_request_laid, diag_response_laid}

-- ---- targets

-- the first byte
code_of : Target → ℕ
code_of t = elim t [ Node node ↦ 1 | Resource resource ↦ 2 ]

-- what is behind it
body : Target → List ℕ
body t = elim t [
  | Node node ↦ vector 1 (node_id node)
  | Resource resource ↦ vector 1
      (resource_id resource)
]

body-code : (t : Target) → number 1 (code_of t) ++ body t ≡ target t
unfolding target code_of body
body-code (Node node) = refl
body-code (Resource resource) = refl

code_of-lt : (t : Target) → code_of t < 256
unfolding code_of
code_of-lt (Node node) = lit< tt
code_of-lt (Resource resource) = lit< tt

abbrev pub TargetFits : Target → Type 0
TargetFits t = Unit {0} × IsTargetInRange t

module _ {n : ℕ} where
  -- a Node-ID, and a Resource-ID, behind the length that each has
  node_part_laid : Lays n Anything Always (λ x. Unit {0} × IsNodeIdInRange x) (λ x. vector 1
      (node_id x))
      (sized_at 1 ID_LENGTH node_id_at)
  node_part_laid = sized_of 1 ID_LENGTH (lit< tt) (λ x f. length-number 16 x.0) node_id_laid

  resource_part_laid : Lays n Anything Always (λ x. Unit {0} × IsResourceIdInRange x) (λ x. vector 1
      (resource_id x))
      (sized_at 1 RESOURCE_ID_LENGTH resource_id_at)
  resource_part_laid = sized_of 1 RESOURCE_ID_LENGTH (lit< tt)
      (λ x f. omega (
        arith,
        length-append (number 1 16) (number 16 x.0),
        length-number 1 16,
        length-number 16 x.0,
      )) resource_id_laid

  -- what is read under each code
  forms_take : (place : ℕ) → place ≤ n → (code : ℕ) → code < 256
      → Takes n (HasCode code_of code) TargetFits body (target_of place code)
  unfolding target_of target_node_at target_resource_at code_of body
  forms_take place le code lt =
      takes_code 1 (takes_made Node node_part_laid (λ x f. ((refl, tt), f, refl))) (
      takes_code 2 (takes_made Resource resource_part_laid (λ x f. ((refl, tt), f, refl))) (
      takes_none le))

  -- and what is spelled is read under its code
  forms_again : (place : ℕ) (t : Target) → TargetFits t
      → Again n Anything t (body t) (target_of place (code_of t))
  unfolding target_of target_node_at target_resource_at code_of body
  forms_again place (Node node) f = again_made Node node_part_laid node f
  forms_again place (Resource resource) f = again_made Resource resource_part_laid resource f

  target_lays : Lays n Anything Always TargetFits target target_at
  unfolding target_at
  target_lays =
      let law = placed (λ place le. seq {Known = Always} code_of (number_laid 1)
      (λ code lt. forms_laid (forms_take place le) (forms_again place) code lt)) in
      spelled_as target (fits_as TargetFits law (λ t k f. f.1) (λ t k f. (code_of-lt t, f)))
      (λ t k f. body-code t)

pub target_laid : IsLayout TargetFits target target_at
target_laid = laid (λ n. target_lays {n = n})

-- it has a byte at least
pub target-some : (t : Target) → 0 < length (target t)
target-some t = rw (← body-code t) (omega (
  arith,
  length-number 1 (code_of t),
  length-append
      (number 1 (code_of t)) (body t),
))

-- ---- the bodies

same_request : (a b : TrackRequest) → a.target ≡ b.target → a.diag ≡ b.diag → a ≡ b
same_request a b e f = λ i. record { target = e i; diag = f i }

pub track_request_laid : IsLayout (λ t. Unit {0}
    × IsTrackRequestInRange t) track_request track_request_at
unfolding track_request track_request_at
track_request_laid = laid (λ n.
    fits_as _ (seq {n = n} {Known = Always} (λ t. t.target) (known target_laid) (λ target _. seq
    (λ t. t.diag) (known diag_request_laid) (λ diag _.
    done_laid (record { target = target; diag = diag }) (refl, (refl, tt)) (λ t k.
    same_request t _ k.1.0 k.0))))
    (λ t k f. (tt, record { target = f.0.1; diag = f.1.0.1 }))
    (λ t k f. ((tt, f.1.target), ((tt, f.1.diag), tt))))

-- it has a byte at least
pub track_request-some : (t : TrackRequest) → 0 < length (track_request t)
unfolding track_request
track_request-some t = omega (arith, target-some t.target, length-append {A = ℕ})

same_answer : (a b : TrackAnswer) → a.next ≡ b.next → a.diag ≡ b.diag → a ≡ b
same_answer a b e f = λ i. record { next = e i; diag = f i }

pub track_answer_laid : IsLayout (λ t. IsSpelledTrackAnswer t
    × IsTrackAnswerInRange t) track_answer track_answer_at
unfolding track_answer track_answer_at
track_answer_laid = laid (λ n.
    fits_as _ (seq_fixed (exact_laid {n = n} 1 1 (lit< tt)) (seq {Known = Always} (λ t.
    t.next) node_part_laid (λ next _. seq (λ t. t.diag) (known diag_response_laid) (λ diag _.
    done_laid (record { next = next; diag = diag }) (refl, (refl, tt)) (λ t k.
    same_answer t _ k.1.0 k.0)))))
    (λ t k f. (f.1.0.0, record { next = f.0.1; diag = f.1.0.1 }))
    (λ t k f. ((tt, f.1.next), ((f.0, f.1.diag), tt))))

-- it has a byte at least
pub track_answer-some : (t : TrackAnswer) → 0 < length (track_answer t)
unfolding track_answer
track_answer-some t = omega (arith, length-number 1 1, length-append {A = ℕ})
