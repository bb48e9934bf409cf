-- PathTrack and its answer: their bodies and how they are read (this profile, after RFC 7851).
use Rattle.std.specs.Prelude.{ℕ, ◌==◌, List, [], ◌∷◌, ◌++◌, if◌then◌else◌}
use Rattle.reload_ids.specs.declared.TheConstants.{ID_LENGTH}
use Rattle.wire_core.specs.declared.limits.TheConstants.{RESOURCE_ID_LENGTH}
use Rattle.wire_core.specs.declared.bad.Reason.TheVariants.{BadValue}
use Rattle.wire_core.specs.Spelling.{number, vector, joined}
use Rattle.wire_core.specs.Ids.{node_id, resource_id, IsNodeIdInRange, IsResourceIdInRange, node_id_at, resource_id_at}
use Rattle.wire_core.specs.Reading.{Reader, ◌>>=◌, ◌>>◌, done, refused, place_at, number_at, exact_at, sized_at}
use Rattle.path_diagnostics.specs.declared.track.Target.{Target}
use Rattle.path_diagnostics.specs.declared.track.Target.TheVariants.{Node, Resource}
use Rattle.path_diagnostics.specs.declared.track.TrackRequest.{TrackRequest}
use Rattle.path_diagnostics.specs.declared.track.TrackAnswer.{TrackAnswer}
use Rattle.path_diagnostics.specs.DiagRequests.{diag_request, diag_request_at, IsDiagRequestInRange}
use Rattle.path_diagnostics.specs.DiagResponses.{diag_response, diag_response_at, IsSpelledDiagResponse, IsDiagResponseInRange}

-- a target's bytes, those of a Destination of type node or resource (RFC 6940, 6.3.2.2)
unfoldable pub target : Target → List ℕ
target (Node node) = number 1 1 ++ vector 1 (node_id node)
target (Resource resource) = number 1 2 ++ vector 1 (resource_id resource)

-- each number fits its field
abbrev pub IsTargetInRange : Target → Type 0
IsTargetInRange (Node node) = IsNodeIdInRange node
IsTargetInRange (Resource resource) = IsResourceIdInRange resource

-- the bytes of a PathTrack's body
unfoldable pub track_request : TrackRequest → List ℕ
track_request t = joined (target t.target ∷ diag_request t.diag ∷ [])

-- the bytes of its answer's body, which names a node
unfoldable pub track_answer : TrackAnswer → List ℕ
track_answer t = joined (number 1 1 ∷ vector 1 (node_id t.next) ∷ diag_response t.diag ∷ [])

-- what it tells has a spelling
abbrev pub IsSpelledTrackAnswer : TrackAnswer → Type 0
IsSpelledTrackAnswer t = IsSpelledDiagResponse t.diag

-- each number fits its field
pub record IsTrackRequestInRange (t : TrackRequest) : Type 0 where
  pub target : IsTargetInRange t.target
  pub diag : IsDiagRequestInRange t.diag

-- each number fits its field
pub record IsTrackAnswerInRange (t : TrackAnswer) : Type 0 where
  pub next : IsNodeIdInRange t.next
  pub diag : IsDiagResponseInRange t.diag

-- a node behind its type: a length and a Node-ID
unfoldable pub target_node_at : Reader Target
target_node_at = do
  node ← sized_at 1 ID_LENGTH node_id_at
  done (Node node)

-- a resource behind its type: a length and a Resource-ID
unfoldable pub target_resource_at : Reader Target
target_resource_at = do
  resource ← sized_at 1 RESOURCE_ID_LENGTH resource_id_at
  done (Resource resource)

-- what follows a target's first byte, which stands at a place
unfoldable pub target_of : ℕ → ℕ → Reader Target
target_of place code =
    if code == 1 then target_node_at
    else (if code == 2 then target_resource_at else refused place BadValue)

-- a target; any other first byte than that of a node or a resource is a bad value
unfoldable pub target_at : Reader Target
target_at = do
  place ← place_at
  code ← number_at 1
  target_of place code

-- a PathTrack's body
unfoldable pub track_request_at : Reader TrackRequest
track_request_at = do
  target ← target_at
  diag ← diag_request_at
  done (record { target = target; diag = diag })

-- the body of its answer; any other first byte than that of a node is a bad value
unfoldable pub track_answer_at : Reader TrackAnswer
track_answer_at = do
  exact_at 1 1
  next ← sized_at 1 ID_LENGTH node_id_at
  diag ← diag_response_at
  done (record { next = next; diag = diag })
