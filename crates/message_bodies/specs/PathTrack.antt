-- PathTrack and its answer (this profile, after RFC 7851).
use Rattle.wire_core.specs.Reading.{Reader, ◌>>=◌, done}
use Rattle.path_diagnostics.specs.Tracks.{track_request_at, track_answer_at}
use Rattle.message_bodies.specs.declared.body.Body.{Body}
use Rattle.message_bodies.specs.declared.body.Body.TheVariants.{PathTrack, PathTrackAns}

-- a PathTrack's body
unfoldable pub path_track_at : Reader Body
path_track_at = do
  t ← track_request_at
  done (PathTrack t)

-- the body of its answer
unfoldable pub path_track_ans_at : Reader Body
path_track_ans_at = do
  t ← track_answer_at
  done (PathTrackAns t)
