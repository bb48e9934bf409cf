-- The answer to a Ping: an id and a time (RFC 6940, 6.5.3).
use Rattle.std.specs.Prelude.{ℕ, ◌<◌, ◌^◌, List, [], ◌∷◌}
use Rattle.wire_core.specs.Spelling.{number, joined}
use Rattle.wire_core.specs.Reading.{Reader, ◌>>=◌, done, number_at}
use Rattle.message_bodies.specs.declared.body.Body.{Body}
use Rattle.message_bodies.specs.declared.body.Body.TheVariants.{PingAns}

-- the body of a Ping's answer
unfoldable pub ping_ans : ℕ → ℕ → List ℕ
ping_ans id time = joined (number 8 id ∷ number 8 time ∷ [])

-- the same
unfoldable pub ping_ans_at : Reader Body
ping_ans_at = do
  id ← number_at 8
  time ← number_at 8
  done (PingAns id time)
