-- The answer to a Join (RFC 6940, 6.4.2.1; this profile sends no data in it).
use Rattle.std.specs.Prelude.{ℕ, List}
use Rattle.wire_core.specs.Spelling.{vector}
use Rattle.wire_core.specs.Reading.{Reader, ◌>>=◌, done, rest_at, vector_at}
use Rattle.message_bodies.specs.declared.body.Body.{Body}
use Rattle.message_bodies.specs.declared.body.Body.TheVariants.{JoinAns}

-- the body of a Join's answer
unfoldable pub join_ans : List ℕ → List ℕ
join_ans bytes = vector 2 bytes

-- the same
unfoldable pub join_ans_at : Reader Body
join_ans_at = do
  bytes ← vector_at 2 rest_at
  done (JoinAns bytes)
