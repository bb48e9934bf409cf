-- Ping: is anybody there (RFC 6940, 6.5.3; this profile sends no padding).
use Rattle.std.specs.Prelude.{ℕ, List}
use Rattle.wire_core.specs.Spelling.{vector}
use Rattle.wire_core.specs.Reading.{Reader, ◌>>=◌, done, rest_at, vector_at}
use Rattle.message_bodies.specs.declared.body.Body.{Body}
use Rattle.message_bodies.specs.declared.body.Body.TheVariants.{Ping}

-- a Ping's body
unfoldable pub ping : List ℕ → List ℕ
ping padding = vector 2 padding

-- the same
unfoldable pub ping_at : Reader Body
ping_at = do
  padding ← vector_at 2 rest_at
  done (Ping padding)
