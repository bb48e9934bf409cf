-- An error: its code, and what is said of it (RFC 6940, 6.3.3.1).
use Rattle.std.specs.Prelude.{ℕ, ◌<◌, ◌^◌, List, [], ◌∷◌, length}
use Rattle.wire_core.specs.Spelling.{AreBytes, number, vector, joined}
use Rattle.wire_core.specs.Reading.{Reader, ◌>>=◌, done, rest_at, number_at, vector_at}
use Rattle.message_bodies.specs.declared.body.Body.{Body}
use Rattle.message_bodies.specs.declared.body.Body.TheVariants.{Error}

-- an error's body
unfoldable pub error : ℕ → List ℕ → List ℕ
error code info = joined (number 2 code ∷ vector 2 info ∷ [])

-- each number fits its field
pub record IsErrorInRange (n : ℕ) (bytes : List ℕ) : Type 0 where
  pub code : n < 2 ^ 16
  pub info : AreBytes bytes

-- an error's body
unfoldable pub error_at : Reader Body
error_at = do
  code ← number_at 2
  info ← vector_at 2 rest_at
  done (Error code info)
