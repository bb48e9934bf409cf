-- What a message says beside its body (RFC 6940, 6.3.3).
use Rattle.std.specs.Prelude.{ℕ, ◌<◌, ◌^◌, List, [], ◌∷◌, length}
use Rattle.std.specs.List.{flat_map}
use Rattle.wire_core.specs.Spelling.{AreBytes, number, boolean, vector, joined}
use Rattle.wire_core.specs.Reading.{Reader, ◌>>=◌, done, rest_at, number_at, boolean_at, vector_at}
use Rattle.message_bodies.specs.declared.extension.Extension.{Extension}

-- an extension's bytes
unfoldable pub extension : Extension → List ℕ
extension e = joined (number 2 e.code ∷ boolean e.critical ∷ vector 4 e.contents ∷ [])

-- the extensions of a list, one after the other
abbrev pub extensions : List Extension → List ℕ
extensions es = flat_map extension es

-- An extension has fewer than 2^32 bytes.
abbrev pub IsSpelledExtension : Extension → Type 0
IsSpelledExtension e = length e.contents < 2 ^ 32

-- each number fits its field
pub record IsExtensionInRange (e : Extension) : Type 0 where
  pub code : e.code < 2 ^ 16
  pub contents : AreBytes e.contents

-- an extension, whatever its code
unfoldable pub extension_at : Reader Extension
extension_at = do
  code ← number_at 2
  critical ← boolean_at
  contents ← vector_at 4 rest_at
  done (record { code = code; critical = critical; contents = contents })
