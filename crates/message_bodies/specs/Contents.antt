-- The contents of a message: its code, its body and its extensions (RFC 6940, 6.3.3).
use Rattle.std.specs.Prelude.{ℕ, ◌<◌, ◌^◌, List, [], ◌∷◌, length, All}
use Rattle.wire_core.specs.Spelling.{number, vector, joined}
use Rattle.wire_core.specs.Reading.{Reader, ◌>>=◌, done, number_at, vector_at, list_at}
use Rattle.data_models.specs.declared.config.Config.{Config}
use Rattle.message_bodies.specs.declared.contents.Contents.{Contents}
use Rattle.message_bodies.specs.Extensions.{extensions, extension_at, IsSpelledExtension, IsExtensionInRange}
use Rattle.message_bodies.specs.Bodies.{code_of, bytes_of, body_at, IsSpelledBody, IsBodyInRange, IsBodyOf}

-- the bytes of contents
unfoldable pub contents : Contents → List ℕ
contents c = joined (number 2 (code_of c.body) ∷ vector 4 (bytes_of c.body) ∷ vector 4
    (extensions c.extensions) ∷ [])

-- The body and each extension have a spelling, and each vector fits its length.
pub record IsSpelledContents (c : Contents) : Type 0 where
  pub body : IsSpelledBody c.body
  pub each : All IsSpelledExtension c.extensions
  pub body_fits : length (bytes_of c.body) < 2 ^ 32
  pub fits : length (extensions c.extensions) < 2 ^ 32

-- each number fits its field
pub record IsContentsInRange (c : Contents) : Type 0 where
  pub body : IsBodyInRange c.body
  pub extensions : All IsExtensionInRange c.extensions

-- Each kind in the body is as a configuration says.
abbrev pub IsContentsOf : Config → Contents → Type 0
IsContentsOf config c = IsBodyOf config c.body

-- contents, by the models that a configuration gives its kinds
unfoldable pub contents_at : Config → Reader Contents
contents_at config = do
  code ← number_at 2
  body ← vector_at 4 (body_at config code)
  extensions ← vector_at 4 (list_at extension_at)
  done (record { body = body; extensions = extensions })
