-- The contents of a message are read as they are spelled.
use Rattle.std.proofs.Common.{◌≡◌, ℕ, ◌^◌, ◌<◌, List, [], ◌∷◌, ◌++◌, length, All, refl, length-append, lit<, arith}
use Rattle.wire_core.specs.Layout.{IsLayout}
use Rattle.wire_core.specs.Spelling.{vector, joined}
use Rattle.wire_core.specs.Reading.{Reader, and_then, done, vector_at, list_at}
use Rattle.wire_core.specs.Laws.Bytes.{length-number}
use Rattle.wire_core.specs.Laws.Lists.{vector_of}
use Rattle.wire_core.specs.Laws.Steps.{Anything, Nothing, Always, Lays, laid, seq, done_laid, laid_as, fits_as}
use Rattle.wire_core.specs.Laws.Words.{number_laid, vector_laid}
use Rattle.data_models.specs.declared.config.Config.{Config}
use Rattle.message_bodies.specs.declared.body.Body.{Body}
use Rattle.message_bodies.specs.declared.body.Body.TheVariants as bodies
use Rattle.message_bodies.specs.declared.contents.Contents.{Contents}
use Rattle.message_bodies.specs.Extensions.{extensions, extension_at, IsSpelledExtension, IsExtensionInRange}
use Rattle.message_bodies.specs.Bodies.{code_of, bytes_of, body_at, IsSpelledBody, IsBodyInRange, IsBodyOf}
use Rattle.message_bodies.specs.Contents.{contents, contents_at, IsSpelledContents, IsContentsInRange, IsContentsOf}
use Rattle.message_bodies.specs.Laws.Codes.{BodyFits}
use Rattle.message_bodies.specs.Laws.Bodies.{body_lays}
use Rattle.message_bodies.specs.Laws.Extensions.{extension_laid, extension-some}

-- a message code has two bytes
code_of-lt : (config : Config) (b : Body) → BodyFits config b → code_of b < 256 ^ 2
unfolding code_of IsBodyInRange
code_of-lt config (bodies.Other code bytes) f = f.1.0.0
code_of-lt config b f = lit< tt

same_contents : (a b : Contents) → a.body ≡ b.body → a.extensions ≡ b.extensions → a ≡ b
same_contents a b e f = λ i. record { body = e i; extensions = f i }

-- what fits behind the code
abbrev RestFits : Config → Contents → Type 0
RestFits config c = ((length (bytes_of c.body) < 256 ^ 4) × BodyFits config c.body)
    × (((length (extensions c.extensions) < 256 ^ 4) × (All IsSpelledExtension c.extensions
    × All IsExtensionInRange c.extensions)) × Unit {0})

-- what is behind the code
rest_laid : {n : ℕ} (config : Config) (code : ℕ) → code < 256 ^ 2
    → Lays n Anything (λ c. (code_of c.body ≡ code) × Unit {0}) (RestFits config)
    (λ c. joined (vector 4 (bytes_of c.body) ∷ vector 4 (extensions c.extensions) ∷ []))
    (λ p. and_then (vector_at 4 (body_at config code) p) (λ body q. and_then (vector_at 4
    (list_at extension_at) q)
    (λ es. done (record { body = body; extensions = es }))))
rest_laid {n} config code lt =
    let body_laid : Lays n Nothing Always (λ b. (code_of b ≡ code) × BodyFits config b) bytes_of
    (body_at config code) =
    laid_as Always _ (body_lays config code lt) (λ b k f. (tt, (k.0, f))) (λ b k f. (
      (f.0, tt),
      f.1,
    )) in
    fits_as (RestFits config) (seq {n = n} {Known = λ c. (code_of c.body ≡ code)
    × Unit {0}} (λ c. c.body) (vector_laid 4 body_laid)
    (λ b fits. seq (λ c. c.extensions) (vector_of 4 extension_laid (λ e _. extension-some e))
    (λ es _.
    done_laid (record { body = b; extensions = es }) (refl, (refl, (fits.1.0, tt))) (λ c k.
    same_contents c _ k.1.0 k.0))))
    (λ c k f. ((f.0.0, f.0.1.1), f.1)) (λ c k f. ((f.0.0, (k.0, f.0.1)), f.1))

pub contents_laid : (config : Config) → IsLayout (λ c. IsSpelledContents c × (IsContentsInRange c
    × IsContentsOf config c)) contents (contents_at config)
unfolding contents contents_at
contents_laid config = laid (λ n.
    fits_as _ (seq {n = n} {Known = Always} (λ c. code_of c.body) (number_laid 2) (λ code lt.
    rest_laid config code lt))
    (λ c k f. (
      record {
        body = f.1.0.1.0;
        each = f.1.1.0.1.0;
        body_fits = f.1.0.0;
        fits = f.1.1.0.0;
      },
      (record { body = f.1.0.1.1.0; extensions = f.1.1.0.1.1 }, f.1.0.1.1.1),
    ))
    (λ c k f. (
      code_of-lt config c.body (f.0.body, (f.1.0.body, f.1.1)),
      (
        (f.0.body_fits, (f.0.body, (f.1.0.body, f.1.1))),
        (
          (
            f.0.fits,
            (
              f.0.each,
              f.1.0.extensions,
            ),
          ),
          tt,
        ),
      ),
    )))

-- they have a byte at least
pub contents-some : (c : Contents) → 0 < length (contents c)
unfolding contents
contents-some c = omega (arith, length-number 2 (code_of c.body), length-append {A = ℕ})
