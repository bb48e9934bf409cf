-- Extensions are read as they are spelled.
use Rattle.std.proofs.Common.{◌≡◌, ℕ, ◌<◌, length, refl, length-append, arith}
use Rattle.wire_core.specs.Layout.{IsLayout}
use Rattle.wire_core.specs.Laws.Bytes.{length-number}
use Rattle.wire_core.specs.Laws.Steps.{Always, laid, seq, done_laid, fits_as}
use Rattle.wire_core.specs.Laws.Words.{number_laid, boolean_laid, vector_laid, rest_laid}
use Rattle.message_bodies.specs.declared.extension.Extension.{Extension}
use Rattle.message_bodies.specs.Extensions.{extension, IsSpelledExtension, IsExtensionInRange, extension_at}

same_extension : (a b : Extension) → a.code ≡ b.code → a.critical ≡ b.critical → a.contents
    ≡ b.contents → a ≡ b
same_extension a b e f g = λ i. record { code = e i; critical = f i; contents = g i }

pub extension_laid : IsLayout (λ e. IsSpelledExtension e
    × IsExtensionInRange e) extension extension_at
unfolding extension extension_at
extension_laid = laid (λ n.
    fits_as _ (seq {n = n} {Known = Always} (λ e. e.code) (number_laid 2) (λ code _. seq (λ e.
    e.critical) boolean_laid (λ critical _. seq (λ e. e.contents) (vector_laid 4 rest_laid)
    (λ contents _.
    done_laid (record { code = code; critical = critical; contents = contents }) (
      refl,
      (
        refl,
        (refl, tt),
      ),
    ) (λ e k. same_extension e _ k.1.1.0 k.1.0 k.0)))))
    (λ e k f. (f.1.1.0.0, record { code = f.0; contents = f.1.1.0.1 }))
    (λ e k f. (f.1.code, (tt, ((f.0, f.1.contents), tt)))))

-- it has a byte at least
pub extension-some : (e : Extension) → 0 < length (extension e)
unfolding extension
extension-some e = omega (arith, length-number 2 e.code, length-append {A = ℕ})
