-- A forwarding option is read as it is spelled.
use Rattle.std.proofs.Common.{◌≡◌, ℕ, ◌<◌, length, refl, length-append, arith}
use Rattle.wire_core.specs.Laws.Bytes.{length-number}
use Rattle.wire_core.specs.Layout.{IsLayout}
use Rattle.wire_core.specs.Laws.Steps.{Anything, Always, Lays, laid, seq, done_laid, fits_as}
use Rattle.wire_core.specs.Laws.Words.{number_laid, vector_laid, rest_laid}
use Rattle.forwarding_header.specs.declared.forwarding_option.ForwardingOption.{ForwardingOption}
use Rattle.forwarding_header.specs.Options.{option, option_at, IsSpelledOption, IsOptionInRange}

same_option : (o p : ForwardingOption) → o.code ≡ p.code → o.flags ≡ p.flags → o.value ≡ p.value
    → o ≡ p
same_option o p e f g = λ i. record { code = e i; flags = f i; value = g i }

-- it has a byte at least
pub option-some : (o : ForwardingOption) → 0 < length (option o)
unfolding option
option-some o = omega (arith, length-number 1 o.code, length-append {A = ℕ})

module _ {n : ℕ} where
  option_lays : Lays n Anything Always (λ o. IsSpelledOption o × IsOptionInRange o) option option_at
  unfolding option option_at
  option_lays =
      fits_as _ (seq {Known = Always} (λ o. o.code) (number_laid 1)
      (λ code _. seq (λ o. o.flags) (number_laid 1)
      (λ flags _. seq (λ o. o.value) (vector_laid 2 rest_laid) (λ value _.
      done_laid (record { code = code; flags = flags; value = value }) (refl, (refl, (refl, tt)))
      (λ o k. same_option o _ k.1.1.0 k.1.0 k.0)))))
      (λ o k f. (f.1.1.0.0, record { code = f.0; flags = f.1.0; value = f.1.1.0.1 }))
      (λ o k f. (f.1.code, (f.1.flags, ((f.0, f.1.value), tt))))

pub option_laid : IsLayout (λ o. IsSpelledOption o × IsOptionInRange o) option option_at
option_laid = laid (λ n. option_lays {n = n})
