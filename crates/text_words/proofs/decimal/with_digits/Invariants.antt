use Rattle.std.proofs.Common.{◌≡◌, drop}
use Rattle.text_words.specs.Decimal.{with_digits}
use Rattle.text_words.proofs.decimal.with_digits.Given as goal

abbrev pub invariant-loop-digit : goal.invariant-loop-digit
invariant-loop-digit l = with_digits l.most l.n (drop l.digit-index l.digits) ≡ with_digits l.most 0 l.digits
