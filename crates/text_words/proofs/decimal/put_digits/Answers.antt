use Rattle.std.proofs.Common.{◌≡◌, ◌<◌, ◌≤◌, ℕ, ◌+◌, ◌/◌, ◌%◌, List, [], ◌∷◌, ◌++◌, ◌∙◌, ap, arith, rules}
use Rattle.std.specs.Fmt.{decimal}
use Rattle.std.proofs.lemmas.Fmt.{decimal_digit, decimal_step}
use Rattle.text_words.proofs.decimal.put_digits.Goals as goal

-- a number of two digits
two_digits : (n : ℕ) → 10 ≤ n → n < 100 → decimal n ≡ (48 + n / 10) ∷ (48 + n % 10) ∷ []
two_digits n least most =
    decimal_step n least (omega (arith, most))
    ∙ ap (λ (front : List ℕ). front ++ (48 + n % 10) ∷ []) (decimal_digit (n / 10) (omega (arith, most)))

pub returns-then-n-lt100 : goal.returns-then-n-lt100
returns-then-n-lt100 c =
    let least : 10 ≤ c.args.n = c.requires in
    let most : c.args.n < 100 = c.if-n-lt100.true in
    rw (two_digits c.args.n least most) (search (rules, c.extend.ensures.ok, c.extend.ensures.err))
