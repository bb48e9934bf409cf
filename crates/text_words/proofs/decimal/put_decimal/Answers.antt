use Rattle.std.proofs.Common.{◌<◌, rules}
use Rattle.std.proofs.lemmas.Fmt.{decimal_digit}
use Rattle.text_words.proofs.decimal.put_decimal.Goals as goal

pub returns-then-n-lt10 : goal.returns-then-n-lt10
returns-then-n-lt10 c =
    let digit : c.args.n < 10 = c.if-n-lt10.true in
    rw (decimal_digit c.args.n digit) (search (rules, c.push.ensures.ok, c.push.ensures.err))
