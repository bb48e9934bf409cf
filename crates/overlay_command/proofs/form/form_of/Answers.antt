use Rattle.std.proofs.Common.{codes, arith}
use Rattle.overlay_command.proofs.Tops.{one_word}
use Rattle.overlay_command.proofs.form.form_of.Goals as goal

pub returns-in-len1-clause-some : goal.returns-in-len1-clause-some
returns-in-len1-clause-some c =
    one_word c.args.words.now c.word-item.result c.eq.result c.as_str.result.now (codes "run") (omega (arith, c.in-len1.len_at_least, c.in-len1.len_below)) c.word-item.is c.eq.ensures c.as_str.ensures.value c.if-eq.true

pub returns-in-len1-2-clause-some : goal.returns-in-len1-2-clause-some
returns-in-len1-2-clause-some c =
    one_word c.args.words.now c.word-item-then-words-lt2.result c.eq-then-words-lt2.result c.as_str-then-words-lt2.result.now (codes "trace") (omega (arith, c.in-len1.len_at_least, c.in-len1.len_below)) c.word-item-then-words-lt2.is
    c.eq-then-words-lt2.ensures c.as_str-then-words-lt2.ensures.value c.if-eq-2.true

pub returns-in-len1-3-clause-some : goal.returns-in-len1-3-clause-some
returns-in-len1-3-clause-some c =
    one_word c.args.words.now c.word-item-then-words-lt2-2.result c.eq-then-words-lt2-2.result c.as_str-then-words-lt2-2.result.now (codes "show") (omega (arith, c.in-len1.len_at_least, c.in-len1.len_below)) c.word-item-then-words-lt2-2.is
    c.eq-then-words-lt2-2.ensures c.as_str-then-words-lt2-2.ensures.value c.if-eq-3.true
