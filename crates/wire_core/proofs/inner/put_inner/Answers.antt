use Rattle.std.proofs.lemmas.Result.{on_ok_weaker}
use Rattle.wire_core.proofs.Puts.{length_then}
use Rattle.wire_core.proofs.inner.put_inner.Goals as goal

pub returns-clause-ok : goal.returns-clause-ok
returns-clause-ok g c =
    on_ok_weaker c.put.result (length_then c.args.width c.len.result c.args.out.now c.put_length.new.out c.put.new.out
    (g.T.Spell.spelling c.args.value.now) c.requires.high c.requires.fits c.len.ensures c.in_ok-put_length.ensures.ok) c.put.ensures.ok
