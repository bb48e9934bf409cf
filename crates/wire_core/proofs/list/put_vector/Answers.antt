use Rattle.std.proofs.lemmas.Result.{on_ok_weaker}
use Rattle.std.specs.List.{flat_map}
use Rattle.wire_core.proofs.Puts.{length_then}
use Rattle.wire_core.proofs.list.put_vector.Goals as goal

pub returns-clause-ok : goal.returns-clause-ok
returns-clause-ok g c =
    on_ok_weaker c.put_list.result (length_then c.args.width c.list_len.result c.args.out.now c.put_length.new.out c.put_list.new.out
    (flat_map g.T.Spell.spelling c.args.list.now) c.requires.high c.requires.fits c.list_len.ensures c.in_ok-put_length.ensures.ok) c.put_list.ensures.ok
