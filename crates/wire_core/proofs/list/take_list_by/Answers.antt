use Rattle.std.proofs.lemmas.Result.{err_from_is_err_and}
use Rattle.std.proofs.Common.{sym}
use Rattle.wire_core.specs.Reading.{list_at}
use Rattle.wire_core.proofs.Entries.{goes_on, stops, at_end, at_count}
use Rattle.wire_core.proofs.list.take_list_by.Goals as goal
use Rattle.wire_core.proofs.list.take_list_by.Goals.{else-entries-test, then-entries-test+then-is_empty}

pub returns-in_err-take : goal.returns-in_err-take
returns-in_err-take g c =
    let p = err_from_is_err_and c.from_residual.result c.from_residual.ensures.1 in
    rw (p.1, p.2) (stops (g.D.Decoder.reading c.args.decoder.now) c.in_err-take.field-0.0 c.entries.list c.len-end.result c.entries.counter c.entries.from c.take.new.from (list_at (g.D.Decoder.reading c.args.decoder.now) c.args.from.now) c.entries-test.true (sym c.if-is_empty.ensures) c.in_err-take.ensures c.entries.invariant)

pub entries-preserved : goal.entries-preserved
entries-preserved g c =
    rw c.in_ok-push.ensures.ok (goes_on (g.D.Decoder.reading c.args.decoder.now) c.entries.list c.len-end.result c.entries.counter c.entries.from c.in_ok-take.field-0 c.take.new.from (list_at (g.D.Decoder.reading c.args.decoder.now) c.args.from.now) c.entries-test.true (sym c.if-is_empty.ensures) c.in_ok-take.ensures c.entries.invariant)

pub returns : goal.returns
returns g c =
    let total = list_at (g.D.Decoder.reading c.args.decoder.now) c.args.from.now in
    elim c.entries-test.branch [
      | else-entries-test w ↦ at_count (g.D.Decoder.reading c.args.decoder.now) c.entries.list c.len-end.result c.entries.counter c.entries.from total w.entries-test.false c.entries.invariant
      | then-entries-test+then-is_empty w ↦ at_end (g.D.Decoder.reading c.args.decoder.now) c.entries.list _ c.entries.from total (sym w.if-is_empty.ensures) c.entries.invariant
    ]
