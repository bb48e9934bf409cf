use Rattle.std.proofs.Common.{◌≡◌, ◌-◌}
use Rattle.wire_core.specs.Reading.{entries_at, list_at}
use Rattle.wire_core.proofs.Entries.{with_front}
use Rattle.wire_core.proofs.list.take_list_by.Given as goal

abbrev pub invariant-entries : goal.invariant-entries
invariant-entries g l = with_front l.list (entries_at (g.D.Decoder.reading l.fn.decoder) (l.end - l.counter) l.from) ≡ list_at (g.D.Decoder.reading l.fn.decoder) l.fn.from
