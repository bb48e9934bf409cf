use Rattle.std.proofs.Common.{◌≡◌, ◌+◌, ◌-◌, ◌≤◌, length}
use Rattle.reload_base.specs.Outside.{Takes}
use Rattle.reload_base.proofs.reading.read_all.Given as goal

abbrev pub invariant-pieces : goal.invariant-pieces
invariant-pieces g l = record {
  short : length l.text ≤ l.most;
  taken : Takes (g.S.Source.view l.fn.source) (g.S.Source.view l.source) l.text;
  buffer : length l.buffer ≡ 4096;
}

abbrev pub decreases-pieces : goal.decreases-pieces
decreases-pieces g l = (l.most + 1) - length l.text
