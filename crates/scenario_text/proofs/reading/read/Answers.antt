use Rattle.std.proofs.Common.{refl, sym, ◌∙◌, subst, arith}
use Rattle.scenario_text.specs.Reading.{reading}
use Rattle.scenario_text.specs.Reads.{Reads}
use Rattle.scenario_text.proofs.ReadingLines.{reading_on-rest, shorter, stopped, went_on, few_then}
use Rattle.scenario_text.proofs.reading.read.Goals as goal

pub lines-init : goal.lines-init
unfolding reading
lines-init c = (refl, tt, omega arith, omega arith)

pub returns-in-None-clause-reads : goal.returns-in-None-clause-reads
returns-in-None-clause-reads c =
    stopped c.lines.so_far c.lines.n c.lines.rest.now c.in-Some.line.now c.in-Some.after.now c.in_ok-line_at.field-0 (reading c.args.text.now) (sym c.in-Some.ensures) c.lines.invariant.0 c.in_ok-line_at.ensures.value c.in-None.is

pub lines-smaller : goal.lines-smaller
lines-smaller c = shorter c.lines.rest.now c.in-Some.line.now c.in-Some.after.now (sym c.in-Some.ensures)

pub lines-preserved : goal.lines-preserved
lines-preserved c =
    let less = shorter c.lines.rest.now c.in-Some.line.now c.in-Some.after.now (sym c.in-Some.ensures) in (
      went_on c.lines.so_far c.in-Some-2.next c.lines.n c.lines.rest.now c.in-Some.line.now c.in-Some.after.now c.in_ok-line_at.field-0 (reading c.args.text.now) (sym c.in-Some.ensures) c.lines.invariant.0 c.in_ok-line_at.ensures.value c.in-Some-2.is,
      few_then c.lines.n c.in_ok-line_at.field-0 c.in-Some-2.next c.in-Some-2.is c.in_ok-line_at.ensures.few,
      omega arith,
      omega arith,
    )

pub returns-clause-reads : goal.returns-clause-reads
returns-clause-reads c = subst (λ r. Reads c.finished.result r) (sym (reading_on-rest c.lines.so_far c.lines.n c.lines.rest.now (sym c.in_default.ensures)) ∙ c.lines.invariant.0) c.finished.ensures.reads
