use Rattle.std.proofs.Common.{sym, ◌∙◌, ap, arith}
use Rattle.link_framing.specs.Reading.{frame_at}
use Rattle.link_framing.proofs.Taken.{read_frame, read_fault}
use Rattle.link_framing.proofs.front.frame_in.Goals as goal

pub overflow_sub-result : goal.overflow_sub-result
overflow_sub-result c =
    (read_frame c.args.place c.len.result c.args.bytes.now c.in-Ok.frame _ (λ i. omega (arith, c.type_inv.bytes i)) (ap frame_at (sym c.new-from.ensures) ∙ c.in-Ok.ensures) c.len.ensures).0

pub returns-in-Ok : goal.returns-in-Ok
returns-in-Ok c =
    (read_frame c.args.place c.len.result c.args.bytes.now c.in-Ok.frame _ (λ i. omega (arith, c.type_inv.bytes i)) (ap frame_at (sym c.new-from.ensures) ∙ c.in-Ok.ensures) c.len.ensures).1

pub returns-in-Err : goal.returns-in-Err
returns-in-Err c =
    let says = read_fault c.args.place c.args.bytes.now c.in-Err.bad (λ i. omega (arith, c.type_inv.bytes i)) (ap frame_at (sym c.new-from.ensures) ∙ c.in-Err.ensures) in
    c.told.ensures c.args.place c.args.bytes.now says
