use Rattle.std.proofs.lemmas.Result.{err_from_is_err_and}
use Rattle.frame_listing.proofs.Fronts.{no_front, whole_front}
use Rattle.frame_listing.proofs.front.put_front.Goals as goal

pub returns-in_err-first : goal.returns-in_err-first
returns-in_err-first c =
    let p = err_from_is_err_and c.from_residual.result c.from_residual.ensures.1 in
    rw (p.1, p.2) (no_front c.in_err-first.field-0.0 c.args.place c.args.rest.now c.args.out.now c.in_err-first.ensures)

pub returns : goal.returns
returns c =
    let is = c.in_ok-first.ensures in
    whole_front c.in_ok-first.len c.args.place _ c.args.rest.now c.args.out.now c.put_frame.new.out is.0 is.1 is.2 c.in_ok-put_frame.ensures
