use Rattle.std.proofs.Common.{Ok, Err}
use Rattle.std.proofs.lemmas.Result.{err_from_is_err_and}
use Rattle.wire_core.specs.declared.bad.DecodeFault.TheVariants as faults
use Rattle.frame_listing.proofs.ReadParts.{header_refused, contents_refused, security_refused, all_read, left_over, nothing_left}
use Rattle.frame_listing.proofs.message.put_parts.Goals as goal

pub returns-in_err-header : goal.returns-in_err-header
returns-in_err-header c =
    let p = err_from_is_err_and c.from_residual.result c.from_residual.ensures.1 in
    rw (p.1, p.2) (header_refused c.in_err-header.field-0.0 c.args.message.now c.args.out.now c.in_err-header.ensures.exact)

pub returns-in_err-put_contents : goal.returns-in_err-put_contents
returns-in_err-put_contents c =
    let p = err_from_is_err_and c.from_residual-in_err-put_contents.result c.from_residual-in_err-put_contents.ensures.1 in
    let is = rw (c.requires, c.new-from.ensures, c.split_at.ensures.back) at c.in_err-put_contents.ensures in
    rw (p.1, p.2) (contents_refused c.in_err-put_contents.field-0.0 c.args.message.now c.in_ok-header.header c.in_ok-header.place c.put_contents.new.from c.args.out.now c.put_message_line.new.out c.put_contents.new.out
    c.in_ok-header.ensures.exact c.in_ok-put_message_line.ensures is)

pub returns-in_err-put_security : goal.returns-in_err-put_security
returns-in_err-put_security c =
    let p = err_from_is_err_and c.from_residual-in_err-put_security.result c.from_residual-in_err-put_security.ensures.1 in
    let is = rw (c.requires, c.new-from.ensures, c.split_at.ensures.back) at c.in_ok-put_contents.ensures in
    rw (p.1, p.2) (security_refused c.in_err-put_security.field-0.0 c.args.message.now c.in_ok-header.header c.in_ok-header.place c.put_contents.new.from c.put_security.new.from c.args.out.now c.put_message_line.new.out c.put_contents.new.out c.put_security.new.out
    c.in_ok-header.ensures.exact c.in_ok-put_message_line.ensures is c.in_err-put_security.ensures)

pub returns-in_err-finish : goal.returns-in_err-finish
returns-in_err-finish c =
    let p = err_from_is_err_and c.from_residual-in_err-finish.result c.from_residual-in_err-finish.ensures.1 in
    let is = rw (c.requires, c.new-from.ensures, c.split_at.ensures.back) at c.in_ok-put_contents.ensures in
    rw (p.1, p.2) (all_read (Err (faults.Bad c.in_err-finish.field-0.0)) c.args.message.now c.in_ok-header.header c.in_ok-header.place c.put_contents.new.from c.put_security.new.from c.args.out.now c.put_message_line.new.out c.put_contents.new.out c.put_security.new.out
    c.in_ok-header.ensures.exact c.in_ok-put_message_line.ensures is c.in_ok-put_security.ensures (left_over c.put_security.new.from c.put_security.new.from c.in_err-finish.field-0.0 c.put_security.new.out c.in_err-finish.ensures))

pub returns : goal.returns
returns c =
    let is = rw (c.requires, c.new-from.ensures, c.split_at.ensures.back) at c.in_ok-put_contents.ensures in
    all_read (Ok tt) c.args.message.now c.in_ok-header.header c.in_ok-header.place c.put_contents.new.from c.put_security.new.from c.args.out.now c.put_message_line.new.out c.put_contents.new.out c.put_security.new.out
    c.in_ok-header.ensures.exact c.in_ok-put_message_line.ensures is c.in_ok-put_security.ensures (nothing_left c.put_security.new.from c.put_security.new.from c.put_security.new.out c.in_ok-finish.ensures)
