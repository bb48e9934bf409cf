use Rattle.std.proofs.Common.{ℕ, List, ◌++◌, ap, ◌∙◌, arith}
use Rattle.forwarding_header.specs.Header.{header}
use Rattle.node_messages.proofs.Wholes.{put_together}
use Rattle.node_messages.proofs.making.assembled.Goals as goal

pub returns : goal.returns
returns c =
    put_together c.args.header c.args.contents.now c.args.security.now c.whole_len-len.result c.put_header.new.out c.extend.new.self c.put.new.out (c.fits.ensures.0 c.if-not-fits.false) c.whole_len-len.ensures (omega arith)
    (c.in_ok-put_header.ensures.ok ∙ ap (λ (t : List ℕ). t ++ header (record c.args.header { length = c.whole_len-len.result })) (c.reserve.ensures ∙ c.new-out.ensures)) c.in_ok-extend.ensures.ok c.in_ok-put.ensures.ok
