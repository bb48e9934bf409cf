use Rattle.std.proofs.Common.{List, ℕ, ◌++◌, sym, ap, subst, ◌∙◌, arith}
use Rattle.forwarding_header.specs.declared.header.Header.{Header}
use Rattle.forwarding_header.specs.Header.{header, IsSpelledHeader}
use Rattle.node_messages.proofs.Wholes.{with_length-whole}
use Rattle.node_links.specs.Sendings.{payload_front}
use Rattle.node_links.proofs.Framed.{framed_whole, spelled_with_length}
use Rattle.node_links.proofs.frames.onward_frame.Goals as goal

pub payload_front-requires : goal.payload_front-requires
payload_front-requires c = omega (arith, ap (λ (h : Header). h.length) c.filled-header.ensures, with_length-whole c.args.header c.args.behind.now, c.requires.within)

pub put_header-requires : goal.put_header-requires
put_header-requires c = subst IsSpelledHeader (sym c.filled-header.ensures) (spelled_with_length c.args.header c.args.behind.now c.requires.spelled)

pub returns : goal.returns
returns c =
    c.in_ok-extend.ensures.ok
    ∙ ap (λ (t : List ℕ). t ++ c.args.behind.now) (c.in_ok-put_header.ensures.ok
    ∙ ap (λ (t : List ℕ). t ++ header c.filled-header.result) c.in_ok-out.ensures)
    ∙ ap (λ (h : Header). (payload_front c.args.sequence h.length ++ header h) ++ c.args.behind.now) c.filled-header.ensures
    ∙ framed_whole c.args.sequence c.args.header c.args.behind.now
