use Rattle.std.proofs.Common.{List, [], ap, ◌∙◌, subst, sym}
use Rattle.std.specs.Prelude.{option_to_list}
use Rattle.std.specs.Option.{option_map}
use Rattle.node_links.specs.Sendings.{post_of}
use Rattle.transaction_table.specs.Tables.{Txns, after_answer}
use Rattle.node_model.specs.declared.notice.Notice.{Notice}
use Rattle.node_model.specs.Links.{Sent}
use Rattle.node_model.specs.Nodes.{Node, node_after}
use Rattle.node_model.specs.Peers.{Peer, Reaction, ends}
use Rattle.overlay_peer.specs.Kept.{IsKept, peer_of}
use Rattle.overlay_peer.specs.Plans.{IsHead, heard_with}
use Rattle.overlay_peer.proofs.Keeping.{kept_after, kept_fewer}
use Rattle.overlay_peer.proofs.Queues.{answered_fewer}
use Rattle.overlay_peer.proofs.Heads.{end_is}
use Rattle.overlay_peer.proofs.peer.Peer.end.Goals as goal

pub invariant_of-self-2 : goal.invariant_of-self-2
invariant_of-self-2 c =
    let i = c.self.inside in
    let fewer = answered_fewer c.args.now c.args.from.0 c.args.id i.table in
    subst (λ (t : Txns). IsKept c.hear.new.self i.tables i.shelf t) (sym c.take_answer.ensures)
    (kept_fewer c.hear.new.self i.tables i.shelf i.table (after_answer c.args.now c.args.from.0 c.args.id i.table) fewer.few (fewer.small c.self.invariant.small)
    (kept_after c.args.from c.args.sequence (option_to_list (option_map post_of c.next_sending-sending.result)) i.node c.hear.new.self i.tables i.shelf i.table c.in_ok-frames.ensures.ok c.self.invariant))

pub returns-clause-peer : goal.returns-clause-peer
unfolding heard_with
returns-clause-peer c =
    let i = c.self.inside in
    let p : Peer = peer_of i.node i.membership i.tables i.shelf i.table i.taken i.queued in
    let sending = option_map post_of c.next_sending-sending.result in
    let head : IsHead i.table c.args.from c.args.id = subst (λ (x : Peer). IsHead x.txns c.args.from c.args.id) (sym c.self.view_is) c.requires.head in
    ap (λ (n : Node). peer_of n i.membership i.tables i.shelf c.take_answer.new.table i.taken i.queued) c.in_ok-frames.ensures.ok
    ∙ ap (λ (t : Txns). peer_of (node_after c.args.from c.args.sequence (option_to_list sending) i.node) i.membership i.tables i.shelf t i.taken i.queued) c.take_answer.ensures
    ∙ ap (λ (r : Reaction). (heard_with c.args.from c.args.sequence r).node) (end_is p c.args.now c.args.from c.args.id sending head (c.next_sending-sending.ensures.exact c.args.now))
    ∙ ap (λ (x : Peer). (heard_with c.args.from c.args.sequence (ends x c.args.now c.args.from c.args.id)).node) c.self.view_is

pub returns-clause-outputs : goal.returns-clause-outputs
unfolding heard_with
returns-clause-outputs c =
    let i = c.self.inside in
    let p : Peer = peer_of i.node i.membership i.tables i.shelf i.table i.taken i.queued in
    let sending = option_map post_of c.next_sending-sending.result in
    let head : IsHead i.table c.args.from c.args.id = subst (λ (x : Peer). IsHead x.txns c.args.from c.args.id) (sym c.self.view_is) c.requires.head in
    ap (λ (told : List Notice). record { frames = c.in_ok-frames.frames; notices = told }) c.new.ensures
    ∙ ap (λ (fs : List Sent). record { frames = fs; notices = [] }) c.in_ok-frames.ensures.frames
    ∙ ap (λ (r : Reaction). (heard_with c.args.from c.args.sequence r).outputs) (end_is p c.args.now c.args.from c.args.id sending head (c.next_sending-sending.ensures.exact c.args.now))
    ∙ ap (λ (x : Peer). (heard_with c.args.from c.args.sequence (ends x c.args.now c.args.from c.args.id)).outputs) c.self.view_is
