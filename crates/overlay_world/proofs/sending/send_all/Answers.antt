use Rattle.std.proofs.Common.{◌++◌, length, ap, sym, ◌∙◌, arith}
use Rattle.std.proofs.lemmas.Iterator.Consumers.{YieldsList-turn, YieldsList-so_far, YieldsList-end}
use Rattle.std.proofs.lemmas.Iterator.Adapters.{YieldsList-from_vec}
use Rattle.std.proofs.lemmas.List.{append-nil, map-id}
use Rattle.std.proofs.lemmas.Result.{err_from_is_err_and}
use Rattle.overlay_world.specs.Sendings.{HasBytes, sent_by, waiting_for, with_frames}
use Rattle.overlay_world.proofs.Sent.{item_of, air_at_first, air_more, fates_more, send_halts, keep_halts}
use Rattle.overlay_world.proofs.sending.send_all.Goals as goal

pub loop-frame-init : goal.loop-frame-init
loop-frame-init g c = record {
  fates = sym (append-nil c.args.fates.now);
  air = air_at_first (g.A.Air.view c.args.air.now);
  room = c.requires.room;
}

pub send-requires-clause-some : goal.send-requires-clause-some
send-requires-clause-some g c =
    let given = c.into_iter-frame-iterator.ensures.into_iter_gives in
    let items = c.into_vec-frame-items.ensures in
    let len = ap length items in
    let turn = YieldsList-turn (YieldsList-from_vec c.args.frames (given.0 ∙ items) (omega (arith, given.1, len, c.into_vec-frame-items.result.ok))) c.loop-frame.yielded c.loop-frame.frame-iterator c.loop-frame.yielded_by c.next.result c.next.new.self c.in-Some.frame c.in-Some.is c.next.ensures.steps in
    item_of HasBytes c.args.frames (length c.loop-frame.yielded) c.in-Some.frame c.requires.some turn

pub returns-in_err-send-clause-stopped : goal.returns-in_err-send-clause-stopped
returns-in_err-send-clause-stopped g c =
    let given = c.into_iter-frame-iterator.ensures.into_iter_gives in
    let items = c.into_vec-frame-items.ensures in
    let len = ap length items in
    let front = YieldsList-so_far (YieldsList-from_vec c.args.frames (given.0 ∙ items) (omega (arith, given.1, len, c.into_vec-frame-items.result.ok))) c.loop-frame.yielded c.loop-frame.frame-iterator c.loop-frame.yielded_by in
    let turn = YieldsList-turn (YieldsList-from_vec c.args.frames (given.0 ∙ items) (omega (arith, given.1, len, c.into_vec-frame-items.result.ok))) c.loop-frame.yielded c.loop-frame.frame-iterator c.loop-frame.yielded_by c.next.result c.next.new.self c.in-Some.frame c.in-Some.is c.next.ensures.steps in
    let p = err_from_is_err_and c.from_residual.result c.from_residual.ensures.1 in
    rw (p.1, p.2) (send_halts c.args.names.now c.args.from c.args.frames c.loop-frame.yielded c.in-Some.frame (g.A.Air.view c.args.air.now) (g.A.Air.view c.loop-frame.air) (g.A.Air.view c.send.new.air) c.in_err-send.field-0.0
    front turn c.loop-frame.invariant.air c.loop-frame.invariant.room c.in_err-send.ensures.unsent)

pub returns-in_err-add-clause-stopped : goal.returns-in_err-add-clause-stopped
returns-in_err-add-clause-stopped g c =
    let given = c.into_iter-frame-iterator.ensures.into_iter_gives in
    let items = c.into_vec-frame-items.ensures in
    let len = ap length items in
    let front = YieldsList-so_far (YieldsList-from_vec c.args.frames (given.0 ∙ items) (omega (arith, given.1, len, c.into_vec-frame-items.result.ok))) c.loop-frame.yielded c.loop-frame.frame-iterator c.loop-frame.yielded_by in
    let turn = YieldsList-turn (YieldsList-from_vec c.args.frames (given.0 ∙ items) (omega (arith, given.1, len, c.into_vec-frame-items.result.ok))) c.loop-frame.yielded c.loop-frame.frame-iterator c.loop-frame.yielded_by c.next.result c.next.new.self c.in-Some.frame c.in-Some.is c.next.ensures.steps in
    let p = err_from_is_err_and c.from_residual-in_err-add.result c.from_residual-in_err-add.ensures.1 in
    rw p.1 (keep_halts c.args.names.now c.args.from c.args.frames c.loop-frame.yielded c.in-Some.frame (g.A.Air.view c.args.air.now) (g.A.Air.view c.loop-frame.air) (g.A.Air.view c.send.new.air) p.0
    front turn c.loop-frame.invariant.air c.in_ok-send.ensures.sent p.2)

pub loop-frame-preserved : goal.loop-frame-preserved
loop-frame-preserved g c = record {
  fates = fates_more c.loop-frame.yielded c.in-Some.frame c.args.fates.now c.loop-frame.fates c.add.new.self c.loop-frame.invariant.fates c.in_ok-add.ensures.ok;
  air = air_more c.args.names.now c.args.from c.loop-frame.yielded c.in-Some.frame (g.A.Air.view c.args.air.now) (g.A.Air.view c.loop-frame.air) (g.A.Air.view c.send.new.air) c.loop-frame.invariant.air c.in_ok-send.ensures.sent;
  room = c.in_ok-send.ensures.room;
}

pub returns-clause-fates : goal.returns-clause-fates
returns-clause-fates g c =
    let given = c.into_iter-frame-iterator.ensures.into_iter_gives in
    let items = c.into_vec-frame-items.ensures in
    let len = ap length items in
    let all = YieldsList-end (YieldsList-from_vec c.args.frames (given.0 ∙ items) (omega (arith, given.1, len, c.into_vec-frame-items.result.ok))) c.loop-frame.yielded c.loop-frame.frame-iterator c.loop-frame.yielded_by c.next.result c.next.new.self c.in-None.is c.next.ensures.steps in
    c.loop-frame.invariant.fates ∙ ap (λ l. c.args.fates.now ++ waiting_for l) (sym (map-id c.loop-frame.yielded) ∙ all.0)

pub returns-clause-sent : goal.returns-clause-sent
returns-clause-sent g c =
    let given = c.into_iter-frame-iterator.ensures.into_iter_gives in
    let items = c.into_vec-frame-items.ensures in
    let len = ap length items in
    let all = YieldsList-end (YieldsList-from_vec c.args.frames (given.0 ∙ items) (omega (arith, given.1, len, c.into_vec-frame-items.result.ok))) c.loop-frame.yielded c.loop-frame.frame-iterator c.loop-frame.yielded_by c.next.result c.next.new.self c.in-None.is c.next.ensures.steps in
    c.loop-frame.invariant.air ∙ ap (λ l. with_frames (g.A.Air.view c.args.air.now) (sent_by c.args.names.now c.args.from l)) (sym (map-id c.loop-frame.yielded) ∙ all.0)
