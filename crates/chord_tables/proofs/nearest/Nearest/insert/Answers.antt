use Rattle.std.proofs.Common.{rules, ◌≡◌, slice_set, ◌≤◌, ◌++◌, ◌∙◌, ap, sym, take, length, arith}
use Rattle.std.specs.Prelude.{insert}
use Rattle.std.proofs.lemmas.List.{length-map, length-take}
use Rattle.chord_tables.specs.Tables.{ids}
use Rattle.chord_tables.proofs.Room.{room}
use Rattle.chord_tables.proofs.nearest.Nearest.insert.Goals as goal

pub returns-then-place-lt-MAX_NEIGHBOURS : goal.returns-then-place-lt-MAX_NEIGHBOURS
returns-then-place-lt-MAX_NEIGHBOURS c =
    let parts = c.split_at_mut.ensures in
    let front = c.split_at_mut.result.0.now in
    let back = c.split_at_mut.result.1.now in
    let n = c.self.inside.len in
    let all : length c.self.inside.nodes ≡ 3 = search rules in
    let view : ids (take n (front ++ back))
    ≡ c.args.self.now = ap (λ l. ids (take n l)) (sym parts.value) ∙ c.self.view_is in
    let seen : length (ids (take n c.self.inside.nodes))
    ≡ length c.args.self.now = ap length c.self.view_is in
    let below : c.args.place ≤ n = omega (arith, simp (length-map, length-take) at seen) in
    let turned = c.rotate_right.new.self in
    ap (λ k. ids (take k (slice_set (front ++ turned) c.args.place c.args.node)))
    c.min-self-inside.ensures
    ∙ room front back turned n c.args.place 3 c.args.node parts.front_len (omega arith) below
    (omega arith) c.if-place-lt-MAX_NEIGHBOURS.true c.rotate_right.ensures.after
    ∙ ap (λ l. take 3 (insert l c.args.place c.args.node.0)) view
