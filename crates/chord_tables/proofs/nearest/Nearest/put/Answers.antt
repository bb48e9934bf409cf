use Rattle.std.proofs.Common.{◌≡◌, ◌∙◌, ap, sym, inl, inr, false, take, length, arith}
use Rattle.std.specs.Prelude.{◌==◌, ◌≤◌, insert}
use Rattle.std.specs.Option.{unwrap_or}
use Rattle.chord_tables.specs.declared.TheConstants.{MAX_NEIGHBOURS}
use Rattle.chord_tables.specs.Sides.{with_id}
use Rattle.chord_tables.specs.Tables.{ids}
use Rattle.chord_tables.proofs.Places.{with_same, with_new, first_within, is_false, is_true}
use Rattle.chord_tables.proofs.nearest.Nearest.put.Goals.{then-place-near-via-then-place-near, then-place-near-via-else-place-near+then-ne}
use Rattle.chord_tables.proofs.nearest.Nearest.put.Goals as goal

pub returns-then-place-near : goal.returns-then-place-near
returns-then-place-near c =
    let near = c.as_slice-near.result.now in
    let id = c.args.node.0 in
    let place = c.unwrap_or-place.result in
    let other : (id == c.args.me.0) ≡ false = sym c.if-eq.ensures in
    let seen : ids near ≡ c.args.self.now = c.as_slice-near.ensures.value in
    c.insert.ensures
    ∙ ap (λ l. take MAX_NEIGHBOURS (insert l place id)) (sym seen)
    ∙ with_new c.args.side c.args.me.0 id place near other
    (c.unwrap_or-place.ensures ∙ ap (λ o. unwrap_or o (length near)) c.place_of.ensures)
    (elim c.then-place-near.branch [
      | then-place-near-via-then-place-near w ↦ inl w.if-place-near.true
      | then-place-near-via-else-place-near+then-ne w ↦ inr (is_false _ w.if-ne.ensures)
    ])
    ∙ ap (with_id c.args.side c.args.me.0 id) seen

pub returns-else-ne : goal.returns-else-ne
returns-else-ne c =
    let near = c.as_slice-near.result.now in
    let id = c.args.node.0 in
    let place = c.unwrap_or-place.result in
    let other : (id == c.args.me.0) ≡ false = sym c.if-eq.ensures in
    let seen : ids near ≡ c.args.self.now = c.as_slice-near.ensures.value in
    let found = c.unwrap_or-place.ensures ∙ ap (λ o. unwrap_or o (length near)) c.place_of.ensures in
    let within : place ≤ length near = first_within c.args.side c.args.me.0 id place near found in
    sym seen
    ∙ with_same c.args.side c.args.me.0 id place near c.as_slice-near.ensures.few other
    found (omega (arith, c.if-place-near.false)) (is_true _ c.if-ne.ensures)
    ∙ ap (with_id c.args.side c.args.me.0 id) seen
