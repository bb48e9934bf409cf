use Rattle.std.proofs.Common.{◌≡◌, ap, sym, subst, ◌∙◌}
use Rattle.std.specs.Prelude.{is_some, unwrap_or}
use Rattle.std.specs.FinMap as map
use Rattle.storage_model.specs.Records.{Record, Map, record_in}
use Rattle.storage_model.specs.Decisions.{changed, with_joined}
use Rattle.ordered_tables.proofs.Finite.{found_there, chosen_false, missing_there}
use Rattle.kind_store.proofs.Shelves.{put_record, changed_there, record_there, record_missing, joined_first, joined_new}
use Rattle.kind_store.specs.declared.undo.Undo.{Undo}
use Rattle.kind_store.specs.Undoing.{there_at, added_at, IsUndo}
use Rattle.kind_store.proofs.Undoings.{undo_there, undo_added}
use Rattle.kind_store.proofs.shelf.Shelf.set_joined_with_undo.Goals as goal

pub returns-then-exchange-clause-shelf : goal.returns-then-exchange-clause-shelf
returns-then-exchange-clause-shelf c =
    put_record c.self.inside.table c.exchange.new.self c.exchange-then-exchange.new.self c.args.resource.0 c.empty-record.result c.exchange.new.value c.set_joined-first.new.self (found_there _ _ _ (sym c.if-exchange.true ∙ c.exchange.ensures.there) c.exchange.ensures.value) c.exchange.ensures.table c.exchange-then-exchange.ensures.table
    ∙ ap (map.insert c.self.inside.table c.args.resource.0) c.set_joined-first.ensures.record
    ∙ changed_there c.self.inside.table c.args.resource.0 c.exchange.new.value (with_joined c.exchange.new.value) (found_there _ _ _ (sym c.if-exchange.true ∙ c.exchange.ensures.there) c.exchange.ensures.value)
    ∙ ap (λ (x : Record). changed c.self.inside.table c.args.resource.0 (with_joined x)) (record_there c.self.inside.table c.args.resource.0 c.exchange.new.value (found_there _ _ _ (sym c.if-exchange.true ∙ c.exchange.ensures.there) c.exchange.ensures.value))
    ∙ ap (λ (m : Map). changed m c.args.resource.0 (with_joined (record_in m c.args.resource.0))) c.self.view_is

pub returns-clause-first : goal.returns-clause-first
returns-clause-first c =
    joined_first ∙ ap (λ (x : Record). is_some (with_joined x)) (record_missing c.self.inside.table c.args.resource.0 (missing_there (map.get c.self.inside.table c.args.resource.0) (sym c.if-exchange.false ∙ c.exchange.ensures.there)))
    ∙ ap (λ (m : Map). is_some (with_joined (record_in m c.args.resource.0))) c.self.view_is

pub returns-clause-shelf : goal.returns-clause-shelf
returns-clause-shelf c =
    c.in_ok-insert.ensures.ok ∙ ap (λ (m : Map). map.insert m c.args.resource.0 c.set_joined.new.self) (chosen_false _ _ _ _ (sym c.if-exchange.false ∙ c.exchange.ensures.there) c.exchange.ensures.table)
    ∙ joined_new c.self.inside.table c.args.resource.0 c.set_joined.new.self c.exchange.new.value (c.exchange.ensures.value ∙ ap (λ o. unwrap_or o c.empty-record.result) (sym (missing_there (map.get c.self.inside.table c.args.resource.0) (sym c.if-exchange.false ∙ c.exchange.ensures.there))) ∙ c.empty-record.ensures) c.set_joined.ensures.record
    ∙ ap (λ (x : Record). changed c.self.inside.table c.args.resource.0 (with_joined x)) (record_missing c.self.inside.table c.args.resource.0 (missing_there (map.get c.self.inside.table c.args.resource.0) (sym c.if-exchange.false ∙ c.exchange.ensures.there)))
    ∙ ap (λ (m : Map). changed m c.args.resource.0 (with_joined (record_in m c.args.resource.0))) c.self.view_is

pub returns-then-exchange-clause-undo : goal.returns-then-exchange-clause-undo
returns-then-exchange-clause-undo c =
    let there = found_there _ _ _ (sym c.if-exchange.true ∙ c.exchange.ensures.there) c.exchange.ensures.value in
    let put = put_record c.self.inside.table c.exchange.new.self c.exchange-then-exchange.new.self c.args.resource.0 c.empty-record.result c.exchange.new.value c.set_joined-first.new.self there c.exchange.ensures.table c.exchange-then-exchange.ensures.table in
    subst (λ (u : Undo). IsUndo u c.exchange-then-exchange.new.self c.args.self.now) (sym c.undo_there.ensures)
    (subst (λ (m : Map). IsUndo (there_at c.args.resource c.set_joined-first.result.1) c.exchange-then-exchange.new.self m) c.self.view_is
    (undo_there c.self.inside.table c.exchange-then-exchange.new.self c.args.resource c.exchange.new.value c.set_joined-first.new.self c.set_joined-first.result.1 there put c.set_joined-first.ensures.undo))

pub returns-clause-undo : goal.returns-clause-undo
returns-clause-undo c =
    let none = missing_there (map.get c.self.inside.table c.args.resource.0) (sym c.if-exchange.false ∙ c.exchange.ensures.there) in
    let put = c.in_ok-insert.ensures.ok ∙ ap (λ (m : Map). map.insert m c.args.resource.0 c.set_joined.new.self) (chosen_false _ _ _ _ (sym c.if-exchange.false ∙ c.exchange.ensures.there) c.exchange.ensures.table) in
    subst (λ (u : Undo). IsUndo u c.insert.new.self c.args.self.now) (sym c.undo_added.ensures)
    (subst (λ (m : Map). IsUndo (added_at c.args.resource) c.insert.new.self m) c.self.view_is
    (undo_added c.self.inside.table c.insert.new.self c.args.resource c.set_joined.new.self none put))
