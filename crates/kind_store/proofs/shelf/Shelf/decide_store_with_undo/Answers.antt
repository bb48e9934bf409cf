use Rattle.std.proofs.Common.{◌≡◌, ap, sym, subst, ◌∙◌}
use Rattle.std.specs.Prelude.{unwrap_or}
use Rattle.std.specs.FinMap as map
use Rattle.storage_model.specs.Verdict.{outcome_of}
use Rattle.storage_model.specs.Decisions.{changed}
use Rattle.ordered_tables.proofs.Finite.{found_there, chosen_false, missing_there, on_err_of}
use Rattle.kind_store.proofs.Shelves.{put_record, stayed_there, decided_there, decided_nothing, none_more}
use Rattle.storage_model.specs.Records.{Map, record_in}
use Rattle.kind_store.specs.declared.undo.Undo.{Undo}
use Rattle.kind_store.specs.Undoing.{there_at, added_at, IsUndo}
use Rattle.kind_store.proofs.Undoings.{undo_there, undo_added, undo_none}
use Rattle.kind_store.proofs.shelf.Shelf.decide_store_with_undo.Goals as goal

pub returns-then-exchange-clause-shelf : goal.returns-then-exchange-clause-shelf
returns-then-exchange-clause-shelf c =
    decided_there c.args.config.now c.args.now c.args.resource.0 c.args.origin c.args.id c.args.request.now c.self.inside.table c.exchange.new.self c.exchange-then-exchange.new.self c.empty-record.result c.exchange.new.value c.decide-decided.new.self (found_there _ _ _ (sym c.if-exchange.true ∙ c.exchange.ensures.there) c.exchange.ensures.value) c.exchange.ensures.table c.exchange-then-exchange.ensures.table c.in_ok-verdict.ensures.next
    ∙ ap (λ m. changed m c.args.resource.0 (outcome_of c.args.config.now c.args.now c.args.resource.0 (record_in m c.args.resource.0) c.args.origin c.args.id c.args.request.now).next) c.self.view_is

pub returns-then-exchange-clause-undo : goal.returns-then-exchange-clause-undo
returns-then-exchange-clause-undo c =
    let there = found_there _ _ _ (sym c.if-exchange.true ∙ c.exchange.ensures.there) c.exchange.ensures.value in
    let put = put_record c.self.inside.table c.exchange.new.self c.exchange-then-exchange.new.self c.args.resource.0 c.empty-record.result c.exchange.new.value c.decide-decided.new.self there c.exchange.ensures.table c.exchange-then-exchange.ensures.table in
    subst (λ (u : Undo). IsUndo u c.exchange-then-exchange.new.self c.args.self.now) (sym c.undo_there.ensures)
    (subst (λ (m : Map). IsUndo (there_at c.args.resource c.in_ok-verdict.undo) c.exchange-then-exchange.new.self m) c.self.view_is
    (undo_there c.self.inside.table c.exchange-then-exchange.new.self c.args.resource c.exchange.new.value c.decide-decided.new.self c.in_ok-verdict.undo there put c.in_ok-verdict.ensures.undo))

pub returns-in_err-verdict-clause-err : goal.returns-in_err-verdict-clause-err
returns-in_err-verdict-clause-err c =
    let there = found_there _ _ _ (sym c.if-exchange.true ∙ c.exchange.ensures.there) c.exchange.ensures.value in
    let put = put_record c.self.inside.table c.exchange.new.self c.exchange-then-exchange.new.self c.args.resource.0 c.empty-record.result c.exchange.new.value c.decide-decided.new.self there c.exchange.ensures.table c.exchange-then-exchange.ensures.table in
    on_err_of c.from_residual.result
    (stayed_there c.self.inside.table c.exchange-then-exchange.new.self c.args.resource.0 c.exchange.new.value there (put ∙ ap (map.insert c.self.inside.table c.args.resource.0) c.in_err-verdict.ensures.err) ∙ c.self.view_is)

pub returns-then-turn-eq0-clause-shelf : goal.returns-then-turn-eq0-clause-shelf
returns-then-turn-eq0-clause-shelf c =
    let none = (missing_there (map.get c.self.inside.table c.args.resource.0) (sym c.if-exchange.false ∙ c.exchange.ensures.there)) in
    chosen_false _ _ _ _ (sym c.if-exchange.false ∙ c.exchange.ensures.there) c.exchange.ensures.table
    ∙ decided_nothing c.args.config.now c.args.now c.args.resource.0 c.args.origin c.args.id c.args.request.now c.self.inside.table c.exchange.new.value c.decide.new.self none (c.exchange.ensures.value ∙ ap (λ o. unwrap_or o c.empty-record.result) (sym none) ∙ c.empty-record.ensures) c.in_ok-verdict-2.ensures.next (λ more. none_more c.decide.new.self.turn (sym c.turn.ensures ∙ c.if-turn-eq0.true) more)
    ∙ ap (λ m. changed m c.args.resource.0 (outcome_of c.args.config.now c.args.now c.args.resource.0 (record_in m c.args.resource.0) c.args.origin c.args.id c.args.request.now).next) c.self.view_is

pub returns-then-turn-eq0-clause-undo : goal.returns-then-turn-eq0-clause-undo
returns-then-turn-eq0-clause-undo c =
    let none = missing_there (map.get c.self.inside.table c.args.resource.0) (sym c.if-exchange.false ∙ c.exchange.ensures.there) in
    subst (λ (u : Undo). IsUndo u c.exchange.new.self c.args.self.now) (sym c.undo_there-then-turn-eq0.ensures)
    (subst (λ (m : Map). IsUndo (there_at c.args.resource c.in_ok-verdict-2.undo) c.exchange.new.self m) c.self.view_is
    (undo_none c.self.inside.table c.exchange.new.self c.args.resource c.in_ok-verdict-2.undo none (chosen_false _ _ _ _ (sym c.if-exchange.false ∙ c.exchange.ensures.there) c.exchange.ensures.table)))

pub returns-clause-undo : goal.returns-clause-undo
returns-clause-undo c =
    let none = missing_there (map.get c.self.inside.table c.args.resource.0) (sym c.if-exchange.false ∙ c.exchange.ensures.there) in
    let put = c.in_ok-insert.ensures.ok ∙ ap (λ (m : Map). map.insert m c.args.resource.0 c.decide.new.self) (chosen_false _ _ _ _ (sym c.if-exchange.false ∙ c.exchange.ensures.there) c.exchange.ensures.table) in
    subst (λ (u : Undo). IsUndo u c.insert.new.self c.args.self.now) (sym c.undo_added.ensures)
    (subst (λ (m : Map). IsUndo (added_at c.args.resource) c.insert.new.self m) c.self.view_is
    (undo_added c.self.inside.table c.insert.new.self c.args.resource c.decide.new.self none put))
