use Rattle.std.proofs.Common.{◌≡◌, ◌≤◌, ap, sym, subst, ◌∙◌}
use Rattle.std.specs.Prelude.{IfSome}
use Rattle.std.specs.FinMap as map
use Rattle.storage_model.specs.declared.limits.TheConstants.{MAX_WEIGHT}
use Rattle.storage_model.specs.Records.{Map, Record, weight}
use Rattle.kind_store.specs.declared.undo.Change.TheVariants.{There}
use Rattle.kind_store.specs.Undoing.{record_undone, change_undone}
use Rattle.ordered_tables.proofs.Finite.{found_there, chosen_false, missing_there}
use Rattle.kind_store.proofs.Shelves.{put_record}
use Rattle.kind_store.proofs.Undoings.{changed_back, none_back}
use Rattle.kind_store.proofs.shelf.Shelf.undo_there.Goals as goal

pub undo-requires : goal.undo-requires
undo-requires c =
    let there = found_there _ _ _ (sym c.if-not-exchange.false ∙ c.exchange.ensures.there) c.exchange.ensures.value in
    let required = subst (λ (m : Map). IfSome (map.get m c.args.resource.0) (λ (x : Record). weight (record_undone c.args.undo x).kinds ≤ MAX_WEIGHT)) (sym c.self.view_is) c.requires in
    subst (λ o. IfSome o (λ (x : Record). weight (record_undone c.args.undo x).kinds ≤ MAX_WEIGHT)) (sym there) required

pub returns : goal.returns
returns c =
    let there = found_there _ _ _ (sym c.if-not-exchange.false ∙ c.exchange.ensures.there) c.exchange.ensures.value in
    changed_back c.self.inside.table c.exchange.new.self c.exchange-2.new.self c.args.resource.0 c.empty-record.result c.exchange.new.value c.undo.new.self c.args.undo there c.undo.ensures
    (put_record c.self.inside.table c.exchange.new.self c.exchange-2.new.self c.args.resource.0 c.empty-record.result c.exchange.new.value c.undo.new.self there c.exchange.ensures.table c.exchange-2.ensures.table)
    ∙ ap (change_undone (There c.args.undo) c.args.resource.0) c.self.view_is

pub returns-then-not-exchange : goal.returns-then-not-exchange
returns-then-not-exchange c =
    chosen_false _ _ _ _ (sym c.if-not-exchange.true ∙ c.exchange.ensures.there) c.exchange.ensures.table
    ∙ none_back c.self.inside.table c.args.resource.0 c.args.undo (missing_there (map.get c.self.inside.table c.args.resource.0) (sym c.if-not-exchange.true ∙ c.exchange.ensures.there))
    ∙ ap (change_undone (There c.args.undo) c.args.resource.0) c.self.view_is
