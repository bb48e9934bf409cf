use Rattle.std.proofs.Common.{◌≡◌, ap, sym, ◌∙◌}
use Rattle.storage_model.specs.Records.{Record, Map, record_in, weight}
use Rattle.record_state.proofs.KindMaps.{weight-empty}
use Rattle.kind_store.proofs.Shelves.{record_missing}
use Rattle.kind_store.proofs.shelf.Shelf.weight.Goals as goal

pub returns-in-None-clause-value : goal.returns-in-None-clause-value
returns-in-None-clause-value c =
    sym weight-empty ∙ ap (λ (x : Record). weight x.kinds) (record_missing c.self.inside.table c.args.resource.0 c.in-None.ensures)
    ∙ ap (λ (m : Map). weight (record_in m c.args.resource.0).kinds) c.self.view_is
