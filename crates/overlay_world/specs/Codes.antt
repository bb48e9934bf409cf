-- The codes of a standing and of its names, for the types that contracts see as them.
use Rattle.std.specs.Prelude.{ℕ, List, refl}
use Rattle.std.specs.Ordering.{nat_cmp}
use Rattle.std.specs.FinMap.{FinMap}
use Rattle.std.specs.Coded.{Coded, code_by, coded×, coded_list, coded_ℕ}
use Rattle.data_models.specs.declared.config.Config.{Config}
use Rattle.data_models.specs.contracts.config.Config as of_config
use Rattle.request_words.specs.declared.node.DeclaredNode.{DeclaredNode}
use Rattle.request_words.specs.contracts.node.DeclaredNode as of_node
use Rattle.run_model.specs.declared.flight.Fate.{Fate}
use Rattle.run_model.specs.contracts.flight.Fate as of_fate
use Rattle.run_model.specs.Worlds.{Actor}
use Rattle.overlay_world.specs.Nodes.{actors_code}
use Rattle.overlay_world.specs.Standings.{Standing}

abbrev pub names_code : Coded (List DeclaredNode)
names_code = coded_list of_node.the_row.coded

-- a standing of these fields
abbrev pub standing_of : ℕ → Config → List DeclaredNode → FinMap nat_cmp Actor → List ℕ
    → List Fate → Standing
standing_of clock config names actors failed fates = record {
  clock = clock;
  config = config;
  names = names;
  actors = actors;
  failed = failed;
  fates = fates;
}

-- a standing as the tuple of its fields
abbrev pub standing_code : Coded Standing
standing_code = code_by
    (((ℕ × Config) × (List DeclaredNode × FinMap nat_cmp Actor)) × (List ℕ × List Fate))
    (coded× (coded× (coded× coded_ℕ of_config.the_row.coded) (coded× names_code actors_code))
    (coded× (coded_list coded_ℕ) (coded_list of_fate.the_row.coded)))
    (λ s. (((s.clock, s.config), (s.names, s.actors)), (s.failed, s.fates)))
    (λ p. standing_of p.0.0.0 p.0.0.1 p.0.1.0 p.0.1.1 p.1.0 p.1.1) (λ _. refl)
