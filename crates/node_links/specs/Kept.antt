-- What always holds of a node.
use Rattle.std.specs.Prelude.{◌≡◌, ℕ, ◌≤◌, refl}
use Rattle.reload_ids.specs.Ids.{overlay_id}
use Rattle.std.specs.Coded.{Coded, code_by, coded×, coded_ℕ}
use Rattle.data_models.specs.declared.config.Config.{Config}
use Rattle.data_models.specs.contracts.config.Config as of_config
use Rattle.security_block.specs.declared.about.About.{About}
use Rattle.security_block.specs.contracts.about.About as of_about
use Rattle.security_block.specs.Signers.{IsNamed}
use Rattle.node_model.specs.Links.{Links}
use Rattle.node_model.specs.Nodes.{Node}
use Rattle.node_links.specs.declared.limits.TheConstants.{MAX_NUMBER, MAX_WORK}
use Rattle.node_links.specs.Codes.{links_code}

-- The user has a name, neither the number nor the work is too large, and the overlay's number is
-- that of its name.
pub record IsKept (number : ℕ) (about : About) (config : Config) (overlay work : ℕ) : Type 0 where
  pub named : IsNamed about
  pub numbered : number ≤ MAX_NUMBER
  pub overlay_is : overlay ≡ overlay_id config.name
  pub light : work ≤ MAX_WORK

-- a node of these fields
abbrev pub node_of : ℕ → About → Config → Links → ℕ → ℕ → ℕ → Node
node_of number about config links ids inputs frames = record {
  number = number;
  about = about;
  config = config;
  links = links;
  ids = ids;
  inputs = inputs;
  frames = frames;
}

-- a node as the tuple of its fields
abbrev pub node_code : Coded Node
node_code = code_by (((ℕ × About) × (Config × Links)) × ((ℕ × ℕ) × ℕ))
    (coded× (coded× (coded× coded_ℕ of_about.the_row.coded)
    (coded× of_config.the_row.coded links_code))
    (coded× (coded× coded_ℕ coded_ℕ) coded_ℕ))
    (λ n. (((n.number, n.about), (n.config, n.links)), ((n.ids, n.inputs), n.frames)))
    (λ p. node_of p.0.0.0 p.0.0.1 p.0.1.0 p.0.1.1 p.1.0.0 p.1.0.1 p.1.1) (λ _. refl)
