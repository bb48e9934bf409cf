-- The data models that a configuration gives its kinds.
use Rattle.std.proofs.Common.{◌≡◌, ℕ, List, [], ◌∷◌, false, true, Some, cond, eqb, ap, sym, ◌∙◌, arith}
use Rattle.std.specs.Prelude.{unwrap_or, find}
use Rattle.std.specs.Option.{option_map}
use Rattle.std.specs.List.{AllByRecursion}
use Rattle.std.proofs.lemmas.Bool.Decides.{nat_tests}
use Rattle.data_models.specs.declared.config.Config.{Config}
use Rattle.data_models.specs.declared.config.DataModel.{DataModel}
use Rattle.data_models.specs.declared.config.DataModel.TheVariants.{Single}
use Rattle.data_models.specs.declared.config.KindDef.{KindDef}
use Rattle.data_models.specs.Configs.{IsConfig, AreDistinct, kind_of, model_in}

-- the model of the first kind with a Kind-ID
abbrev model_among : List KindDef → ℕ → DataModel
model_among kinds id = unwrap_or (option_map (λ (k : KindDef). k.model) (find (λ (k : KindDef). eqb k.id id) kinds)) Single

model_among-here : (kind : KindDef) (kinds : List KindDef) → kind.model ≡ model_among (kind ∷ kinds) kind.id
model_among-here kind kinds =
    let same : eqb kind.id kind.id ≡ true = grind (arith, nat_tests) in
    ap (λ b. unwrap_or (option_map (λ (k : KindDef). k.model) (cond b (Some kind) (find (λ (k : KindDef). eqb k.id kind.id) kinds))) Single) (sym same)

model_among-behind : (kind : KindDef) (kinds : List KindDef) (id : ℕ) → (id ≡ kind.id → ⊥) → model_among kinds id ≡ model_among (kind ∷ kinds) id
model_among-behind kind kinds id apart =
    let other : eqb kind.id id ≡ false = grind (arith, nat_tests) in
    ap (λ b. unwrap_or (option_map (λ (k : KindDef). k.model) (cond b (Some kind) (find (λ (k : KindDef). eqb k.id id) kinds))) Single) (sym other)

agree_behind : (kind : KindDef) (kinds all : List KindDef) → AllByRecursion (λ (k : KindDef). k.id ≡ kind.id → ⊥) all
    → AllByRecursion (λ (k : KindDef). k.model ≡ model_among kinds k.id) all → AllByRecursion (λ (k : KindDef). k.model ≡ model_among (kind ∷ kinds) k.id) all
agree_behind kind kinds [] apart agree = tt
agree_behind kind kinds (k ∷ all) apart agree = (agree.0 ∙ model_among-behind kind kinds k.id apart.0, agree_behind kind kinds all apart.1 agree.1)

agree_among : (kinds : List KindDef) → AreDistinct kinds → AllByRecursion (λ (k : KindDef). k.model ≡ model_among kinds k.id) kinds
agree_among [] apart = tt
agree_among (kind ∷ kinds) apart = (model_among-here kind kinds, agree_behind kind kinds kinds apart.0 (agree_among kinds apart.1))

-- each kind of a configuration has the model that is found under its Kind-ID
pub models_agree : (config : Config) → IsConfig config → AllByRecursion (λ (kind : KindDef). kind.model ≡ unwrap_or (model_in config kind.id) Single) config.kinds
unfolding model_in kind_of
models_agree config is = agree_among config.kinds is.distinct
