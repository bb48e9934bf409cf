-- A kind with its values is read as it is spelled, under a configuration.
use Rattle.std.proofs.Common.{◌≡◌, ℕ, ◌^◌, ◌<◌, List, length, Option, Some, None, All, refl, sym, subst, length-append, arith}
use Rattle.wire_core.specs.Spelling.{AreBytes}
use Rattle.wire_core.specs.Layout.{IsLayout}
use Rattle.wire_core.specs.Laws.Bytes.{length-number}
use Rattle.wire_core.specs.Laws.Steps.{Anything, Nothing, Always, Lays, laid, seq, done_laid, fits_as, made}
use Rattle.wire_core.specs.Laws.Words.{number_laid, vector_laid, rest_laid}
use Rattle.wire_core.specs.Laws.Lists.{all_laid}
use Rattle.data_models.specs.declared.config.DataModel.{DataModel}
use Rattle.data_models.specs.declared.config.Config.{Config}
use Rattle.data_models.specs.declared.stored_data.StoredData.{StoredData}
use Rattle.data_models.specs.declared.fetched.KindValues.{KindValues}
use Rattle.data_models.specs.declared.fetched.KindValues.TheVariants.{Known, Raw}
use Rattle.data_models.specs.declared.fetched.StoreKind.{StoreKind}
use Rattle.data_models.specs.Configs.{model_in}
use Rattle.data_models.specs.Stored.{IsSpelledStored, IsStoredInRange, IsStoredOf}
use Rattle.data_models.specs.StoreKinds.{values, store_kind, AreSpelledValues, IsSpelledStoreKind, AreValuesInRange, IsStoreKindInRange, AreValuesOf, IsStoreKindOf, values_at, store_kind_at}
use Rattle.data_models.specs.Laws.Stored.{stored_is_layout, stored-some}

-- values with a spelling and numbers in range, of a kind with this model
record ValuesFit (model : Option DataModel) (vs : KindValues) : Type 0 where
  each : AreSpelledValues vs
  in_range : AreValuesInRange vs
  belong : AreValuesOf model vs

abbrev AreStored : DataModel → List StoredData → Type 0
AreStored model list =
    All IsSpelledStored list × All (λ v. IsStoredInRange v × IsStoredOf model v) list

as_known : (model : DataModel) (list : List StoredData) → AreStored model list
    → ValuesFit (Some model) (Known list)
as_known model list f = record {
  each = f.0;
  in_range = λ i x at. (f.1 i x at).0;
  belong = λ i x at. (f.1 i x at).1;
}

is_known : (model : DataModel) (vs : KindValues) → ValuesFit (Some model) vs
    → (list : List StoredData) × AreStored model list × (Known list ≡ vs)
is_known model (Known list) f =
    (list, (f.each, λ i x at. (f.in_range i x at, f.belong i x at)), refl)
is_known model (Raw bytes) f = absurd f.belong

is_raw : (vs : KindValues) → ValuesFit None vs
    → (bytes : List ℕ) × AreBytes bytes × (Raw bytes ≡ vs)
is_raw (Known list) f = absurd f.belong
is_raw (Raw bytes) f = (bytes, f.in_range, refl)

-- what is behind a Kind-ID fits it
record RestFits (config : Config) (v : StoreKind) : Type 0 where
  generation : v.generation < 2 ^ 64
  fits : length (values v.values) < 2 ^ 32
  vs : ValuesFit (model_in config v.kind) v.values

same_store_kind : (v w : StoreKind) → v.kind ≡ w.kind → v.generation ≡ w.generation
    → v.values ≡ w.values → v ≡ w
same_store_kind v w a b c = λ i. record { kind = a i; generation = b i; values = c i }

module _ {n : ℕ} where
  values_laid : (model : Option DataModel)
      → Lays n Nothing Always (ValuesFit model) values (values_at model)
  unfolding values values_at
  values_laid (Some model) =
      made Known (all_laid (stored_is_layout model) (λ v f. stored-some v))
      (λ list f. (tt, as_known model list f, refl)) (λ vs k f. is_known model vs f)
  values_laid None =
      made Raw rest_laid (λ bytes f. (tt, record { each = tt; in_range = f; belong = tt }, refl))
      (λ vs k f. is_raw vs f)

  store_kind_laid : (config : Config)
      → Lays n Anything Always (λ v. (v.kind < 2 ^ 32) × RestFits config v) store_kind
      (store_kind_at config)
  unfolding store_kind store_kind_at
  store_kind_laid config =
      seq {Known = Always} (λ v. v.kind) (number_laid 4) (λ kind _.
      fits_as (RestFits config) (seq (λ v. v.generation) (number_laid 8) (λ generation _.
      seq (λ v. v.values) (vector_laid 4 (values_laid (model_in config kind))) (λ vs _.
      done_laid (record { kind = kind; generation = generation; values = vs })
      (refl, (refl, (refl, tt))) (λ v k. same_store_kind v _ k.1.1.0 k.1.0 k.0))))
      (λ v k f. record {
        generation = f.0;
        fits = f.1.0.0;
        vs = subst (λ (id : ℕ). ValuesFit (model_in config id) v.values) (sym k.0) f.1.0.1;
      })
      (λ v k f.
      let vs = subst (λ (id : ℕ). ValuesFit (model_in config id) v.values) k.0 f.vs in
      (f.generation, ((f.fits, vs), tt))))

pub store_kind_is_layout : (config : Config)
    → IsLayout (λ v. IsSpelledStoreKind v × (IsStoreKindInRange v × IsStoreKindOf config v))
    store_kind (store_kind_at config)
store_kind_is_layout config =
    laid (λ n. fits_as _ (store_kind_laid {n = n} config)
    (λ v k f. (
      record { each = f.1.vs.each; fits = f.1.fits },
      (record { kind = f.0; generation = f.1.generation; values = f.1.vs.in_range }, f.1.vs.belong),
    ))
    (λ v k f. (
      f.1.0.kind,
      record {
        generation = f.1.0.generation;
        fits = f.0.fits;
        vs = record { each = f.0.each; in_range = f.1.0.values; belong = f.1.1 };
      },
    )))

-- it has a byte at least
pub store_kind-some : (v : StoreKind) → 0 < length (store_kind v)
unfolding store_kind
store_kind-some v = omega (arith, length-number 4 v.kind, length-append {A = ℕ})
