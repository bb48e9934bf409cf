-- A specifier is read as it is spelled, under a configuration.
use Rattle.std.proofs.Common.{◌≡◌, ℕ, ◌^◌, ◌<◌, List, ◌++◌, length, Option, Some, None, All, refl, sym, ap, subst, length-append, arith}
use Rattle.wire_core.specs.Spelling.{AreBytes, number}
use Rattle.wire_core.specs.Layout.{IsLayout}
use Rattle.wire_core.specs.Reading.{pair_at, number_at}
use Rattle.wire_core.specs.Laws.Bytes.{length-number}
use Rattle.wire_core.specs.Laws.Steps.{Anything, Nothing, Always, Lays, laid, seq, done_laid, laid_as, fits_as, spelled_as, at_end, made, pair_is_layout, pair-some}
use Rattle.wire_core.specs.Laws.Words.{number_laid, vector_laid, rest_laid, number_is_layout, number-some, bytes_are_layout, bytes-some}
use Rattle.wire_core.specs.Laws.Lists.{vector_of}
use Rattle.data_models.specs.declared.config.DataModel.{DataModel}
use Rattle.data_models.specs.declared.config.DataModel.TheVariants.{Single, Array, Dictionary}
use Rattle.data_models.specs.declared.config.Config.{Config}
use Rattle.data_models.specs.declared.fetched.Selector.{Selector}
use Rattle.data_models.specs.declared.fetched.Selector.TheVariants.{Whole, Ranges, Names, Raw}
use Rattle.data_models.specs.declared.fetched.Specifier.{Specifier}
use Rattle.data_models.specs.Configs.{model_in}
use Rattle.data_models.specs.Specifiers.{ranges, names, selector, specifier, IsSpelledSelector, IsSpelledSpecifier, IsSelectorInRange, IsSpecifierInRange, selector_model, IsSpecifierOf, selector_at, specifier_at}

-- a selector with a spelling and numbers in range, of a kind with this model
record SelectorFits (model : Option DataModel) (s : Selector) : Type 0 where
  is_spelled : IsSpelledSelector s
  in_range : IsSelectorInRange s
  belongs : selector_model s ≡ model

is_whole : (s : Selector) → selector_model s ≡ Some Single → s ≡ Whole
is_whole Whole e = refl
is_whole (Ranges list) e = absurd cc
is_whole (Names list) e = absurd cc
is_whole (Raw bytes) e = absurd cc

-- ranges as a vector of pairs has them
abbrev AreRanges : List (ℕ × ℕ) → Type 0
AreRanges list = (length (ranges list) < 256 ^ 2) × (All (λ range. Unit {0} × Unit {0}) list
    × All (λ range. (range.0 < 256 ^ 4) × (range.1 < 256 ^ 4)) list)

is_ranges : (s : Selector) → SelectorFits (Some Array) s
    → (list : List (ℕ × ℕ)) × AreRanges list × (Ranges list ≡ s)
is_ranges Whole f = absurd (let e = f.belongs in cc)
is_ranges (Ranges list) f = (list, (f.is_spelled, ((λ i x at. (tt, tt)), f.in_range)), refl)
is_ranges (Names list) f = absurd (let e = f.belongs in cc)
is_ranges (Raw bytes) f = absurd (let e = f.belongs in cc)

abbrev AreNames : List (List ℕ) → Type 0
AreNames list = (length (names list) < 256 ^ 2)
    × (All (λ name. length name < 256 ^ 2) list × All AreBytes list)

is_names : (s : Selector) → SelectorFits (Some Dictionary) s
    → (list : List (List ℕ)) × AreNames list × (Names list ≡ s)
is_names Whole f = absurd (let e = f.belongs in cc)
is_names (Ranges list) f = absurd (let e = f.belongs in cc)
is_names (Names list) f = (list, (f.is_spelled.0, (f.is_spelled.1, f.in_range)), refl)
is_names (Raw bytes) f = absurd (let e = f.belongs in cc)

is_raw : (s : Selector) → SelectorFits None s → (bytes : List ℕ) × AreBytes bytes × (Raw bytes ≡ s)
is_raw Whole f = absurd (let e = f.belongs in cc)
is_raw (Ranges list) f = absurd (let e = f.belongs in cc)
is_raw (Names list) f = absurd (let e = f.belongs in cc)
is_raw (Raw bytes) f = (bytes, f.in_range, refl)

-- what is behind a Kind-ID fits it
record RestFits (config : Config) (v : Specifier) : Type 0 where
  generation : v.generation < 2 ^ 64
  fits : length (selector v.selector) < 2 ^ 16
  part : SelectorFits (model_in config v.kind) v.selector

same_specifier : (v w : Specifier) → v.kind ≡ w.kind → v.generation ≡ w.generation
    → v.selector ≡ w.selector → v ≡ w
same_specifier v w a b c = λ i. record { kind = a i; generation = b i; selector = c i }

range_is_layout : IsLayout
    (λ range. (Unit {0} × Unit {0}) × ((range.0 < 256 ^ 4) × (range.1 < 256 ^ 4)))
    (λ range. number 4 range.0 ++ number 4 range.1) (pair_at (number_at 4) (number_at 4))
range_is_layout = pair_is_layout (number_is_layout 4) (number_is_layout 4)

module _ {n : ℕ} where
  selector_laid : (model : Option DataModel)
      → Lays n Nothing Always (SelectorFits model) selector (selector_at model)
  unfolding selector selector_at
  selector_laid (Some Single) =
      let whole = done_laid {Known = λ s. s ≡ Whole} Whole refl (λ s k. k) in
      laid_as Always (SelectorFits (Some Single))
      (spelled_as selector whole (λ s k f. sym (ap selector k)))
      (λ s k f. (
        tt,
        subst (SelectorFits (Some Single)) (sym k)
            (record { is_spelled = tt; in_range = tt; belongs = refl }),
      ))
      (λ s k f. (is_whole s f.belongs, tt))
  selector_laid (Some Array) =
      made Ranges (at_end (vector_of 2 range_is_layout
      (λ range f. pair-some (number 4 range.0) (number 4 range.1) (number-some 3 range.0))))
      (λ list f. (tt, record { is_spelled = f.0; in_range = f.1.1; belongs = refl }, refl))
      (λ s k f. is_ranges s f)
  selector_laid (Some Dictionary) =
      made Names (at_end (vector_of 2 bytes_are_layout (λ name f. bytes-some name)))
      (λ list f. (tt, record { is_spelled = (f.0, f.1.0); in_range = f.1.1; belongs = refl }, refl))
      (λ s k f. is_names s f)
  selector_laid None =
      made Raw rest_laid
      (λ bytes f. (tt, record { is_spelled = tt; in_range = f; belongs = refl }, refl))
      (λ s k f. is_raw s f)

  specifier_laid : (config : Config)
      → Lays n Anything Always (λ v. (v.kind < 2 ^ 32) × RestFits config v) specifier
      (specifier_at config)
  unfolding specifier specifier_at
  specifier_laid config =
      seq {Known = Always} (λ v. v.kind) (number_laid 4) (λ kind _.
      fits_as (RestFits config) (seq (λ v. v.generation) (number_laid 8) (λ generation _.
      seq (λ v. v.selector) (vector_laid 2 (selector_laid (model_in config kind))) (λ s _.
      done_laid (record { kind = kind; generation = generation; selector = s })
      (refl, (refl, (refl, tt))) (λ v k. same_specifier v _ k.1.1.0 k.1.0 k.0))))
      (λ v k f. record {
        generation = f.0;
        fits = f.1.0.0;
        part = subst (λ (id : ℕ). SelectorFits (model_in config id) v.selector) (sym k.0) f.1.0.1;
      })
      (λ v k f.
      let part = subst (λ (id : ℕ). SelectorFits (model_in config id) v.selector) k.0 f.part in
      (f.generation, ((f.fits, part), tt))))

pub specifier_is_layout : (config : Config)
    → IsLayout (λ v. IsSpelledSpecifier v × (IsSpecifierInRange v × IsSpecifierOf config v))
    specifier (specifier_at config)
specifier_is_layout config =
    laid (λ n. fits_as _ (specifier_laid {n = n} config)
    (λ v k f. (
      record { part = f.1.part.is_spelled; fits = f.1.fits },
      (
        record { kind = f.0; generation = f.1.generation; selector = f.1.part.in_range },
        f.1.part.belongs,
      ),
    ))
    (λ v k f. (
      f.1.0.kind,
      record {
        generation = f.1.0.generation;
        fits = f.0.fits;
        part = record { is_spelled = f.0.part; in_range = f.1.0.selector; belongs = f.1.1 };
      },
    )))

-- it has a byte at least
pub specifier-some : (v : Specifier) → 0 < length (specifier v)
unfolding specifier
specifier-some v = omega (arith, length-number 4 v.kind, length-append {A = ℕ})
