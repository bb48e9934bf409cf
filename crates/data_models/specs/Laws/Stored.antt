-- A stored value is read as it is spelled.
use Rattle.std.proofs.Common.{◌≡◌, ℕ, ◌^◌, ◌<◌, ◌||◌, ◌≢◌, Bool, true, false, cond, eqb, List, [], ◌++◌, length, refl, sym, ap, subst, ◌∙◌, eq-eqb, append_assoc, length-append, lit<, arith}
use Rattle.std.proofs.lemmas.Bool.{eqb-true, eqb-false, ne_eqb}
use Rattle.std.proofs.lemmas.List.{append-nil, nil_from_length}
use Rattle.wire_core.specs.declared.bad.Reason.TheVariants.{BadValue}
use Rattle.wire_core.specs.Spelling.{AreBytes, number, boolean, vector}
use Rattle.wire_core.specs.Layout.{IsLayout}
use Rattle.wire_core.specs.Signature.{IsSpelledSignature}
use Rattle.wire_core.specs.Laws.Bytes.{length-number}
use Rattle.wire_core.specs.Laws.Signatures.{signature_laid}
use Rattle.wire_core.specs.Laws.Steps.{Anything, Always, Lays, laid, known, seq, done_laid, laid_as, fits_as, spelled_as, at_end, placed, tested, made}
use Rattle.wire_core.specs.Laws.Words.{number_laid, boolean_laid, vector_laid, rest_laid}
use Rattle.data_models.specs.declared.config.DataModel.{DataModel}
use Rattle.data_models.specs.declared.config.DataModel.TheVariants.{Single, Array, Dictionary}
use Rattle.data_models.specs.declared.stored_data.TheConstants.{END_INDEX}
use Rattle.data_models.specs.declared.stored_data.SlotKey.{SlotKey}
use Rattle.data_models.specs.declared.stored_data.SlotKey.TheVariants.{Whole, Index, End, Name}
use Rattle.data_models.specs.declared.stored_data.StoredData.{StoredData}
use Rattle.data_models.specs.Stored.{model_of, key_part, IsSpelledKey, IsKeyInRange, indexed, key_at, data_value, IsSpelledData, data_value_at, stored_value, IsSpelledValue, stored_content, stored, IsSpelledStored, IsStoredInRange, IsStoredOf, stored_content_at, stored_at}

-- ---- keys

-- a key of a model that has a spelling, with numbers in range
abbrev pub KeyFits : DataModel → SlotKey → Type 0
KeyFits model key = (model_of key ≡ model) × IsSpelledKey key × IsKeyInRange key

is_whole : (key : SlotKey) → model_of key ≡ Single → key ≡ Whole
is_whole Whole e = refl
is_whole (Index index) e = absurd cc
is_whole End e = absurd cc
is_whole (Name name) e = absurd cc

is_indexed : (key : SlotKey) → KeyFits Array key
    → (index : ℕ) × (index < 256 ^ 4) × (indexed index ≡ key)
is_indexed Whole f = absurd (let e = f.0 in cc)
is_indexed (Index index) f =
    let least : index < END_INDEX = f.1 in
    let other : index ≢ END_INDEX = omega arith in
    (index, omega arith, rw (ne_eqb index END_INDEX other) refl)
is_indexed End f = (END_INDEX, lit< tt, refl)
is_indexed (Name name) f = absurd (let e = f.0 in cc)

is_name : (key : SlotKey) → KeyFits Dictionary key
    → (name : List ℕ) × ((length name < 256 ^ 2) × AreBytes name) × (Name name ≡ key)
is_name Whole f = absurd (let e = f.0 in cc)
is_name (Index index) f = absurd (let e = f.0 in cc)
is_name End f = absurd (let e = f.0 in cc)
is_name (Name name) f = (name, (f.1, f.2), refl)

-- an index makes a key that is spelled by it
indexed_by : (is_end : Bool) (index : ℕ) → eqb index END_INDEX ≡ is_end → index < 256 ^ 4
    → KeyFits Array (cond is_end End (Index index))
    × (number 4 index ≡ key_part (cond is_end End (Index index)))
unfolding key_part
indexed_by true index e lt = ((refl, tt, tt), ap (number 4) (eqb-true index END_INDEX e))
indexed_by false index e lt =
    let other : index ≢ END_INDEX = eqb-false index END_INDEX e in
    ((refl, omega arith, tt), refl)

-- ---- values

-- a DataValue that has a spelling, with bytes
abbrev pub DatumFits : Bool × List ℕ → Type 0
DatumFits datum = IsSpelledData datum × AreBytes datum.1

-- a test that bytes of a value that doesn't exist fail
exists_or_empty : (datum : Bool × List ℕ) → IsSpelledData datum
    → (datum.0 || eqb (length datum.1) 0) ≡ true
exists_or_empty datum f =
    elim datum.0 as (λ present. datum.0 ≡ present → (present || eqb (length datum.1) 0) ≡ true) [
      | true ↦ λ e. refl
      | false ↦ λ e. eq-eqb (length datum.1) 0 (ap length (f.absent e))
    ] refl

empty_unless : (present : Bool) (value : List ℕ) → (present || eqb (length value) 0) ≡ true
    → present ≡ false → value ≡ []
empty_unless true value passes e = absurd cc
empty_unless false value passes e = nil_from_length value (eqb-true (length value) 0 passes)

abbrev datum_of : StoredData → Bool × List ℕ
datum_of v = (v.present, v.value)

same_stored : (v w : StoredData) → v.key ≡ w.key → v.storage_time ≡ w.storage_time
    → v.lifetime ≡ w.lifetime → datum_of v ≡ datum_of w → v.signature ≡ w.signature → v ≡ w
same_stored v w a b c d e = λ i. record {
  key = a i;
  storage_time = b i;
  lifetime = c i;
  present = (d i).0;
  value = (d i).1;
  signature = e i;
}

-- what its length counts has a spelling, with numbers in range and a key of the model
record ContentFits (model : DataModel) (v : StoredData) : Type 0 where
  value : IsSpelledValue v
  signature : IsSpelledSignature v.signature
  in_range : IsStoredInRange v
  key_is : IsStoredOf model v

module _ {n : ℕ} where
  key_laid : (model : DataModel) → Lays n Anything Always (KeyFits model) key_part (key_at model)
  unfolding key_at key_part
  key_laid Single =
      let whole = done_laid {Known = λ key. key ≡ Whole} Whole refl (λ key k. k) in
      laid_as Always (KeyFits Single) (spelled_as key_part whole (λ key k f. sym (ap key_part k)))
      (λ key k f. (tt, subst (KeyFits Single) (sym k) (refl, tt, tt)))
      (λ key k f. (is_whole key f.0, tt))
  key_laid Array =
      made indexed (number_laid 4)
      (λ index lt. let t = indexed_by (eqb index END_INDEX) index refl lt in (tt, t.0, t.1))
      (λ key k f. is_indexed key f)
  key_laid Dictionary =
      made Name (vector_laid 2 rest_laid) (λ name f. (tt, (refl, f.0, f.1), refl))
      (λ key k f. is_name key f)

  data_value_laid : Lays n Anything Always DatumFits data_value data_value_at
  unfolding data_value data_value_at
  data_value_laid =
      fits_as _ (spelled_as data_value
      (seq {Known = Always} (λ datum. datum.0) boolean_laid (λ present _.
      placed (λ place le. seq (λ datum. datum.1) (vector_laid 4 rest_laid) (λ value v.
      tested (present || eqb (length value) 0) place BadValue (λ _. le)
      (λ datum k f. rw (← k.0, ← k.1.0) (exists_or_empty datum f)) (λ passes.
      fits_as IsSpelledData
      (done_laid (present, value) (refl, (refl, tt)) (λ datum k. λ i. (k.1.0 i, k.0 i)))
      (λ datum k f. record {
        fits = omega (arith, v.0, ap length k.0);
        absent = λ e. k.0 ∙ empty_unless present value passes (sym k.1.0 ∙ e);
      })
      (λ datum k f. tt))))))
      (λ datum k f. ap (λ text. boolean datum.0 ++ text) (append-nil (vector 4 datum.1))))
      (λ datum k f. (f.1.1, f.1.0.1)) (λ datum k f. (tt, ((f.0.fits, f.1), f.0)))

  -- ---- stored data

  content_laid : (model : DataModel)
      → Lays n Anything Always (ContentFits model) stored_content (stored_content_at model)
  unfolding stored_content stored_value stored_content_at
  content_laid model =
      fits_as _ (spelled_as stored_content
      (seq {Known = Always} (λ v. v.storage_time) (number_laid 8) (λ storage_time _.
      seq (λ v. v.lifetime) (number_laid 4) (λ lifetime _.
      seq (λ v. v.key) (key_laid model) (λ key _.
      seq datum_of data_value_laid (λ datum _.
      seq (λ v. v.signature) (known signature_laid) (λ signer _.
      done_laid (record {
        key = key;
        storage_time = storage_time;
        lifetime = lifetime;
        present = datum.0;
        value = datum.1;
        signature = signer;
      }) (refl, (refl, (refl, (refl, (refl, tt)))))
      (λ v k. same_stored v _ k.1.1.0 k.1.1.1.1.0 k.1.1.1.0 k.1.0 k.0)))))))
      (λ v k f. ap (λ text. number 8 v.storage_time ++ (number 4 v.lifetime ++ text))
      (sym (append_assoc (key_part v.key) (data_value (datum_of v)) _))))
      (λ v k f. record {
        value = record { key = f.1.1.0.1; datum = f.1.1.1.0.0 };
        signature = f.1.1.1.1.0.0;
        in_range = record {
          storage_time = f.0;
          lifetime = f.1.0;
          key = f.1.1.0.2;
          value = f.1.1.1.0.1;
          signature = f.1.1.1.1.0.1;
        };
        key_is = f.1.1.0.0;
      })
      (λ v k f. (
        f.in_range.storage_time,
        (
          f.in_range.lifetime,
          (
            (f.key_is, f.value.key, f.in_range.key),
            (
              (f.value.datum, f.in_range.value),
              ((f.signature, f.in_range.signature), tt),
            ),
          ),
        ),
      ))

pub data_value_is_layout : IsLayout DatumFits data_value data_value_at
data_value_is_layout = laid (λ n. data_value_laid {n = n})

pub stored_is_layout : (model : DataModel)
    → IsLayout (λ v. IsSpelledStored v × (IsStoredInRange v × IsStoredOf model v)) stored
    (stored_at model)
unfolding stored stored_at
stored_is_layout model =
    laid (λ n. fits_as _ (vector_laid {n = n} 4 (at_end (content_laid model)))
    (λ v k f. (
      record { value = f.1.value; signature = f.1.signature; fits = f.0 },
      (f.1.in_range, f.1.key_is),
    ))
    (λ v k f. (
      f.0.fits,
      record {
        value = f.0.value;
        signature = f.0.signature;
        in_range = f.1.0;
        key_is = f.1.1;
      },
    )))

-- it has a byte at least
pub stored-some : (v : StoredData) → 0 < length (stored v)
unfolding stored
stored-some v = omega (arith, length-append {A = ℕ}, length-number)
