-- The words of values are read exactly where they are what they spell.
use Rattle.std.proofs.Common.{◌≡◌, ℕ, ◌-◌, ◌^◌, ◌<◌, ◌≤◌, Bool, true, false, cond, List, [], ◌∷◌, ◌++◌, Option, Some, None, refl, sym, ap, subst, ◌∙◌, append_assoc, append-nil, arith}
use Rattle.std.specs.Prelude.{codes, ◌==◌}
use Rattle.std.specs.Char.{is_ascii_digit}
use Rattle.std.specs.Fmt.{decimal}
use Rattle.std.specs.List.{list_any}
use Rattle.std.specs.Str.{bytes_eq}
use Rattle.std.proofs.lemmas.Option.{same_Some}
use Rattle.std.proofs.lemmas.Slice.Eq.{bytes_eq-Decides}
use Rattle.hex.specs.Hex.{encode_lower}
use Rattle.text_words.specs.Codec.{IsCodec}
use Rattle.text_words.specs.Decimal.{decimal_of}
use Rattle.text_words.specs.Hex.{is_lower_digit}
use Rattle.text_words.specs.Labelled.{key_name}
use Rattle.text_words.specs.Separator.{Lacks, behind, joined, pieces_of}
use Rattle.text_words.specs.Steps.{◌>>=◌, part_of, only_of}
use Rattle.text_words.proofs.CodecLaws.{pieced_codec, retold_codec}
use Rattle.text_words.proofs.DecimalLaws.{decimal_codec, decimal_of-takes, decimal_of-decimal}
use Rattle.text_words.proofs.Lacking.{decimal-has_no, encode_lower-has_no, Lacks-fixed}
use Rattle.text_words.proofs.PiecesLaws.{AreJoined}
use Rattle.text_words.proofs.SeparatorLaws.{Lacks-append, behind-takes, behind-append, behind-other, bytes_eq-other}
use Rattle.text_words.proofs.StepsLaws.{bind_some, part_of-takes, part_of-again, only_of-takes, only_of-again}
use Rattle.data_models.specs.declared.stored_data.TheConstants.{END_INDEX}
use Rattle.data_models.specs.declared.stored_data.SlotKey.{SlotKey}
use Rattle.data_models.specs.declared.stored_data.SlotKey.TheVariants.{Whole, Index, End, Name}
use Rattle.request_words.specs.declared.data.TheConstants.{MAX_FILL}
use Rattle.request_words.specs.declared.data.Data.{Data}
use Rattle.request_words.specs.declared.data.Data.TheVariants.{Nonexistent, Bytes, Fill}
use Rattle.request_words.specs.declared.value.ValueWord.{ValueWord}
use Rattle.request_words.specs.Bytes.{bytes_of, AreBytes}
use Rattle.request_words.specs.Values.{slot_key_of, slot_key_text, named_key, unnamed_key, IsSlotKey, data_of, data_text, filled, spelled, IsData, times_in, value_in, value_of, value_text, IsValue}
use Rattle.request_words.proofs.BytesLaws.{bytes_codec}

-- ---- what words of values lack

-- a byte that no key and no data has
pub record IsOutside (byte : ℕ) : Type 0 where
  pub digit : is_ascii_digit byte ≡ false
  pub hex : is_lower_digit byte ≡ false
  pub signs : Lacks byte (codes "-") × Lacks byte (codes "=") × Lacks byte (codes "+") × Lacks byte (codes "#")
  pub end : Lacks byte (codes "end")

pub outside_space : IsOutside 32
outside_space =
    record { digit = refl; hex = refl; signs = (Lacks-fixed 32 (codes "-") refl, Lacks-fixed 32 (codes "=") refl, Lacks-fixed 32 (codes "+") refl, Lacks-fixed 32 (codes "#") refl); end = Lacks-fixed 32 (codes "end") refl }

pub outside_colon : IsOutside 58
outside_colon =
    record { digit = refl; hex = refl; signs = (Lacks-fixed 58 (codes "-") refl, Lacks-fixed 58 (codes "=") refl, Lacks-fixed 58 (codes "+") refl, Lacks-fixed 58 (codes "#") refl); end = Lacks-fixed 58 (codes "end") refl }

-- the `k` of `kind=`
pub outside_k : IsOutside 107
outside_k =
    record { digit = refl; hex = refl; signs = (Lacks-fixed 107 (codes "-") refl, Lacks-fixed 107 (codes "=") refl, Lacks-fixed 107 (codes "+") refl, Lacks-fixed 107 (codes "#") refl); end = Lacks-fixed 107 (codes "end") refl }

pub slot_key_text-lacks : (byte : ℕ) (key : SlotKey) → IsOutside byte → IsSlotKey key → Lacks byte (slot_key_text key)
unfolding slot_key_text key_name
slot_key_text-lacks byte Whole out is = out.signs.0
slot_key_text-lacks byte (Index index) out is = decimal-has_no byte index (omega (arith, is)) out.digit
slot_key_text-lacks byte End out is = out.end
slot_key_text-lacks byte (Name name) out is = Lacks-append byte (codes "=") (encode_lower name) out.signs.1 (encode_lower-has_no byte name is.1 out.hex)

pub data_text-lacks : (byte : ℕ) (datum : Data) → IsOutside byte → IsData datum → Lacks byte (data_text datum)
unfolding data_text
data_text-lacks byte Nonexistent out is = out.signs.0
data_text-lacks byte (Bytes bytes) out is = Lacks-append byte (codes "+") (encode_lower bytes) out.signs.2 (encode_lower-has_no byte bytes is.1 out.hex)
data_text-lacks byte (Fill n) out is = Lacks-append byte (codes "#") (decimal n) out.signs.3 (decimal-has_no byte n (omega (arith, is)) out.digit)

-- ---- keys

-- a word spells a key
abbrev SpellsKey : List ℕ → SlotKey → Type 0
SpellsKey word key = IsSlotKey key × (word ≡ slot_key_text key)

unnamed-takes : (word : List ℕ) (key : SlotKey) → unnamed_key word ≡ Some key → SpellsKey word key
unfolding slot_key_text
unnamed-takes word key e = by_tests (bytes_eq word (codes "-")) refl (bytes_eq word (codes "end")) refl e
  where
    by_tests : (dash : Bool) → bytes_eq word (codes "-") ≡ dash → (last : Bool) → bytes_eq word (codes "end") ≡ last → cond dash (Some Whole) (cond last (Some End) (decimal_of (END_INDEX - 1) word >>= λ index. Some (Index index))) ≡ Some key → SpellsKey word key
    by_tests true is last is_last e = subst (SpellsKey word) (same_Some Whole key e) (tt, (bytes_eq-Decides word (codes "-")).0 is)
    by_tests false is true is_last e = subst (SpellsKey word) (same_Some End key e) (tt, (bytes_eq-Decides word (codes "end")).0 is_last)
    by_tests false is false is_last e =
        let a = bind_some (decimal_of (END_INDEX - 1) word) _ key e in
        let read = decimal_of-takes (END_INDEX - 1) word a.0 (omega arith) a.1 in
        subst (SpellsKey word) (same_Some (Index a.0) key a.2) (omega (arith, read.0), read.1)

slot_key_of-takes : (word : List ℕ) (key : SlotKey) → slot_key_of word ≡ Some key → SpellsKey word key
unfolding slot_key_of slot_key_text key_name
slot_key_of-takes word key e = by_sign (behind (codes "=") word) refl e
  where
    by_sign : (found : Option (List ℕ)) → behind (codes "=") word ≡ found → named_key word found ≡ Some key → SpellsKey word key
    by_sign None other e = unnamed-takes word key e
    by_sign (Some digits) is e =
        let a = bind_some (bytes_of digits) _ key e in
        let read = bytes_codec.takes digits a.0 a.1 in
        subst (SpellsKey word) (same_Some (Name a.0) key a.2) (read.0, behind-takes (codes "=") word digits is ∙ ap (λ (rest : List ℕ). 61 ∷ rest) read.1)

named_key-again : (name : List ℕ) → AreBytes name → named_key (codes "=" ++ encode_lower name) (behind (codes "=") (codes "=" ++ encode_lower name)) ≡ Some (Name name)
named_key-again name is = rw (behind-append (codes "=") (encode_lower name), bytes_codec.again name is) refl

index-again : (index : ℕ) → index < END_INDEX → named_key (decimal index) (behind (codes "=") (decimal index)) ≡ Some (Index index)
index-again index is =
    let lacks : (byte : ℕ) → is_ascii_digit byte ≡ false → Lacks byte (decimal index) = λ byte other. decimal-has_no byte index (omega (arith, is)) other in
    rw (
      behind-other 61 [] (decimal index) (lacks 61 refl),
      bytes_eq-other 45 [] (decimal index) (lacks 45 refl),
      bytes_eq-other 101 (codes "nd") (decimal index) (lacks 101 refl),
      decimal_of-decimal (END_INDEX - 1) index (omega arith) (omega (arith, is)),
    ) refl

slot_key_of-again : (key : SlotKey) → IsSlotKey key → slot_key_of (slot_key_text key) ≡ Some key
unfolding slot_key_of slot_key_text key_name behind
slot_key_of-again Whole is = refl
slot_key_of-again (Index index) is = index-again index is
slot_key_of-again End is = refl
slot_key_of-again (Name name) is = named_key-again name is

pub slot_key_codec : IsCodec slot_key_of slot_key_text IsSlotKey
slot_key_codec = record { takes = slot_key_of-takes; again = slot_key_of-again }

-- ---- data

abbrev SpellsData : List ℕ → Data → Type 0
SpellsData word datum = IsData datum × (word ≡ data_text datum)

filled-takes : (word : List ℕ) (datum : Data) → filled word (behind (codes "#") word) ≡ Some datum → SpellsData word datum
unfolding data_text
filled-takes word datum e = by_sign (behind (codes "#") word) refl e
  where
    by_dash : (dash : Bool) → bytes_eq word (codes "-") ≡ dash → cond dash (Some Nonexistent) None ≡ Some datum → SpellsData word datum
    by_dash true is e = subst (SpellsData word) (same_Some Nonexistent datum e) (tt, (bytes_eq-Decides word (codes "-")).0 is)
    by_dash false is e = absurd cc

    by_sign : (found : Option (List ℕ)) → behind (codes "#") word ≡ found → filled word found ≡ Some datum → SpellsData word datum
    by_sign None other e = by_dash (bytes_eq word (codes "-")) refl e
    by_sign (Some digits) is e =
        let a = bind_some (decimal_of MAX_FILL digits) _ datum e in
        let read = decimal_of-takes MAX_FILL digits a.0 (omega arith) a.1 in
        subst (SpellsData word) (same_Some (Fill a.0) datum a.2) (read.0, behind-takes (codes "#") word digits is ∙ ap (λ (rest : List ℕ). 35 ∷ rest) read.1)

data_of-takes : (word : List ℕ) (datum : Data) → data_of word ≡ Some datum → SpellsData word datum
unfolding data_of data_text
data_of-takes word datum e = by_sign (behind (codes "+") word) refl e
  where
    by_sign : (found : Option (List ℕ)) → behind (codes "+") word ≡ found → spelled word found ≡ Some datum → SpellsData word datum
    by_sign None other e = filled-takes word datum e
    by_sign (Some digits) is e =
        let a = bind_some (bytes_of digits) _ datum e in
        let read = bytes_codec.takes digits a.0 a.1 in
        subst (SpellsData word) (same_Some (Bytes a.0) datum a.2) (read.0, behind-takes (codes "+") word digits is ∙ ap (λ (rest : List ℕ). 43 ∷ rest) read.1)

spelled-again : (bytes : List ℕ) → AreBytes bytes → spelled (codes "+" ++ encode_lower bytes) (behind (codes "+") (codes "+" ++ encode_lower bytes)) ≡ Some (Bytes bytes)
spelled-again bytes is = rw (behind-append (codes "+") (encode_lower bytes), bytes_codec.again bytes is) refl

filled-again : (n : ℕ) → n ≤ MAX_FILL → filled (codes "#" ++ decimal n) (behind (codes "#") (codes "#" ++ decimal n)) ≡ Some (Fill n)
filled-again n is = rw (behind-append (codes "#") (decimal n), decimal_of-decimal MAX_FILL n (omega arith) is) refl

data_of-again : (datum : Data) → IsData datum → data_of (data_text datum) ≡ Some datum
unfolding data_of data_text behind
data_of-again Nonexistent is = refl
data_of-again (Bytes bytes) is = spelled-again bytes is
data_of-again (Fill n) is = filled-again n is

pub data_codec : IsCodec data_of data_text IsData
data_codec = record { takes = data_of-takes; again = data_of-again }

-- ---- values

-- the parts of a value's word
abbrev value_parts : ValueWord → List (List ℕ)
value_parts v = slot_key_text v.key ∷ decimal v.storage_time ∷ decimal v.lifetime ∷ data_text v.value ∷ []

pub times_in-takes : (parts : List (List ℕ)) (times : ℕ × ℕ) (rest : List (List ℕ)) → times_in parts ≡ Some (times, rest)
    → ((times.0 ≤ 2 ^ 64 - 1) × (times.1 ≤ 2 ^ 32 - 1)) × (parts ≡ decimal times.0 ∷ decimal times.1 ∷ rest)
unfolding times_in
times_in-takes parts times rest e =
    let a = bind_some (part_of (decimal_of (2 ^ 64 - 1)) parts) _ (times, rest) e in
    let b = bind_some (part_of (decimal_of (2 ^ 32 - 1)) a.0.1) _ (times, rest) a.2 in
    let time = part_of-takes (decimal_of (2 ^ 64 - 1)) decimal (λ n. n ≤ 2 ^ 64 - 1) (decimal_codec (2 ^ 64 - 1) (omega arith)) parts a.0.0 a.0.1 a.1 in
    let lifetime = part_of-takes (decimal_of (2 ^ 32 - 1)) decimal (λ n. n ≤ 2 ^ 32 - 1) (decimal_codec (2 ^ 32 - 1) (omega arith)) a.0.1 b.0.0 b.0.1 b.1 in
    let same : ◌≡◌ {A = (ℕ × ℕ) × List (List ℕ)} ((a.0.0, b.0.0), b.0.1) (times, rest) = same_Some ((a.0.0, b.0.0), b.0.1) (times, rest) b.2 in
    subst (λ (r : (ℕ × ℕ) × List (List ℕ)). ((r.0.0 ≤ 2 ^ 64 - 1) × (r.0.1 ≤ 2 ^ 32 - 1)) × (parts ≡ decimal r.0.0 ∷ decimal r.0.1 ∷ r.1)) same
    ((time.0, lifetime.0), time.1 ∙ ap (λ (more : List (List ℕ)). decimal a.0.0 ∷ more) lifetime.1)

pub times_in-again : (time lifetime : ℕ) (rest : List (List ℕ)) → time ≤ 2 ^ 64 - 1 → lifetime ≤ 2 ^ 32 - 1 → times_in (decimal time ∷ decimal lifetime ∷ rest) ≡ Some ((time, lifetime), rest)
unfolding times_in
times_in-again time lifetime rest is_time is_lifetime =
    rw (decimal_of-decimal (2 ^ 64 - 1) time (omega arith) is_time, decimal_of-decimal (2 ^ 32 - 1) lifetime (omega arith) is_lifetime) refl

value_in-takes : (parts : List (List ℕ)) (v : ValueWord) → value_in parts ≡ Some v → IsValue v × (parts ≡ value_parts v)
unfolding value_in
value_in-takes parts v e =
    let a = bind_some (part_of slot_key_of parts) _ v e in
    let b = bind_some (times_in a.0.1) _ v a.2 in
    let c = bind_some (only_of data_of b.0.1) _ v b.2 in
    let key = part_of-takes slot_key_of slot_key_text IsSlotKey slot_key_codec parts a.0.0 a.0.1 a.1 in
    let times = times_in-takes a.0.1 b.0.0 b.0.1 b.1 in
    let datum = only_of-takes data_of data_text IsData data_codec b.0.1 c.0 c.1 in
    subst (λ (w : ValueWord). IsValue w × (parts ≡ value_parts w)) (same_Some (record { key = a.0.0; storage_time = b.0.0.0; lifetime = b.0.0.1; value = c.0 }) v c.2) (
      record { key = key.0; storage_time = times.0.0; lifetime = times.0.1; value = datum.0 },
      key.1 ∙ ap (λ (more : List (List ℕ)). slot_key_text a.0.0 ∷ more) (times.1 ∙ ap (λ (more : List (List ℕ)). decimal b.0.0.0 ∷ decimal b.0.0.1 ∷ more) datum.1),
    )

value_in-again : (v : ValueWord) → IsValue v → value_in (value_parts v) ≡ Some v
unfolding value_in
value_in-again v is =
    rw (
      slot_key_codec.again v.key is.key,
      times_in-again v.storage_time v.lifetime (data_text v.value ∷ []) is.storage_time is.lifetime,
      only_of-again data_of data_text IsData data_codec v.value is.value,
    ) refl

parts_codec : IsCodec value_in value_parts IsValue
parts_codec = record { takes = value_in-takes; again = value_in-again }

parts-joined : (v : ValueWord) → IsValue v → AreJoined 58 (value_parts v)
parts-joined v is =
    let time = decimal-has_no 58 v.storage_time (omega (arith, is.storage_time)) refl in
    let lifetime = decimal-has_no 58 v.lifetime (omega (arith, is.lifetime)) refl in
    (slot_key_text-lacks 58 v.key outside_colon is.key, (time, (lifetime, (data_text-lacks 58 v.value outside_colon is.value, tt))))

-- four parts with a separator between each two
joined_four : (byte : ℕ) (a b c d : List ℕ) → joined byte (a ∷ b ∷ c ∷ d ∷ []) ≡ a ++ (byte ∷ []) ++ b ++ (byte ∷ []) ++ c ++ (byte ∷ []) ++ d
unfolding joined
joined_four byte a b c d = simp (append_assoc, append-nil) refl

value_text-joined : (v : ValueWord) → joined 58 (value_parts v) ≡ value_text v
unfolding value_text
value_text-joined v = joined_four 58 (slot_key_text v.key) (decimal v.storage_time) (decimal v.lifetime) (data_text v.value)

pub value_codec : IsCodec value_of value_text IsValue
unfolding value_of
value_codec = retold_codec value_of (λ v. joined 58 (value_parts v)) value_text IsValue (pieced_codec 58 value_in value_parts IsValue parts_codec parts-joined) value_text-joined

pub value_text-lacks : (byte : ℕ) (v : ValueWord) → IsOutside byte → Lacks byte (codes ":") → IsValue v → Lacks byte (value_text v)
unfolding value_text
value_text-lacks byte v out colon is =
    Lacks-append byte (slot_key_text v.key ++ codes ":" ++ decimal v.storage_time ++ codes ":" ++ decimal v.lifetime ++ codes ":") (data_text v.value)
    (Lacks-append byte (slot_key_text v.key ++ codes ":" ++ decimal v.storage_time ++ codes ":" ++ decimal v.lifetime) (codes ":")
    (Lacks-append byte (slot_key_text v.key ++ codes ":" ++ decimal v.storage_time ++ codes ":") (decimal v.lifetime)
    (Lacks-append byte (slot_key_text v.key ++ codes ":" ++ decimal v.storage_time) (codes ":")
    (Lacks-append byte (slot_key_text v.key ++ codes ":") (decimal v.storage_time)
    (Lacks-append byte (slot_key_text v.key) (codes ":") (slot_key_text-lacks byte v.key out is.key) colon)
    (decimal-has_no byte v.storage_time (omega (arith, is.storage_time)) out.digit))
    colon)
    (decimal-has_no byte v.lifetime (omega (arith, is.lifetime)) out.digit))
    colon)
    (data_text-lacks byte v.value out is.value)
