-- The words of transcripts are read exactly where they are what they spell.
use Rattle.std.proofs.Common.{◌≡◌, ℕ, ◌-◌, ◌^◌, ◌<◌, ◌≤◌, Bool, true, false, cond, List, [], ◌∷◌, ◌++◌, Option, Some, None, refl, sym, ap, subst, ◌∙◌, append_assoc, append-nil, arith}
use Rattle.std.specs.Prelude.{codes}
use Rattle.std.specs.Fmt.{decimal}
use Rattle.std.specs.Str.{bytes_eq}
use Rattle.std.proofs.lemmas.Option.{same_Some}
use Rattle.std.proofs.lemmas.Slice.Eq.{bytes_eq-Decides}
use Rattle.text_words.specs.Codec.{IsCodec}
use Rattle.text_words.specs.Decimal.{decimal_of}
use Rattle.text_words.specs.Separator.{Lacks, joined, upto}
use Rattle.text_words.specs.Steps.{◌>>=◌, part_of, only_of}
use Rattle.text_words.proofs.CodecLaws.{pieced_codec, retold_codec}
use Rattle.text_words.proofs.DecimalLaws.{decimal_codec, decimal_of-takes, decimal_of-decimal}
use Rattle.text_words.proofs.Lacking.{decimal-has_no, Lacks-fixed}
use Rattle.text_words.proofs.PiecesLaws.{AreJoined}
use Rattle.text_words.proofs.SeparatorLaws.{bytes_eq-other, upto-takes, upto-append}
use Rattle.text_words.proofs.StepsLaws.{bind_some, part_of-takes, only_of-takes, only_of-again}
use Rattle.request_words.specs.Values.{data_of, data_text, slot_key_of, slot_key_text, times_in, value_text, IsData, IsSlotKey, IsValue}
use Rattle.transcript_text.specs.Words.{DecidedWord, counter_of, counter_text, decided_in, decided_of, decided_text, number_text, some_number_of, IsCounter, IsDecided, IsNumber}
use Rattle.request_words.proofs.ValueLaws.{slot_key_codec, slot_key_text-lacks, data_codec, data_text-lacks, outside_colon, times_in-takes, times_in-again}

-- ---- counters

counter-is : (counter : ℕ × ℕ) → counter_text counter ≡ decimal counter.0 ++ 58 ∷ decimal counter.1
unfolding counter_text
counter-is counter = append_assoc (decimal counter.0) (58 ∷ []) (decimal counter.1)

counter_of-takes : (word : List ℕ) (counter : ℕ × ℕ) → counter_of word ≡ Some counter → IsCounter counter × (word ≡ counter_text counter)
unfolding counter_of
counter_of-takes word counter e =
    let a = bind_some (upto 58 word) _ counter e in
    let b = bind_some (decimal_of (2 ^ 32 - 1) a.0.0) _ counter a.2 in
    let c = bind_some (decimal_of (2 ^ 64 - 1) a.0.1) _ counter b.2 in
    let kind = decimal_of-takes (2 ^ 32 - 1) a.0.0 b.0 (omega arith) b.1 in
    let generation = decimal_of-takes (2 ^ 64 - 1) a.0.1 c.0 (omega arith) c.1 in
    subst (λ (k : ℕ × ℕ). IsCounter k × (word ≡ counter_text k)) (same_Some (b.0, c.0) counter c.2)
    ((kind.0, generation.0), (upto-takes 58 word a.0.0 a.0.1 a.1).0 ∙ (λ i. kind.1 i ++ 58 ∷ generation.1 i) ∙ sym (counter-is (b.0, c.0)))

counter_of-again : (counter : ℕ × ℕ) → IsCounter counter → counter_of (counter_text counter) ≡ Some counter
unfolding counter_of
counter_of-again (kind, generation) is =
    rw (
      counter-is (kind, generation),
      upto-append 58 (decimal kind) (decimal generation) (decimal-has_no 58 kind (omega (arith, is.0)) refl),
      decimal_of-decimal (2 ^ 32 - 1) kind (omega arith) is.0,
      decimal_of-decimal (2 ^ 64 - 1) generation (omega arith) is.1,
    ) refl

pub counter_codec : IsCodec counter_of counter_text IsCounter
counter_codec = record { takes = counter_of-takes; again = counter_of-again }

-- ---- numbers of nodes

some_number_of-takes : (word : List ℕ) (found : Option ℕ) → some_number_of word ≡ Some found → IsNumber found × (word ≡ number_text found)
unfolding some_number_of number_text
some_number_of-takes word found e = by_sign (bytes_eq word (codes "?")) refl e
  where
    by_sign : (sign : Bool) → bytes_eq word (codes "?") ≡ sign → cond sign (Some None) (decimal_of (2 ^ 32 - 1) word >>= λ number. Some (Some number)) ≡ Some found → IsNumber found × (word ≡ number_text found)
    by_sign true is e = subst (λ (f : Option ℕ). IsNumber f × (word ≡ number_text f)) (same_Some None found e) (tt, (bytes_eq-Decides word (codes "?")).0 is)
    by_sign false is e =
        let a = bind_some (decimal_of (2 ^ 32 - 1) word) _ found e in
        subst (λ (f : Option ℕ). IsNumber f × (word ≡ number_text f)) (same_Some (Some a.0) found a.2) (decimal_of-takes (2 ^ 32 - 1) word a.0 (omega arith) a.1)

some_number_of-again : (found : Option ℕ) → IsNumber found → some_number_of (number_text found) ≡ Some found
unfolding some_number_of number_text
some_number_of-again None is = refl
some_number_of-again (Some number) is =
    rw (bytes_eq-other 63 [] (decimal number) (decimal-has_no 63 number (omega (arith, is)) refl), decimal_of-decimal (2 ^ 32 - 1) number (omega arith) is) refl

pub some_number_codec : IsCodec some_number_of number_text IsNumber
some_number_codec = record { takes = some_number_of-takes; again = some_number_of-again }

number_text-lacks : (found : Option ℕ) → IsNumber found → Lacks 58 (number_text found)
unfolding number_text
number_text-lacks None is = Lacks-fixed 58 (codes "?") refl
number_text-lacks (Some number) is = decimal-has_no 58 number (omega (arith, is)) refl

-- ---- values of decisions

abbrev decided_parts : DecidedWord → List (List ℕ)
decided_parts d =
    slot_key_text d.value.key ∷ decimal d.value.storage_time ∷ decimal d.value.lifetime ∷ data_text d.value.value ∷ number_text d.signer ∷ decimal d.size ∷ []

decided_in-takes : (parts : List (List ℕ)) (d : DecidedWord) → decided_in parts ≡ Some d → IsDecided d × (parts ≡ decided_parts d)
unfolding decided_in
decided_in-takes parts d e =
    let a = bind_some (part_of slot_key_of parts) _ d e in
    let b = bind_some (times_in a.0.1) _ d a.2 in
    let c = bind_some (part_of data_of b.0.1) _ d b.2 in
    let f = bind_some (part_of some_number_of c.0.1) _ d c.2 in
    let g = bind_some (only_of (decimal_of (2 ^ 32 - 1)) f.0.1) _ d f.2 in
    let key = part_of-takes slot_key_of slot_key_text IsSlotKey slot_key_codec parts a.0.0 a.0.1 a.1 in
    let times = times_in-takes a.0.1 b.0.0 b.0.1 b.1 in
    let datum = part_of-takes data_of data_text IsData data_codec b.0.1 c.0.0 c.0.1 c.1 in
    let signer = part_of-takes some_number_of number_text IsNumber some_number_codec c.0.1 f.0.0 f.0.1 f.1 in
    let size = only_of-takes (decimal_of (2 ^ 32 - 1)) decimal (λ n. n ≤ 2 ^ 32 - 1) (decimal_codec (2 ^ 32 - 1) (omega arith)) f.0.1 g.0 g.1 in
    let words = key.1
    ∙ ap (λ (more : List (List ℕ)). slot_key_text a.0.0 ∷ more) times.1
    ∙ ap (λ (more : List (List ℕ)). slot_key_text a.0.0 ∷ decimal b.0.0.0 ∷ decimal b.0.0.1 ∷ more) datum.1
    ∙ ap (λ (more : List (List ℕ)). slot_key_text a.0.0 ∷ decimal b.0.0.0 ∷ decimal b.0.0.1 ∷ data_text c.0.0 ∷ more) signer.1
    ∙ ap (λ (more : List (List ℕ)). slot_key_text a.0.0 ∷ decimal b.0.0.0 ∷ decimal b.0.0.1 ∷ data_text c.0.0 ∷ number_text f.0.0 ∷ more) size.1 in
    subst (λ (w : DecidedWord). IsDecided w × (parts ≡ decided_parts w))
    (same_Some (record { value = record { key = a.0.0; storage_time = b.0.0.0; lifetime = b.0.0.1; value = c.0.0 }; signer = f.0.0; size = g.0 }) d g.2) (
      record {
        value = record { key = key.0; storage_time = times.0.0; lifetime = times.0.1; value = datum.0 };
        signer = signer.0;
        size = size.0;
      },
      words,
    )

decided_in-again : (d : DecidedWord) → IsDecided d → decided_in (decided_parts d) ≡ Some d
unfolding decided_in
decided_in-again d is =
    rw (
      slot_key_codec.again d.value.key is.value.key,
      times_in-again d.value.storage_time d.value.lifetime (data_text d.value.value ∷ number_text d.signer ∷ decimal d.size ∷ []) is.value.storage_time is.value.lifetime,
      data_codec.again d.value.value is.value.value,
      some_number_codec.again d.signer is.signer,
      only_of-again (decimal_of (2 ^ 32 - 1)) decimal (λ n. n ≤ 2 ^ 32 - 1) (decimal_codec (2 ^ 32 - 1) (omega arith)) d.size is.size,
    ) refl

decided_parts_codec : IsCodec decided_in decided_parts IsDecided
decided_parts_codec = record { takes = decided_in-takes; again = decided_in-again }

decided-joined : (d : DecidedWord) → IsDecided d → AreJoined 58 (decided_parts d)
decided-joined d is =
    let time = decimal-has_no 58 d.value.storage_time (omega (arith, is.value.storage_time)) refl in
    let lifetime = decimal-has_no 58 d.value.lifetime (omega (arith, is.value.lifetime)) refl in
    let size = decimal-has_no 58 d.size (omega (arith, is.size)) refl in
    let signer = number_text-lacks d.signer is.signer in
    (slot_key_text-lacks 58 d.value.key outside_colon is.value.key, (time, (lifetime, (data_text-lacks 58 d.value.value outside_colon is.value.value, (signer, (size, tt))))))

-- six parts with a separator between each two
joined_six : (byte : ℕ) (a b c d e f : List ℕ) → joined byte (a ∷ b ∷ c ∷ d ∷ e ∷ f ∷ []) ≡ (a ++ (byte ∷ []) ++ b ++ (byte ∷ []) ++ c ++ (byte ∷ []) ++ d) ++ (byte ∷ []) ++ e ++ (byte ∷ []) ++ f
unfolding joined
joined_six byte a b c d e f = simp (append_assoc, append-nil) refl

decided_text-joined : (d : DecidedWord) → joined 58 (decided_parts d) ≡ decided_text d
unfolding decided_text value_text
decided_text-joined d = joined_six 58 (slot_key_text d.value.key) (decimal d.value.storage_time) (decimal d.value.lifetime) (data_text d.value.value) (number_text d.signer) (decimal d.size)

pub decided_codec : IsCodec decided_of decided_text IsDecided
unfolding decided_of
decided_codec = retold_codec decided_of (λ d. joined 58 (decided_parts d)) decided_text IsDecided (pieced_codec 58 decided_in decided_parts IsDecided decided_parts_codec decided-joined) decided_text-joined
