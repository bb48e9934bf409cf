-- A word that lists others is read exactly where it is what it spells.
use Rattle.std.proofs.Common.{◌≡◌, false, ℕ, ◌-◌, ◌^◌, ◌<◌, ◌≤◌, List, [], ◌∷◌, ◌++◌, length, append_assoc, Option, Some, refl, sym, ap, ◌∙◌, arith}
use Rattle.std.specs.Prelude.{map}
use Rattle.std.specs.Char.{is_ascii_digit}
use Rattle.std.specs.Fmt.{decimal}
use Rattle.std.specs.List.{flat_map, AllByRecursion}
use Rattle.std.proofs.lemmas.Option.{some_pair_parts}
use Rattle.hex.specs.Hex.{encode_lower}
use Rattle.text_words.specs.Codec.{IsCodec}
use Rattle.text_words.specs.Decimal.{decimal_of}
use Rattle.text_words.specs.Hex.{AllBytes, is_lower_digit}
use Rattle.text_words.specs.Labelled.{key_name, key_name_of}
use Rattle.text_words.specs.Listed.{AreNames, AreRanges, behind_comma, listed, listed_of, key_names_of, key_names_text, range_of, range_text, ranges_of, ranges_text}
use Rattle.text_words.specs.Separator.{Lacks, joined, pieces_of, upto}
use Rattle.text_words.specs.Steps.{each_of}
use Rattle.text_words.proofs.CodecLaws.{each_codec}
use Rattle.text_words.proofs.DecimalLaws.{decimal_of-takes, decimal_of-decimal}
use Rattle.text_words.proofs.LabelledLaws.{key_name_codec}
use Rattle.text_words.proofs.Lacking.{decimal-has_no, encode_lower-has_no, Lacks-fixed}
use Rattle.text_words.proofs.PiecesLaws.{AllLack, AreJoined, behind_each, joined-pieces_of, pieces_of-are, pieces_of-cons}
use Rattle.text_words.proofs.SeparatorLaws.{Lacks-append, Lacks-nil, Lacks-parts, upto-takes, upto-append}
use Rattle.text_words.proofs.StepsLaws.{bind_some}

-- ---- one range

text_is : (range : ℕ × ℕ) → range_text range ≡ decimal range.0 ++ 45 ∷ decimal range.1
unfolding range_text
text_is range = append_assoc (decimal range.0) (45 ∷ []) (decimal range.1)

abbrev IsRange : ℕ × ℕ → Type 0
IsRange range = (range.0 < 2 ^ 32) × (range.1 < 2 ^ 32)

range_of-takes : (word : List ℕ) (range : ℕ × ℕ) → range_of word ≡ Some range → IsRange range × (word ≡ range_text range)
unfolding range_of
range_of-takes word (first, last) e =
    let a = bind_some (upto 45 word) _ (first, last) e in
    let b = bind_some (decimal_of (2 ^ 32 - 1) a.0.0) _ (first, last) a.2 in
    let c = bind_some (decimal_of (2 ^ 32 - 1) a.0.1) _ (first, last) b.2 in
    let same = some_pair_parts b.0 first c.0 last c.2 in
    let low = decimal_of-takes (2 ^ 32 - 1) a.0.0 b.0 (omega arith) b.1 in
    let high = decimal_of-takes (2 ^ 32 - 1) a.0.1 c.0 (omega arith) c.1 in
    let parts = (upto-takes 45 word a.0.0 a.0.1 a.1).0 in (
      (omega (arith, low.0, same.0), omega (arith, high.0, same.1)),
      parts ∙ (λ i. (low.1 ∙ ap decimal same.0) i ++ 45 ∷ (high.1 ∙ ap decimal same.1) i) ∙ sym (text_is (first, last)),
    )

range_of-again : (range : ℕ × ℕ) → IsRange range → range_of (range_text range) ≡ Some range
unfolding range_of
range_of-again (first, last) fits =
    rw (
      text_is (first, last),
      upto-append 45 (decimal first) (decimal last) (decimal-has_no 45 first (omega (arith, fits.0)) refl),
      decimal_of-decimal (2 ^ 32 - 1) first (omega arith) (omega (arith, fits.0)),
      decimal_of-decimal (2 ^ 32 - 1) last (omega arith) (omega (arith, fits.1)),
    ) refl

pub range_codec : IsCodec range_of range_text IsRange
range_codec = record { takes = range_of-takes; again = range_of-again }

-- ---- lists of one codec

-- what is listed is joined by commas
others_are : {A : Type 0} (text : A → List ℕ) (xs : List A) → flat_map (behind_comma text) xs ≡ behind_each 44 (map text xs)
unfolding behind_comma
others_are text [] = refl
others_are text (x ∷ xs) = ap (λ (rest : List ℕ). (44 ∷ text x) ++ rest) (others_are text xs)

listed-joined : {A : Type 0} (text : A → List ℕ) (xs : List A) → listed text xs ≡ joined 44 (map text xs)
unfolding joined
listed-joined text [] = refl
listed-joined text (x ∷ xs) = ap (λ (rest : List ℕ). text x ++ rest) (others_are text xs)

cons_isnt_nil : (word : List ℕ) (words : List (List ℕ)) → word ∷ words ≡ [] → ⊥
cons_isnt_nil word words e = cc

-- at least one
abbrev AreListed : {A : Type 0} → (A → Type 0) → List A → Type 0
AreListed Fits xs = (1 ≤ length xs) × AllByRecursion Fits xs

listed_codec : {A : Type 0} (of : List ℕ → Option A) (text : A → List ℕ) (Fits : A → Type 0) → IsCodec of text Fits → ((x : A) → Fits x → Lacks 44 (text x)) → IsCodec (listed_of of) (listed text) (AreListed Fits)
listed_codec {A = A} of text Fits codec lacks = record { takes = takes; again = again }
  where
    each : IsCodec (each_of of) (map text) (AllByRecursion Fits)
    each = each_codec of text Fits codec

    all_lack : (xs : List A) → AllByRecursion Fits xs → AllLack 44 (map text xs)
    all_lack [] fits = tt
    all_lack (x ∷ xs) fits = (lacks x fits.0, all_lack xs fits.1)

    are_joined : (xs : List A) → AreListed Fits xs → AreJoined 44 (map text xs)
    are_joined [] fits = absurd (omega (arith, fits.0))
    are_joined (x ∷ xs) fits = all_lack (x ∷ xs) fits.1

    some : (xs : List A) (word : List ℕ) → pieces_of 44 word ≡ map text xs → 1 ≤ length xs
    some [] word is = let cons = pieces_of-cons 44 word in absurd (cons_isnt_nil cons.0 cons.1 (sym cons.2 ∙ is))
    some (x ∷ xs) word is = omega arith

    takes : (word : List ℕ) (xs : List A) → listed_of of word ≡ Some xs → AreListed Fits xs × (word ≡ listed text xs)
    takes word xs e =
        let read = each.takes (pieces_of 44 word) xs e in
        ((some xs word read.1, read.0), sym (joined-pieces_of 44 word) ∙ ap (joined 44) read.1 ∙ sym (listed-joined text xs))

    again : (xs : List A) → AreListed Fits xs → listed_of of (listed text xs) ≡ Some xs
    again xs fits =
        ap (listed_of of) (listed-joined text xs) ∙ ap (each_of of) (pieces_of-are 44 (map text xs) (are_joined xs fits)) ∙ each.again xs fits.1

-- ---- ranges and keys

range-lacks : (byte : ℕ) (range : ℕ × ℕ) → IsRange range → is_ascii_digit byte ≡ false → Lacks byte (45 ∷ []) → Lacks byte (range_text range)
unfolding range_text
range-lacks byte range fits digit dash =
    Lacks-append byte (decimal range.0 ++ 45 ∷ []) (decimal range.1)
    (Lacks-append byte (decimal range.0) (45 ∷ []) (decimal-has_no byte range.0 (omega (arith, fits.0)) digit) dash)
    (decimal-has_no byte range.1 (omega (arith, fits.1)) digit)

pub ranges_codec : IsCodec ranges_of ranges_text AreRanges
unfolding ranges_of ranges_text
ranges_codec = listed_codec range_of range_text IsRange range_codec (λ range fits. range-lacks 44 range fits refl (Lacks-fixed 44 (45 ∷ []) refl))

pub key_name-lacks : (byte : ℕ) (name : List ℕ) → AllBytes name → Lacks byte (61 ∷ []) → is_lower_digit byte ≡ false → Lacks byte (key_name name)
unfolding key_name
key_name-lacks byte name each sign other = Lacks-append byte (61 ∷ []) (encode_lower name) sign (encode_lower-has_no byte name each other)

pub key_names_codec : IsCodec key_names_of key_names_text AreNames
unfolding key_names_of key_names_text
key_names_codec = listed_codec key_name_of key_name AllBytes key_name_codec (λ name each. key_name-lacks 44 name each (Lacks-fixed 44 (61 ∷ []) refl) refl)

-- ---- what these words lack

flat_map-lacks : {A : Type 0} (byte : ℕ) (text : A → List ℕ) (Fits : A → Type 0) → Lacks byte (44 ∷ []) → ((x : A) → Fits x → Lacks byte (text x)) → (xs : List A) → AllByRecursion Fits xs → Lacks byte (flat_map (behind_comma text) xs)
unfolding behind_comma
flat_map-lacks byte text Fits comma lacks [] fits = Lacks-nil byte
flat_map-lacks byte text Fits comma lacks (x ∷ xs) fits =
    Lacks-append byte (44 ∷ text x) (flat_map (behind_comma text) xs) (Lacks-append byte (44 ∷ []) (text x) comma (lacks x fits.0)) (flat_map-lacks byte text Fits comma lacks xs fits.1)

listed-lacks : {A : Type 0} (byte : ℕ) (text : A → List ℕ) (Fits : A → Type 0) → Lacks byte (44 ∷ []) → ((x : A) → Fits x → Lacks byte (text x)) → (xs : List A) → AllByRecursion Fits xs → Lacks byte (listed text xs)
listed-lacks byte text Fits comma lacks [] fits = Lacks-nil byte
listed-lacks byte text Fits comma lacks (x ∷ xs) fits =
    Lacks-append byte (text x) (flat_map (behind_comma text) xs) (lacks x fits.0) (flat_map-lacks byte text Fits comma lacks xs fits.1)

-- a byte that is no digit, no dash and no comma
pub ranges_text-lacks : (byte : ℕ) (ranges : List (ℕ × ℕ)) → AreRanges ranges → is_ascii_digit byte ≡ false → Lacks byte (45 ∷ 44 ∷ []) → Lacks byte (ranges_text ranges)
unfolding ranges_text
ranges_text-lacks byte ranges are digit signs =
    let parts = Lacks-parts byte (45 ∷ []) (44 ∷ []) signs in
    listed-lacks byte range_text IsRange parts.1 (λ range fits. range-lacks byte range fits digit parts.0) ranges are.1

-- a byte that is no hex digit, no equals sign and no comma
pub key_names_text-lacks : (byte : ℕ) (names : List (List ℕ)) → AreNames names → is_lower_digit byte ≡ false → Lacks byte (61 ∷ 44 ∷ []) → Lacks byte (key_names_text names)
unfolding key_names_text
key_names_text-lacks byte names are hex signs =
    let parts = Lacks-parts byte (61 ∷ []) (44 ∷ []) signs in
    listed-lacks byte key_name AllBytes parts.1 (λ name each. key_name-lacks byte name each parts.0 hex) names are.1
