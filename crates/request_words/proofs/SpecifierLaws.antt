-- The words of a Fetch's kinds are read exactly where they are what they spell.
use Rattle.std.proofs.Common.{◌≡◌, ℕ, suc, ◌-◌, ◌^◌, ◌<◌, ◌≤◌, Bool, true, false, cond, List, [], ◌∷◌, ◌++◌, length, Option, Some, None, refl, sym, ap, subst, ◌∙◌, append_assoc, append-nil, ne_eqb, arith}
use Rattle.std.specs.Prelude.{codes, ◌==◌, IfSome}
use Rattle.std.specs.Char.{is_ascii_digit}
use Rattle.std.specs.Fmt.{decimal}
use Rattle.std.specs.Str.{bytes_eq}
use Rattle.std.proofs.lemmas.Bool.{eqb-true}
use Rattle.std.proofs.lemmas.List.{nil_from_length}
use Rattle.std.proofs.lemmas.Option.{same_Some}
use Rattle.std.proofs.lemmas.Slice.Eq.{bytes_eq-Decides}
use Rattle.hex.specs.Hex.{encode_lower}
use Rattle.text_words.specs.Codec.{IsCodec}
use Rattle.text_words.specs.Decimal.{decimal_of}
use Rattle.text_words.specs.Hex.{AllBytes, hex_of, is_lower_digit}
use Rattle.text_words.specs.Labelled.{key_name, key_name_of}
use Rattle.text_words.specs.Listed.{AreNames, AreRanges, key_names_of, key_names_text, range_of, ranges_of, ranges_text}
use Rattle.text_words.specs.Separator.{Lacks, behind, pieces_of, upto}
use Rattle.text_words.specs.Steps.{◌>>=◌, each_of}
use Rattle.text_words.proofs.DecimalLaws.{decimal_of-takes, decimal_of-decimal}
use Rattle.text_words.proofs.HexLaws.{hex_codec}
use Rattle.text_words.proofs.Lacking.{decimal-has_no, encode_lower-has_no, Lacks-fixed}
use Rattle.text_words.proofs.ListedLaws.{key_names_codec, ranges_codec, key_names_text-lacks, ranges_text-lacks}
use Rattle.text_words.proofs.SeparatorLaws.{Lacks-nil, Lacks-append, behind-takes, behind-append, behind-other, bytes_eq-other, upto-takes, upto-append, upto-none, upto-lacks}
use Rattle.text_words.proofs.StepsLaws.{bind_some}
use Rattle.data_models.specs.declared.fetched.Selector.{Selector}
use Rattle.data_models.specs.declared.fetched.Selector.TheVariants.{Whole, Ranges, Names, Raw}
use Rattle.request_words.specs.declared.specifier.SpecifierWord.{SpecifierWord}
use Rattle.request_words.specs.Raw.{raw_text}
use Rattle.request_words.specs.Specifiers.{slashed, counted_by, counted_of, counted_text, known_selector, listed_selector, raw_selector, selected_by, selection_text, selector_of, selector_text, specifier_of, specifier_text, IsSelector, IsSpecifier}

-- ---- KIND[/GEN]

-- within their limits
pub record IsCounted (counted : ℕ × Option ℕ) : Type 0 where
  pub kind : counted.0 ≤ 2 ^ 32 - 1
  pub generation : IfSome counted.1 (λ generation. generation ≤ 2 ^ 64 - 1)

pub slashed-is : (kind generation : ℕ) → slashed kind generation ≡ decimal kind ++ 47 ∷ decimal generation
unfolding slashed
slashed-is kind generation = append_assoc (decimal kind) (47 ∷ []) (decimal generation)

abbrev SpellsCounted : List ℕ → ℕ × Option ℕ → Type 0
SpellsCounted word counted = IsCounted counted × (word ≡ counted_text counted.0 counted.1)

counted_of-takes : (word : List ℕ) (counted : ℕ × Option ℕ) → counted_of word ≡ Some counted → SpellsCounted word counted
unfolding counted_of
counted_of-takes word counted e = by_parts (upto 47 word) refl e
  where
    by_parts : (found : Option (List ℕ × List ℕ)) → upto 47 word ≡ found → counted_by word found ≡ Some counted → SpellsCounted word counted
    by_parts None none e =
        let a = bind_some (decimal_of (2 ^ 32 - 1) word) _ counted e in
        let kind = decimal_of-takes (2 ^ 32 - 1) word a.0 (omega arith) a.1 in
        subst (SpellsCounted word) (same_Some (a.0, None) counted a.2) (record { kind = kind.0; generation = tt }, kind.1)
    by_parts (Some parts) some e =
        let a = bind_some (decimal_of (2 ^ 32 - 1) parts.0) _ counted e in
        let b = bind_some (decimal_of (2 ^ 64 - 1) parts.1) _ counted a.2 in
        let kind = decimal_of-takes (2 ^ 32 - 1) parts.0 a.0 (omega arith) a.1 in
        let generation = decimal_of-takes (2 ^ 64 - 1) parts.1 b.0 (omega arith) b.1 in
        subst (SpellsCounted word) (same_Some (a.0, Some b.0) counted b.2)
        (record { kind = kind.0; generation = generation.0 }, (upto-takes 47 word parts.0 parts.1 some).0 ∙ (λ i. kind.1 i ++ 47 ∷ generation.1 i) ∙ sym (slashed-is a.0 b.0))

counted_of-again : (counted : ℕ × Option ℕ) → IsCounted counted → counted_of (counted_text counted.0 counted.1) ≡ Some counted
unfolding counted_of
counted_of-again (kind, None) is =
    rw (upto-lacks 47 (decimal kind) (decimal-has_no 47 kind (omega (arith, is.kind)) refl), decimal_of-decimal (2 ^ 32 - 1) kind (omega arith) is.kind) refl
counted_of-again (kind, Some generation) is =
    rw (
      slashed-is kind generation,
      upto-append 47 (decimal kind) (decimal generation) (decimal-has_no 47 kind (omega (arith, is.kind)) refl),
      decimal_of-decimal (2 ^ 32 - 1) kind (omega arith) is.kind,
      decimal_of-decimal (2 ^ 64 - 1) generation (omega arith) is.generation,
    ) refl

counted_codec : IsCodec counted_of (λ counted. counted_text counted.0 counted.1) IsCounted
counted_codec = record { takes = counted_of-takes; again = counted_of-again }

pub slashed-lacks : (byte kind generation : ℕ) → is_ascii_digit byte ≡ false → Lacks byte (codes "/") → kind ≤ 2 ^ 32 - 1 → generation ≤ 2 ^ 64 - 1 → Lacks byte (slashed kind generation)
unfolding slashed
slashed-lacks byte kind generation digit slash is_kind is_generation =
    Lacks-append byte (decimal kind ++ codes "/") (decimal generation) (Lacks-append byte (decimal kind) (codes "/") (decimal-has_no byte kind (omega (arith, is_kind)) digit) slash)
    (decimal-has_no byte generation (omega (arith, is_generation)) digit)

counted_text-lacks : (byte kind : ℕ) (generation : Option ℕ) → is_ascii_digit byte ≡ false → Lacks byte (codes "/") → IsCounted (kind, generation) → Lacks byte (counted_text kind generation)
counted_text-lacks byte kind None digit slash is = decimal-has_no byte kind (omega (arith, is.kind)) digit
counted_text-lacks byte kind (Some generation) digit slash is = slashed-lacks byte kind generation digit slash is.kind is.generation

-- ---- selectors

-- what may stand behind a colon
abbrev IsBehindColon : Selector → Type 0
IsBehindColon Whole = ⊥
IsBehindColon selector = IsSelector selector

abbrev SpellsSelector : List ℕ → Selector → Type 0
SpellsSelector word selector = IsBehindColon selector × (word ≡ selector_text selector)

-- lists that are read
names_spelled : (word : List ℕ) (names : List (List ℕ)) → AreNames names × (word ≡ key_names_text names) → SpellsSelector word (Names names)
unfolding selector_text
names_spelled word [] is = absurd (omega (arith, is.0.0))
names_spelled word (name ∷ names) is = is

ranges_spelled : (word : List ℕ) (ranges : List (ℕ × ℕ)) → AreRanges ranges × (word ≡ ranges_text ranges) → SpellsSelector word (Ranges ranges)
unfolding selector_text
ranges_spelled word [] is = absurd (omega (arith, is.0.0))
ranges_spelled word (range ∷ ranges) is = is

listed-takes : (word : List ℕ) (selector : Selector) (sign : Option (List ℕ)) → listed_selector word sign ≡ Some selector → SpellsSelector word selector
listed-takes word selector (Some digits) e =
    let a = bind_some (key_names_of word) _ selector e in
    subst (SpellsSelector word) (same_Some (Names a.0) selector a.2) (names_spelled word a.0 (key_names_codec.takes word a.0 a.1))
listed-takes word selector None e =
    let a = bind_some (ranges_of word) _ selector e in
    subst (SpellsSelector word) (same_Some (Ranges a.0) selector a.2) (ranges_spelled word a.0 (ranges_codec.takes word a.0 a.1))

known-takes : (word : List ℕ) (selector : Selector) → known_selector word ≡ Some selector → SpellsSelector word selector
unfolding selector_text ranges_text
known-takes word selector e = by_tests (length word == 0) refl (bytes_eq word (codes "*")) refl e
  where
    by_tests : (none : Bool) → (length word == 0) ≡ none → (star : Bool) → bytes_eq word (codes "*") ≡ star → cond none (Some (Ranges [])) (cond star (Some (Names [])) (listed_selector word (behind (codes "=") word))) ≡ Some selector → SpellsSelector word selector
    by_tests true is star is_star e = subst (SpellsSelector word) (same_Some (Ranges []) selector e) (tt, nil_from_length word (eqb-true (length word) 0 is))
    by_tests false is true is_star e = subst (SpellsSelector word) (same_Some (Names []) selector e) (tt, (bytes_eq-Decides word (codes "*")).0 is_star)
    by_tests false is false is_star e = listed-takes word selector (behind (codes "=") word) e

selector_of-takes : (word : List ℕ) (selector : Selector) → selector_of word ≡ Some selector → SpellsSelector word selector
unfolding selector_of selector_text raw_text
selector_of-takes word selector e = by_sign (behind (codes "?") word) refl e
  where
    by_sign : (found : Option (List ℕ)) → behind (codes "?") word ≡ found → raw_selector word found ≡ Some selector → SpellsSelector word selector
    by_sign None other e = known-takes word selector e
    by_sign (Some digits) is e =
        let a = bind_some (hex_of digits) _ selector e in
        let read = hex_codec.takes digits a.0 a.1 in
        subst (SpellsSelector word) (same_Some (Raw a.0) selector a.2) (read.0, behind-takes (codes "?") word digits is ∙ ap (λ (rest : List ℕ). 63 ∷ rest) read.1)

-- a word that a reader takes, where it doesn't take the empty one, isn't empty
some_word : {A : Type 0} (of : List ℕ → Option A) (word : List ℕ) (x : A) → of [] ≡ None → of word ≡ Some x → (length word == 0) ≡ false
some_word of [] x none some = absurd cc
some_word of (first ∷ rest) x none some = ne_eqb (suc (length rest)) 0 (omega arith)

no_ranges : ranges_of [] ≡ None
unfolding ranges_of each_of pieces_of range_of upto
no_ranges = refl

no_names : key_names_of [] ≡ None
unfolding key_names_of each_of pieces_of key_name_of behind
no_names = refl

ranges-again : (ranges : List (ℕ × ℕ)) → AreRanges ranges → raw_selector (ranges_text ranges) (behind (codes "?") (ranges_text ranges)) ≡ Some (Ranges ranges)
ranges-again ranges is =
    let read = ranges_codec.again ranges is in
    rw (
      behind-other 63 [] (ranges_text ranges) (ranges_text-lacks 63 ranges is refl (Lacks-fixed 63 (codes "-,") refl)),
      some_word ranges_of (ranges_text ranges) ranges no_ranges read,
      bytes_eq-other 42 [] (ranges_text ranges) (ranges_text-lacks 42 ranges is refl (Lacks-fixed 42 (codes "-,") refl)),
      behind-other 61 [] (ranges_text ranges) (ranges_text-lacks 61 ranges is refl (Lacks-fixed 61 (codes "-,") refl)),
      read,
    ) refl

key_names_text-front : (names : List (List ℕ)) → AreNames names → (rest : List ℕ) × (behind (codes "=") (key_names_text names) ≡ Some rest)
unfolding key_names_text key_name behind
key_names_text-front [] is = absurd (omega (arith, is.0))
key_names_text-front (name ∷ names) is = (_, refl)

names-again : (names : List (List ℕ)) → AreNames names → raw_selector (key_names_text names) (behind (codes "?") (key_names_text names)) ≡ Some (Names names)
names-again names is =
    let read = key_names_codec.again names is in
    let sign = key_names_text-front names is in
    rw (
      behind-other 63 [] (key_names_text names) (key_names_text-lacks 63 names is refl (Lacks-fixed 63 (codes "=,") refl)),
      some_word key_names_of (key_names_text names) names no_names read,
      bytes_eq-other 42 [] (key_names_text names) (key_names_text-lacks 42 names is refl (Lacks-fixed 42 (codes "=,") refl)),
      sign.1,
      read,
    ) refl

raw-again : (bytes : List ℕ) → AllBytes bytes → raw_selector (codes "?" ++ encode_lower bytes) (behind (codes "?") (codes "?" ++ encode_lower bytes)) ≡ Some (Raw bytes)
raw-again bytes is = rw (behind-append (codes "?") (encode_lower bytes), hex_codec.again bytes is) refl

no_ranges-again : raw_selector (ranges_text []) (behind (codes "?") (ranges_text [])) ≡ Some (Ranges [])
unfolding ranges_text behind
no_ranges-again = refl

selector_of-again : (selector : Selector) → IsBehindColon selector → selector_of (selector_text selector) ≡ Some selector
unfolding selector_of selector_text behind raw_text
selector_of-again Whole is = absurd is
selector_of-again (Ranges []) is = no_ranges-again
selector_of-again (Ranges (range ∷ ranges)) is = ranges-again (range ∷ ranges) is
selector_of-again (Names []) is = refl
selector_of-again (Names (name ∷ names)) is = names-again (name ∷ names) is
selector_of-again (Raw bytes) is = raw-again bytes is

selector_codec : IsCodec selector_of selector_text IsBehindColon
selector_codec = record { takes = selector_of-takes; again = selector_of-again }

-- ---- whole words

abbrev SpellsSpecifier : List ℕ → SpecifierWord → Type 0
SpellsSpecifier word specifier = IsSpecifier specifier × (word ≡ specifier_text specifier)

made : (kind : ℕ) (generation : Option ℕ) (selector : Selector) → IsCounted (kind, generation) → IsSelector selector → IsSpecifier (record { kind = kind; generation = generation; selector = selector })
made kind generation selector counted is = record { kind = counted.kind; generation = counted.generation; selector = is }

-- what stands behind the generation
with_colon : (selector : Selector) → IsBehindColon selector → IsSelector selector × (selection_text selector ≡ 58 ∷ selector_text selector)
unfolding selection_text
with_colon Whole is = absurd is
with_colon (Ranges []) is = (is, refl)
with_colon (Ranges (range ∷ ranges)) is = (is, refl)
with_colon (Names []) is = (is, refl)
with_colon (Names (name ∷ names)) is = (is, refl)
with_colon (Raw bytes) is = (is, refl)

-- nothing, or a colon and what is behind it
behind_colon : (selector : Selector) → IsSelector selector → (selector ≡ Whole → ⊥) → IsBehindColon selector
behind_colon Whole is other = absurd (other refl)
behind_colon (Ranges []) is other = is
behind_colon (Ranges (range ∷ ranges)) is other = is
behind_colon (Names []) is other = is
behind_colon (Names (name ∷ names)) is other = is
behind_colon (Raw bytes) is other = is

specifier_of-takes : (word : List ℕ) (specifier : SpecifierWord) → specifier_of word ≡ Some specifier → SpellsSpecifier word specifier
unfolding specifier_of specifier_text selection_text
specifier_of-takes word specifier e = by_parts (upto 58 word) refl e
  where
    by_parts : (found : Option (List ℕ × List ℕ)) → upto 58 word ≡ found → selected_by word found ≡ Some specifier → SpellsSpecifier word specifier
    by_parts None none e =
        let a = bind_some (counted_of word) _ specifier e in
        let read = counted_codec.takes word a.0 a.1 in
        subst (SpellsSpecifier word) (same_Some (record { kind = a.0.0; generation = a.0.1; selector = Whole }) specifier a.2)
        (made a.0.0 a.0.1 Whole read.0 tt, read.1 ∙ sym (append-nil (counted_text a.0.0 a.0.1)))
    by_parts (Some parts) some e =
        let a = bind_some (counted_of parts.0) _ specifier e in
        let b = bind_some (selector_of parts.1) _ specifier a.2 in
        let counted = counted_codec.takes parts.0 a.0 a.1 in
        let selected = selector_codec.takes parts.1 b.0 b.1 in
        let colon = with_colon b.0 selected.0 in
        subst (SpellsSpecifier word) (same_Some (record { kind = a.0.0; generation = a.0.1; selector = b.0 }) specifier b.2) (
          made a.0.0 a.0.1 b.0 counted.0 colon.0,
          (upto-takes 58 word parts.0 parts.1 some).0 ∙ (λ i. counted.1 i ++ 58 ∷ selected.1 i) ∙ ap (λ (back : List ℕ). counted_text a.0.0 a.0.1 ++ back) (sym colon.1),
        )

colon-again : (kind : ℕ) (generation : Option ℕ) (selector : Selector) → IsCounted (kind, generation) → IsBehindColon selector → selected_by (counted_text kind generation ++ selection_text selector) (upto 58 (counted_text kind generation ++ selection_text selector)) ≡ Some (record { kind = kind; generation = generation; selector = selector })
colon-again kind generation selector counted is =
    rw (
      (with_colon selector is).1,
      upto-append 58 (counted_text kind generation) (selector_text selector) (counted_text-lacks 58 kind generation refl (Lacks-fixed 58 (codes "/") refl) counted),
      counted_codec.again (kind, generation) counted,
      selector_codec.again selector is,
    ) refl

whole-again : (kind : ℕ) (generation : Option ℕ) → IsCounted (kind, generation) → selected_by (counted_text kind generation ++ []) (upto 58 (counted_text kind generation ++ [])) ≡ Some (record { kind = kind; generation = generation; selector = Whole })
whole-again kind generation counted =
    rw (
      append-nil (counted_text kind generation),
      upto-lacks 58 (counted_text kind generation) (counted_text-lacks 58 kind generation refl (Lacks-fixed 58 (codes "/") refl) counted),
      counted_codec.again (kind, generation) counted,
    ) refl

again : (kind : ℕ) (generation : Option ℕ) (selector : Selector) → IsCounted (kind, generation) → IsSelector selector → selected_by (counted_text kind generation ++ selection_text selector) (upto 58 (counted_text kind generation ++ selection_text selector)) ≡ Some (record { kind = kind; generation = generation; selector = selector })
unfolding selection_text
again kind generation Whole counted is = whole-again kind generation counted
again kind generation (Ranges []) counted is = colon-again kind generation (Ranges []) counted is
again kind generation (Ranges (range ∷ ranges)) counted is = colon-again kind generation (Ranges (range ∷ ranges)) counted is
again kind generation (Names []) counted is = colon-again kind generation (Names []) counted is
again kind generation (Names (name ∷ names)) counted is = colon-again kind generation (Names (name ∷ names)) counted is
again kind generation (Raw bytes) counted is = colon-again kind generation (Raw bytes) counted is

specifier_of-again : (specifier : SpecifierWord) → IsSpecifier specifier → specifier_of (specifier_text specifier) ≡ Some specifier
unfolding specifier_of specifier_text
specifier_of-again specifier is = again specifier.kind specifier.generation specifier.selector (record { kind = is.kind; generation = is.generation }) is.selector

pub specifier_codec : IsCodec specifier_of specifier_text IsSpecifier
specifier_codec = record { takes = specifier_of-takes; again = specifier_of-again }

-- ---- what these words lack

-- a byte that no specifier has
pub record IsElsewhere (byte : ℕ) : Type 0 where
  pub digit : is_ascii_digit byte ≡ false
  pub hex : is_lower_digit byte ≡ false
  pub slash : Lacks byte (codes "/")
  pub signs : Lacks byte (codes ":") × Lacks byte (codes ":*") × Lacks byte (codes ":?")
  pub ranges : Lacks byte (codes "-,")
  pub names : Lacks byte (codes "=,")

pub elsewhere_space : IsElsewhere 32
elsewhere_space =
    record {
      digit = refl;
      hex = refl;
      slash = Lacks-fixed 32 (codes "/") refl;
      signs = (Lacks-fixed 32 (codes ":") refl, Lacks-fixed 32 (codes ":*") refl, Lacks-fixed 32 (codes ":?") refl);
      ranges = Lacks-fixed 32 (codes "-,") refl;
      names = Lacks-fixed 32 (codes "=,") refl;
    }

-- the `m` of `max=`
pub elsewhere_m : IsElsewhere 109
elsewhere_m =
    record {
      digit = refl;
      hex = refl;
      slash = Lacks-fixed 109 (codes "/") refl;
      signs = (Lacks-fixed 109 (codes ":") refl, Lacks-fixed 109 (codes ":*") refl, Lacks-fixed 109 (codes ":?") refl);
      ranges = Lacks-fixed 109 (codes "-,") refl;
      names = Lacks-fixed 109 (codes "=,") refl;
    }

selection_text-lacks : (byte : ℕ) (selector : Selector) → IsElsewhere byte → IsSelector selector → Lacks byte (selection_text selector)
unfolding selection_text selector_text ranges_text raw_text
selection_text-lacks byte Whole out is = Lacks-nil byte
selection_text-lacks byte (Ranges []) out is = out.signs.0
selection_text-lacks byte (Ranges (range ∷ ranges)) out is = Lacks-append byte (codes ":") (ranges_text (range ∷ ranges)) out.signs.0 (ranges_text-lacks byte (range ∷ ranges) is out.digit out.ranges)
selection_text-lacks byte (Names []) out is = out.signs.1
selection_text-lacks byte (Names (name ∷ names)) out is = Lacks-append byte (codes ":") (key_names_text (name ∷ names)) out.signs.0 (key_names_text-lacks byte (name ∷ names) is out.hex out.names)
selection_text-lacks byte (Raw bytes) out is = Lacks-append byte (codes ":?") (encode_lower bytes) out.signs.2 (encode_lower-has_no byte bytes is out.hex)

pub specifier_text-lacks : (byte : ℕ) (specifier : SpecifierWord) → IsElsewhere byte → IsSpecifier specifier → Lacks byte (specifier_text specifier)
unfolding specifier_text
specifier_text-lacks byte specifier out is =
    Lacks-append byte (counted_text specifier.kind specifier.generation) (selection_text specifier.selector)
    (counted_text-lacks byte specifier.kind specifier.generation out.digit out.slash (record { kind = is.kind; generation = is.generation }))
    (selection_text-lacks byte specifier.selector out is.selector)
