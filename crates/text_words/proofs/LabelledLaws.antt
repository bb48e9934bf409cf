-- A word behind a fixed text is read exactly where it is what it spells.
use Rattle.std.proofs.Common.{◌≡◌, ℕ, ◌^◌, ◌<◌, ◌≤◌, List, [], ◌∷◌, ◌++◌, Option, Some, None, refl, ap, ◌∙◌, arith}
use Rattle.text_words.specs.Codec.{IsCodec}
use Rattle.text_words.specs.Decimal.{decimal_of}
use Rattle.text_words.specs.Hex.{AllBytes, hex_of}
use Rattle.text_words.specs.Labelled.{labelled, labelled_of, labelled_words, first_behind, past_label, optional_of, at_name, at_name_of, key_name, key_name_of}
use Rattle.text_words.specs.Name.{is_name, IsName}
use Rattle.text_words.proofs.CodecLaws.{behind_codec, tested_codec}
use Rattle.text_words.proofs.DecimalLaws.{decimal_codec, decimal_of-takes, decimal_of-decimal}
use Rattle.text_words.proofs.HexLaws.{hex_codec}
use Rattle.text_words.proofs.NameLaws.{is_name-IsName}
use Rattle.hex.specs.Hex.{encode_lower}
use Rattle.std.specs.Fmt.{decimal}
use Rattle.std.specs.Prelude.{codes}
use Rattle.std.proofs.lemmas.Option.{same_Some, some_pair_parts}
use Rattle.text_words.specs.Separator.{behind}
use Rattle.text_words.specs.Steps.{◌>>=◌, allowed}
use Rattle.text_words.proofs.SeparatorLaws.{behind-takes, behind-append}
use Rattle.text_words.proofs.StepsLaws.{bind_some}

pub labelled_codec : (label : List ℕ) (most : ℕ) → most < 2 ^ 64 → IsCodec (labelled_of label most) (labelled label) (λ n. n ≤ most)
unfolding labelled_of labelled
labelled_codec label most small = behind_codec label (decimal_of most) decimal (λ n. n ≤ most) (decimal_codec most small)

pub at_name_codec : IsCodec at_name_of at_name IsName
unfolding at_name_of at_name
at_name_codec = behind_codec (codes "@") (λ name. allowed (is_name name) >>= λ fits. Some name) (λ name. name) IsName (tested_codec is_name IsName is_name-IsName)

pub key_name_codec : IsCodec key_name_of key_name AllBytes
unfolding key_name_of key_name
key_name_codec = behind_codec (codes "=") hex_of encode_lower AllBytes hex_codec

-- ---- a word that may be left out

-- the first word doesn't begin with the label
abbrev pub IsUnlabelled : List ℕ → List (List ℕ) → Type 0
IsUnlabelled label words = first_behind label words ≡ None

-- within a limit, where there is one
abbrev pub IsLimited : ℕ → Option ℕ → Type 0
IsLimited most None = Unit {0}
IsLimited most (Some n) = n ≤ most

-- the word that was read, or none
pub optional_of-takes : (label : List ℕ) (most : ℕ) (words : List (List ℕ)) (found : Option ℕ) (rest : List (List ℕ)) → most < 2 ^ 64 → optional_of label most words ≡ Some (found, rest)
    → IsLimited most found × (words ≡ labelled_words label found ++ rest)
unfolding optional_of first_behind labelled
optional_of-takes label most [] found rest small e = by_none found rest e
  where
    by_none : (found : Option ℕ) (rest : List (List ℕ)) → ◌≡◌ {A = Option (Option ℕ × List (List ℕ))} (Some (None, [])) (Some (found, rest)) → IsLimited most found × ([] ≡ labelled_words label found ++ rest)
    by_none None rest e = (tt, (some_pair_parts None None [] rest e).1)
    by_none (Some n) rest e = let no : None ≡ Some n = (some_pair_parts None (Some n) [] rest e).0 in absurd cc
optional_of-takes label most (word ∷ words) found rest small e = by_label (behind label word) refl found e
  where
    by_label : (digits : Option (List ℕ)) → behind label word ≡ digits → (found : Option ℕ) → past_label most (word ∷ words) digits ≡ Some (found, rest) → IsLimited most found × (word ∷ words ≡ labelled_words label found ++ rest)
    by_label None other None e = (tt, (some_pair_parts None None (word ∷ words) rest e).1)
    by_label None other (Some n) e = let no : None ≡ Some n = (some_pair_parts None (Some n) (word ∷ words) rest e).0 in absurd cc
    by_label (Some digits) is None e =
        let a = bind_some (decimal_of most digits) _ (None, rest) e in
        let no : Some a.0 ≡ None = (some_pair_parts (Some a.0) None words rest a.2).0 in
        absurd cc
    by_label (Some digits) is (Some n) e =
        let a = bind_some (decimal_of most digits) _ (Some n, rest) e in
        let parts = some_pair_parts (Some a.0) (Some n) words rest a.2 in
        let read = decimal_of-takes most digits a.0 small a.1 in
        let same = same_Some a.0 n parts.0 in
        (omega (arith, read.0, same), λ i. (behind-takes label word digits is ∙ ap (λ (ds : List ℕ). label ++ ds) (read.1 ∙ ap decimal same)) i ∷ parts.1 i)

pub optional_of-again : (label : List ℕ) (most : ℕ) (found : Option ℕ) (rest : List (List ℕ)) → most < 2 ^ 64 → IsLimited most found → IsUnlabelled label rest → optional_of label most (labelled_words label found ++ rest) ≡ Some (found, rest)
unfolding optional_of first_behind labelled
optional_of-again label most None rest small fits other = ap (past_label most rest) other
optional_of-again label most (Some n) rest small fits other = rw (behind-append label (decimal n), decimal_of-decimal most n small fits) refl
