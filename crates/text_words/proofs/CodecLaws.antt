-- What a codec gives of a reader's answer.
use Rattle.std.proofs.Common.{◌≡◌, ℕ, Bool, true, false, cond, List, [], ◌∷◌, ◌++◌, length, ◌<◌, append_assoc, append-nil, Option, Some, None, Result, Ok, Err, refl, sym, ap, subst, ◌∙◌, arith}
use Rattle.std.specs.Prelude.{IfOk, IfSome, ◌↔◌, map, option_map}
use Rattle.std.specs.List.{AllByRecursion}
use Rattle.std.proofs.lemmas.Option.{same_Some}
use Rattle.std.proofs.lemmas.Slice.Eq.{bytes_eq-Decides}
use Rattle.std.specs.Str.{bytes_eq}
use Rattle.text_words.specs.Codec.{IsCodec, Spells}
use Rattle.text_words.specs.Separator.{behind, joined, pieces_of}
use Rattle.text_words.specs.Steps.{◌>>=◌, allowed, each_of, first_of, fixed_of}
use Rattle.text_words.proofs.PiecesLaws.{AreJoined, joined-pieces_of, pieces_of-are}
use Rattle.text_words.proofs.SeparatorLaws.{behind-takes, behind-append}
use Rattle.text_words.proofs.StepsLaws.{bind_some, allowed_some, first_of-takes}

-- what was found fits, and the word is its text
spelled : {A : Type 0} (text : A → List ℕ) (Fits : A → Type 0) (of : List ℕ → Option A) → IsCodec of text Fits → (word : List ℕ) (found : Option A) → found ≡ of word → IfSome found (λ x. Fits x × (word ≡ text x))
spelled text Fits of codec word None e = tt
spelled text Fits of codec word (Some x) e = codec.takes word x (sym e)

-- the answer of a reader on the word of a codec
pub Spells-from : {A : Type 0} (text : A → List ℕ) (Fits : A → Type 0) (of : List ℕ → Option A) → IsCodec of text Fits → (word : List ℕ) (found : Option A) → found ≡ of word → Spells text Fits word found
Spells-from text Fits of codec word found e =
    (spelled text Fits of codec word found e, λ x fits is. e ∙ ap of is ∙ codec.again x fits)

-- the same of a reader that takes memory
pub Spells-ok : {A E : Type 0} (text : A → List ℕ) (Fits : A → Type 0) (of : List ℕ → Option A) → IsCodec of text Fits → (word : List ℕ) (found : Result (Option A) E) → IfOk found (λ r. r ≡ of word) → IfOk found (Spells text Fits word)
Spells-ok text Fits of codec word (Ok r) e = Spells-from text Fits of codec word r e
Spells-ok text Fits of codec word (Err failed) e = tt

-- ---- codecs of codecs

-- a codec by another form of its text
pub retold_codec : {W A : Type 0} (of : W → Option A) (text other : A → W) (Fits : A → Type 0) → IsCodec of text Fits → ((x : A) → text x ≡ other x) → IsCodec of other Fits
retold_codec of text other Fits codec same =
    record {
      takes = λ word x e. let read = codec.takes word x e in (read.0, read.1 ∙ same x);
      again = λ x fits. ap of (sym (same x)) ∙ codec.again x fits;
    }

-- a word behind a fixed text
pub behind_codec : {A : Type 0} (label : List ℕ) (of : List ℕ → Option A) (text : A → List ℕ) (Fits : A → Type 0) → IsCodec of text Fits → IsCodec (λ word. behind label word >>= of) (λ x. label ++ text x) Fits
behind_codec label of text Fits codec =
    record {
      takes = λ word x e.
          let step = bind_some (behind label word) of x e in
          let read = codec.takes step.0 x step.2 in
          (read.0, behind-takes label word step.0 step.1 ∙ ap (λ (rest : List ℕ). label ++ rest) read.1);
      again = λ x fits. ap (λ (rest : Option (List ℕ)). rest >>= of) (behind-append label (text x)) ∙ codec.again x fits;
    }

-- a word that must pass a test
pub tested_codec : (test : List ℕ → Bool) (Fits : List ℕ → Type 0) → ((word : List ℕ) → (test word ≡ true) ↔ Fits word) → IsCodec (λ word. allowed (test word) >>= λ fits. Some word) (λ word. word) Fits
tested_codec test Fits decides =
    record {
      takes = λ word x e.
          let step = bind_some (allowed (test word)) _ x e in
          let same = same_Some word x step.2 in
          (subst Fits same ((decides word).0 (allowed_some (test word) step.0 step.1)), same);
      again = λ word fits. rw ((decides word).1 fits) refl;
    }

-- one of some fixed words
pub fixed_codec : {A : Type 0} (text : A → List ℕ) (all : List A) → ((x : A) → fixed_of text all (text x) ≡ Some x) → IsCodec (fixed_of text all) text (λ _. Unit {0})
fixed_codec {A = A} text all each = record { takes = λ word x e. (tt, sym (takes all word x e)); again = λ x fits. each x }
  where
    by_test : (word : List ℕ) (y : A) (ys : List A) (x : A) → ((fixed_of text ys word ≡ Some x) → text x ≡ word) → (same : Bool) → bytes_eq (text y) word ≡ same → cond same (Some y) (fixed_of text ys word) ≡ Some x → text x ≡ word
    by_test word y ys x later true same e = sym (ap text (same_Some y x e)) ∙ (bytes_eq-Decides (text y) word).0 same
    by_test word y ys x later false same e = later e

    takes : (ys : List A) (word : List ℕ) (x : A) → fixed_of text ys word ≡ Some x → text x ≡ word
    takes [] word x e = absurd cc
    takes (y ∷ ys) word x e = by_test word y ys x (takes ys word x) (bytes_eq (text y) word) refl e

-- ---- lists

-- the first is read, and then the others
pub each_of-some : {A : Type 0} (of : List ℕ → Option A) (word : List ℕ) (words : List (List ℕ)) (x : A) → of word ≡ Some x → each_of of (word ∷ words) ≡ (each_of of words >>= λ xs. Some (x ∷ xs))
unfolding each_of
each_of-some of word words x e = rw e refl

pub each_of-none : {A : Type 0} (of : List ℕ → Option A) (word : List ℕ) (words : List (List ℕ)) → of word ≡ None → each_of of (word ∷ words) ≡ None
unfolding each_of
each_of-none of word words e = rw e refl

each_of-takes : {A : Type 0} (of : List ℕ → Option A) (text : A → List ℕ) (Fits : A → Type 0) → IsCodec of text Fits → (words : List (List ℕ)) (xs : List A) → each_of of words ≡ Some xs → AllByRecursion Fits xs × (words ≡ map text xs)
unfolding each_of
each_of-takes {A = A} of text Fits codec [] xs e = by_nil xs (same_Some [] xs e)
  where
    by_nil : (xs : List A) → [] ≡ xs → AllByRecursion Fits xs × ([] ≡ map text xs)
    by_nil [] e = (tt, refl)
    by_nil (x ∷ xs) e = absurd cc
each_of-takes {A = A} of text Fits codec (word ∷ words) xs e =
    let first = bind_some (of word) _ xs e in
    let later = bind_some (each_of of words) _ xs first.2 in
    let read = codec.takes word first.0 first.1 in
    let rest = each_of-takes of text Fits codec words later.0 later.1 in
    let same : first.0 ∷ later.0 ≡ xs = same_Some (first.0 ∷ later.0) xs later.2 in
    subst (λ (ys : List A). AllByRecursion Fits ys × (word ∷ words ≡ map text ys)) same ((read.0, rest.0), λ i. read.1 i ∷ rest.1 i)

each_of-again : {A : Type 0} (of : List ℕ → Option A) (text : A → List ℕ) (Fits : A → Type 0) → IsCodec of text Fits → (xs : List A) → AllByRecursion Fits xs → each_of of (map text xs) ≡ Some xs
unfolding each_of
each_of-again of text Fits codec [] fits = refl
each_of-again of text Fits codec (x ∷ xs) fits = rw (codec.again x fits.0, each_of-again of text Fits codec xs fits.1) refl

-- each of some words
pub each_codec : {A : Type 0} (of : List ℕ → Option A) (text : A → List ℕ) (Fits : A → Type 0) → IsCodec of text Fits → IsCodec (each_of of) (map text) (AllByRecursion Fits)
each_codec of text Fits codec = record { takes = each_of-takes of text Fits codec; again = each_of-again of text Fits codec }

-- words that are read one by one are the pieces of one word
pub pieced_codec : {A : Type 0} (byte : ℕ) (of : List (List ℕ) → Option A) (texts : A → List (List ℕ)) (Fits : A → Type 0) → IsCodec of texts Fits → ((x : A) → Fits x → AreJoined byte (texts x)) → IsCodec (λ word. of (pieces_of byte word)) (λ x. joined byte (texts x)) Fits
pieced_codec byte of texts Fits codec parts =
    record {
      takes = λ word x e.
          let read = codec.takes (pieces_of byte word) x e in
          (read.0, sym (joined-pieces_of byte word) ∙ ap (joined byte) read.1);
      again = λ x fits. ap of (pieces_of-are byte (texts x) (parts x fits)) ∙ codec.again x fits;
    }

-- ---- what a reader in a loop has so far

-- the values so far and those of the words that are left
abbrev pub more_of : {A : Type 0} → List A → Option (List A) → Option (List A)
more_of so_far found = option_map (λ more. so_far ++ more) found

pub more_of-none : {A : Type 0} (found : Option (List A)) → more_of [] found ≡ found
more_of-none None = refl
more_of-none (Some xs) = refl

pub more_of-read : {A : Type 0} (of : List ℕ → Option A) (so_far : List A) (word : List ℕ) (words : List (List ℕ)) (x : A) → of word ≡ Some x → more_of (so_far ++ x ∷ []) (each_of of words) ≡ more_of so_far (each_of of (word ∷ words))
more_of-read {A = A} of so_far word words x e = by_rest (each_of of words) ∙ ap (more_of so_far) (sym (each_of-some of word words x e))
  where
    by_rest : (found : Option (List A)) → more_of (so_far ++ x ∷ []) found ≡ more_of so_far (found >>= λ xs. Some (x ∷ xs))
    by_rest None = refl
    by_rest (Some xs) = ap Some (append_assoc so_far (x ∷ []) xs)

-- a loop over words that stops at one, goes on behind one, and ends
pub read_stops : {A : Type 0} (of : List ℕ → Option A) (so_far : List A) (words : List (List ℕ)) (word : List ℕ) (rest : List (List ℕ)) (whole : Option (List A)) → more_of so_far (each_of of words) ≡ whole → Some (word, rest) ≡ first_of words → None ≡ of word → None ≡ whole
read_stops of so_far words word rest whole read first none =
    sym (ap (λ (ws : List (List ℕ)). more_of so_far (each_of of ws)) (first_of-takes words word rest (sym first)) ∙ ap (more_of so_far) (each_of-none of word rest (sym none))) ∙ read

pub read_goes : {A : Type 0} (of : List ℕ → Option A) (so_far now : List A) (words : List (List ℕ)) (word : List ℕ) (rest : List (List ℕ)) (x : A) (whole : Option (List A)) → more_of so_far (each_of of words) ≡ whole → Some (word, rest) ≡ first_of words → Some x ≡ of word → now ≡ so_far ++ x ∷ [] → more_of now (each_of of rest) ≡ whole
read_goes of so_far now words word rest x whole read first some is =
    ap (λ (xs : List _). more_of xs (each_of of rest)) is ∙ more_of-read of so_far word rest x (sym some) ∙ ap (λ (ws : List (List ℕ)). more_of so_far (each_of of ws)) (sym (first_of-takes words word rest (sym first))) ∙ read

pub read_ends : {A : Type 0} (of : List ℕ → Option A) (so_far : List A) (words : List (List ℕ)) (whole : Option (List A)) → more_of so_far (each_of of words) ≡ whole → None ≡ first_of words → Some so_far ≡ whole
unfolding each_of
read_ends of so_far [] whole read none = sym (ap Some (append-nil so_far)) ∙ read
read_ends of so_far (word ∷ words) whole read none = absurd cc

-- words that are left grow fewer
pub fewer : (words : List (List ℕ)) (word : List ℕ) (rest : List (List ℕ)) → Some (word, rest) ≡ first_of words → length rest < length words
fewer words word rest first = let is = first_of-takes words word rest (sym first) in omega (arith, ap length is)
