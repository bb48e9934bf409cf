-- What a chain of steps that found something shows.
use Rattle.std.proofs.Common.{◌≡◌, ℕ, Bool, true, false, List, [], ◌∷◌, length, Option, Some, None, refl, ap, ◌∙◌}
use Rattle.std.specs.Prelude.{◌==◌}
use Rattle.std.proofs.lemmas.Bool.{eqb-true}
use Rattle.std.proofs.lemmas.List.{nil_from_length}
use Rattle.std.proofs.lemmas.Option.{same_Some, some_pair_parts}
use Rattle.text_words.specs.Codec.{IsCodec}
use Rattle.text_words.specs.Steps.{◌>>=◌, allowed, first_of, part_of, only_word, only_of}

-- both steps found something
pub bind_some : {A B : Type 0} (o : Option A) (f : A → Option B) (y : B) → (o >>= f) ≡ Some y → (x : A) × (o ≡ Some x) × (f x ≡ Some y)
bind_some None f y e = cc
bind_some (Some x) f y e = (x, refl, e)

-- the test of a step that was passed
pub allowed_some : (test : Bool) (u : Unit {0}) → allowed test ≡ Some u → test ≡ true
allowed_some true u e = refl
allowed_some false u e = cc

-- a step before one that always finds something found nothing
pub bind_none : {A B : Type 0} (o : Option A) (f : A → B) → (o >>= (λ x. Some (f x))) ≡ None → o ≡ None
bind_none None f e = refl
bind_none (Some x) f e = cc

-- ---- words taken one after the other

-- the first of some words and those behind it
pub first_of-takes : (words : List (List ℕ)) (word : List ℕ) (rest : List (List ℕ)) → first_of words ≡ Some (word, rest) → words ≡ word ∷ rest
first_of-takes [] word rest e = absurd cc
first_of-takes (first ∷ words) word rest e = let parts = some_pair_parts first word words rest e in λ i. parts.0 i ∷ parts.1 i

-- a part that was read is the first word
pub part_of-takes : {A : Type 0} (of : List ℕ → Option A) (text : A → List ℕ) (Fits : A → Type 0) → IsCodec of text Fits → (words : List (List ℕ)) (x : A) (rest : List (List ℕ)) → part_of of words ≡ Some (x, rest) → Fits x × (words ≡ text x ∷ rest)
part_of-takes of text Fits codec words x rest e =
    let a = bind_some (first_of words) _ (x, rest) e in
    let b = bind_some (of a.0.0) _ (x, rest) a.2 in
    let same = some_pair_parts b.0 x a.0.1 rest b.2 in
    let read = codec.takes a.0.0 x (b.1 ∙ ap Some same.0) in
    (read.0, first_of-takes words a.0.0 a.0.1 a.1 ∙ (λ i. read.1 i ∷ same.1 i))

-- the word of a part is read as it
pub part_of-again : {A : Type 0} (of : List ℕ → Option A) (text : A → List ℕ) (Fits : A → Type 0) → IsCodec of text Fits → (x : A) (rest : List (List ℕ)) → Fits x → part_of of (text x ∷ rest) ≡ Some (x, rest)
part_of-again of text Fits codec x rest fits = rw (codec.again x fits) refl

-- the same of the only word
only_word-takes : (words : List (List ℕ)) (word : List ℕ) → only_word words ≡ Some word → words ≡ word ∷ []
unfolding only_word
only_word-takes words word e =
    let a = bind_some (first_of words) _ word e in
    let b = bind_some (allowed (length a.0.1 == 0)) _ word a.2 in
    let none = nil_from_length a.0.1 (eqb-true (length a.0.1) 0 (allowed_some (length a.0.1 == 0) b.0 b.1)) in
    let same = same_Some a.0.0 word b.2 in
    first_of-takes words a.0.0 a.0.1 a.1 ∙ (λ i. same i ∷ none i)

pub only_word-again : (word : List ℕ) → only_word (word ∷ []) ≡ Some word
unfolding only_word
only_word-again word = refl

pub only_of-takes : {A : Type 0} (of : List ℕ → Option A) (text : A → List ℕ) (Fits : A → Type 0) → IsCodec of text Fits → (words : List (List ℕ)) (x : A) → only_of of words ≡ Some x → Fits x × (words ≡ text x ∷ [])
only_of-takes of text Fits codec words x e =
    let a = bind_some (only_word words) of x e in
    let read = codec.takes a.0 x a.2 in
    (read.0, only_word-takes words a.0 a.1 ∙ ap (λ (word : List ℕ). word ∷ []) read.1)

pub only_of-again : {A : Type 0} (of : List ℕ → Option A) (text : A → List ℕ) (Fits : A → Type 0) → IsCodec of text Fits → (x : A) → Fits x → only_of of (text x ∷ []) ≡ Some x
only_of-again of text Fits codec x fits = ap (λ (word : Option (List ℕ)). word >>= of) (only_word-again (text x)) ∙ codec.again x fits

-- a codec of the only word of a line
pub only_codec : {A : Type 0} (of : List ℕ → Option A) (text : A → List ℕ) (Fits : A → Type 0) → IsCodec of text Fits → IsCodec (only_of of) (λ x. text x ∷ []) Fits
only_codec of text Fits codec = record { takes = only_of-takes of text Fits codec; again = only_of-again of text Fits codec }
