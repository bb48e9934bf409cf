-- Texts that are appended one after the other, and what is cut back where one failed.
use Rattle.std.proofs.Common.{◌≡◌, ℕ, List, [], ◌∷◌, ◌++◌, length, take, Result, Ok, Err, refl, sym, ap, ◌∙◌, append_assoc}
use Rattle.std.specs.Prelude.{OnOk, OnErr}
use Rattle.text_words.specs.Codec.{Appended, AppendedSome}

-- what begins with a longer front begins with a shorter one
front_of : (old front new : List ℕ) → take (length (old ++ front)) new ≡ old ++ front → take (length old) new ≡ old
front_of [] front new e = refl
front_of (first ∷ old) front [] e = absurd cc
front_of (first ∷ old) front (other ∷ new) e =
    let head : other ≡ first = cc in
    let tail : take (length (old ++ front)) new ≡ old ++ front = cc in
    λ i. head i ∷ front_of old front new tail i

-- a text behind one that was appended
pub appended_then : {T E : Type 0} (old mid new front back : List ℕ) (result : Result T E) → mid ≡ old ++ front → AppendedSome mid new back result → AppendedSome old new (front ++ back) result
appended_then old mid new front back (Ok done) before some = some ∙ ap (λ (text : List ℕ). text ++ back) before ∙ append_assoc old front back
appended_then old mid new front back (Err failed) before some = front_of old front new (ap (λ (text : List ℕ). take (length text) new) (sym before) ∙ some ∙ before)

-- what is cut back where it failed was appended whole or not at all
pub cut_back : {T E : Type 0} (old mid new text : List ℕ) (before : ℕ) (appended result : Result T E) → before ≡ length old → AppendedSome old mid text appended → result ≡ appended → OnOk result (new ≡ mid) → OnErr result (new ≡ take before mid) → Appended old new text result
cut_back old mid new text before (Ok done) (Ok also) at some same ok err = ok ∙ some
cut_back old mid new text before (Err failed) (Err also) at some same ok err = err ∙ ap (λ (n : ℕ). take n mid) at ∙ some
cut_back old mid new text before (Ok done) (Err also) at some same ok err = absurd cc
cut_back old mid new text before (Err failed) (Ok also) at some same ok err = absurd cc
