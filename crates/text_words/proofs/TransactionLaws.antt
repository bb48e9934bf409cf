-- A word is read as a transaction id exactly where it is its two halves.
use Rattle.std.proofs.Common.{◌≡◌, ℕ, ◌+◌, ◌-◌, ◌*◌, ◌/◌, ◌%◌, ◌^◌, ◌<◌, List, [], ◌∷◌, ◌++◌, append_assoc, Some, refl, sym, ap, ◌∙◌, arith}
use Rattle.std.specs.Fmt.{decimal}
use Rattle.std.proofs.lemmas.Option.{same_Some}
use Rattle.text_words.specs.Codec.{IsCodec}
use Rattle.text_words.specs.Decimal.{decimal_of}
use Rattle.text_words.specs.Separator.{upto}
use Rattle.text_words.specs.Transaction.{transaction_of, transaction_text}
use Rattle.text_words.proofs.DecimalLaws.{decimal_of-takes, decimal_of-decimal}
use Rattle.text_words.proofs.Lacking.{decimal-has_no}
use Rattle.text_words.proofs.SeparatorLaws.{upto-takes, upto-append}
use Rattle.text_words.proofs.StepsLaws.{bind_some}

-- the text by what stands behind its point
text_is : (id : ℕ) → transaction_text id ≡ decimal (id / 2 ^ 32) ++ 46 ∷ decimal (id % 2 ^ 32)
unfolding transaction_text
text_is id = append_assoc (decimal (id / 2 ^ 32)) (46 ∷ []) (decimal (id % 2 ^ 32))

transaction_of-takes : (word : List ℕ) (id : ℕ) → transaction_of word ≡ Some id → (id < 2 ^ 64) × (word ≡ transaction_text id)
unfolding transaction_of
transaction_of-takes word id e =
    let a = bind_some (upto 46 word) _ id e in
    let b = bind_some (decimal_of (2 ^ 32 - 1) a.0.0) _ id a.2 in
    let c = bind_some (decimal_of (2 ^ 32 - 1) a.0.1) _ id b.2 in
    let whole : b.0 * 2 ^ 32 + c.0 ≡ id = same_Some (b.0 * 2 ^ 32 + c.0) id c.2 in
    let high = decimal_of-takes (2 ^ 32 - 1) a.0.0 b.0 (omega arith) b.1 in
    let low = decimal_of-takes (2 ^ 32 - 1) a.0.1 c.0 (omega arith) c.1 in
    let up : b.0 ≡ id / 2 ^ 32 = omega (arith, whole, low.0) in
    let down : c.0 ≡ id % 2 ^ 32 = omega (arith, whole, low.0) in
    let parts = (upto-takes 46 word a.0.0 a.0.1 a.1).0 in
    (omega (arith, whole, high.0, low.0), parts ∙ ap (λ (front : List ℕ). front ++ 46 ∷ a.0.1) (high.1 ∙ ap decimal up) ∙ ap (λ (back : List ℕ). decimal (id / 2 ^ 32) ++ 46 ∷ back) (low.1 ∙ ap decimal down) ∙ sym (text_is id))

transaction_of-again : (id : ℕ) → id < 2 ^ 64 → transaction_of (transaction_text id) ≡ Some id
unfolding transaction_of
transaction_of-again id fits =
    let high : id / 2 ^ 32 < 2 ^ 32 = omega arith in
    rw (
      text_is id,
      upto-append 46 (decimal (id / 2 ^ 32)) (decimal (id % 2 ^ 32)) (decimal-has_no 46 (id / 2 ^ 32) (omega arith) refl),
      decimal_of-decimal (2 ^ 32 - 1) (id / 2 ^ 32) (omega arith) (omega arith),
      decimal_of-decimal (2 ^ 32 - 1) (id % 2 ^ 32) (omega arith) (omega arith),
    ) (ap Some (omega arith))

pub transaction_codec : IsCodec transaction_of transaction_text (λ id. id < 2 ^ 64)
transaction_codec = record { takes = transaction_of-takes; again = transaction_of-again }
