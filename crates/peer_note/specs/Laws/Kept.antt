-- Answers that are kept are read as they are spelled.
use Rattle.std.proofs.Common.{◌≡◌, ℕ, ◌<◌, length, refl, length-append, arith}
use Rattle.wire_core.specs.Layout.{IsLayout}
use Rattle.wire_core.specs.Laws.Bytes.{length-number}
use Rattle.wire_core.specs.Laws.Ids.{node_id_laid}
use Rattle.wire_core.specs.Laws.Steps.{Always, laid, known, seq, done_laid, fits_as, pair_is_layout}
use Rattle.wire_core.specs.Laws.Words.{number_laid, number_is_layout}
use Rattle.wire_core.specs.Laws.Lists.{vector_of}
use Rattle.peer_note.specs.declared.kept_answer.KeptAnswer.{KeptAnswer}
use Rattle.peer_note.specs.Kept.{counter, counter_at, kept_answer, IsSpelledKeptAnswer, IsCounterInRange, IsKeptAnswerInRange, kept_answer_at}

counter_laid : IsLayout (λ (c : ℕ × ℕ). (Unit {0} × Unit {0})
    × IsCounterInRange c) counter counter_at
counter_laid = pair_is_layout (number_is_layout 4) (number_is_layout 8)

-- it has a byte at least
counter-some : (c : ℕ × ℕ) → 0 < length (counter c)
counter-some c = omega (arith, length-number 4 c.0, length-append {A = ℕ})

same_kept : (a b : KeptAnswer) → a.origin ≡ b.origin → a.id ≡ b.id → a.code ≡ b.code → a.counters
    ≡ b.counters → a ≡ b
same_kept a b e f g h = λ i. record { origin = e i; id = f i; code = g i; counters = h i }

abbrev pub KeptFits : KeptAnswer → Type 0
KeptFits k = IsSpelledKeptAnswer k × IsKeptAnswerInRange k

pub kept_answer_laid : IsLayout KeptFits kept_answer kept_answer_at
unfolding kept_answer kept_answer_at
kept_answer_laid = laid (λ n.
    fits_as _ (seq {n = n} {Known = Always} (λ k. k.origin) (known node_id_laid) (λ origin _. seq
    (λ k. k.id) (number_laid 8) (λ id _. seq (λ k. k.code) (number_laid 2) (λ code _.
    seq (λ k. k.counters) (vector_of 2 counter_laid (λ c _. counter-some c)) (λ counters _.
    done_laid (record { origin = origin; id = id; code = code; counters = counters }) (
      refl,
      (
        refl,
        (refl, (refl, tt)),
      ),
    ) (λ s k. same_kept s _ k.1.1.1.0 k.1.1.0 k.1.0 k.0))))))
    (λ s k f. (
      f.1.1.1.0.0,
      record {
        origin = f.0.1;
        id = f.1.0;
        code = f.1.1.0;
        counters =
            f.1.1.1.0.1.1;
      },
    ))
    (λ s k f. (
      (tt, f.1.origin),
      (
        f.1.id,
        (
          f.1.code,
          (
            (f.0, (λ i c at. (tt, tt), f.1.counters)),
            tt,
          ),
        ),
      ),
    )))

-- it has a byte at least
pub kept_answer-some : (k : KeptAnswer) → 0 < length (kept_answer k)
unfolding kept_answer
kept_answer-some k = omega (arith, length-number 16 k.origin.0, length-append {A = ℕ})
