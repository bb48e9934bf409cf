-- The responses of a Store's answer are read as they are spelled.
use Rattle.std.proofs.Common.{◌≡◌, ℕ, ◌<◌, length, refl, length-append, arith}
use Rattle.wire_core.specs.Layout.{IsLayout}
use Rattle.wire_core.specs.Laws.Bytes.{length-number}
use Rattle.wire_core.specs.Laws.Ids.{node_id_laid, node_id-some}
use Rattle.wire_core.specs.Laws.Steps.{Always, laid, seq, done_laid, fits_as}
use Rattle.wire_core.specs.Laws.Words.{number_laid}
use Rattle.wire_core.specs.Laws.Lists.{vector_of}
use Rattle.message_bodies.specs.declared.store_ans.StoreKindResponse.{StoreKindResponse}
use Rattle.message_bodies.specs.StoreAns.{store_response, IsSpelledStoreResponse, IsStoreResponseInRange, store_response_at}

same_response : (a b : StoreKindResponse) → a.kind ≡ b.kind → a.generation ≡ b.generation
    → a.replicas ≡ b.replicas → a ≡ b
same_response a b e f g = λ i. record { kind = e i; generation = f i; replicas = g i }

pub store_response_laid : IsLayout (λ r. IsSpelledStoreResponse r
    × IsStoreResponseInRange r) store_response store_response_at
unfolding store_response store_response_at
store_response_laid = laid (λ n.
    fits_as _ (seq {n = n} {Known = Always} (λ r. r.kind) (number_laid 4) (λ kind _. seq (λ r.
    r.generation) (number_laid 8) (λ generation _. seq (λ r. r.replicas)
    (vector_of 2 node_id_laid (λ x _. node_id-some x)) (λ replicas _.
    done_laid (record { kind = kind; generation = generation; replicas = replicas }) (
      refl,
      (
        refl,
        (refl, tt),
      ),
    ) (λ r k. same_response r _ k.1.1.0 k.1.0 k.0)))))
    (λ r k f. (f.1.1.0.0, record { kind = f.0; generation = f.1.0; replicas = f.1.1.0.1.1 }))
    (λ r k f. (f.1.kind, (f.1.generation, ((f.0, (λ i x at. tt, f.1.replicas)), tt)))))

-- it has a byte at least
pub store_response-some : (r : StoreKindResponse) → 0 < length (store_response r)
unfolding store_response
store_response-some r = omega (arith, length-number 4 r.kind, length-append {A = ℕ})
