-- The answer to a Store: a generation for each kind, and its replicas (RFC 6940, 7.4.1.2).
use Rattle.std.specs.Prelude.{ℕ, ◌<◌, ◌^◌, List, [], ◌∷◌, length, All}
use Rattle.std.specs.List.{flat_map}
use Rattle.wire_core.specs.Spelling.{number, vector, joined}
use Rattle.wire_core.specs.Ids.{node_id, node_id_at, IsNodeIdInRange}
use Rattle.wire_core.specs.Reading.{Reader, ◌>>=◌, done, number_at, vector_at, list_at}
use Rattle.message_bodies.specs.NodeIds.{node_ids}
use Rattle.message_bodies.specs.declared.store_ans.StoreKindResponse.{StoreKindResponse}
use Rattle.message_bodies.specs.declared.body.Body.{Body}
use Rattle.message_bodies.specs.declared.body.Body.TheVariants.{StoreAns}

-- a response's bytes
unfoldable pub store_response : StoreKindResponse → List ℕ
store_response r = joined (number 4 r.kind ∷ number 8 r.generation ∷ vector 2
    (node_ids r.replicas) ∷ [])

-- the responses of a list, one after the other
abbrev pub store_responses : List StoreKindResponse → List ℕ
store_responses rs = flat_map store_response rs

-- the body of a Store's answer
unfoldable pub store_ans : List StoreKindResponse → List ℕ
store_ans rs = vector 2 (store_responses rs)

-- The replicas have at most 65,535 bytes.
abbrev pub IsSpelledStoreResponse : StoreKindResponse → Type 0
IsSpelledStoreResponse r = length (node_ids r.replicas) < 2 ^ 16

-- Each response has a spelling, and all of them have at most 65,535 bytes.
pub record IsSpelledStoreAns (rs : List StoreKindResponse) : Type 0 where
  pub each : All IsSpelledStoreResponse rs
  pub fits : length (store_responses rs) < 2 ^ 16

-- each number fits its field
pub record IsStoreResponseInRange (r : StoreKindResponse) : Type 0 where
  pub kind : r.kind < 2 ^ 32
  pub generation : r.generation < 2 ^ 64
  pub replicas : All IsNodeIdInRange r.replicas

-- a response
unfoldable pub store_response_at : Reader StoreKindResponse
store_response_at = do
  kind ← number_at 4
  generation ← number_at 8
  replicas ← vector_at 2 (list_at node_id_at)
  done (record { kind = kind; generation = generation; replicas = replicas })

-- the body of a Store's answer
unfoldable pub store_ans_at : Reader Body
store_ans_at = do
  rs ← vector_at 2 (list_at store_response_at)
  done (StoreAns rs)
