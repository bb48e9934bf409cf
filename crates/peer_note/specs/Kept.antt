-- Answers that are kept: their spelling, and how they are read (this profile).
use Rattle.std.specs.Prelude.{ℕ, ◌<◌, ◌^◌, List, [], ◌∷◌, ◌++◌, length, All}
use Rattle.std.specs.List.{flat_map}
use Rattle.wire_core.specs.Spelling.{number, vector, joined}
use Rattle.wire_core.specs.Reading.{Reader, ◌>>=◌, done, number_at, pair_at, vector_at, list_at}
use Rattle.wire_core.specs.Ids.{node_id, node_id_at, IsNodeIdInRange}
use Rattle.peer_note.specs.declared.kept_answer.KeptAnswer.{KeptAnswer}

-- the bytes of a counter: a Kind-ID and its generation
abbrev pub counter : ℕ × ℕ → List ℕ
counter c = number 4 c.0 ++ number 8 c.1

-- the counters of a list, one after the other
abbrev pub counters : List (ℕ × ℕ) → List ℕ
counters cs = flat_map counter cs

-- the bytes of an answer
unfoldable pub kept_answer : KeptAnswer → List ℕ
kept_answer k = joined (node_id k.origin ∷ number 8 k.id ∷ number 2 k.code ∷ vector 2
    (counters k.counters) ∷ [])

-- the answers of a list, one after the other
abbrev pub kept_answers : List KeptAnswer → List ℕ
kept_answers ks = flat_map kept_answer ks

-- The counters have at most 65,535 bytes.
abbrev pub IsSpelledKeptAnswer : KeptAnswer → Type 0
IsSpelledKeptAnswer k = length (counters k.counters) < 2 ^ 16

-- each number fits its field
abbrev pub IsCounterInRange : ℕ × ℕ → Type 0
IsCounterInRange c = (c.0 < 2 ^ 32) × (c.1 < 2 ^ 64)

-- each number fits its field
pub record IsKeptAnswerInRange (k : KeptAnswer) : Type 0 where
  pub origin : IsNodeIdInRange k.origin
  pub id : k.id < 2 ^ 64
  pub code : k.code < 2 ^ 16
  pub counters : All IsCounterInRange k.counters

-- a counter, whatever its generation
abbrev pub counter_at : Reader (ℕ × ℕ)
counter_at = pair_at (number_at 4) (number_at 8)

-- an answer
unfoldable pub kept_answer_at : Reader KeptAnswer
kept_answer_at = do
  origin ← node_id_at
  id ← number_at 8
  code ← number_at 2
  counters ← vector_at 2 (list_at counter_at)
  done (record { origin = origin; id = id; code = code; counters = counters })
