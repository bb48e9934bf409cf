-- The answer to a Fetch: the values of each kind, as the specifiers stand (RFC 6940, 7.4.2.2).
use Rattle.std.specs.Prelude.{ℕ, List}
use Rattle.wire_core.specs.Spelling.{vector}
use Rattle.wire_core.specs.Reading.{Reader, ◌>>=◌, done, vector_at, list_at}
use Rattle.data_models.specs.declared.config.Config.{Config}
use Rattle.data_models.specs.declared.fetched.StoreKind.{StoreKind}
use Rattle.data_models.specs.StoreKinds.{store_kind_at}
use Rattle.message_bodies.specs.Store.{store_kinds}
use Rattle.message_bodies.specs.declared.body.Body.{Body}
use Rattle.message_bodies.specs.declared.body.Body.TheVariants.{FetchAns}

-- the body of a Fetch's answer
unfoldable pub fetch_ans : List StoreKind → List ℕ
fetch_ans kinds = vector 4 (store_kinds kinds)

-- the same, by the models that a configuration gives its kinds
unfoldable pub fetch_ans_at : Config → Reader Body
fetch_ans_at config = do
  kinds ← vector_at 4 (list_at (store_kind_at config))
  done (FetchAns kinds)
