-- What a node does with its transactions that are due (RFC 6940, 6.2.1).
use Rattle.std.specs.Prelude.{ℕ, ◌+◌, List, length, Option, Some, None, if◌then◌else◌}
use Rattle.std.specs.List.{filter_map}
use Rattle.std.specs.Option.{option_and_then}
use Rattle.transaction_table.specs.declared.txn.Txn.{Txn}
use Rattle.transaction_table.specs.declared.txn.Outstanding.{Outstanding}
use Rattle.transaction_table.specs.declared.spot.Spot.{Spot}
use Rattle.transaction_table.specs.Sends.{is_over}
use Rattle.transaction_table.specs.Tables.{Txns, txn_at}
use Rattle.node_model.specs.Nodes.{Node, Post, spelling_of, frames_of_all, links_after_all}

-- a transaction is sent again, unless it was sent as often as a limit allows
abbrev pub post_again : Option ℕ → Txn Outstanding → Option Post
post_again limit x =
    if is_over limit x.sends then None
    else Some (record { to = x.peer; message = spelling_of x.message })

-- the id of a transaction that was sent as often as a limit allows
abbrev pub id_over : Option ℕ → Txn Outstanding → Option ℕ
id_over limit x = if is_over limit x.sends then Some x.id else None

-- what is sent again of the transactions at some spots
unfoldable pub posts_again : Option ℕ → Txns → List Spot → List Post
posts_again limit t spots =
    filter_map (λ s. option_and_then (post_again limit) (txn_at s t)) spots

-- the ids of those at some spots that aren't sent any more
unfoldable pub ids_over : Option ℕ → Txns → List Spot → List ℕ
ids_over limit t spots = filter_map (λ s. option_and_then (id_over limit) (txn_at s t)) spots

-- a node that was told of a time, and sent what it sends again
unfoldable pub node_clocked : List Post → Node → Node
node_clocked posts n = record n {
  links = links_after_all posts n.links;
  inputs = n.inputs + 1;
  frames = n.frames + length (frames_of_all n.links posts);
}
