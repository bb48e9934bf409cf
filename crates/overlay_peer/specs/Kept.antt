-- What always holds of a peer.
use Rattle.std.specs.Prelude.{ℕ, ◌+◌, ◌≤◌, ◌≡◌, refl}
use Rattle.std.specs.Ordering.{nat_cmp}
use Rattle.std.specs.FinMap as map
use Rattle.std.specs.Coded.{Coded, code_by, coded×, coded_ℕ}
use Rattle.chord_tables.specs.Tables.{Tables}
use Rattle.chord_tables.specs.contracts.tables.Tables as of_tables
use Rattle.storage_model.specs.Records.{Map, record_in}
use Rattle.storage_model.specs.Laws.{IsWithin}
use Rattle.kind_store.specs.Codes.{record_code}
use Rattle.transaction_table.specs.Tables.{Txns}
use Rattle.transaction_table.specs.Codes.{txns_code}
use Rattle.node_links.specs.Kept.{node_code}
use Rattle.node_links.specs.Small.{AreAllSmall}
use Rattle.node_model.specs.Nodes.{Node, me}
use Rattle.node_model.specs.Peers as model
use Rattle.overlay_peer.specs.declared.membership.Membership.{Membership}
use Rattle.overlay_peer.specs.Memberships.{membership_of}
use Rattle.overlay_peer.specs.Codes.{membership_code}

-- A node's tables are its own, it handled at least as many inputs as any record changed, and it has
-- no more transactions than it used ids, whose messages aren't too large.
pub record IsKept (n : Node) (tables : Tables) (records : Map) (t : Txns) : Type 0 where
  pub me : tables.me ≡ me n
  pub within : (resource : ℕ) → IsWithin n.inputs (record_in records resource)
  pub few : map.len t.outboxes + map.len t.issued ≤ n.ids
  pub small : AreAllSmall t

-- a peer of these fields
abbrev pub peer_of : Node → Membership → Tables → Map → Txns → map.FinMap nat_cmp ℕ
    → map.FinMap nat_cmp ℕ → model.Peer
peer_of node membership tables records txns taken queued = record {
  node = node;
  membership = membership_of membership;
  tables = tables;
  records = records;
  txns = txns;
  taken = taken;
  queued = queued;
}

abbrev pub numbers_code : Coded (map.FinMap nat_cmp ℕ)
numbers_code = map.code coded_ℕ coded_ℕ

abbrev pub map_code : Coded Map
map_code = map.code coded_ℕ record_code

-- a peer as the tuple of its fields
abbrev pub peer_code : Coded model.Peer
peer_code = code_by
    ((Node × (model.Membership × Tables)) × ((Map × Txns)
    × (map.FinMap nat_cmp ℕ × map.FinMap nat_cmp ℕ)))
    (coded× (coded× node_code (coded× membership_code of_tables.the_row.coded))
    (coded× (coded× map_code txns_code) (coded× numbers_code numbers_code)))
    (λ p. ((p.node, (p.membership, p.tables)), ((p.records, p.txns), (p.taken, p.queued))))
    (λ q. record {
      node = q.0.0;
      membership = q.0.1.0;
      tables = q.0.1.1;
      records = q.1.0.0;
      txns = q.1.0.1;
      taken = q.1.1.0;
      queued = q.1.1.1;
    }) (λ _. refl)
