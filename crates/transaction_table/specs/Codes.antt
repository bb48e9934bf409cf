-- The codes of maps.
use Rattle.std.specs.Prelude.{refl}
use Rattle.std.specs.Coded.{Coded, code_by, coded×, coded_ℕ}
use Rattle.std.specs.FinMap as map
use Rattle.transaction_table.specs.contracts.outbox.Outbox as of_outbox
use Rattle.transaction_table.specs.contracts.outbox.Request as of_request
use Rattle.transaction_table.specs.Tables.{Txns, Outboxes, Requests}

-- the transactions of a node as the pair of their maps
abbrev pub txns_code : Coded Txns
txns_code = code_by (Outboxes × Requests)
    (coded× (map.code coded_ℕ of_outbox.the_row.coded) (map.code coded_ℕ of_request.the_row.coded))
    (λ t. (t.outboxes, t.issued)) (λ p. record { outboxes = p.0; issued = p.1 }) (λ _. refl)
