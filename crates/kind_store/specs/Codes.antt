-- The codes of the meaning's records, for the types that contracts see as them.
use Rattle.std.specs.Prelude.{ℕ, Bool, List, refl}
use Rattle.std.specs.Coded.{Coded, code_by, coded×, coded_ℕ, coded_bool, coded_list}
use Rattle.storage_model.specs.declared.record.Kept.{Kept}
use Rattle.storage_model.specs.contracts.record.Kept as of_kept
use Rattle.storage_model.specs.Records.{Kinds, Record}
use Rattle.record_state.specs.Codes.{kinds_code}

abbrev pub kept_code : Coded (List Kept)
kept_code = coded_list of_kept.the_row.coded

abbrev pub record_code : Coded Record
record_code = code_by ((ℕ × Bool) × (Kinds × List Kept))
    (coded× (coded× coded_ℕ coded_bool) (coded× kinds_code kept_code))
    (λ x. ((x.turn, x.joined), (x.kinds, x.kept)))
    (λ p. record { turn = p.0.0; joined = p.0.1; kinds = p.1.0; kept = p.1.1 }) (λ _. refl)
