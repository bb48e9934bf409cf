-- The codes of the meaning's records, for the types that contracts see as them.
use Rattle.std.specs.Prelude.{ℕ, Option, refl}
use Rattle.std.specs.Coded.{Coded, code_by, coded×, coded_ℕ, coded_list, coded_option}
use Rattle.std.specs.FinMap as map
use Rattle.storage_model.specs.declared.record.Held.{Held}
use Rattle.storage_model.specs.contracts.record.Held as of_held
use Rattle.storage_model.specs.Records.{SlotEntry, Slots, KindEntry, Kinds}
use Rattle.record_state.specs.Undo.{Drafted}

abbrev pub slot_code : Coded SlotEntry
slot_code = code_by (ℕ × Option Held) (coded× coded_ℕ (coded_option of_held.the_row.coded))
    (λ s. (s.floor, s.held)) (λ p. record { floor = p.0; held = p.1 }) (λ _. refl)

abbrev pub slots_code : Coded Slots
slots_code = map.code (coded_list coded_ℕ) slot_code

abbrev pub kind_code : Coded KindEntry
kind_code = code_by (ℕ × (ℕ × Slots)) (coded× coded_ℕ (coded× coded_ℕ slots_code))
    (λ k. (k.generation, (k.append_floor, k.slots)))
    (λ p. record { generation = p.0; append_floor = p.1.0; slots = p.1.1 }) (λ _. refl)

abbrev pub kinds_code : Coded Kinds
kinds_code = map.code coded_ℕ kind_code

abbrev pub drafted_code : Coded Drafted
drafted_code = code_by (Kinds × Kinds) (coded× kinds_code kinds_code)
    (λ d. (d.before, d.kinds)) (λ p. record { before = p.0; kinds = p.1 }) (λ _. refl)
