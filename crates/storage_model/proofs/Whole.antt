-- The laws of decisions, from the parts that prove them.
use Rattle.std.proofs.Common.{◌≡◌, ℕ, ◌≤◌, List, ◌++◌, Some, sym, ap, ◌∙◌, subst}
use Rattle.std.specs.Option.{option_map_or}
use Rattle.std.specs.FinMap.{empty}
use Rattle.data_models.specs.declared.config.DataModel.{DataModel}
use Rattle.storage_model.specs.declared.record.Kept.{Kept}
use Rattle.storage_model.specs.declared.request.Asked.{Asked}
use Rattle.storage_model.specs.declared.request.Asked.TheVariants.{Store}
use Rattle.storage_model.specs.declared.request.StoreAsked.{StoreAsked}
use Rattle.storage_model.specs.Records.{Map, record_in, slot_in, kept_for}
use Rattle.storage_model.specs.Refusals.{first_cause}
use Rattle.storage_model.specs.Verdict.{outcome_of, decided, repeated, store_causes}
use Rattle.storage_model.specs.declared.answer.Answer.TheVariants.{Decided}
use Rattle.storage_model.specs.Decisions.{Effect, Decision, only, stored, changed, effect_of, effect_on, map_after, IsOnce}
use Rattle.storage_model.specs.Laws.{AreSound, map_of, kind_at}
use Rattle.storage_model.proofs.OnceLaw.{rises_from, floors_from, map_from-append, sound_front, indexes_from, empty_indexes}
use Rattle.storage_model.proofs.AppendLaw.{appends_from, append_floors_from}
use Rattle.storage_model.proofs.Acting.{none_twice}

pub once : (models : ℕ → DataModel) (ds : List Decision) → AreSound models ds → IsOnce ds
once models ds s = record {
  stores = none_twice models ds empty s (empty_indexes models);
  slots = λ resource kind key. (rises_from models ds empty resource kind key s (empty_indexes models)).0;
  arrays = λ resource kind. (appends_from models ds empty resource kind s).0;
}

pub floors_kept : (models : ℕ → DataModel) (ds more : List Decision) (resource kind : ℕ) (key : List ℕ) → AreSound models (ds ++ more)
    → (slot_in (kind_at (map_of ds) resource kind).slots key).floor ≤ (slot_in (kind_at (map_of (ds ++ more)) resource kind).slots key).floor
floors_kept models ds more resource kind key s =
    let parts = sound_front models ds more s in
    subst (λ m. (slot_in (kind_at (map_of ds) resource kind).slots key).floor ≤ (slot_in (kind_at m resource kind).slots key).floor) (sym (map_from-append empty ds more))
    (floors_from models more (map_of ds) resource kind key parts.1 (indexes_from models ds empty parts.0 (empty_indexes models)))

pub append_floors_kept : (models : ℕ → DataModel) (ds more : List Decision) (resource kind : ℕ) → AreSound models (ds ++ more)
    → (kind_at (map_of ds) resource kind).append_floor ≤ (kind_at (map_of (ds ++ more)) resource kind).append_floor
append_floors_kept models ds more resource kind s =
    subst (λ m. (kind_at (map_of ds) resource kind).append_floor ≤ (kind_at m resource kind).append_floor) (sym (map_from-append empty ds more))
    (append_floors_from models more (map_of ds) resource kind (sound_front models ds more s).1)

-- a repeat, by the answer that is kept
repeat_of : (m : Map) (d : Decision) (asked : Asked) (request : StoreAsked) (kept : Kept) → asked ≡ Store request → kept_for (record_in m d.resource).kept d.origin.0 d.id ≡ Some kept
    → effect_of d.config d.time d.resource (record_in m d.resource) d.origin d.id asked ≡ only (Decided kept.code kept.counters)
unfolding outcome_of repeated
repeat_of m d asked request kept is e =
    ap (effect_of d.config d.time d.resource (record_in m d.resource) d.origin d.id) is
    ∙ ap (λ o. stored (option_map_or repeated o (decided (first_cause (store_causes d.config d.time d.resource (record_in m d.resource).kinds request)) d.time (record_in m d.resource) d.origin d.id request))) e

pub repeat_effect : (m : Map) (d : Decision) (request : StoreAsked) (kept : Kept) → d.asked ≡ Store request → kept_for (record_in m d.resource).kept d.origin.0 d.id ≡ Some kept → effect_on m d ≡ only (Decided kept.code kept.counters)
repeat_effect m d request kept is e = repeat_of m d d.asked request kept is e

pub repeat_same : (m : Map) (d : Decision) (request : StoreAsked) (kept : Kept) → d.asked ≡ Store request → kept_for (record_in m d.resource).kept d.origin.0 d.id ≡ Some kept → map_after m d ≡ m
repeat_same m d request kept is e = ap (λ (f : Effect). changed m d.resource f.next) (repeat_effect m d request kept is e)
