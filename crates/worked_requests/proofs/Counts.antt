-- How often records changed.
use Rattle.std.proofs.Common.{◌≡◌, ℕ, ◌+◌, ◌^◌, ◌<◌, ◌≤◌, Option, unwrap_or, sym, ap, subst, arith}
use Rattle.std.specs.Ordering.{nat_cmp}
use Rattle.std.specs.FinMap.{empty, get-empty}
use Rattle.data_models.specs.declared.config.Config.{Config}
use Rattle.reload_ids.specs.declared.NodeId.{NodeId}
use Rattle.storage_model.specs.declared.answer.Answer.TheVariants.{Joined}
use Rattle.storage_model.specs.declared.request.Asked.{Asked}
use Rattle.storage_model.specs.Records.{Map, Record, KindEntry, record_in, kind_in, empty_record, empty_kind}
use Rattle.storage_model.specs.Decisions.{Decision, changed, effect_of}
use Rattle.storage_model.specs.Laws.{IsSoundAsked, IsWithin}
use Rattle.storage_model.proofs.Counters.{counters_bounded}
use Rattle.kind_store.specs.Steps.{IsCounted}

-- few changes leave room for more
pub counted_of : (n : ℕ) (x : Record) → n < 2 ^ 62 → IsWithin n x → IsCounted x
counted_of n x lt w = record {
  turn = omega (arith, w.turn, lt);
  generations = λ kind. omega (arith, w.generations kind, lt);
}

-- a decision changes each record once at most
pub within_more : (m : Map) (config : Config) (now n resource : ℕ) (origin : NodeId) (id : ℕ) (asked : Asked) → IsSoundAsked config asked
    → ((r : ℕ) → IsWithin n (record_in m r))
    → (r : ℕ) → IsWithin (n + 1) (record_in (changed m resource (effect_of config now resource (record_in m resource) origin id asked).next) r)
within_more m config now n resource origin id asked sound within r =
    let d : Decision = record {
      peer = 0;
      time = now;
      config = config;
      resource = resource;
      origin = origin;
      id = id;
      asked = asked;
      answer = Joined;
    } in
    counters_bounded m d n r sound (within r)

-- what is within a number is within the next
pub within_next : (n : ℕ) (x : Record) → IsWithin n x → IsWithin (n + 1) x
within_next n x w = record {
  turn = omega (arith, w.turn);
  generations = λ kind. omega (arith, w.generations kind);
}

-- no record changed where there is none
pub none_within : (n r : ℕ) → IsWithin n (record_in empty r)
none_within n r =
    subst (IsWithin n) (sym (ap (λ (o : Option Record). unwrap_or o empty_record) (get-empty nat_cmp r)))
    (record {
      turn = omega arith;
      generations = λ kind. subst (λ (k : KindEntry). k.generation ≤ n) (sym (ap (λ (o : Option KindEntry). unwrap_or o empty_kind) (get-empty nat_cmp kind))) (omega arith);
    })
