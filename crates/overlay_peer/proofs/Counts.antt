-- How often records changed.
use Rattle.std.proofs.Common.{ℕ, ◌+◌, ◌^◌, ◌<◌, ◌≤◌, Option, unwrap_or, sym, ap, subst, arith}
use Rattle.std.specs.Ordering.{nat_cmp}
use Rattle.std.specs.FinMap.{empty, get-empty}
use Rattle.data_models.specs.declared.config.Config.{Config}
use Rattle.storage_model.specs.declared.answer.Answer.TheVariants.{Joined}
use Rattle.storage_model.specs.Records.{Map, Record, KindEntry, record_in, empty_record, empty_kind}
use Rattle.storage_model.specs.Decisions.{Decision, changed}
use Rattle.storage_model.specs.Laws.{IsSoundAsked, IsWithin}
use Rattle.storage_model.proofs.Counters.{counters_bounded}
use Rattle.kind_store.specs.Steps.{IsCounted}
use Rattle.overlay_peer.specs.declared.plan.Question.{Question}
use Rattle.overlay_peer.specs.Plans.{effect_on}

-- few changes leave room for more
pub counted_of : (n : ℕ) (x : Record) → n < 2 ^ 28 → IsWithin n x → IsCounted x
counted_of n x lt w = record {
  turn = omega (arith, w.turn, lt);
  generations = λ kind. omega (arith, w.generations kind, lt);
}

-- a decision changes each record once at most
pub within_more : (m : Map) (config : Config) (now n : ℕ) (q : Question) → IsSoundAsked config q.request → ((r : ℕ) → IsWithin n (record_in m r))
    → (r : ℕ) → IsWithin (n + 1) (record_in (changed m q.resource.0 (effect_on m config now q).next) r)
within_more m config now n q sound within r =
    let d : Decision = record {
      peer = 0;
      time = now;
      config = config;
      resource = q.resource.0;
      origin = q.origin;
      id = q.id;
      asked = q.request;
      answer = Joined;
    } in
    counters_bounded m d n r sound (within r)

-- what is within a number is within the next
pub within_next : (n : ℕ) (x : Record) → IsWithin n x → IsWithin (n + 1) x
within_next n x w = record {
  turn = omega (arith, w.turn);
  generations = λ kind. omega (arith, w.generations kind);
}

-- no record changed where there is none
pub none_within : (n r : ℕ) → IsWithin n (record_in empty r)
none_within n r =
    subst (IsWithin n) (sym (ap (λ (o : Option Record). unwrap_or o empty_record) (get-empty nat_cmp r)))
    (record {
      turn = omega arith;
      generations = λ kind. subst (λ (k : KindEntry). k.generation ≤ n) (sym (ap (λ (o : Option KindEntry). unwrap_or o empty_kind) (get-empty nat_cmp kind))) (omega arith);
    })
