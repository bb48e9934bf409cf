use Rattle.std.proofs.Common.{◌≡◌, ◌≤◌, ◌<◌, ◌^◌, ℕ, ap, sym, subst, ◌∙◌, arith}
use Rattle.storage_model.specs.Records.{Record, weight}
use Rattle.record_state.specs.Light.{kinds_sum}
use Rattle.record_state.proofs.KindMaps.{kinds_counted, weighed}
use Rattle.kind_store.proofs.record.Record.weight.Goals as goal

fits : (n w : ℕ) → n ≡ w → w ≤ 131072 → n < 2 ^ 64
fits n w is small = omega arith

pub overflow_cast-result : goal.overflow_cast-result
overflow_cast-result c = omega (arith, fits _ _ (c.weight.ensures.value ∙ weighed (kinds_sum c.self.inside.kinds) (weight c.self.inside.kinds) (kinds_counted c.self.inside.kinds) c.self.invariant) c.self.invariant)

pub returns-clause-value : goal.returns-clause-value
returns-clause-value c = (c.weight.ensures.value ∙ weighed (kinds_sum c.self.inside.kinds) (weight c.self.inside.kinds) (kinds_counted c.self.inside.kinds) c.self.invariant) ∙ ap (λ (x : Record). weight x.kinds) c.self.view_is

pub returns-clause-small : goal.returns-clause-small
returns-clause-small c = subst (λ n. n ≤ 131072) (sym (c.weight.ensures.value ∙ weighed (kinds_sum c.self.inside.kinds) (weight c.self.inside.kinds) (kinds_counted c.self.inside.kinds) c.self.invariant)) c.self.invariant
