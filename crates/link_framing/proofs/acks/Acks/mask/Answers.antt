use Rattle.std.proofs.Common.{cond, ap, sym, ◌∙◌, inl, inr, arith}
use Rattle.std.proofs.lemmas.Bool.{cases_lt}
use Rattle.link_framing.specs.Acked.{heard_before}
use Rattle.link_framing.proofs.Heard.{bits_more, none_before}
use Rattle.link_framing.proofs.acks.Acks.mask.Goals as goal

pub loop-k-preserved : goal.loop-k-preserved
loop-k-preserved c =
    let so_far = c.loop-k.invariant in
    let bit = c.with_bit-mask.ensures in
    record {
      small = bit.small;
      lowest = bit.others 0 (λ e. omega (arith, e, c.loop-k.auto.k)) ∙ so_far.lowest;
      below = bits_more (λ j. cond (heard_before c.args.self.now c.args.n j) 1 0) c.loop-k.mask c.with_bit-mask.result c.loop-k.k so_far.below
          (bit.there ∙ ap (λ b. cond b 1 0) c.heard_before.ensures) bit.others;
      above = λ j le. bit.others j (λ e. omega (arith, e, le)) ∙ so_far.above j (omega arith);
    }

pub returns : goal.returns
returns c = record {
  small = c.loop-k.invariant.small;
  lowest = c.loop-k.invariant.lowest;
  marks = λ k low high. elim (cases_lt k c.loop-k.k) [
    | inl lt ↦ c.loop-k.invariant.below k low lt
    | inr le ↦ c.loop-k.invariant.above k le ∙ sym (none_before c.args.self.now c.args.n k (omega (arith, low, high, le)))
  ];
}
