use Rattle.std.proofs.Common.{◌≡◌, ℕ, ◌<◌, ◌≤◌, ◌^◌, cond}
use Rattle.std.specs.Int.{bit_at}
use Rattle.link_framing.specs.Acked.{heard_before}
use Rattle.link_framing.proofs.acks.Acks.mask.Given as goal

-- the bits below k are as they are to be, and the others aren't set
abbrev pub invariant-loop-k : goal.invariant-loop-k
invariant-loop-k l = record {
  small : l.mask < 2 ^ 32;
  lowest : bit_at l.mask 0 ≡ 0;
  below : (j : ℕ) → 1 ≤ j → j < l.k → bit_at l.mask j ≡ cond (heard_before l.self l.n j) 1 0;
  above : (j : ℕ) → l.k ≤ j → bit_at l.mask j ≡ 0;
}
