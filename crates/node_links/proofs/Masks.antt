-- The one mask that marks what was heard.
use Rattle.std.proofs.Common.{◌≡◌, ℕ, zero, suc, ◌+◌, ◌*◌, ◌%◌, ◌^◌, ◌≤◌, Bool, true, false, sym, ap, ◌∙◌, arith}
use Rattle.std.specs.Prelude.{if◌then◌else◌}
use Rattle.std.specs.Ordering.{nat_cmp}
use Rattle.std.specs.FinSet as set
use Rattle.std.proofs.Math.Nat.{mod-eq_of_lt, add_comm}
use Rattle.std.proofs.lemmas.Nat.{mod-pow-add}
use Rattle.std.proofs.lemmas.Nat.Bits.{bit_at_lowest}
use Rattle.link_framing.specs.Acked.{heard_before, IsMask}
use Rattle.node_model.specs.Links.{mask_up_to, mask_of}

times_bit : (b : Bool) (p : ℕ) → (if b then 1 else 0) * p ≡ (if b then p else 0)
times_bit true p = omega arith
times_bit false p = omega arith

module _ (heard : set.FinSet nat_cmp) (n m : ℕ) (is : IsMask heard n m) where
  -- the bits of a mask up to bit k
  front : (k : ℕ) → k ≤ 31 → m % 2 ^ (1 + k) ≡ mask_up_to heard n k
  unfolding mask_up_to
  front zero le = sym (bit_at_lowest m) ∙ is.lowest
  front (suc k) le =
      let b = heard_before heard n (suc k) in
      let e : 1 + k ≡ suc k = omega arith in
      mod-pow-add m 1 (suc k)
      ∙ ap (λ x. x * 2 ^ suc k + m % 2 ^ suc k) (is.marks (suc k) (omega arith) le)
      ∙ ap (λ x. x + m % 2 ^ suc k) (times_bit b (2 ^ suc k))
      ∙ ap (λ j. (if b then 2 ^ suc k else 0) + m % 2 ^ j) (sym e)
      ∙ ap (λ x. (if b then 2 ^ suc k else 0) + x) (front k (omega arith))
      ∙ add_comm _ _

pub one_mask : (heard : set.FinSet nat_cmp) (n m : ℕ) → IsMask heard n m → m ≡ mask_of heard n
one_mask heard n m is = sym (mod-eq_of_lt is.small) ∙ front heard n m is 31 (omega arith)
