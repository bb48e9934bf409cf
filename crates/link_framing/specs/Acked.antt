-- What an ack says of the payloads before the one that it acknowledges.
use Rattle.std.specs.Prelude.{◌≡◌, ℕ, zero, suc, ◌-◌, ◌<◌, ◌≤◌, ◌^◌, Bool, ◌&&◌, nat_le, if◌then◌else◌}
use Rattle.std.specs.Int.{bit_at}
use Rattle.std.specs.Ordering.{nat_cmp}
use Rattle.std.specs.FinSet as set

-- whether the payload k before n was heard, where there is one
abbrev pub heard_before : set.FinSet nat_cmp → ℕ → ℕ → Bool
heard_before heard n k = nat_le k n && set.contains heard (n - k)

-- Bit k of n's mask, 1 to 31, is set exactly where n - k was heard, and bit 0 is 0 (this profile).
pub record IsMask (heard : set.FinSet nat_cmp) (n mask : ℕ) : Type 0 where
  pub small : mask < 2 ^ 32
  pub lowest : bit_at mask 0 ≡ 0
  pub marks : (k : ℕ) → 1 ≤ k → k ≤ 31 → bit_at mask k ≡ (if heard_before heard n k then 1 else 0)

-- each payload from 1 up to a front was heard, and these others
unfoldable pub heard_up_to : ℕ → set.FinSet nat_cmp → set.FinSet nat_cmp
heard_up_to zero others = others
heard_up_to (suc front) others = set.insert (heard_up_to front others) (suc front)
