-- Maps by keys that are bytes.
use Rattle.std.proofs.Common.{◌≡◌, ℕ, List, length, Vec, Global}
use Rattle.std.specs.Prelude.{IsSome, Option}
use Rattle.std.specs.Ordering.{nat_cmp}
use Rattle.std.specs.Cmp.{nat_cmp_total}
use Rattle.std.specs.Cmp.Lexicographic.{slice_cmp, nat_list_cmp_total}
use Rattle.std.specs.Map.{lookup, remove_entry, set_value}
use Rattle.std.specs.BTreeMap.{insert_entry}
use Rattle.std.specs.FinMap.{FinMap, IsAntisymmetric, slice_cmp-IsAntisymmetric, nat_cmp-IsAntisymmetric, entries, get, insert, remove, len}
use Rattle.ordered_tables.specs.Seen.{seen, shown, cmp_by, IsRising}
use Rattle.ordered_tables.proofs.Trees.{at, get_seen, insert_seen, set_seen, remove_seen, len_seen, entries_seen}

-- only equal keys tie
pub key_cmp_same : IsAntisymmetric (slice_cmp nat_cmp)
key_cmp_same = slice_cmp-IsAntisymmetric nat_cmp-IsAntisymmetric

module _ {X : Type 0} where
  abbrev pub keyed_of : List (Vec ℕ Global × X) → FinMap (slice_cmp nat_cmp) X
  keyed_of es = seen (λ k. k.items) (slice_cmp nat_cmp) es

  abbrev pub Rising : List (Vec ℕ Global × X) → Type 0
  Rising es = IsRising (λ k. k.items) (slice_cmp nat_cmp) es

  pub keyed_get : (key : List ℕ) (es : List (Vec ℕ Global × X)) → Rising es → get (keyed_of es) key ≡ lookup (at (λ k. k.items) (slice_cmp nat_cmp) key) es
  keyed_get = get_seen (λ k. k.items) (slice_cmp nat_cmp) nat_list_cmp_total key_cmp_same

  pub keyed_insert : (k : Vec ℕ Global) (v : X) (es fs : List (Vec ℕ Global × X)) → Rising es → Rising fs → fs ≡ insert_entry (cmp_by (λ k. k.items) (slice_cmp nat_cmp)) es k v → keyed_of fs ≡ insert (keyed_of es) k.items v
  keyed_insert = insert_seen (λ k. k.items) (slice_cmp nat_cmp) nat_list_cmp_total key_cmp_same

  pub keyed_set : (key : List ℕ) (v : X) (es fs : List (Vec ℕ Global × X)) → Rising es → Rising fs → IsSome (lookup (at (λ k. k.items) (slice_cmp nat_cmp) key) es) → fs ≡ set_value (at (λ k. k.items) (slice_cmp nat_cmp) key) es v → keyed_of fs ≡ insert (keyed_of es) key v
  keyed_set = set_seen (λ k. k.items) (slice_cmp nat_cmp) nat_list_cmp_total key_cmp_same

  pub keyed_remove : (key : List ℕ) (es fs : List (Vec ℕ Global × X)) → Rising es → Rising fs → fs ≡ remove_entry (at (λ k. k.items) (slice_cmp nat_cmp) key) es → keyed_of fs ≡ remove (keyed_of es) key
  keyed_remove = remove_seen (λ k. k.items) (slice_cmp nat_cmp) nat_list_cmp_total key_cmp_same

  pub keyed_len : (es : List (Vec ℕ Global × X)) → Rising es → len (keyed_of es) ≡ length es
  keyed_len = len_seen (λ k. k.items) (slice_cmp nat_cmp) nat_list_cmp_total key_cmp_same

  pub keyed_entries : (es : List (Vec ℕ Global × X)) → Rising es → entries (keyed_of es) ≡ shown (λ k. k.items) es
  keyed_entries = entries_seen (λ k. k.items) (slice_cmp nat_cmp) nat_list_cmp_total key_cmp_same
