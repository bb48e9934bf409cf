-- Maps by numbers.
use Rattle.std.proofs.Common.{◌≡◌, ℕ, List, length, Vec, Global}
use Rattle.std.specs.Prelude.{IsSome, Option}
use Rattle.std.specs.Ordering.{nat_cmp}
use Rattle.std.specs.Cmp.{nat_cmp_total}
use Rattle.std.specs.Cmp.Lexicographic.{slice_cmp, nat_list_cmp_total}
use Rattle.std.specs.Map.{lookup, remove_entry, set_value}
use Rattle.std.specs.BTreeMap.{insert_entry}
use Rattle.std.specs.FinMap.{FinMap, IsAntisymmetric, slice_cmp-IsAntisymmetric, nat_cmp-IsAntisymmetric, entries, get, insert, remove, len}
use Rattle.ordered_tables.specs.Seen.{seen, shown, cmp_by, IsRising}
use Rattle.ordered_tables.proofs.Trees.{at, get_seen, insert_seen, set_seen, remove_seen, len_seen, entries_seen}

module _ {X : Type 0} where
  abbrev pub numbered_of : List (ℕ × X) → FinMap nat_cmp X
  numbered_of es = seen (λ k. k) nat_cmp es

  abbrev pub Rising : List (ℕ × X) → Type 0
  Rising es = IsRising (λ k. k) nat_cmp es

  pub numbered_get : (key : ℕ) (es : List (ℕ × X)) → Rising es → get (numbered_of es) key ≡ lookup (at (λ k. k) nat_cmp key) es
  numbered_get = get_seen (λ k. k) nat_cmp nat_cmp_total nat_cmp-IsAntisymmetric

  pub numbered_insert : (k : ℕ) (v : X) (es fs : List (ℕ × X)) → Rising es → Rising fs → fs ≡ insert_entry (cmp_by (λ k. k) nat_cmp) es k v → numbered_of fs ≡ insert (numbered_of es) k v
  numbered_insert = insert_seen (λ k. k) nat_cmp nat_cmp_total nat_cmp-IsAntisymmetric

  pub numbered_set : (key : ℕ) (v : X) (es fs : List (ℕ × X)) → Rising es → Rising fs → IsSome (lookup (at (λ k. k) nat_cmp key) es) → fs ≡ set_value (at (λ k. k) nat_cmp key) es v → numbered_of fs ≡ insert (numbered_of es) key v
  numbered_set = set_seen (λ k. k) nat_cmp nat_cmp_total nat_cmp-IsAntisymmetric

  pub numbered_remove : (key : ℕ) (es fs : List (ℕ × X)) → Rising es → Rising fs → fs ≡ remove_entry (at (λ k. k) nat_cmp key) es → numbered_of fs ≡ remove (numbered_of es) key
  numbered_remove = remove_seen (λ k. k) nat_cmp nat_cmp_total nat_cmp-IsAntisymmetric

  pub numbered_len : (es : List (ℕ × X)) → Rising es → len (numbered_of es) ≡ length es
  numbered_len = len_seen (λ k. k) nat_cmp nat_cmp_total nat_cmp-IsAntisymmetric

  pub numbered_entries : (es : List (ℕ × X)) → Rising es → entries (numbered_of es) ≡ shown (λ k. k) es
  numbered_entries = entries_seen (λ k. k) nat_cmp nat_cmp_total nat_cmp-IsAntisymmetric
