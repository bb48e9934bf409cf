-- Kinds that are added one after the other to a record.
use lib.Dec.{T}
use Rattle.std.proofs.Common.{◌≡◌, ℕ, ◌+◌, ◌<◌, ◌≤◌, true, List, [], ◌∷◌, ◌++◌, refl, ap, sym, subst, ◌∙◌, length, cond, ◌⊎◌, inl, inr, arith}
use Rattle.std.specs.Prelude.{Some, is_some, sum_by}
use Rattle.std.specs.List.{AllByRecursion}
use Rattle.std.specs.Ordering.{nat_cmp, is_eq}
use Rattle.std.specs.declared.cmp.Ordering.TheVariants.{Less, Equal, Greater}
use Rattle.std.specs.Cmp.{nat_cmp_total}
use Rattle.std.specs.FinMap.{nat_cmp-IsAntisymmetric, entries, insert, find, is_sorted, from_sorted, entries-from_sorted, same_entries_map, get-entries}
use Rattle.std.proofs.lemmas.List.Sums.{sum_by-cons, sum_by-append}
use Rattle.data_models.specs.declared.fetched.StoreKind.{StoreKind}
use Rattle.storage_model.specs.declared.limits.TheConstants.{MAX_WEIGHT}
use Rattle.storage_model.specs.declared.record.KindRecord.{KindRecord}
use Rattle.storage_model.specs.Records.{KindEntry, Kinds, Record, kind_weight, weight}
use Rattle.record_state.specs.Written.{kind_written, HaveRisingKeys, Follows}
use Rattle.peer_note.specs.declared.kind_note.KindNote.{KindNote}
use Rattle.node_model.specs.Copies.{kind_said, kinds_said}
use Rattle.ordered_tables.proofs.Trees.{first, second, less, below_all, append_none, copied_more}
use Rattle.record_copies.specs.Said.{kind_weight_said, IsPlaced, ArePlaced}
use Rattle.record_copies.proofs.Order.{is_below}
use Rattle.record_copies.proofs.Placing.{said_sorted, kind_weighed, kinds_weighed}

-- a record with other kinds
pub whole : (r s : Record) (m : Kinds) → (r.turn ≡ s.turn) × (r.joined ≡ s.joined) × (r.kept ≡ s.kept) → r.kinds ≡ m → r ≡ record s { kinds = m }
whole r s m same is = λ i. record { turn = same.0 i; joined = same.1 i; kinds = is i; kept = same.2 i }

-- all are there once none is left
pub none_left : (ns : List KindNote) (ks : List StoreKind) → (ns ≡ []) ⊎ (ks ≡ []) → kinds_said ns ks ≡ []
none_left ns ks (inl e) = ap (λ l. kinds_said l ks) e
none_left [] ks (inr e) = refl
none_left (n ∷ ns) ks (inr e) = ap (kinds_said (n ∷ ns)) e

pub all_pushed : (r s : Record) (ns : List KindNote) (ks : List StoreKind) (rest : List (ℕ × KindEntry)) → ArePlaced ns ks
    → (r.turn ≡ s.turn) × (r.joined ≡ s.joined) × (r.kept ≡ s.kept)
    → entries r.kinds ++ rest ≡ kinds_said ns ks → rest ≡ [] → r ≡ record s { kinds = from_sorted (kinds_said ns ks) }
all_pushed r s ns ks rest placed same so_far none =
    whole r s (from_sorted (kinds_said ns ks)) same
    (same_entries_map r.kinds (from_sorted (kinds_said ns ks))
    (append_none (entries r.kinds) ∙ ap (λ es. entries r.kinds ++ es) (sym none) ∙ so_far
    ∙ sym (entries-from_sorted nat_cmp (kinds_said ns ks) (said_sorted ns ks placed.rising))))

-- the kinds that are left, of which one is next
pub next_said : (es : List (ℕ × KindEntry)) (n : KindNote) (ns : List KindNote) (k : StoreKind) (ks : List StoreKind) (left : List KindNote) (beside : List StoreKind) (x : ℕ × KindEntry) (all : List (ℕ × KindEntry))
    → left ≡ n ∷ ns → beside ≡ k ∷ ks → x ≡ kind_said n k → es ++ kinds_said left beside ≡ all → es ++ x ∷ kinds_said ns ks ≡ all
next_said es n ns k ks left beside x all lefts besides is so_far =
    ap (λ y. es ++ y ∷ kinds_said ns ks) is
    ∙ ap (λ l. es ++ kinds_said l (k ∷ ks)) (sym lefts) ∙ ap (λ b. es ++ kinds_said left b) (sym besides) ∙ so_far

-- what is there and is next weighs no more than all
pub part_light : (es : List (ℕ × KindEntry)) (x : ℕ × KindEntry) (rest : List (ℕ × KindEntry)) (ns : List KindNote) (ks : List StoreKind) → ArePlaced ns ks
    → es ++ x ∷ rest ≡ kinds_said ns ks → sum_by (λ (k : ℕ × KindEntry). kind_weight k.1) es + kind_weight x.1 ≤ MAX_WEIGHT
part_light es x rest ns ks placed so_far =
    omega (arith, placed.light, kinds_weighed ns ks placed.each, ap (sum_by (λ (k : ℕ × KindEntry). kind_weight k.1)) so_far, sum_by-append (λ (k : ℕ × KindEntry). kind_weight k.1) es (x ∷ rest), sum_by-cons (λ (k : ℕ × KindEntry). kind_weight k.1) x rest)

pub next_light : (es : List (ℕ × KindEntry)) (n : KindNote) (ns : List KindNote) (k : StoreKind) (ks : List StoreKind) (left : List KindNote) (beside : List StoreKind) (notes : List KindNote) (kinds : List StoreKind)
    → ArePlaced notes kinds → left ≡ n ∷ ns → beside ≡ k ∷ ks → AllByRecursion IsPlaced left → es ++ kinds_said left beside ≡ kinds_said notes kinds → kind_weight_said n k ≤ MAX_WEIGHT
next_light es n ns k ks left beside notes kinds placed lefts besides each so_far =
    let n_placed = subst (AllByRecursion IsPlaced) lefts each in
    omega (arith, part_light es (kind_said n k) (kinds_said ns ks) notes kinds placed (next_said es n ns k ks left beside (kind_said n k) (kinds_said notes kinds) lefts besides refl so_far), kind_weighed n k n_placed.0)

-- the kinds with the next one aren't too heavy
pub pushed_light : (m : Kinds) (x : ℕ × KindEntry) (rest : List (ℕ × KindEntry)) (ns : List KindNote) (ks : List StoreKind) → ArePlaced ns ks
    → entries m ++ x ∷ rest ≡ kinds_said ns ks → weight (insert m x.0 x.1) ≤ MAX_WEIGHT
unfolding weight
pushed_light m x rest ns ks placed so_far =
    let more = copied_more nat_cmp nat_cmp_total m x.0 x.1 rest (kinds_said ns ks) (said_sorted ns ks placed.rising) so_far in
    omega (arith, placed.light, kinds_weighed ns ks placed.each, ap (sum_by (λ (k : ℕ × KindEntry). kind_weight k.1)) more, sum_by-append (λ (k : ℕ × KindEntry). kind_weight k.1) (entries (insert m x.0 x.1)) rest)

-- the next kind's id is over those that are there
over_of : (es : List (ℕ × KindEntry)) (x : ℕ × KindEntry) (rest : List (ℕ × KindEntry)) (q : ℕ) → T (is_sorted nat_cmp (es ++ x ∷ rest)) → is_some (find nat_cmp q es) ≡ true → q < x.0
over_of [] x rest q h e = absurd (subst T (sym e) tt)
over_of (y ∷ es) x rest q h e =
    elim (nat_cmp q y.0) as (λ r. nat_cmp q y.0 ≡ r → is_some (cond (is_eq r) (Some y.1) (find nat_cmp q es)) ≡ true → q < x.0) [
      | Less ↦ λ p e. over_of es x rest q (second _ _ h) e
      | Equal ↦ λ p e. subst (λ n. n < x.0) (sym (nat_cmp-IsAntisymmetric q y.0 p)) (is_below y.0 x.0 (mid_less y.0 es (first _ _ h)))
      | Greater ↦ λ p e. over_of es x rest q (second _ _ h) e
    ] refl e
  where
    mid_less : (z : ℕ) (es : List (ℕ × KindEntry)) → T (below_all nat_cmp z (es ++ x ∷ rest)) → nat_cmp z x.0 ≡ Less
    mid_less z [] h = less _ (first _ _ h)
    mid_less z (y ∷ es) h = mid_less z es (second _ _ h)

pub next_follows : (m : Kinds) (k : KindRecord) (rest : List (ℕ × KindEntry)) (ns : List KindNote) (ks : List StoreKind) → ArePlaced ns ks
    → entries m ++ (k.kind, kind_written k) ∷ rest ≡ kinds_said ns ks → 0 < length k.slots → HaveRisingKeys k.slots → Follows m k
next_follows m k rest ns ks placed so_far some rising =
    let sorted = subst (λ es. T (is_sorted nat_cmp es)) (sym so_far) (said_sorted ns ks placed.rising) in
    record {
      over = λ q there. over_of (entries m) (k.kind, kind_written k) rest q sorted (ap is_some (sym (get-entries m q)) ∙ there);
      some = some;
      rising = rising;
    }

pub pushed_far : (m : Kinds) (x : ℕ × KindEntry) (rest : List (ℕ × KindEntry)) (ns : List KindNote) (ks : List StoreKind) → ArePlaced ns ks
    → entries m ++ x ∷ rest ≡ kinds_said ns ks → entries (insert m x.0 x.1) ++ rest ≡ kinds_said ns ks
pushed_far m x rest ns ks placed so_far = copied_more nat_cmp nat_cmp_total m x.0 x.1 rest (kinds_said ns ks) (said_sorted ns ks placed.rising) so_far
