-- What a record has of a kind after a Store was accepted.
use Rattle.std.proofs.Common.{◌≡◌, ◌≢◌, ℕ, Bool, true, false, cond, eqb, List, [], ◌∷◌, fold, find, Option, Some, None, unwrap_or, option_map, refl, sym, ap, ◌∙◌, subst, ⊎_elim, nat_cmp}
use Rattle.std.proofs.lemmas.Bool.{cond-true, cond-false, cases_eq, eq-eqb, ne_eqb}
use Rattle.std.specs.Cmp.{nat_cmp_total}
use Rattle.std.specs.Cmp.Lexicographic.{slice_cmp}
use Rattle.std.specs.Ordering.{eq_by_cmp}
use Rattle.std.specs.List.{AllByRecursion}
use Rattle.std.specs.FinMap.{get, insert, get-insert}
use Rattle.storage_model.specs.declared.request.AskedKind.{AskedKind}
use Rattle.storage_model.specs.Records.{KindEntry, Kinds, kind_in, empty_kind, swept, swept_slot, all_swept}
use Rattle.storage_model.specs.Requests.{values_of, puts}
use Rattle.storage_model.specs.Puts.{kind_after, put_kind}
use Rattle.storage_model.proofs.Maps.{get-map_values, map_values-empty}
use Rattle.storage_model.proofs.Truths.{key_same, key_other}

found_kind : (b : Bool) (k : KindEntry) (o : Option KindEntry) → unwrap_or (cond b (Some k) o) empty_kind ≡ cond b k (unwrap_or o empty_kind)
found_kind true k o = refl
found_kind false k o = refl

pub kind_in-insert : (kinds : Kinds) (id : ℕ) (k : KindEntry) (q : ℕ) → kind_in (insert kinds id k) q ≡ cond (eq_by_cmp nat_cmp q id) k (kind_in kinds q)
kind_in-insert kinds id k q =
    ap (λ o. unwrap_or o empty_kind) (get-insert nat_cmp_total kinds id k q)
    ∙ found_kind (eq_by_cmp nat_cmp q id) k (get kinds q)

swept-empty : (now : ℕ) → swept now empty_kind ≡ empty_kind
unfolding swept
swept-empty now = ap (λ slots. record { generation = 0; append_floor = 0; slots = slots }) (map_values-empty (slice_cmp nat_cmp) (swept_slot now))

found_swept : (now : ℕ) (o : Option KindEntry) → unwrap_or (option_map (swept now) o) empty_kind ≡ swept now (unwrap_or o empty_kind)
found_swept now None = sym (swept-empty now)
found_swept now (Some k) = refl

pub kind_in-all_swept : (now : ℕ) (kinds : Kinds) (q : ℕ) → kind_in (all_swept now kinds) q ≡ swept now (kind_in kinds q)
unfolding all_swept
kind_in-all_swept now kinds q =
    ap (λ o. unwrap_or o empty_kind) (get-map_values nat_cmp (swept now) kinds q) ∙ found_swept now (get kinds q)

-- a kind that isn't named, or gets no value, stays
put_kind-other : (now : ℕ) (kinds : Kinds) (a : AskedKind) (q : ℕ) → q ≢ a.kind → kind_in (put_kind now kinds a) q ≡ kind_in kinds q
put_kind-other now kinds a q n =
    elim (puts a) as (λ b. kind_in (cond b (insert kinds a.kind (kind_after now (kind_in kinds a.kind) (values_of a))) kinds) q ≡ kind_in kinds q) [
      | true ↦ kind_in-insert kinds a.kind (kind_after now (kind_in kinds a.kind) (values_of a)) q ∙ cond-false _ _ _ (key_other q a.kind n)
      | false ↦ refl
    ]

put_kind-here : (now : ℕ) (kinds : Kinds) (a : AskedKind) → kind_in (put_kind now kinds a) a.kind ≡ cond (puts a) (kind_after now (kind_in kinds a.kind) (values_of a)) (kind_in kinds a.kind)
put_kind-here now kinds a =
    elim (puts a) as (λ b. kind_in (cond b (insert kinds a.kind (kind_after now (kind_in kinds a.kind) (values_of a))) kinds) a.kind ≡ cond b (kind_after now (kind_in kinds a.kind) (values_of a)) (kind_in kinds a.kind)) [
      | true ↦ kind_in-insert kinds a.kind (kind_after now (kind_in kinds a.kind) (values_of a)) a.kind ∙ cond-true _ _ _ (key_same a.kind)
      | false ↦ refl
    ]

-- nothing named is this kind
abbrev pub NamesNot : ℕ → List AskedKind → Type 0
NamesNot q asked = AllByRecursion (λ a. q ≢ a.kind) asked

pub fold-other : (now q : ℕ) (asked : List AskedKind) (kinds : Kinds) → NamesNot q asked → kind_in (fold (put_kind now) kinds asked) q ≡ kind_in kinds q
fold-other now q [] kinds n = refl
fold-other now q (a ∷ asked) kinds n = fold-other now q asked (put_kind now kinds a) n.1 ∙ put_kind-other now kinds a q n.0

-- no kind is named twice
abbrev pub AreApart : List AskedKind → Type 0
AreApart [] = Unit {0}
AreApart (a ∷ asked) = NamesNot a.kind asked × AreApart asked

-- what is asked of a kind, where it is named
abbrev pub asked_for : ℕ → List AskedKind → Option AskedKind
asked_for q asked = find (λ (a : AskedKind). eqb q a.kind) asked

-- a kind after what is asked of it, if it is named
abbrev pub kind_with : ℕ → KindEntry → Option AskedKind → KindEntry
kind_with now k None = k
kind_with now k (Some a) = cond (puts a) (kind_after now k (values_of a)) k

pub kind_in-fold : (now q : ℕ) (asked : List AskedKind) (kinds : Kinds) → AreApart asked → kind_in (fold (put_kind now) kinds asked) q ≡ kind_with now (kind_in kinds q) (asked_for q asked)
kind_in-fold now q [] kinds apart = refl
kind_in-fold now q (a ∷ asked) kinds apart =
    ⊎_elim
    (λ (e : q ≡ a.kind).
    fold-other now q asked (put_kind now kinds a) (subst (λ i. NamesNot i asked) (sym e) apart.0)
    ∙ subst (λ i. kind_in (put_kind now kinds a) i ≡ cond (puts a) (kind_after now (kind_in kinds i) (values_of a)) (kind_in kinds i)) (sym e) (put_kind-here now kinds a)
    ∙ sym (ap (kind_with now (kind_in kinds q)) (cond-true _ (Some a) (asked_for q asked) (eq-eqb q a.kind e))))
    (λ (n : q ≢ a.kind).
    kind_in-fold now q asked (put_kind now kinds a) apart.1
    ∙ ap (λ k. kind_with now k (asked_for q asked)) (put_kind-other now kinds a q n)
    ∙ sym (ap (kind_with now (kind_in kinds q)) (cond-false _ (Some a) (asked_for q asked) (ne_eqb q a.kind n))))
    (cases_eq q a.kind)
