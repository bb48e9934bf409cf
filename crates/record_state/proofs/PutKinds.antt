-- The values of a kind are put one by one, and then the kind is as the meaning has it.
use lib.Dec.{T}
use Rattle.std.proofs.Common.{◌≡◌, ◌<◌, ◌^◌, ◌+◌, ℕ, Bool, true, false, cond, List, [], ◌∷◌, ◌++◌, length, suc, get_or, drop, refl, ap, sym, subst, ◌∙◌, arith}
use Rattle.std.specs.Prelude.{unwrap_or, map, not, ◌==◌, if◌then◌else◌}
use Rattle.std.proofs.Math.Seq.{drop-cons}
use Rattle.std.specs.List.{AllByRecursion}
use Rattle.std.specs.Cmp.{nat_cmp_total}
use Rattle.std.specs.FinMap.{nat_cmp-IsAntisymmetric, insert}
use Rattle.storage_model.specs.declared.request.Value.{Value}
use Rattle.storage_model.specs.declared.request.AskedKind.{AskedKind}
use Rattle.storage_model.specs.Records.{Slots, KindEntry, Kinds, kind_in, next_index, empty_kind, swept, all_swept}
use Rattle.storage_model.specs.Requests.{values_of, puts, is_end, placed, appended}
use Rattle.storage_model.specs.Puts.{ValuesAt, slot_of, at_keys, at_end, put_all, places, append_floor_after, kind_after, put_kind}
use Rattle.storage_model.proofs.KindLaws.{NamesNot, fold-other, kind_in-all_swept}
use Rattle.record_state.specs.Undo.{slot_put, with_slot}
use Rattle.record_state.specs.Placing.{put_into}
use Rattle.ordered_tables.proofs.Finite.{get-insert_there, insert-insert}

abbrev with_counters : ℕ × ℕ → Slots → KindEntry
with_counters c slots = record { generation = c.0; append_floor = c.1; slots = slots }

kind_in-insert_there : (kinds : Kinds) (id : ℕ) (k : KindEntry) → kind_in (insert kinds id k) id ≡ k
kind_in-insert_there kinds id k = ap (λ o. unwrap_or o empty_kind) (get-insert_there nat_cmp_total kinds id k)

put_into_insert : (now id : ℕ) (c : ℕ × ℕ) (v : List ℕ × Value) (vs : ValuesAt) (kinds : Kinds)
    → put_into now id c kinds (v ∷ vs) ≡ insert kinds id (with_counters c (put_all now (kind_in kinds id).slots (v ∷ vs)))
unfolding put_into put_all slot_put
put_into_insert now id c v [] kinds = refl
put_into_insert now id c v (w ∷ ws) kinds =
    let k1 = with_slot (kind_in kinds id) c.0 c.1 v.0 (slot_of now v.1) in
    put_into_insert now id c w ws (insert kinds id k1)
    ∙ ap (λ (k : KindEntry). insert (insert kinds id k1) id (with_counters c (put_all now k.slots (w ∷ ws)))) (kind_in-insert_there kinds id k1)
    ∙ insert-insert nat_cmp_total nat_cmp-IsAntisymmetric kinds id k1 (with_counters c (put_all now k1.slots (w ∷ ws)))

put_into_any : (now id : ℕ) (c : ℕ × ℕ) (vs : ValuesAt) (kinds : Kinds) → (vs ≡ [] → ⊥)
    → put_into now id c kinds vs ≡ insert kinds id (with_counters c (put_all now (kind_in kinds id).slots vs))
put_into_any now id c [] kinds some = absurd (some refl)
put_into_any now id c (v ∷ vs) kinds some = put_into_insert now id c v vs kinds

put_into_slots : (now id : ℕ) (c : ℕ × ℕ) (vs : ValuesAt) (kinds : Kinds) → (kind_in (put_into now id c kinds vs) id).slots ≡ put_all now (kind_in kinds id).slots vs
unfolding put_into put_all
put_into_slots now id c [] kinds = refl
put_into_slots now id c (v ∷ vs) kinds =
    ap (λ (ks : Kinds). (kind_in ks id).slots) (put_into_insert now id c v vs kinds)
    ∙ ap (λ (k : KindEntry). k.slots) (kind_in-insert_there kinds id (with_counters c (put_all now (kind_in kinds id).slots (v ∷ vs))))

put_into-append : (now id : ℕ) (c : ℕ × ℕ) (vs ws : ValuesAt) (kinds : Kinds) → put_into now id c (put_into now id c kinds vs) ws ≡ put_into now id c kinds (vs ++ ws)
unfolding put_into
put_into-append now id c [] ws kinds = refl
put_into-append now id c (v ∷ vs) ws kinds = put_into-append now id c vs ws (slot_put kinds id c.0 c.1 v.0 (slot_of now v.1))

abbrev has_items : {X : Type 0} → List X → Bool
has_items [] = false
has_items (x ∷ xs) = true

cons_not : {X : Type 0} (x : X) (xs : List X) → x ∷ xs ≡ [] → ⊥
cons_not x xs e = subst T (ap has_items e) tt

front_none : {X : Type 0} (xs ys : List X) → xs ++ ys ≡ [] → xs ≡ []
front_none [] ys e = refl
front_none (x ∷ xs) ys e = absurd (cons_not x (xs ++ ys) e)

back_none : {X : Type 0} (xs ys : List X) → xs ++ ys ≡ [] → ys ≡ []
back_none [] ys e = e
back_none (x ∷ xs) ys e = absurd (cons_not x (xs ++ ys) e)

map_none : {X Y : Type 0} (f : X → Y) (xs : List X) → map f xs ≡ [] → xs ≡ []
map_none f [] e = refl
map_none f (x ∷ xs) e = absurd (cons_not (f x) (map f xs) e)

at_end_none : (next : ℕ) (vs : List Value) → at_end next vs ≡ [] → vs ≡ []
unfolding at_end
at_end_none next [] e = refl
at_end_none next (v ∷ vs) e = absurd (cons_not _ _ e)

either_none : (v : Value) (b : Bool) (ps es : List Value) → cond (not b) (v ∷ ps) ps ≡ [] → cond b (v ∷ es) es ≡ [] → ⊥
either_none v true ps es p a = cons_not v es a
either_none v false ps es p a = cons_not v ps p

values_none : (vs : List Value) → placed vs ≡ [] → appended vs ≡ [] → vs ≡ []
unfolding placed appended
values_none [] p a = refl
values_none (v ∷ vs) p a = absurd (either_none v (is_end v.stored.key) (placed vs) (appended vs) p a)

places_some : (now : ℕ) (slots : Slots) (a : AskedKind) → puts a ≡ true → places now slots (values_of a) ≡ [] → ⊥
unfolding puts places at_keys
places_some now slots a some e =
    let none = values_none (values_of a) (map_none _ (placed (values_of a)) (front_none _ _ e)) (at_end_none _ (appended (values_of a)) (back_none (at_keys (placed (values_of a))) _ e)) in
    subst T (sym some ∙ ap (λ (vs : List Value). not (length vs == 0)) none) tt

-- the values that have a slot, and then the appends
pub put_kind_by : (now : ℕ) (kinds one two : Kinds) (a : AskedKind) (g f : ℕ) → puts a ≡ true
    → g ≡ (kind_in kinds a.kind).generation + 1 → f ≡ append_floor_after (kind_in kinds a.kind).append_floor (appended (values_of a))
    → one ≡ put_into now a.kind (g, f) kinds (at_keys (placed (values_of a)))
    → two ≡ put_into now a.kind (g, f) one (at_end (next_index (kind_in one a.kind).slots) (appended (values_of a)))
    → two ≡ put_kind now kinds a
unfolding places kind_after
put_kind_by now kinds one two a g f some gs fs ones twos =
    let slots = (kind_in kinds a.kind).slots in
    let first = at_keys (placed (values_of a)) in
    let next = next_index (put_all now slots first) in
    twos
    ∙ ap (λ ks. put_into now a.kind (g, f) ks (at_end (next_index (kind_in ks a.kind).slots) (appended (values_of a)))) ones
    ∙ ap (λ ss. put_into now a.kind (g, f) (put_into now a.kind (g, f) kinds first) (at_end (next_index ss) (appended (values_of a)))) (put_into_slots now a.kind (g, f) first kinds)
    ∙ put_into-append now a.kind (g, f) first (at_end next (appended (values_of a))) kinds
    ∙ put_into_any now a.kind (g, f) (places now slots (values_of a)) kinds (places_some now slots a some)
    ∙ ap (λ g. insert kinds a.kind (with_counters (g, f) (put_all now slots (places now slots (values_of a))))) gs
    ∙ ap (λ f. insert kinds a.kind (with_counters ((kind_in kinds a.kind).generation + 1, f) (put_all now slots (places now slots (values_of a))))) fs
    ∙ ap (λ b. if b then insert kinds a.kind (kind_after now (kind_in kinds a.kind) (values_of a)) else kinds) (sym some)

pub put_kind_with : (now : ℕ) (kinds one two : Kinds) (a : AskedKind) (vs : List Value) (g f : ℕ) → vs ≡ values_of a → puts a ≡ true
    → g ≡ (kind_in kinds a.kind).generation + 1 → f ≡ append_floor_after (kind_in kinds a.kind).append_floor (appended vs)
    → one ≡ put_into now a.kind (g, f) kinds (at_keys (placed vs))
    → two ≡ put_into now a.kind (g, f) one (at_end (next_index (kind_in one a.kind).slots) (appended vs))
    → two ≡ put_kind now kinds a
put_kind_with now kinds one two a vs g f is some gs fs ones twos =
    put_kind_by now kinds one two a g f some gs
    (fs ∙ ap (λ vs. append_floor_after (kind_in kinds a.kind).append_floor (appended vs)) is)
    (ones ∙ ap (λ vs. put_into now a.kind (g, f) kinds (at_keys (placed vs))) is)
    (twos ∙ ap (λ vs. put_into now a.kind (g, f) one (at_end (next_index (kind_in one a.kind).slots) (appended vs))) is)

pub put_kind_none : (now : ℕ) (kinds : Kinds) (a : AskedKind) → puts a ≡ false → kinds ≡ put_kind now kinds a
put_kind_none now kinds a none = ap (λ b. if b then insert kinds a.kind (kind_after now (kind_in kinds a.kind) (values_of a)) else kinds) (sym none)

-- counters that can still rise
abbrev pub CanRise : Kinds → List AskedKind → Type 0
CanRise kinds asked = AllByRecursion (λ a. (kind_in kinds a.kind).generation < 2 ^ 63) asked

pub can_rise : (kinds : Kinds) (asked : List AskedKind) → ((kind : ℕ) → (kind_in kinds kind).generation < 2 ^ 63) → CanRise kinds asked
can_rise kinds [] all = tt
can_rise kinds (a ∷ asked) all = (all a.kind, can_rise kinds asked all)

pub still_rises : (now : ℕ) (kinds : Kinds) (a : AskedKind) (asked : List AskedKind) → NamesNot a.kind asked → CanRise kinds asked → CanRise (put_kind now kinds a) asked
still_rises now kinds a [] apart rise = tt
still_rises now kinds a (b ∷ asked) apart rise =
    (subst (λ (k : KindEntry). k.generation < 2 ^ 63) (sym (fold-other now b.kind (a ∷ []) kinds ((λ e. apart.0 (sym e)), tt))) rise.0, still_rises now kinds a asked apart.1 rise.1)

pub swept_counted : (now : ℕ) (kinds : Kinds) → ((kind : ℕ) → (kind_in kinds kind).generation < 2 ^ 63) → (kind : ℕ) → (kind_in (all_swept now kinds) kind).generation < 2 ^ 63
unfolding swept
swept_counted now kinds all kind = subst (λ (k : KindEntry). k.generation < 2 ^ 63) (sym (kind_in-all_swept now kinds kind)) (all kind)

-- the rest of a list begins with its next item
pub tail_of : {X : Type 0} (xs : List X) (i : ℕ) (x : X) → i < length xs → x ≡ get_or xs i x → drop i xs ≡ x ∷ drop (i + 1) xs
tail_of xs i x less is = drop-cons xs i x less ∙ ap (λ n. get_or xs i x ∷ drop n xs) (suc_one i) ∙ ap (λ y. y ∷ drop (i + 1) xs) (sym is)
  where
    suc_one : (n : ℕ) → suc n ≡ n + 1
    suc_one n = omega arith
