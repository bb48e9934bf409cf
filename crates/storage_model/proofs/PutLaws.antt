-- What a decision puts is what its slots hold afterwards.
use Rattle.std.proofs.Common.{◌≡◌, ◌≢◌, ℕ, Bool, true, false, not, cond, eqb, ◌&&◌, length, suc, arith, List, [], ◌∷◌, ◌++◌, map, fold, flat_map, Option, Some, None, refl, sym, ap, ap₂, ◌∙◌, subst, ⊎_elim}
use Rattle.std.proofs.lemmas.Bool.{cond-true, cond-false, cases_eq, eq-eqb, ne_eqb}
use Rattle.std.specs.List.{list_any}
use Rattle.std.proofs.lemmas.Bool.Decides.{nat_tests}
use Rattle.std.proofs.lemmas.List.Sums.{fold-append}
use Rattle.std.proofs.lemmas.List.Elements.{filter-append}
use Rattle.storage_model.specs.declared.request.Value.{Value}
use Rattle.storage_model.specs.declared.request.AskedKind.{AskedKind}
use Rattle.storage_model.specs.Records.{SlotEntry, Slots, KindEntry, Kinds, kind_in, slot_in, next_index, swept, swept_slot, all_swept}
use Rattle.storage_model.specs.Requests.{values_of, puts, placed, appended, is_same_key}
use Rattle.storage_model.specs.Puts.{ValuesAt, slot_of, at_keys, at_end, put_all, places, kind_after, kinds_after}
use Rattle.storage_model.specs.Decisions.{Decision, Put, puts_at, kind_puts, puts_in, times_of}
use Rattle.storage_model.proofs.SlotLaws.{put_on, slot_in-put_all, slot_in-swept, places-swept}
use Rattle.storage_model.proofs.Appends.{at_key}
use Rattle.storage_model.proofs.KindLaws.{asked_for, kind_with, kind_in-fold, kind_in-all_swept, AreApart, NamesNot}
use Rattle.storage_model.proofs.Truths.{or_parts}

-- a slot after one value was put into it, and after several
abbrev pub slot_with : SlotEntry → Put → SlotEntry
slot_with s p = record { floor = p.held.storage_time; held = Some p.held }

abbrev pub slot_after : SlotEntry → List Put → SlotEntry
slot_after s ps = fold slot_with s ps

-- what is put in one slot, of what is put one list after the other
pub puts_in-append : (r kind : ℕ) (key : List ℕ) (ps qs : List Put) → puts_in r kind key (ps ++ qs) ≡ puts_in r kind key ps ++ puts_in r kind key qs
unfolding puts_in
puts_in-append r kind key ps qs = filter-append (λ p. eqb p.resource r && eqb p.kind kind && is_same_key key p.key) ps qs

-- nothing is put at another resource or kind
at_other : (b c : Bool) (x : Put) (ps : List Put) → b ≡ false → cond (b && c) (x ∷ ps) ps ≡ ps
at_other b c x ps e = ap (λ d. cond (d && c) (x ∷ ps) ps) e

pub puts_at-elsewhere : (d : Decision) (r kind id : ℕ) (key : List ℕ) (app : Bool) (vs : ValuesAt) → (eqb d.resource r && eqb id kind) ≡ false → puts_in r kind key (puts_at d id app vs) ≡ []
unfolding puts_in
puts_at-elsewhere d r kind id key app [] e = refl
puts_at-elsewhere d r kind id key app (v ∷ vs) e =
    at_other (eqb d.resource r && eqb id kind) (is_same_key key v.0) _ _ e ∙ puts_at-elsewhere d r kind id key app vs e

-- what is put here is what the slot's values make of it
here : (b c : Bool) (t : SlotEntry) (s : SlotEntry) (x : Put) (ps : List Put) → b ≡ true → slot_with s x ≡ t
    → slot_after s (cond (b && c) (x ∷ ps) ps) ≡ slot_after (cond c t s) ps
here b true t s x ps e f = ap (λ a. slot_after s (cond (a && true) (x ∷ ps) ps)) e ∙ ap (λ u. slot_after u ps) f
here b false t s x ps e f = ap (λ a. slot_after s (cond (a && false) (x ∷ ps) ps)) e

pub puts_at-here : (d : Decision) (r kind id : ℕ) (key : List ℕ) (app : Bool) (vs : ValuesAt) (s : SlotEntry) → (eqb d.resource r && eqb id kind) ≡ true
    → slot_after s (puts_in r kind key (puts_at d id app vs)) ≡ fold (put_on d.time key) s vs
unfolding puts_in
puts_at-here d r kind id key app [] s e = refl
puts_at-here d r kind id key app (v ∷ vs) s e =
    here (eqb d.resource r && eqb id kind) (is_same_key key v.0) (slot_of d.time v.1) s _ _ e refl
    ∙ puts_at-here d r kind id key app vs (cond (is_same_key key v.0) (slot_of d.time v.1) s) e

-- the same for all that is put of one kind
pub kind_puts-elsewhere : (kinds : Kinds) (d : Decision) (r kind : ℕ) (key : List ℕ) (a : AskedKind) → (eqb d.resource r && eqb a.kind kind) ≡ false → puts_in r kind key (kind_puts kinds d a) ≡ []
unfolding kind_puts
kind_puts-elsewhere kinds d r kind key a e =
    let slots : Slots = (kind_in kinds a.kind).slots in
    let first : ValuesAt = at_keys (placed (values_of a)) in
    let rest : ValuesAt = at_end (next_index (put_all d.time slots first)) (appended (values_of a)) in
    puts_in-append r kind key (puts_at d a.kind false first) (puts_at d a.kind true rest)
    ∙ ap₂ (λ ps qs. ps ++ qs) (puts_at-elsewhere d r kind a.kind key false first e) (puts_at-elsewhere d r kind a.kind key true rest e)

pub kind_puts-here : (kinds : Kinds) (d : Decision) (r kind : ℕ) (key : List ℕ) (a : AskedKind) (s : SlotEntry) → (eqb d.resource r && eqb a.kind kind) ≡ true
    → slot_after s (puts_in r kind key (kind_puts kinds d a)) ≡ fold (put_on d.time key) s (places d.time (kind_in kinds a.kind).slots (values_of a))
unfolding kind_puts places
kind_puts-here kinds d r kind key a s e =
    let slots : Slots = (kind_in kinds a.kind).slots in
    let first : ValuesAt = at_keys (placed (values_of a)) in
    let rest : ValuesAt = at_end (next_index (put_all d.time slots first)) (appended (values_of a)) in
    ap (slot_after s) (puts_in-append r kind key (puts_at d a.kind false first) (puts_at d a.kind true rest))
    ∙ fold-append slot_with s (puts_in r kind key (puts_at d a.kind false first)) (puts_in r kind key (puts_at d a.kind true rest))
    ∙ ap (λ t. slot_after t (puts_in r kind key (puts_at d a.kind true rest))) (puts_at-here d r kind a.kind key false first s e)
    ∙ puts_at-here d r kind a.kind key true rest (fold (put_on d.time key) s first) e
    ∙ sym (fold-append (put_on d.time key) s first rest)

-- two tests
pub both_true : {b c : Bool} → b ≡ true → c ≡ true → (b && c) ≡ true
both_true {b} {c} e f = ap₂ (λ x y. x && y) e f

pub both_false : (b : Bool) {c : Bool} → c ≡ false → (b && c) ≡ false
both_false true f = f
both_false false f = refl

-- nothing of a kind is put where no kind is named so
puts-elsewhere : (kinds : Kinds) (d : Decision) (r kind : ℕ) (key : List ℕ) (asked : List AskedKind) → NamesNot kind asked → puts_in r kind key (flat_map (kind_puts kinds d) asked) ≡ []
unfolding puts_in
puts-elsewhere kinds d r kind key [] n = refl
puts-elsewhere kinds d r kind key (a ∷ asked) n =
    puts_in-append r kind key (kind_puts kinds d a) (flat_map (kind_puts kinds d) asked)
    ∙ ap₂ (λ ps qs. ps ++ qs) (kind_puts-elsewhere kinds d r kind key a (both_false (eqb d.resource r) (ne_eqb a.kind kind (λ e. n.0 (sym e))))) (puts-elsewhere kinds d r kind key asked n.1)

-- a slot after what is asked of its kind was put
abbrev pub slot_asked : ℕ → Slots → List ℕ → SlotEntry → Option AskedKind → SlotEntry
slot_asked now slots key s None = s
slot_asked now slots key s (Some a) = fold (put_on now key) s (places now slots (values_of a))

pub append-nil_right : (ps : List Put) → ps ++ [] ≡ ps
append-nil_right [] = refl
append-nil_right (p ∷ ps) = ap (λ qs. p ∷ qs) (append-nil_right ps)

pub puts-here : (kinds : Kinds) (d : Decision) (kind : ℕ) (key : List ℕ) (asked : List AskedKind) (s : SlotEntry) → AreApart asked
    → slot_after s (puts_in d.resource kind key (flat_map (kind_puts kinds d) asked)) ≡ slot_asked d.time (kind_in kinds kind).slots key s (asked_for kind asked)
unfolding puts_in
puts-here kinds d kind key [] s apart = refl
puts-here kinds d kind key (a ∷ asked) s apart =
    ap (slot_after s) (puts_in-append d.resource kind key (kind_puts kinds d a) (flat_map (kind_puts kinds d) asked))
    ∙ ⊎_elim
    (λ (e : kind ≡ a.kind).
    ap (slot_after s)
    (ap (λ qs. puts_in d.resource kind key (kind_puts kinds d a) ++ qs) (puts-elsewhere kinds d d.resource kind key asked (subst (λ i. NamesNot i asked) (sym e) apart.0))
    ∙ append-nil_right _)
    ∙ kind_puts-here kinds d d.resource kind key a s (both_true (eq-eqb d.resource d.resource refl) (eq-eqb a.kind kind (sym e)))
    ∙ ap (λ i. fold (put_on d.time key) s (places d.time (kind_in kinds i).slots (values_of a))) (sym e)
    ∙ sym (ap (slot_asked d.time (kind_in kinds kind).slots key s) (cond-true _ (Some a) (asked_for kind asked) (eq-eqb kind a.kind e))))
    (λ (n : kind ≢ a.kind).
    ap (λ ps. slot_after s (ps ++ puts_in d.resource kind key (flat_map (kind_puts kinds d) asked))) (kind_puts-elsewhere kinds d d.resource kind key a (both_false (eqb d.resource d.resource) (ne_eqb a.kind kind (λ e. n (sym e)))))
    ∙ puts-here kinds d kind key asked s apart.1
    ∙ sym (ap (slot_asked d.time (kind_in kinds kind).slots key s) (cond-false _ (Some a) (asked_for kind asked) (ne_eqb kind a.kind n))))
    (cases_eq kind a.kind)

-- no number but 0 is 0
not_zero : (n : ℕ) → not (eqb (suc n) 0) ≡ false → ⊥
not_zero n e = grind (arith, nat_tests, e)

-- a list of no length
nothing : (vs : List Value) → not (eqb (length vs) 0) ≡ false → vs ≡ []
nothing [] e = refl
nothing (v ∷ vs) e = absurd (not_zero (length vs) e)

-- nothing is placed of no values
places-nil : (now : ℕ) (k : KindEntry) (key : List ℕ) → fold (put_on now key) (swept_slot now (slot_in k.slots key)) (places now k.slots []) ≡ swept_slot now (slot_in k.slots key)
unfolding places at_keys at_end placed appended
places-nil now k key = refl

-- the slot of a kind that got values
slot_of_put : (now : ℕ) (k : KindEntry) (key : List ℕ) (vs : List Value) → slot_in (kind_after now (swept now k) vs).slots key ≡ fold (put_on now key) (swept_slot now (slot_in k.slots key)) (places now k.slots vs)
unfolding kind_after
slot_of_put now k key vs =
    slot_in-put_all now (swept now k).slots (places now (swept now k).slots vs) key
    ∙ ap₂ (λ s ps. fold (put_on now key) s ps) (slot_in-swept now k key) (places-swept now k vs)

-- a kind without values puts nothing
pub no_values : (a : AskedKind) → puts a ≡ false → values_of a ≡ []
unfolding puts
no_values a e = nothing (values_of a) e

-- the slot of a kind after what is asked of it, where expired values left before
slot_of_kind : (now : ℕ) (k : KindEntry) (key : List ℕ) (o : Option AskedKind) → slot_in (kind_with now (swept now k) o).slots key ≡ slot_asked now k.slots key (swept_slot now (slot_in k.slots key)) o
slot_of_kind now k key None = slot_in-swept now k key
slot_of_kind now k key (Some a) =
    (elim (puts a) as (λ b. puts a ≡ b → slot_in (cond b (kind_after now (swept now k) (values_of a)) (swept now k)).slots key ≡ fold (put_on now key) (swept_slot now (slot_in k.slots key)) (places now k.slots (values_of a))) [
      | true ↦ λ e. slot_of_put now k key (values_of a)
      | false ↦ λ e. slot_in-swept now k key ∙ sym (ap (λ vs. fold (put_on now key) (swept_slot now (slot_in k.slots key)) (places now k.slots vs)) (no_values a e) ∙ places-nil now k key)
    ]) refl

no_puts_at : (kinds : Kinds) (d : Decision) (a : AskedKind) (vs : List Value) → vs ≡ [] →
    puts_at d a.kind false (at_keys (placed vs)) ++ puts_at d a.kind true (at_end (next_index (put_all d.time (kind_in kinds a.kind).slots (at_keys (placed vs)))) (appended vs)) ≡ []
unfolding at_keys at_end placed appended
no_puts_at kinds d a vs e = ap (λ ws. puts_at d a.kind false (at_keys (placed ws)) ++ puts_at d a.kind true (at_end (next_index (put_all d.time (kind_in kinds a.kind).slots (at_keys (placed ws)))) (appended ws))) e

no_puts_of : (kinds : Kinds) (d : Decision) (a : AskedKind) → puts a ≡ false → kind_puts kinds d a ≡ []
unfolding kind_puts
no_puts_of kinds d a e = no_puts_at kinds d a (values_of a) (no_values a e)

-- a slot after a Store was accepted: expired values left, and then the puts came
pub accepted_slot : (kinds : Kinds) (d : Decision) (kind : ℕ) (key : List ℕ) (asked : List AskedKind) → AreApart asked
    → slot_in (kind_in (kinds_after d.time kinds asked) kind).slots key ≡ slot_after (swept_slot d.time (slot_in (kind_in kinds kind).slots key)) (puts_in d.resource kind key (flat_map (kind_puts kinds d) asked))
unfolding kinds_after
accepted_slot kinds d kind key asked apart =
    ap (λ k. slot_in k.slots key) (kind_in-fold d.time kind asked (all_swept d.time kinds) apart ∙ ap (λ k. kind_with d.time k (asked_for kind asked)) (kind_in-all_swept d.time kinds kind))
    ∙ slot_of_kind d.time (kind_in kinds kind) key (asked_for kind asked)
    ∙ sym (puts-here kinds d kind key asked (swept_slot d.time (slot_in (kind_in kinds kind).slots key)) apart)

-- where no kind gets a value, nothing is put
pub no_puts : (kinds : Kinds) (d : Decision) (asked : List AskedKind) → list_any puts asked ≡ false → flat_map (kind_puts kinds d) asked ≡ []
no_puts kinds d [] e = refl
no_puts kinds d (a ∷ asked) e =
    let parts = or_parts (puts a) (list_any puts asked) e in
    ap₂ (λ ps qs. ps ++ qs) (no_puts_of kinds d a parts.0) (no_puts kinds d asked parts.1)

-- the storage times of values
abbrev pub times_at : ValuesAt → List ℕ
times_at vs = map (λ (v : List ℕ × Value). v.1.stored.storage_time) vs

here_times : (b c : Bool) (x : Put) (v : List ℕ × Value) (ps : List Put) (vs : ValuesAt) → b ≡ true → x.held.storage_time ≡ v.1.stored.storage_time → times_of ps ≡ times_at vs
    → times_of (cond (b && c) (x ∷ ps) ps) ≡ times_at (cond c (v ∷ vs) vs)
here_times b true x v ps vs e f g = ap (λ a. times_of (cond (a && true) (x ∷ ps) ps)) e ∙ ap₂ (λ t ts. t ∷ ts) f g
here_times b false x v ps vs e f g = ap (λ a. times_of (cond (a && false) (x ∷ ps) ps)) e ∙ g

puts_at-times : (d : Decision) (r kind id : ℕ) (key : List ℕ) (app : Bool) (vs : ValuesAt) → (eqb d.resource r && eqb id kind) ≡ true → times_of (puts_in r kind key (puts_at d id app vs)) ≡ times_at (at_key key vs)
unfolding puts_in
puts_at-times d r kind id key app [] e = refl
puts_at-times d r kind id key app (v ∷ vs) e =
    here_times (eqb d.resource r && eqb id kind) (is_same_key key v.0) _ v _ (at_key key vs) e refl (puts_at-times d r kind id key app vs e)

pub times_of-append : (ps qs : List Put) → times_of (ps ++ qs) ≡ times_of ps ++ times_of qs
times_of-append [] qs = refl
times_of-append (p ∷ ps) qs = ap (λ ts. p.held.storage_time ∷ ts) (times_of-append ps qs)

kind_puts-times : (kinds : Kinds) (d : Decision) (r kind : ℕ) (key : List ℕ) (a : AskedKind) → (eqb d.resource r && eqb a.kind kind) ≡ true
    → times_of (puts_in r kind key (kind_puts kinds d a)) ≡ times_at (at_key key (at_keys (placed (values_of a)))) ++ times_at (at_key key (at_end (next_index (put_all d.time (kind_in kinds a.kind).slots (at_keys (placed (values_of a))))) (appended (values_of a))))
unfolding kind_puts
kind_puts-times kinds d r kind key a e =
    let first : ValuesAt = at_keys (placed (values_of a)) in
    let rest : ValuesAt = at_end (next_index (put_all d.time (kind_in kinds a.kind).slots first)) (appended (values_of a)) in
    ap times_of (puts_in-append r kind key (puts_at d a.kind false first) (puts_at d a.kind true rest))
    ∙ times_of-append (puts_in r kind key (puts_at d a.kind false first)) (puts_in r kind key (puts_at d a.kind true rest))
    ∙ ap₂ (λ ts us. ts ++ us) (puts_at-times d r kind a.kind key false first e) (puts_at-times d r kind a.kind key true rest e)

-- the storage times of what is asked of a kind, in one slot
abbrev pub times_asked : ℕ → Slots → List ℕ → Option AskedKind → List ℕ
times_asked now slots key None = []
times_asked now slots key (Some a) =
    times_at (at_key key (at_keys (placed (values_of a)))) ++ times_at (at_key key (at_end (next_index (put_all now slots (at_keys (placed (values_of a))))) (appended (values_of a))))

pub puts-times : (kinds : Kinds) (d : Decision) (kind : ℕ) (key : List ℕ) (asked : List AskedKind) → AreApart asked
    → times_of (puts_in d.resource kind key (flat_map (kind_puts kinds d) asked)) ≡ times_asked d.time (kind_in kinds kind).slots key (asked_for kind asked)
unfolding puts_in
puts-times kinds d kind key [] apart = refl
puts-times kinds d kind key (a ∷ asked) apart =
    ap times_of (puts_in-append d.resource kind key (kind_puts kinds d a) (flat_map (kind_puts kinds d) asked))
    ∙ ⊎_elim
    (λ (e : kind ≡ a.kind).
    ap times_of
    (ap (λ qs. puts_in d.resource kind key (kind_puts kinds d a) ++ qs) (puts-elsewhere kinds d d.resource kind key asked (subst (λ i. NamesNot i asked) (sym e) apart.0))
    ∙ append-nil_right _)
    ∙ kind_puts-times kinds d d.resource kind key a (both_true (eq-eqb d.resource d.resource refl) (eq-eqb a.kind kind (sym e)))
    ∙ ap (λ i. times_asked d.time (kind_in kinds i).slots key (Some a)) (sym e)
    ∙ sym (ap (times_asked d.time (kind_in kinds kind).slots key) (cond-true _ (Some a) (asked_for kind asked) (eq-eqb kind a.kind e))))
    (λ (n : kind ≢ a.kind).
    ap (λ ps. times_of (ps ++ puts_in d.resource kind key (flat_map (kind_puts kinds d) asked))) (kind_puts-elsewhere kinds d d.resource kind key a (both_false (eqb d.resource d.resource) (ne_eqb a.kind kind (λ e. n (sym e)))))
    ∙ puts-times kinds d kind key asked apart.1
    ∙ sym (ap (times_asked d.time (kind_in kinds kind).slots key) (cond-false _ (Some a) (asked_for kind asked) (ne_eqb kind a.kind n))))
    (cases_eq kind a.kind)
