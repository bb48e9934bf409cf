-- A decision on one record, in the map of all.
use lib.Dec.{T}
use Rattle.std.proofs.Common.{◌≡◌, ◌<◌, ◌+◌, ℕ, Bool, true, false, refl, ap, sym, subst, ◌∙◌, arith}
use Rattle.std.specs.Prelude.{Result, Ok, Err, OnOk, OnErr, IfOk, Option, Some, None, is_some, unwrap_or, IfSome, if◌then◌else◌}
use Rattle.std.specs.Option.{option_map_or}
use Rattle.std.specs.Ordering.{nat_cmp}
use Rattle.std.specs.Cmp.{nat_cmp_total}
use Rattle.std.specs.FinMap.{nat_cmp-IsAntisymmetric, get, insert}
use Rattle.reload_ids.specs.declared.NodeId.{NodeId}
use Rattle.data_models.specs.declared.config.Config.{Config}
use Rattle.storage_model.specs.declared.record.Kept.{Kept}
use Rattle.storage_model.specs.declared.refusal.Refusal.{Refusal}
use Rattle.storage_model.specs.declared.request.StoreAsked.{StoreAsked}
use Rattle.storage_model.specs.Records.{Record, Map, record_in, empty_record, kept_for}
use Rattle.storage_model.specs.Refusals.{first_cause, error_code}
use Rattle.kind_store.specs.Steps.{answer}
use Rattle.storage_model.specs.Verdict.{Outcome, outcome_of, decided, repeated, refused, accepted, noted, is_traceless, told, store_causes}
use Rattle.storage_model.specs.Decisions.{changed, with_joined}
use Rattle.ordered_tables.proofs.Finite.{get-insert_there, insert-insert, insert-same}

-- a record that is there, or the empty one
pub record_there : (m : Map) (r : ℕ) (x : Record) → Some x ≡ get m r → x ≡ record_in m r
record_there m r x is = ap (λ o. unwrap_or o empty_record) is

pub record_missing : (m : Map) (r : ℕ) → None ≡ get m r → empty_record ≡ record_in m r
record_missing m r is = ap (λ o. unwrap_or o empty_record) is

-- what is put in the place of a record that was taken out
pub put_record : (m one two : Map) (r : ℕ) (e x y : Record) → Some x ≡ get m r → one ≡ (if is_some (get m r) then insert m r e else m) → two ≡ (if is_some (get one r) then insert one r y else one) → two ≡ insert m r y
put_record m one two r e x y is first second =
    let there : one ≡ insert m r e = first ∙ ap (λ o. if is_some o then insert m r e else m) (sym is) in
    second ∙ ap (λ n. if is_some (get n r) then insert n r y else n) there
    ∙ ap (λ o. if is_some o then insert (insert m r e) r y else insert m r e) (get-insert_there nat_cmp_total m r e)
    ∙ insert-insert nat_cmp_total nat_cmp-IsAntisymmetric m r e y

pub changed_there : (m : Map) (r : ℕ) (x : Record) (next : Option Record) → Some x ≡ get m r → insert m r (unwrap_or next x) ≡ changed m r next
changed_there m r x None is = insert-same nat_cmp_total nat_cmp-IsAntisymmetric m r x (sym is)
changed_there m r x (Some y) is = refl

pub stayed_there : (m two : Map) (r : ℕ) (x : Record) → Some x ≡ get m r → two ≡ insert m r x → two ≡ m
stayed_there m two r x is e = e ∙ insert-same nat_cmp_total nat_cmp-IsAntisymmetric m r x (sym is)

-- the turn rises by 1 where a record changes
abbrev Rises : Record → Option Record → Type 0
Rises x next = IfSome next (λ y. y.turn ≡ x.turn + 1)

rises_or_not : (x y : Record) (b : Bool) → y.turn ≡ x.turn + 1 → Rises x (if b then None else Some y)
rises_or_not x y true e = tt
rises_or_not x y false e = e

noted_rises : (x : Record) (cause : Refusal) (origin : NodeId) (id : ℕ) (q : StoreAsked) → Rises x (refused cause x origin id q).next
unfolding refused noted
noted_rises x cause origin id q = rises_or_not x (noted (answer origin id (error_code cause) (told cause x.kinds q.kinds)) x.kinds x) (is_traceless cause) refl

decided_rises : (c : Option Refusal) (now : ℕ) (x : Record) (origin : NodeId) (id : ℕ) (q : StoreAsked) → Rises x (decided c now x origin id q).next
unfolding accepted noted
decided_rises (Some cause) now x origin id q = noted_rises x cause origin id q
decided_rises None now x origin id q = refl

kept_rises : (o : Option Kept) (x : Record) (out : Outcome) → Rises x out.next → Rises x (option_map_or repeated o out).next
unfolding repeated
kept_rises (Some k) x out rises = tt
kept_rises None x out rises = rises

outcome_rises : (config : Config) (now r : ℕ) (x : Record) (origin : NodeId) (id : ℕ) (q : StoreAsked) → Rises x (outcome_of config now r x origin id q).next
unfolding outcome_of
outcome_rises config now r x origin id q = kept_rises (kept_for x.kept origin.0 id) x _ (decided_rises (first_cause (store_causes config now r x.kinds q)) now x origin id q)

-- a new record that changed is put, and one that didn't isn't
pub none_more : (n : ℕ) → n ≡ 0 → 0 < n → ⊥
none_more n e p = omega arith

new_put : (m : Map) (r : ℕ) (next : Option Record) (y : Record) → Rises empty_record next → y ≡ unwrap_or next empty_record → 0 < y.turn → insert m r y ≡ changed m r next
new_put m r None y rises is more = absurd (none_more y.turn (ap (λ (x : Record). x.turn) is) more)
new_put m r (Some z) y rises is more = ap (insert m r) is

new_left : (m : Map) (r : ℕ) (next : Option Record) (y : Record) → Rises empty_record next → y ≡ unwrap_or next empty_record → (0 < y.turn → ⊥) → m ≡ changed m r next
new_left m r None y rises is none = refl
new_left m r (Some z) y rises is none = absurd (none (subst (λ n. 0 < n) (sym (ap (λ (x : Record). x.turn) is ∙ rises)) (omega arith)))

module _ (config : Config) (now r : ℕ) (origin : NodeId) (id : ℕ) (q : StoreAsked) (m : Map) where
  abbrev next_of : Record → Option Record
  next_of x = (outcome_of config now r x origin id q).next

  pub decided_there : (one two : Map) (e x y : Record) → Some x ≡ get m r → one ≡ (if is_some (get m r) then insert m r e else m) → two ≡ (if is_some (get one r) then insert one r y else one)
      → y ≡ unwrap_or (next_of x) x → two ≡ changed m r (next_of (record_in m r))
  decided_there one two e x y is first second next =
      put_record m one two r e x y is first second ∙ ap (insert m r) next ∙ changed_there m r x (next_of x) is ∙ ap (λ x. changed m r (next_of x)) (record_there m r x is)

  pub decided_new : (two : Map) (e y : Record) → None ≡ get m r → e ≡ empty_record → y ≡ unwrap_or (next_of e) e → 0 < y.turn → two ≡ insert m r y → two ≡ changed m r (next_of (record_in m r))
  decided_new two e y none fresh next more put =
      put ∙ new_put m r (next_of empty_record) y (outcome_rises config now r empty_record origin id q) (next ∙ ap (λ x. unwrap_or (next_of x) x) fresh) more
      ∙ ap (λ x. changed m r (next_of x)) (record_missing m r none)

  pub decided_nothing : (e y : Record) → None ≡ get m r → e ≡ empty_record → y ≡ unwrap_or (next_of e) e → (0 < y.turn → ⊥) → m ≡ changed m r (next_of (record_in m r))
  decided_nothing e y none fresh next less =
      new_left m r (next_of empty_record) y (outcome_rises config now r empty_record origin id q) (next ∙ ap (λ x. unwrap_or (next_of x) x) fresh) less
      ∙ ap (λ x. changed m r (next_of x)) (record_missing m r none)

-- a new record, once a peer joined
pub joined_first : true ≡ is_some (with_joined empty_record)
unfolding with_joined
joined_first = refl

pub joined_new : (m : Map) (r : ℕ) (y e : Record) → e ≡ empty_record → y ≡ unwrap_or (with_joined e) e → insert m r y ≡ changed m r (with_joined empty_record)
unfolding with_joined
joined_new m r y e fresh is = ap (insert m r) (is ∙ ap (λ (e : Record). unwrap_or (with_joined e) e) fresh)
