-- A decision is taken back.
use Rattle.std.proofs.Common.{◌≡◌, ◌≤◌, ◌+◌, ◌-◌, ℕ, Bool, true, false, List, refl, ap, sym, subst, ◌∙◌, arith}
use Rattle.std.specs.Prelude.{Option, Some, None, IfSome, is_some, if◌then◌else◌}
use Rattle.std.specs.Option.{option_map, option_map_or}
use Rattle.std.specs.Cmp.{nat_cmp_total}
use Rattle.std.specs.FinMap.{nat_cmp-IsAntisymmetric, get, insert, remove}
use Rattle.ordered_tables.proofs.Finite.{get-insert_there, insert-insert, insert-same, remove-insert}
use Rattle.reload_ids.specs.declared.ResourceId.{ResourceId}
use Rattle.storage_model.specs.declared.limits.TheConstants.{MAX_WEIGHT}
use Rattle.storage_model.specs.declared.record.Kept.{Kept}
use Rattle.storage_model.specs.Records.{Record, Map, Kinds, weight}
use Rattle.record_state.specs.declared.undo.KindsUndo.{KindsUndo}
use Rattle.record_state.specs.Log.{kinds_undone}
use Rattle.record_state.specs.Rings.{taken_back}
use Rattle.kind_store.specs.declared.undo.RecordUndo.{RecordUndo}
use Rattle.kind_store.specs.declared.undo.RecordUndo.TheVariants.{Nothing, Noted, Joined}
use Rattle.kind_store.specs.declared.undo.Change.TheVariants.{There, Added}
use Rattle.kind_store.specs.declared.undo.Undo.{Undo}
use Rattle.kind_store.specs.Undoing.{there_at, added_at, record_undone, IsRecordUndo, change_undone, IsUndo}

-- what a decision says to its asker
abbrev pub first_of : {X Y : Type 0} → Option (X × Y) → Option X
first_of o = option_map (λ d. d.0) o

abbrev pub record_with : ℕ → Bool → Kinds → List Kept → Record
record_with turn joined kinds kept = record { turn = turn; joined = joined; kinds = kinds; kept = kept }

less_one : (n : ℕ) → n + 1 - 1 ≡ n
less_one n = omega arith

-- a record that didn't change
pub nothing_back : (x : Record) → weight x.kinds ≤ MAX_WEIGHT → IsRecordUndo Nothing x x
unfolding record_undone
nothing_back x light = record { back = refl; light = light }

-- a record whose kinds changed, and that kept an answer
pub noted_back : (turn : ℕ) (joined : Bool) (kinds before : Kinds) (kept answers : List Kept) (undo : KindsUndo) (oldest : Option Kept)
    → kinds_undone undo kinds ≡ before → taken_back oldest kept ≡ answers → weight before ≤ MAX_WEIGHT
    → IsRecordUndo (Noted undo oldest) (record_with (turn + 1) joined kinds kept) (record_with turn joined before answers)
unfolding record_undone
noted_back turn joined kinds before kept answers undo oldest one two light = record {
  back = ap (λ n. record_with n joined (kinds_undone undo kinds) (taken_back oldest kept)) (less_one turn)
      ∙ ap (λ (ks : Kinds). record_with turn joined ks (taken_back oldest kept)) one
      ∙ ap (λ (all : List Kept). record_with turn joined before all) two;
  light = light;
}

-- a record that was there
pub undo_there : (m two : Map) (r : ResourceId) (x y : Record) (undo : RecordUndo) → Some x ≡ get m r.0 → two ≡ insert m r.0 y → IsRecordUndo undo y x
    → IsUndo (there_at r undo) two m
unfolding change_undone
undo_there m two r x y undo is put back = record {
  back = ap (λ (n : Map). option_map_or (λ z. insert n r.0 (record_undone undo z)) (get n r.0) n) put
      ∙ ap (λ o. option_map_or (λ z. insert (insert m r.0 y) r.0 (record_undone undo z)) o (insert m r.0 y)) (get-insert_there nat_cmp_total m r.0 y)
      ∙ insert-insert nat_cmp_total nat_cmp-IsAntisymmetric m r.0 y (record_undone undo y)
      ∙ ap (insert m r.0) back.back
      ∙ insert-same nat_cmp_total nat_cmp-IsAntisymmetric m r.0 x (sym is);
  light = subst (λ o. IfSome o (λ (z : Record). weight z.kinds ≤ MAX_WEIGHT)) is back.light;
}

-- a record that wasn't there, and is now
pub undo_added : (m two : Map) (r : ResourceId) (y : Record) → None ≡ get m r.0 → two ≡ insert m r.0 y → IsUndo (added_at r) two m
unfolding change_undone
undo_added m two r y none put = record {
  back = ap (λ (n : Map). remove n r.0) put ∙ remove-insert nat_cmp_total nat_cmp-IsAntisymmetric m r.0 y (sym none);
  light = subst (λ o. IfSome o (λ (z : Record). weight z.kinds ≤ MAX_WEIGHT)) none tt;
}

-- a record that wasn't there, and still isn't
pub undo_none : (m two : Map) (r : ResourceId) (undo : RecordUndo) → None ≡ get m r.0 → two ≡ m → IsUndo (there_at r undo) two m
unfolding change_undone
undo_none m two r undo none same = record {
  back = ap (λ (n : Map). option_map_or (λ z. insert n r.0 (record_undone undo z)) (get n r.0) n) same
      ∙ ap (λ o. option_map_or (λ z. insert m r.0 (record_undone undo z)) o m) (sym none);
  light = subst (λ o. IfSome o (λ (z : Record). weight z.kinds ≤ MAX_WEIGHT)) none tt;
}

-- a record that noted that a peer joined
pub joined_back : (turn : ℕ) (joined : Bool) (kinds : Kinds) (kept : List Kept) → joined ≡ false → weight kinds ≤ MAX_WEIGHT
    → IsRecordUndo Joined (record_with (turn + 1) true kinds kept) (record_with turn joined kinds kept)
unfolding record_undone
joined_back turn joined kinds kept not_yet light = record {
  back = ap (λ n. record_with n false kinds kept) (less_one turn)
      ∙ ap (λ b. record_with turn b kinds kept) (sym not_yet);
  light = light;
}

-- what Shelf::undo needs of a record that is there
pub light_there : (m before : Map) (r : ResourceId) (undo : RecordUndo) → IsUndo (there_at r undo) m before
    → IfSome (get m r.0) (λ (x : Record). weight (record_undone undo x).kinds ≤ MAX_WEIGHT)
unfolding change_undone
light_there m before r undo is = by (get m r.0) refl
  where
    by : (o : Option Record) → get m r.0 ≡ o → IfSome o (λ (x : Record). weight (record_undone undo x).kinds ≤ MAX_WEIGHT)
    by None e = tt
    by (Some x) e =
        let there : insert m r.0 (record_undone undo x) ≡ before = ap (λ o. option_map_or (λ z. insert m r.0 (record_undone undo z)) o m) (sym e) ∙ is.back in
        let found : get before r.0 ≡ Some (record_undone undo x) = ap (λ (n : Map). get n r.0) (sym there) ∙ get-insert_there nat_cmp_total m r.0 (record_undone undo x) in
        subst (λ o. IfSome o (λ (z : Record). weight z.kinds ≤ MAX_WEIGHT)) found is.light

-- the same, where it is known of a decision that it changed a record that was there
pub light_at : (m before : Map) (undo : Undo) (there : RecordUndo) → undo.change ≡ There there → IsUndo undo m before
    → IfSome (get m undo.resource.0) (λ (x : Record). weight (record_undone there x).kinds ≤ MAX_WEIGHT)
light_at m before undo there is back = light_there m before undo.resource there (record {
  back = ap (λ change. change_undone change undo.resource.0 m) (sym is) ∙ back.back;
  light = back.light;
})

-- a record that is there is changed back in its place
pub changed_back : (m one two : Map) (r : ℕ) (e x y : Record) (undo : RecordUndo) → Some x ≡ get m r → y ≡ record_undone undo x → two ≡ insert m r y → two ≡ change_undone (There undo) r m
unfolding change_undone
changed_back m one two r e x y undo is back put =
    put ∙ ap (insert m r) back ∙ ap (λ o. option_map_or (λ z. insert m r (record_undone undo z)) o m) is

pub none_back : (m : Map) (r : ℕ) (undo : RecordUndo) → None ≡ get m r → m ≡ change_undone (There undo) r m
unfolding change_undone
none_back m r undo none = ap (λ o. option_map_or (λ z. insert m r (record_undone undo z)) o m) none
