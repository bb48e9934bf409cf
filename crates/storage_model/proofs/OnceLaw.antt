-- Times in one slot rise over a run, and floors never fall.
use Rattle.std.proofs.Common.{◌≡◌, ℕ, ◌≤◌, ⊎_elim, List, [], ◌∷◌, ◌++◌, refl, sym, ap, ◌∙◌, subst, le_trans, le_refl, length, map, unwrap_or, arith, nat_cmp}
use Rattle.std.specs.Cmp.Lexicographic.{slice_cmp}
use Rattle.std.specs.FinMap.{empty, keys, entries, len-entries, len-empty, get-empty}
use Rattle.data_models.specs.declared.config.DataModel.{DataModel}
use Rattle.storage_model.specs.Records.{SlotEntry, KindEntry, Record, Map, slot_in, kind_in, swept_slot, empty_kind, empty_record}
use Rattle.storage_model.specs.Decisions.{Decision, Put, map_after, puts_of, puts_from, puts_in, times_of}
use Rattle.storage_model.specs.Laws.{IsSound, AreSound, map_from, kind_at}
use Rattle.storage_model.proofs.Indexes.{AreIndexKeys}
use Rattle.storage_model.proofs.PutLaws.{slot_after, puts_in-append, times_of-append}
use Rattle.storage_model.proofs.Steps.{SlotStep, slot_step}
use Rattle.storage_model.proofs.Runs.{HasIndexes, rises_step, indexes_step}
use Rattle.storage_model.proofs.Times.{RisesOver, last_time, rises_none, rises_join, floor_after, last_not_below}

-- the floor that a decision leaves is the last time that it puts
floor_of : (now : ℕ) (s t : SlotEntry) (ps : List Put) → SlotStep now s ps t → t.floor ≡ last_time s.floor (times_of ps)
floor_of now s t ps h =
    ⊎_elim
    (λ (e : t ≡ slot_after s ps). ap (λ (u : SlotEntry). u.floor) e ∙ floor_after s ps)
    (λ (e : t ≡ slot_after (swept_slot now s) ps). ap (λ (u : SlotEntry). u.floor) e ∙ floor_after (swept_slot now s) ps)
    h

abbrev pub floor_at : Map → ℕ → ℕ → List ℕ → ℕ
floor_at m r kind key = (slot_in (kind_at m r kind).slots key).floor

pub floor_step : (models : ℕ → DataModel) (m : Map) (d : Decision) (r kind : ℕ) (key : List ℕ) → IsSound models d → floor_at (map_after m d) r kind key ≡ last_time (floor_at m r kind key) (times_of (puts_in r kind key (puts_of m d)))
floor_step models m d r kind key s = floor_of d.time _ _ (puts_in r kind key (puts_of m d)) (slot_step m d r kind key s.request)

-- what is put in a slot over a run rises over its floor
pub rises_from : (models : ℕ → DataModel) (ds : List Decision) (m : Map) (r kind : ℕ) (key : List ℕ) → AreSound models ds → HasIndexes models m
    → RisesOver (floor_at m r kind key) (times_of (puts_in r kind key (puts_from m ds)))
unfolding puts_from puts_in
rises_from models [] m r kind key s i = rises_none (floor_at m r kind key)
rises_from models (d ∷ ds) m r kind key s i =
    let here = rises_step models m d r kind key s.0 i in
    let later = rises_from models ds (map_after m d) r kind key s.1 (indexes_step models m d s.0 i) in
    subst (RisesOver (floor_at m r kind key))
    (sym (ap times_of (puts_in-append r kind key (puts_of m d) (puts_from (map_after m d) ds)) ∙ times_of-append (puts_in r kind key (puts_of m d)) (puts_in r kind key (puts_from (map_after m d) ds))))
    (rises_join (floor_at m r kind key) (times_of (puts_in r kind key (puts_of m d))) (times_of (puts_in r kind key (puts_from (map_after m d) ds))) here
    (subst (λ f. RisesOver f (times_of (puts_in r kind key (puts_from (map_after m d) ds)))) (floor_step models m d r kind key s.0) later))

-- a floor doesn't fall at a decision, nor over a run
floor_kept : (models : ℕ → DataModel) (m : Map) (d : Decision) (r kind : ℕ) (key : List ℕ) → IsSound models d → HasIndexes models m → floor_at m r kind key ≤ floor_at (map_after m d) r kind key
floor_kept models m d r kind key s i = subst (λ f. floor_at m r kind key ≤ f) (sym (floor_step models m d r kind key s)) (last_not_below _ _ (rises_step models m d r kind key s i))

pub floors_from : (models : ℕ → DataModel) (ds : List Decision) (m : Map) (r kind : ℕ) (key : List ℕ) → AreSound models ds → HasIndexes models m → floor_at m r kind key ≤ floor_at (map_from m ds) r kind key
unfolding map_from
floors_from models [] m r kind key s i = le_refl _
floors_from models (d ∷ ds) m r kind key s i =
    le_trans (floor_kept models m d r kind key s.0 i) (floors_from models ds (map_after m d) r kind key s.1 (indexes_step models m d s.0 i))

-- over two runs, one behind the other
pub map_from-append : (m : Map) (ds es : List Decision) → map_from m (ds ++ es) ≡ map_from (map_from m ds) es
unfolding map_from
map_from-append m [] es = refl
map_from-append m (d ∷ ds) es = map_from-append (map_after m d) ds es

pub sound_front : (models : ℕ → DataModel) (ds es : List Decision) → AreSound models (ds ++ es) → AreSound models ds × AreSound models es
sound_front models [] es s = (tt, s)
sound_front models (d ∷ ds) es s = let later = sound_front models ds es s.1 in ((s.0, later.0), later.1)

pub indexes_from : (models : ℕ → DataModel) (ds : List Decision) (m : Map) → AreSound models ds → HasIndexes models m → HasIndexes models (map_from m ds)
unfolding map_from
indexes_from models [] m s i = i
indexes_from models (d ∷ ds) m s i = indexes_from models ds (map_after m d) s.1 (indexes_step models m d s.0 i)

nothing : (es : List (List ℕ × SlotEntry)) → length es ≡ 0 → map (λ (e : List ℕ × SlotEntry). e.0) es ≡ []
nothing [] e = refl
nothing (x ∷ es) e = absurd (omega (arith, e))

-- where nobody wrote anything there are no keys
no_keys : keys (empty {X = SlotEntry} {R = slice_cmp nat_cmp}) ≡ []
no_keys = nothing (entries (empty {X = SlotEntry} {R = slice_cmp nat_cmp})) (sym (len-entries (empty {X = SlotEntry} {R = slice_cmp nat_cmp})) ∙ len-empty (slice_cmp nat_cmp) SlotEntry)

pub empty_indexes : (models : ℕ → DataModel) → HasIndexes models empty
empty_indexes models r kind e =
    subst (λ (x : Record). AreIndexKeys (keys (kind_in x.kinds kind).slots)) (sym (ap (λ o. unwrap_or o empty_record) (get-empty nat_cmp r)))
    (subst (λ (k : KindEntry). AreIndexKeys (keys k.slots)) (sym (ap (λ o. unwrap_or o empty_kind) (get-empty nat_cmp kind)))
    (subst AreIndexKeys (sym no_keys) tt))
