-- Values that have a slot, and those that are appended.
use Rattle.std.proofs.Common.{◌≡◌, ℕ, Bool, true, false, cond, List, [], ◌∷◌, refl, ap, ◌∙◌}
use Rattle.std.specs.Prelude.{fold, not, ◌&&◌, ◌||◌, if◌then◌else◌}
use Rattle.std.specs.List.{list_any}
use Rattle.storage_model.specs.declared.request.Value.{Value}
use Rattle.storage_model.specs.Records.{Kinds}
use Rattle.storage_model.specs.Requests.{is_end, placed}
use Rattle.storage_model.specs.Puts.{at_keys, slot_of}
use Rattle.data_models.specs.Stored.{key_of}
use Rattle.record_state.specs.Undo.{slot_put}
use Rattle.record_state.specs.Placing.{put_into, placed_on}

any_split : (test : Value → Bool) (e : Bool) (v : Value) (vs : List Value) (rest : Bool) → list_any test (cond (not e) (v ∷ vs) vs) ≡ rest → ((not e && test v) || list_any test vs) ≡ rest
any_split test true v vs rest h = h
any_split test false v vs rest h = h

nothing : (now id : ℕ) (c : ℕ × ℕ) (kinds : Kinds) → kinds ≡ put_into now id c kinds (at_keys [])
unfolding at_keys put_into
nothing now id c kinds = refl

-- some value that has a slot passes a test
pub any_placed : (test : Value → Bool) (values : List Value) → list_any (λ v. not (is_end v.stored.key) && test v) values ≡ list_any test (placed values)
unfolding placed
any_placed test [] = refl
any_placed test (v ∷ vs) =
    ap (λ b. (not (is_end v.stored.key) && test v) || b) (any_placed test vs)
    ∙ any_split test (is_end v.stored.key) v (placed vs) _ refl

step_split : (now id : ℕ) (c : ℕ × ℕ) (kinds : Kinds) (e : Bool) (v : Value) (vs : List Value)
    → put_into now id c (if e then kinds else slot_put kinds id c.0 c.1 (key_of v.stored.key) (slot_of now v)) (at_keys vs) ≡ put_into now id c kinds (at_keys (cond (not e) (v ∷ vs) vs))
unfolding at_keys put_into
step_split now id c kinds true v vs = refl
step_split now id c kinds false v vs = refl

-- values are put where they have a slot
pub placed_into : (now id : ℕ) (counters : ℕ × ℕ) (kinds : Kinds) (values : List Value) → fold (placed_on now id counters) kinds values ≡ put_into now id counters kinds (at_keys (placed values))
unfolding placed placed_on
placed_into now id counters kinds [] = nothing now id counters kinds
placed_into now id counters kinds (v ∷ vs) = placed_into now id counters (placed_on now id counters kinds v) vs ∙ step_split now id counters kinds (is_end v.stored.key) v (placed vs)
