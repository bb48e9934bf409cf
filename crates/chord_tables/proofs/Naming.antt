-- Whether tables name a node, table by table.
use Rattle.std.proofs.Common.{◌≡◌, ◌∙◌, ℕ, Bool, false, List, map, [], ◌∷◌, ◌++◌, ap, refl}
use Rattle.std.specs.Prelude.{◌==◌, ◌||◌, Option, Some, None}
use Rattle.std.specs.List.{list_any, filter_map}
use Rattle.std.proofs.lemmas.List.Folds.{list_any-append}
use Rattle.chord_tables.specs.Tables.{Tables, ids, number, names}
use Rattle.reload_ids.specs.declared.NodeId.{NodeId}

-- a node is among nodes where its id is among theirs
pub any_id : (id : ℕ) (nodes : List NodeId)
    → list_any (λ n. n.0 == id) nodes ≡ list_any (λ x. x == id) (ids nodes)
any_id id [] = refl
any_id id (n ∷ nodes) = ap (λ b. (n.0 == id) || b) (any_id id nodes)

-- a node is among fingers where its id is among theirs
pub any_finger : (id : ℕ) (test : Option NodeId → Bool) → test None ≡ false
    → ((n : NodeId) → test (Some n) ≡ (n.0 == id))
    → (fingers : List (Option NodeId))
    → list_any test fingers
    ≡ list_any (λ x. x == id) (filter_map (λ finger. finger) (map number fingers))
any_finger id test none some [] = refl
any_finger id test none some (None ∷ fingers) =
    ap (λ b. b || list_any test fingers) none ∙ any_finger id test none some fingers
any_finger id test none some (Some n ∷ fingers) =
    ap (λ b. b || list_any test fingers) (some n)
    ∙ ap (λ b. (n.0 == id) || b) (any_finger id test none some fingers)

five : (p : ℕ → Bool) (a b c d e : List ℕ)
    → list_any p (a ++ b ++ c ++ d ++ e)
    ≡ (list_any p a || list_any p b || list_any p c || list_any p d || list_any p e)
five p a b c d e = simp list_any-append

-- tables name a node where one of the five does
pub names_any : (id : ℕ) (t : Tables)
    → names id t ≡ (list_any (λ x. x == id) t.predecessors || list_any (λ x. x == id) t.successors
    || list_any (λ x. x == id) (filter_map (λ finger. finger) t.fingers)
    || list_any (λ x. x == id) t.friends || list_any (λ x. x == id) t.users)
unfolding names
names_any id t =
    five (λ x. x == id) t.predecessors t.successors (filter_map (λ finger. finger) t.fingers)
    t.friends t.users
