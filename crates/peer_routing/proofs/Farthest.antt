-- The best of peers, one peer at a time, are the farthest up to an id and the nearest from it on.
use Rattle.std.proofs.Common.{◌≡◌, ℕ, ◌<◌, ◌^◌, Bool, true, false, cond, List, [], ◌∷◌, ◌++◌, refl, ap, sym, ◌∙◌}
use Rattle.std.specs.Prelude.{◌==◌, not, nat_lt, filter, Option, Some, None}
use Rattle.std.specs.Option.{option_map_or}
use Rattle.std.specs.List.{All, last_or, filter_map}
use Rattle.std.proofs.lemmas.List.Elements.{All-append, All-filter, All-head, All-tail, All-cons, All-nil}
use Rattle.reload_ids.specs.Ring.{distance, between}
use Rattle.chord_tables.specs.Neighbours.{put_by, by_way}
use Rattle.chord_tables.specs.Tables.{Tables}
use Rattle.peer_routing.specs.Best.{farther, nearer, farthest_with, nearest_with}
use Rattle.peer_routing.specs.Routes.{known, farthest_up_to, nearest_from}
use Rattle.peer_routing.proofs.Ends.{end_of, last_put, first_put}
use Rattle.peer_routing.proofs.Folds.{far_append, near_append}
use Rattle.peer_routing.proofs.Ways.{no_way, one_way}

-- an id of 128 bits
abbrev Fits : ℕ → Type 0
Fits x = x < 2 ^ 128

fit_step : (e l : Bool) (x y : ℕ) (ys zs : List ℕ) → Fits x → All Fits (y ∷ ys) → All Fits zs
    → All Fits (cond e (y ∷ ys) (cond l (x ∷ y ∷ ys) (y ∷ zs)))
fit_step true l x y ys zs f all h = all
fit_step false true x y ys zs f all h = All-cons Fits x (y ∷ ys) f all
fit_step false false x y ys zs f all h = All-cons Fits y zs (All-head Fits y ys all) h

fit_put : (way : ℕ → ℕ) (x : ℕ) (xs : List ℕ) → Fits x → All Fits xs → All Fits (put_by way x xs)
fit_put way x [] f all = All-cons Fits x [] f (All-nil Fits)
fit_put way x (y ∷ ys) f all =
    fit_step (x == y) (nat_lt (way x) (way y)) x y ys (put_by way x ys) f all
    (fit_put way x ys f (All-tail Fits y ys all))

fit_by_way : (way : ℕ → ℕ) (xs : List ℕ) → All Fits xs → All Fits (by_way way xs)
fit_by_way way [] all = all
fit_by_way way (x ∷ xs) all =
    fit_put way x (by_way way xs) (All-head Fits x xs all)
    (fit_by_way way xs (All-tail Fits x xs all))

fit_end : (b : ℕ) (xs : List ℕ) → Fits b → All Fits xs → Fits (end_of b xs)
fit_end b [] f all = f
fit_end b (y ∷ ys) f all = fit_end y ys (All-head Fits y ys all) (All-tail Fits y ys all)

far_step : (p : Bool) (me x : ℕ) (ys : List ℕ) → Fits me → Fits x → All Fits ys
    → last_or None (by_way (λ y. distance me y) (cond p (x ∷ ys) ys))
    ≡ cond (not p) (last_or None (by_way (λ y. distance me y) ys))
    (option_map_or (λ far. cond (nat_lt (distance me x) (distance me far)) (Some far) (Some x))
    (last_or None (by_way (λ y. distance me y) ys)) (Some x))
far_step false me x ys m f all = refl
far_step true me x ys m f all =
    last_put (λ y. distance me y) me x ys (no_way me m)
    (one_way me (end_of me (by_way (λ y. distance me y) ys)) x m
    (fit_end me (by_way (λ y. distance me y) ys) m (fit_by_way (λ y. distance me y) ys all)) f)

-- one more peer, of those that are farthest up to an id
far_more : (me k x : ℕ) (xs : List ℕ) → Fits me → Fits x → All Fits xs
    → farther me k (farthest_up_to me k xs) x ≡ farthest_up_to me k (x ∷ xs)
unfolding farther farthest_up_to
far_more me k x xs m f all =
    sym (far_step (between me x k) me x (filter (λ y. between me y k) xs) m f
    (All-filter (λ y. between me y k) Fits xs all))

near_more : (k x : ℕ) (xs : List ℕ) → nearer k (nearest_from k xs) x ≡ nearest_from k (x ∷ xs)
unfolding nearer nearest_from
near_more k x xs = sym (first_put (λ y. distance k y) x xs)

far_none : (me k : ℕ) → None ≡ farthest_up_to me k []
unfolding farthest_up_to
far_none me k = refl

near_none : (k : ℕ) → None ≡ nearest_from k []
unfolding nearest_from
near_none k = refl

far_all : (me k : ℕ) (xs : List ℕ) → Fits me → All Fits xs
    → farthest_with me k xs None ≡ farthest_up_to me k xs
far_all me k [] m all = far_none me k
far_all me k (x ∷ xs) m all =
    ap (λ b. farther me k b x) (far_all me k xs m (All-tail Fits x xs all))
    ∙ far_more me k x xs m (All-head Fits x xs all) (All-tail Fits x xs all)

near_all : (k : ℕ) (xs : List ℕ) → nearest_with k xs None ≡ nearest_from k xs
near_all k [] = near_none k
near_all k (x ∷ xs) = ap (λ b. nearer k b x) (near_all k xs) ∙ near_more k x xs

far_three : (me k : ℕ) (xs ys zs : List ℕ) → Fits me → All Fits xs → All Fits ys → All Fits zs
    → farthest_with me k xs (farthest_with me k ys (farthest_with me k zs None))
    ≡ farthest_up_to me k (xs ++ ys ++ zs)
far_three me k xs ys zs m a b c =
    far_append me k xs ys (farthest_with me k zs None) ∙ far_append me k (xs ++ ys) zs None
    ∙ far_all me k (xs ++ ys ++ zs) m (All-append Fits (xs ++ ys) zs (All-append Fits xs ys a b) c)

near_three : (k : ℕ) (xs ys zs : List ℕ)
    → nearest_with k xs (nearest_with k ys (nearest_with k zs None))
    ≡ nearest_from k (xs ++ ys ++ zs)
near_three k xs ys zs =
    near_append k xs ys (nearest_with k zs None) ∙ near_append k (xs ++ ys) zs None
    ∙ near_all k (xs ++ ys ++ zs)

-- the farthest of the three tables that a peer routes by, table by table
pub farthest_known : (t : Tables) (k me : ℕ) (xs ys zs : List ℕ) (one two all : Option ℕ)
    → me ≡ t.me → xs ≡ t.predecessors → ys ≡ t.successors
    → zs ≡ filter_map (λ finger. finger) t.fingers
    → me < 2 ^ 128 → All (λ x. x < 2 ^ 128) xs → All (λ x. x < 2 ^ 128) ys
    → All (λ x. x < 2 ^ 128) zs
    → one ≡ farthest_with me k zs None → two ≡ farthest_with me k ys one
    → all ≡ farthest_with me k xs two
    → all ≡ farthest_up_to t.me k (known t)
unfolding known
farthest_known t k me xs ys zs one two all em ex ey ez m a b c eo et ea =
    ea ∙ ap (farthest_with me k xs) et
    ∙ ap (λ o. farthest_with me k xs (farthest_with me k ys o)) eo
    ∙ far_three me k xs ys zs m a b c ∙ (λ i. farthest_up_to (em i) k (ex i ++ ey i ++ ez i))

-- the nearest of the three tables that a peer routes by, table by table
pub nearest_known : (t : Tables) (k : ℕ) (xs ys zs : List ℕ) (one two all : Option ℕ)
    → xs ≡ t.predecessors → ys ≡ t.successors → zs ≡ filter_map (λ finger. finger) t.fingers
    → one ≡ nearest_with k zs None → two ≡ nearest_with k ys one → all ≡ nearest_with k xs two
    → all ≡ nearest_from k (known t)
unfolding known
nearest_known t k xs ys zs one two all ex ey ez eo et ea =
    ea ∙ ap (nearest_with k xs) et ∙ ap (λ o. nearest_with k xs (nearest_with k ys o)) eo
    ∙ near_three k xs ys zs ∙ (λ i. nearest_from k (ex i ++ ey i ++ ez i))
