-- Each hop goes nearer to the owner of an id.
use Rattle.std.proofs.Common.{◌≡◌, ◌≢◌, ◌⊎◌, ℕ, ◌^◌, ◌<◌, ◌≤◌, Bool, true, false, cond, List, [], ◌∷◌, ◌++◌, filter, slice_get, Option, Some, None, refl, sym, ap, ◌∙◌, subst, inl, inr, ⊎_elim, arith}
use Rattle.std.proofs.lemmas.Bool.{cases_eq, cases_Bool}
use Rattle.std.specs.Option.{option_map_or, option_or}
use Rattle.std.specs.List.{last_or}
use Rattle.reload_ids.specs.Ring.{distance, between}
use Rattle.chord_tables.specs.Neighbours.{by_way}
use Rattle.chord_tables.specs.Tables.{Tables, owns}
use Rattle.peer_routing.specs.declared.Hop.TheVariants.{Here, To}
use Rattle.peer_routing.specs.Routes.{known, owning_predecessor, farthest_up_to, nearest_from, to, next_hop}
use Rattle.ring_laws.specs.Members.{IsAmong, AreAmong, AreMembers, IsOwner, IsExact, set_fingers}
use Rattle.ring_laws.proofs.Lists.{member-small, among-left, among-right, append-among}
use Rattle.ring_laws.proofs.Rising.{TellsApart, tells_fewer, among-by_way, by_way_has, least_first}
use Rattle.ring_laws.proofs.Near.{near, near-first, near-second, near-none}
use Rattle.ring_laws.proofs.Ways.{tells-from, between-second, between-nearer, between-none, way-positive}
use Rattle.ring_laws.proofs.Owners.{tells_after, tells_before, predecessors-near, successors-near, owner_one, owns_own, first_some}
use Rattle.ring_laws.proofs.Merging.{predecessors-members, successors-members}

-- the last of a list
last-among : (o : Option ℕ) (x : ℕ) (xs : List ℕ) → last_or o xs ≡ Some x
    → (o ≡ Some x) ⊎ IsAmong x xs
last-among o x [] e = inl e
last-among o x (z ∷ zs) e = ⊎_elim
    (λ (f : Some z ≡ Some x). let g : x ≡ z = cc in inr (inl g))
    (λ (i : IsAmong x zs). inr (inr i))
    (last-among (Some z) x zs e)

last-some : (z : ℕ) (zs : List ℕ) → last_or (Some z) zs ≡ None → ⊥
last-some z [] e = cc
last-some z (w ∷ zs) e = last-some w zs e

last-none : (y : ℕ) (xs : List ℕ) → last_or None xs ≡ None → ¬ IsAmong y xs
last-none y [] e = λ h. h
last-none y (z ∷ zs) e = absurd (last-some z zs e)

slice-among : (x : ℕ) (xs : List ℕ) → slice_get xs 0 ≡ Some x → IsAmong x xs
slice-among x [] e = absurd (cc)
slice-among x (z ∷ zs) e = let f : x ≡ z = cc in inl f

-- those that pass a test
among-filter : (test : ℕ → Bool) (y : ℕ) (xs : List ℕ) → IsAmong y (filter test xs)
    → IsAmong y xs × (test y ≡ true)
among-filter test y [] h = absurd h
among-filter test y (x ∷ xs) h =
    let later : IsAmong y (filter test xs) → IsAmong y (x ∷ xs) × (test y ≡ true) =
    λ i. let r = among-filter test y xs i in (inr r.0, r.1) in
    ⊎_elim
    (λ (e : test x ≡ true).
    ⊎_elim (λ (f : y ≡ x). (inl f, ap test f ∙ e)) later
    (subst (λ b. IsAmong y (cond b (x ∷ filter test xs) (filter test xs))) e h))
    (λ (e : test x ≡ false).
    later (subst (λ b. IsAmong y (cond b (x ∷ filter test xs) (filter test xs))) e h))
    (cases_Bool (test x))

filter_has : (test : ℕ → Bool) (y : ℕ) (xs : List ℕ) → IsAmong y xs → test y ≡ true
    → IsAmong y (filter test xs)
filter_has test y [] h e = h
filter_has test y (x ∷ xs) (inl f) e =
    subst (λ b. IsAmong y (cond b (x ∷ filter test xs) (filter test xs)))
    (sym (ap test (sym f) ∙ e)) (inl f)
filter_has test y (x ∷ xs) (inr h) e =
    let later = filter_has test y xs h e in
    ⊎_elim
    (λ (g : test x ≡ true). subst (λ b. IsAmong y (cond b (x ∷ filter test xs) (filter test xs)))
    (sym g) (inr later))
    (λ (g : test x ≡ false). subst (λ b. IsAmong y (cond b (x ∷ filter test xs) (filter test xs)))
    (sym g) later)
    (cases_Bool (test x))

-- the first that there is of three
first_choice : (P : ℕ → Type 0) (a b c : Option ℕ) → ((x : ℕ) → a ≡ Some x → P x)
    → ((x : ℕ) → b ≡ Some x → P x) → (b ≡ None → (x : ℕ) × (c ≡ Some x) × P x)
    → (x : ℕ) × (to (option_or a (option_or b c)) ≡ To (record { 0 = x })) × P x
first_choice P (Some x) b c f g h = (x, refl, f x refl)
first_choice P None (Some x) c f g h = (x, refl, g x refl)
first_choice P None None c f g h = let r = h refl in (r.0, ap to r.1, r.2)

-- the predecessor that owns an id is the first, and the id lies behind the second
owning : (first second : Option ℕ) (k x : ℕ)
    → option_map_or
    (λ s. option_map_or (λ f. cond (between s k f) (Some f) None) first None) second None ≡ Some x
    → (s : ℕ) × (second ≡ Some s) × (first ≡ Some x) × (between s k x ≡ true)
owning first None k x e = absurd (cc)
owning None (Some s) k x e = absurd (cc)
owning (Some f) (Some s) k x e = ⊎_elim
    (λ (b : between s k f ≡ true).
    let g : Some f ≡ Some x = subst (λ b. cond b (Some f) None ≡ Some x) b e in
    let i : f ≡ x = cc in
    (s, refl, g, ap (between s k) (sym i) ∙ b))
    (λ (b : between s k f ≡ false).
    let g : None ≡ Some x = subst (λ b. cond b (Some f) None ≡ Some x) b e in
    absurd (cc))
    (cases_Bool (between s k f))

module _ (members : List ℕ) (t : Tables) (k o : ℕ) (d : AreMembers members) (h : IsExact members t)
    (lk : k < 2 ^ 128) (own : IsOwner members k o) where
  small : (m : ℕ) → IsAmong m members → m < 2 ^ 128
  small m i = member-small m members d i

  lp : t.me < 2 ^ 128
  lp = small t.me h.member

  lo : o < 2 ^ 128
  lo = small o own.member

  -- the owner handles it
  pub hop-here : t.me ≡ o → next_hop t true k ≡ Here
  unfolding next_hop
  hop-here e =
      let b : owns t k ≡ true =
      (owns_own members t k d lk h).1 (subst (λ z. IsOwner members k z) (sym e) own) in
      rw b refl

  -- the owner is nearest
  nearer-owner : (x : ℕ) → t.me ≢ o → x ≡ o → IsAmong x members × (distance x o < distance t.me o)
  nearer-owner x n e =
      let P : ℕ → Type 0 = λ z. IsAmong z members × (distance z o < distance t.me o) in
      subst P (sym e) (own.member, way-positive t.me o lp lo n)

  owner-is : (x : ℕ) → IsAmong x members → distance k x ≤ distance k o → x ≡ o
  owner-is x i l =
      let m = own.nearest x i in
      let e : distance k x ≡ distance k o = omega arith in
      tells-from k x o lk (small x i) lo e

  -- the first predecessor, behind the second
  by_predecessor : t.me ≢ o → (x : ℕ) → owning_predecessor t k ≡ Some x
      → IsAmong x members × (distance x o < distance t.me o)
  unfolding owning_predecessor
  by_predecessor n x e =
      let p = t.me in
      let way : ℕ → ℕ = λ m. distance m p in
      let is = h.predecessors ∙ predecessors-near p members in
      let c = owning (slice_get t.predecessors 0) (slice_get t.predecessors 1) k x e in
      let s = c.0 in
      let second : slice_get (near way p members) 1 ≡ Some s =
      ap (λ z. slice_get z 1) (sym is) ∙ c.1 in
      let first : slice_get (near way p members) 0 ≡ Some x =
      ap (λ z. slice_get z 0) (sym is) ∙ c.2 in
      let tells = tells_before p members lp d in
      let f = near-first way p x members tells first in
      let g = near-second way p x s members tells first second in
      let lx = small x f.0.0 in
      let ls = small s g.0.0 in
      let here : distance k x ≤ distance k o = ⊎_elim
      (λ (i : o ≡ x). let j = ap (distance k) i in omega arith)
      (λ (m : o ≢ x).
      let l = g.1 o own.member (λ i. n (sym i)) m in
      between-second s x p k o ls lx lp lk lo f.0.1 g.0.1 c.3 l)
      (cases_eq o x) in
      nearer-owner x n (owner-is x f.0.0 here)

  known-members : AreAmong (known t) members
  unfolding known
  known-members = append-among (t.predecessors ++ t.successors) (set_fingers t) members
      (append-among t.predecessors t.successors members (predecessors-members members t h)
      (successors-members members t h))
      h.fingers

  known-tells : TellsApart (λ m. distance k m) (known t)
  known-tells =
      tells_fewer (λ m. distance k m) (known t) members known-members (tells_after k members lk d)

  -- the farthest up to the id
  by_farthest : t.me ≢ o → (x : ℕ) → farthest_up_to t.me k (known t) ≡ Some x
      → IsAmong x members × (distance x o < distance t.me o)
  unfolding farthest_up_to
  by_farthest n x e =
      let test : ℕ → Bool = λ z. between t.me z k in
      let way : ℕ → ℕ = λ z. distance t.me z in
      let i : IsAmong x (by_way way (filter test (known t))) = ⊎_elim
      (λ (f : None ≡ Some x). absurd (cc))
      (λ (i : IsAmong x (by_way way (filter test (known t)))). i)
      (last-among None x (by_way way (filter test (known t))) e) in
      let r = among-filter test x (known t) (among-by_way way x (filter test (known t)) i) in
      let a = known-members x r.0 in
      (a, between-nearer t.me x k o lp (small x a) lk lo n (own.nearest t.me h.member) r.1)

  -- nobody who is known lies up to the id
  none_between : (y : ℕ) → farthest_up_to t.me k (known t) ≡ None → IsAmong y (known t)
      → between t.me y k ≡ false
  unfolding farthest_up_to
  none_between y e i = ⊎_elim
      (λ (b : between t.me y k ≡ true).
      let test : ℕ → Bool = λ z. between t.me z k in
      let way : ℕ → ℕ = λ z. distance t.me z in
      absurd (last-none y (by_way way (filter test (known t))) e
      (by_way_has way y (filter test (known t)) (filter_has test y (known t) i b))))
      (λ (b : between t.me y k ≡ false). b)
      (cases_Bool (between t.me y k))

  successor-known : (s : ℕ) → IsAmong s t.successors → IsAmong s (known t)
  unfolding known
  successor-known s i = among-left s (t.predecessors ++ t.successors) (set_fingers t)
      (among-right s t.predecessors t.successors i)

  -- then the first successor owns it
  first_owns : t.me ≢ o → farthest_up_to t.me k (known t) ≡ None → (first : Option ℕ)
      → slice_get (near (λ m. distance t.me m) t.me members) 0 ≡ first → IsAmong o (known t)
  first_owns n none None e =
      absurd (near-none (λ m. distance t.me m) t.me o members e own.member (λ i. n (sym i)))
  first_owns n none (Some s) e =
      let p = t.me in
      let is = h.successors ∙ successors-near p members in
      let f = near-first (λ m. distance p m) p s members (tells_after p members lp d) e in
      let there = successor-known s (slice-among s t.successors (ap (λ z. slice_get z 0) is ∙ e)) in
      let ls = small s f.0.0 in
      let b = none_between s none there in
      let l = between-none p s k o lp ls lk lo f.0.1 b (f.1 o own.member (λ i. n (sym i))) in
      subst (λ z. IsAmong z (known t)) (owner-is s f.0.0 l) there

  -- the nearest from the id on
  by_nearest : t.me ≢ o → farthest_up_to t.me k (known t) ≡ None
      → (x : ℕ) × (nearest_from k (known t) ≡ Some x) ×
      (IsAmong x members × (distance x o < distance t.me o))
  unfolding nearest_from
  by_nearest n none =
      let way : ℕ → ℕ = λ m. distance k m in
      let there = first_owns n none (slice_get (near (λ m. distance t.me m) t.me members) 0) refl in
      let first = first_some o (by_way way (known t)) (by_way_has way o (known t) there) in
      let x = first.0 in
      let least = least_first way x (known t) known-tells first.1 in
      (x, first.1, nearer-owner x n (owner-is x (known-members x least.0) (least.1 o there)))

  -- any other hands it on, nearer to the owner
  pub hop-on : t.me ≢ o
      → (x : ℕ) × (next_hop t true k ≡ To (record { 0 = x })) ×
      (IsAmong x members × (distance x o < distance t.me o))
  unfolding next_hop
  hop-on n =
      let own_me = (owns_own members t k d lk h).0 in
      let b : owns t k ≡ false = ⊎_elim
      (λ (e : owns t k ≡ true). absurd (n (owner_one members k t.me o d lk (own_me e) own)))
      (λ (e : owns t k ≡ false). e)
      (cases_Bool (owns t k)) in
      let r = first_choice (λ x. IsAmong x members × (distance x o < distance t.me o))
      (owning_predecessor t k) (farthest_up_to t.me k (known t)) (nearest_from k (known t))
      (by_predecessor n) (by_farthest n) (by_nearest n) in
      (r.0, rw b r.1, r.2)

pub owner-here : (members : List ℕ) (t : Tables) (k : ℕ) → AreMembers members → k < 2 ^ 128
    → IsExact members t → IsOwner members k t.me → next_hop t true k ≡ Here
owner-here members t k d lk h own = hop-here members t k t.me d h lk own refl

pub other-nearer : (members : List ℕ) (t : Tables) (k o : ℕ) → AreMembers members → k < 2 ^ 128
    → IsExact members t → IsOwner members k o → t.me ≢ o
    → (x : ℕ) × (next_hop t true k ≡ To (record { 0 = x })) × IsAmong x members ×
    (distance x o < distance t.me o)
other-nearer members t k o d lk h own n =
    let r = hop-on members t k o d h lk own n in (r.0, r.1, r.2.0, r.2.1)
