-- The first world: each id has one owner, and nobody wrote anything.
use Rattle.std.proofs.Common.{◌≡◌, ◌≢◌, ℕ, ◌+◌, ◌-◌, ◌*◌, ◌/◌, ◌%◌, ◌^◌, ◌<◌, ◌⊎◌, inl, inr, List, [], ◌∷◌, map, true, false, cond, Option, Some, None, refl, sym, ap, ◌∙◌, subst, ⊎_elim, arith}
use Rattle.std.specs.Prelude.{filter, slice_get}
use Rattle.std.specs.Option.{option_map_or}
use Rattle.std.specs.List.{AllByRecursion}
use Rattle.std.specs.Ordering.{nat_cmp}
use Rattle.std.specs.FinMap.{get, insert, empty, get-empty}
use Rattle.std.proofs.Math.Nat.{mod-add-div, add-mul-mod_self_left}
use Rattle.reload_ids.specs.Ring.{distance, between}
use Rattle.chord_tables.specs.Tables.{Tables, merged, owns}
use Rattle.ring_laws.specs.Members.{IsAmong, AreMembers, IsExact}
use Rattle.ring_laws.proofs.Lists.{member-small}
use Rattle.ring_laws.proofs.Merging.{predecessors-members}
use Rattle.ring_laws.proofs.Owners.{owner_one, owns_own}
use Rattle.ring_laws.proofs.Joining.{all-merged}
use Rattle.data_models.specs.declared.config.Config.{Config}
use Rattle.request_words.specs.declared.node.DeclaredNode.{DeclaredNode}
use Rattle.request_words.specs.declared.node.Role.{Role}
use Rattle.request_words.specs.declared.node.Role.TheVariants as roles
use Rattle.request_words.specs.Nodes.{is_role}
use Rattle.storage_model.specs.Records.{record_in}
use Rattle.node_model.specs.Peers.{Peer, Member, new_peer}
use Rattle.node_model.specs.Clients.{new_client}
use Rattle.run_model.specs.Worlds.{Actor, APeer, AreApart, peers_in, about_of, exact_tables, actor_of, actors_of, first_world}
use Rattle.overlay_laws.proofs.OneMap.{Holds, found, other_found}

-- ---- ids beyond the ring

folded : (n a k : ℕ) → 0 < n → a < n → (k + n - a) % n ≡ (k % n + n - a) % n
folded n a k some small =
    let split : k % n + n * (k / n) ≡ k = mod-add-div k n in
    let e : k + n - a ≡ (k % n + n - a) + n * (k / n) = omega (arith, split) in
    ap (λ (x : ℕ). x % n) e ∙ add-mul-mod_self_left (k % n + n - a) n (k / n)

distance-folded : (a k : ℕ) → a < 2 ^ 128 → distance a k ≡ distance a (k % 2 ^ 128)
distance-folded a k small = folded (2 ^ 128) a k (omega arith) small

between-folded : (a k b : ℕ) → a < 2 ^ 128 → between a k b ≡ between a (k % 2 ^ 128) b
between-folded a k b small = rw (distance-folded a k small) refl

owns_by : (me : ℕ) (first : Option ℕ) (k : ℕ) → ((f : ℕ) → first ≡ Some f → f < 2 ^ 128) → option_map_or (λ f. between f k me) first true ≡ option_map_or (λ f. between f (k % 2 ^ 128) me) first true
owns_by me None k small = refl
owns_by me (Some f) k small = between-folded f k me (small f refl)

first_among : (xs : List ℕ) (f : ℕ) → slice_get xs 0 ≡ Some f → IsAmong f xs
first_among [] f e = absurd cc
first_among (x ∷ xs) f e = let same : f ≡ x = cc in inl same

owns-folded : (members : List ℕ) (t : Tables) (k : ℕ) → AreMembers members → IsExact members t → owns t k ≡ owns t (k % 2 ^ 128)
unfolding owns
owns-folded members t k d h =
    owns_by t.me (slice_get t.predecessors 0) k (λ f e. member-small f members d (predecessors-members members t h f (first_among t.predecessors f e)))

-- two members that own one id are one
one_owner : (members : List ℕ) (t u : Tables) (k : ℕ) → AreMembers members → IsExact members t → IsExact members u → owns t k ≡ true → owns u k ≡ true → t.me ≡ u.me
one_owner members t u k d h i own also =
    let small : k % 2 ^ 128 < 2 ^ 128 = omega arith in
    owner_one members (k % 2 ^ 128) t.me u.me d small
    ((owns_own members t (k % 2 ^ 128) d small h).0 (sym (owns-folded members t k d h) ∙ own))
    ((owns_own members u (k % 2 ^ 128) d small i).0 (sym (owns-folded members u k d i) ∙ also))

-- ---- the nodes of the first world

abbrev pub IsName : DeclaredNode → List DeclaredNode → Type 0
IsName n [] = ⊥
IsName n (x ∷ xs) = (n ≡ x) ⊎ IsName n xs

-- the peer at a number is a declared one at its beginning
record IsDeclared (config : Config) (ids : List ℕ) (names : List DeclaredNode) (k : ℕ) (q : Peer) : Type 0 where
  name : DeclaredNode
  among : IsName name names
  role : is_role roles.Peer name.role ≡ true
  number : name.number ≡ k
  peer : q ≡ new_peer name.number (about_of name) config (Member 0) (exact_tables ids name.node.0)

no_peer : (k : ℕ) (q : Peer) → get (empty {X = Actor} {R = nat_cmp}) k ≡ Some (APeer q) → ⊥
no_peer k q e = let none : None ≡ Some (APeer q) = sym (get-empty nat_cmp k) ∙ e in cc

later : (config : Config) (ids : List ℕ) (x : DeclaredNode) (names : List DeclaredNode) (k : ℕ) (q : Peer) → IsDeclared config ids names k q → IsDeclared config ids (x ∷ names) k q
later config ids x names k q d = record { name = d.name; among = inr d.among; role = d.role; number = d.number; peer = d.peer }

declared_by : (config : Config) (ids : List ℕ) (x : DeclaredNode) (names : List DeclaredNode) (role : Role) (k : ℕ) (q : Peer) → x.role ≡ role
    → get (option_map_or (insert (actors_of config ids names) x.number) (actor_of config ids x role) (actors_of config ids names)) k ≡ Some (APeer q)
    → ((k : ℕ) (q : Peer) → get (actors_of config ids names) k ≡ Some (APeer q) → IsDeclared config ids names k q)
    → IsDeclared config ids (x ∷ names) k q
declared_by config ids x names roles.Peer k q r e rest =
    ⊎_elim
    (λ (f : (k ≡ x.number) × (q ≡ new_peer x.number (about_of x) config (Member 0) (exact_tables ids x.node.0))).
    record { name = x; among = inl refl; role = ap (λ (y : Role). is_role roles.Peer y) r; number = sym f.0; peer = f.1 })
    (λ (f : (k ≢ x.number) × (get (actors_of config ids names) k ≡ Some (APeer q))). later config ids x names k q (rest k q f.1))
    (found (actors_of config ids names) x.number (new_peer x.number (about_of x) config (Member 0) (exact_tables ids x.node.0)) k q e)
declared_by config ids x names roles.Client k q r e rest =
    later config ids x names k q (rest k q (other_found (actors_of config ids names) x.number (new_client x.number (about_of x) config) k q e))
declared_by config ids x names roles.Hostile k q r e rest = later config ids x names k q (rest k q e)

declared : (config : Config) (ids : List ℕ) (names : List DeclaredNode) (k : ℕ) (q : Peer) → get (actors_of config ids names) k ≡ Some (APeer q) → IsDeclared config ids names k q
unfolding actors_of
declared config ids [] k q e = absurd (no_peer k q e)
declared config ids (x ∷ names) k q e = declared_by config ids x names x.role k q refl e (λ j y d. declared config ids names j y d)

-- ---- who the members are

peers_among : (names : List DeclaredNode) (n : DeclaredNode) → IsName n names → is_role roles.Peer n.role ≡ true → IsAmong n.node.0 (map (λ x. x.node.0) (filter (λ x. is_role roles.Peer x.role) names))
peers_among [] n i r = absurd i
peers_among (x ∷ names) n (inl same) r =
    let there : is_role roles.Peer x.role ≡ true = subst (λ (y : DeclaredNode). is_role roles.Peer y.role ≡ true) same r in
    rw there (inl (ap (λ (y : DeclaredNode). y.node.0) same))
peers_among (x ∷ names) n (inr rest) r =
    elim (is_role roles.Peer x.role) as (λ b. IsAmong n.node.0 (map (λ (y : DeclaredNode). y.node.0) (cond b (x ∷ filter (λ (y : DeclaredNode). is_role roles.Peer y.role) names) (filter (λ (y : DeclaredNode). is_role roles.Peer y.role) names)))) [
      | true ↦ inr (peers_among names n rest r)
      | false ↦ peers_among names n rest r
    ]

apart_from : (x : DeclaredNode) (names : List DeclaredNode) → AllByRecursion (λ o. (o.number ≢ x.number) × (o.node.0 ≢ x.node.0)) names → ¬ IsAmong x.node.0 (map (λ y. y.node.0) (filter (λ y. is_role roles.Peer y.role) names))
apart_from x [] a i = i
apart_from x (o ∷ names) a i =
    elim (is_role roles.Peer o.role) as (λ b. IsAmong x.node.0 (map (λ (y : DeclaredNode). y.node.0) (cond b (o ∷ filter (λ (y : DeclaredNode). is_role roles.Peer y.role) names) (filter (λ (y : DeclaredNode). is_role roles.Peer y.role) names))) → ⊥) [
      | true ↦ λ j. ⊎_elim (λ (e : x.node.0 ≡ o.node.0). a.0.1 (sym e)) (λ rest. apart_from x names a.1 rest) j
      | false ↦ λ j. apart_from x names a.1 j
    ] i

members : (names : List DeclaredNode) → AreApart names → AreMembers (map (λ y. y.node.0) (filter (λ y. is_role roles.Peer y.role) names))
members [] a = tt
members (x ∷ names) a =
    elim (is_role roles.Peer x.role) as (λ b. AreMembers (map (λ (y : DeclaredNode). y.node.0) (cond b (x ∷ filter (λ (y : DeclaredNode). is_role roles.Peer y.role) names) (filter (λ (y : DeclaredNode). is_role roles.Peer y.role) names)))) [
      | true ↦ (a.0, apart_from x names a.1, members names a.2)
      | false ↦ members names a.2
    ]

-- one Node-ID has one number
apart_names : (x y : DeclaredNode) (names : List DeclaredNode) → AllByRecursion (λ o. (o.number ≢ x.number) × (o.node.0 ≢ x.node.0)) names → IsName y names → y.node.0 ≡ x.node.0 → ⊥
apart_names x y [] a i e = i
apart_names x y (o ∷ names) a (inl same) e = a.0.1 (subst (λ (z : DeclaredNode). z.node.0 ≡ x.node.0) same e)
apart_names x y (o ∷ names) a (inr rest) e = apart_names x y names a.1 rest e

one_number : (x y : DeclaredNode) (names : List DeclaredNode) → AreApart names → IsName x names → IsName y names → x.node.0 ≡ y.node.0 → x.number ≡ y.number
one_number x y [] a i j e = absurd i
one_number x y (o ∷ names) a (inl s) (inl t) e = ap (λ (z : DeclaredNode). z.number) (s ∙ sym t)
one_number x y (o ∷ names) a (inl s) (inr j) e = absurd (apart_names o y names a.1 j (sym e ∙ ap (λ (z : DeclaredNode). z.node.0) s))
one_number x y (o ∷ names) a (inr i) (inl t) e = absurd (apart_names o x names a.1 i (e ∙ ap (λ (z : DeclaredNode). z.node.0) t))
one_number x y (o ∷ names) a (inr i) (inr j) e = one_number x y names a.2 i j e

-- ---- the first world

exact_declared : (names : List DeclaredNode) (n : DeclaredNode) → AreApart names → IsName n names → is_role roles.Peer n.role ≡ true → IsExact (peers_in names) (exact_tables (peers_in names) n.node.0)
unfolding peers_in
exact_declared names n a i r = all-merged (peers_in names) n.node.0 (members names a) (peers_among names n i r)

all_members : (names : List DeclaredNode) → AreApart names → AreMembers (peers_in names)
unfolding peers_in
all_members names a = members names a

own_me : (ids : List ℕ) (id : ℕ) → (exact_tables ids id).me ≡ id
unfolding merged
own_me ids id = refl

pub holds_first : (config : Config) (names : List DeclaredNode) → AreApart names → Holds empty (first_world config names)
unfolding first_world
holds_first config names a = record {
  same = λ n p e r own. let d = declared config (peers_in names) names n p e in ap (λ (q : Peer). record_in q.records r) d.peer;
  one = λ n k p q e f r own also.
      let x = declared config (peers_in names) names n p e in
      let y = declared config (peers_in names) names k q f in
      let t : Tables = exact_tables (peers_in names) x.name.node.0 in
      let u : Tables = exact_tables (peers_in names) y.name.node.0 in
      let same : x.name.node.0 ≡ y.name.node.0 =
      sym (own_me (peers_in names) x.name.node.0)
      ∙ one_owner (peers_in names) t u r (all_members names a)
      (exact_declared names x.name a x.among x.role) (exact_declared names y.name a y.among y.role)
      (subst (λ (z : Tables). owns z r ≡ true) (ap (λ (z : Peer). z.tables) x.peer) own)
      (subst (λ (z : Tables). owns z r ≡ true) (ap (λ (z : Peer). z.tables) y.peer) also)
      ∙ own_me (peers_in names) y.name.node.0 in
      sym x.number ∙ one_number x.name y.name names a x.among y.among same ∙ y.number;
  config = λ n p e. let d = declared config (peers_in names) names n p e in ap (λ (q : Peer). q.node.config) d.peer;
}
