-- From each member a walk leads to the owner of an id.
use Rattle.std.proofs.Common.{◌≡◌, ◌≢◌, ℕ, zero, suc, ◌^◌, ◌<◌, ◌≤◌, true, List, [], ◌∷◌, length, Some, refl, sym, ap, ◌∙◌, subst, ⊎_elim, arith}
use Rattle.std.proofs.lemmas.Bool.{cases_eq}
use Rattle.std.specs.List.{last_or}
use Rattle.std.specs.Option.{IsSomeAnd}
use Rattle.reload_ids.specs.declared.NodeId.{NodeId}
use Rattle.reload_ids.specs.Ring.{distance}
use Rattle.chord_tables.specs.Tables.{Tables}
use Rattle.peer_routing.specs.declared.Hop.TheVariants.{To}
use Rattle.peer_routing.specs.Routes.{next_hop}
use Rattle.ring_laws.specs.Members.{IsAmong, AreAmong, AreMembers, AreExact, IsOwner, GoesBy, IsWalk, LeadsToOwner}
use Rattle.ring_laws.proofs.Counts.{count_below, count_fewer_self, count_length_self}
use Rattle.ring_laws.proofs.Owners.{owner_among}
use Rattle.ring_laws.proofs.Hops.{hop-here, hop-on}

-- whom requests go by from a peer on
record Goes (members : List ℕ) (tables : ℕ → Tables) (k o p n : ℕ) : Type 0 where
  path : List ℕ
  goes : GoesBy tables k p path
  among : AreAmong path members
  short : length path ≤ n
  ends : last_or (Some p) path ≡ Some o

module _ (members : List ℕ) (tables : ℕ → Tables) (k o : ℕ) (d : AreMembers members)
    (exact : AreExact members tables) (lk : k < 2 ^ 128) (own : IsOwner members k o) where
  -- how many members are nearer to the owner
  abbrev nearer : ℕ → ℕ
  nearer p = count_below (λ m. distance m o) (distance p o) members

  goes_here : (p n : ℕ) → IsAmong p members → p ≡ o → Goes members tables k o p n
  goes_here p n a e = record {
    path = [];
    goes = hop-here members (tables p) k o d (exact p a).1 lk own ((exact p a).0 ∙ e);
    among = λ _ i. absurd i;
    short = omega arith;
    ends = ap Some e;
  }

  next : (p : ℕ) → IsAmong p members → p ≢ o
      → (x : ℕ) × (next_hop (tables p) true k ≡ To (record { 0 = x })) ×
      (IsAmong x members × (distance x o < distance p o))
  next p a n =
      let me = (exact p a).0 in
      let r = hop-on members (tables p) k o d (exact p a).1 lk own (λ e. n (sym me ∙ e)) in
      let P : ℕ → Type 0 = λ z. distance r.0 o < distance z o in
      (r.0, r.1, (r.2.0, subst P me r.2.1))

  goes : (n p : ℕ) → IsAmong p members → nearer p ≤ n → Goes members tables k o p n
  goes zero p a l = ⊎_elim
      (λ (e : p ≡ o). goes_here p 0 a e)
      (λ (m : p ≢ o).
      let x = next p a m in
      let fewer = count_fewer_self (λ m. distance m o) x.0 (distance p o) members x.2.0 x.2.1 in
      absurd (omega arith))
      (cases_eq p o)
  goes (suc n) p a l = ⊎_elim
      (λ (e : p ≡ o). goes_here p (suc n) a e)
      (λ (m : p ≢ o).
      let x = next p a m in
      let fewer = count_fewer_self (λ m. distance m o) x.0 (distance p o) members x.2.0 x.2.1 in
      let later = goes n x.0 x.2.0 (omega arith) in
      let short = later.short in
      record {
        path = x.0 ∷ later.path;
        goes = (x.1, later.goes);
        among = λ y. ⊎_elim (λ (e : y ≡ x.0). subst (λ z. IsAmong z members) (sym e) x.2.0)
            (later.among y);
        short = omega arith;
        ends = later.ends;
      })
      (cases_eq p o)

pub walk : (members : List ℕ) (tables : ℕ → Tables) (p k : ℕ) → AreMembers members
    → AreExact members tables → IsAmong p members → k < 2 ^ 128
    → (path : List ℕ) × IsWalk tables k p path × LeadsToOwner members k path
walk members tables p k d exact a lk =
    let owner = owner_among members k p d a lk in
    let o = owner.0 in
    let way : ℕ → ℕ = λ m. distance m o in
    let g = goes members tables k o d exact lk owner.1 (count_below way (way p) members) p a
    (omega arith) in
    let less = count_length_self way p members a in
    let short = g.short in (
      p ∷ g.path,
      (refl, g.goes),
      record {
        among = λ y. ⊎_elim (λ (e : y ≡ p). subst (λ z. IsAmong z members) (sym e) a) (g.among y);
        short = omega arith;
        ends = subst (λ z. IsSomeAnd z (IsOwner members k)) (sym g.ends) owner.1;
      },
    )

to_one : (q r : ℕ) → To (record { 0 = q }) ≡ To (record { 0 = r }) → q ≡ r
to_one q r e =
    let a : NodeId = record { 0 = q } in
    let b : NodeId = record { 0 = r } in
    let f : a ≡ b = cc in
    ap (λ (n : NodeId). n.0) f

goes_one : (tables : ℕ → Tables) (k p : ℕ) (path other : List ℕ) → GoesBy tables k p path
    → GoesBy tables k p other → path ≡ other
goes_one tables k p [] [] g h = refl
goes_one tables k p [] (q ∷ other) g h = let i = h.0 in absurd (cc)
goes_one tables k p (q ∷ path) [] g h = let i = g.0 in absurd (cc)
goes_one tables k p (q ∷ path) (r ∷ other) g h =
    let e = to_one q r (sym g.0 ∙ h.0) in
    let f = goes_one tables k q path other g.1 (subst (λ z. GoesBy tables k z other) (sym e) h.1) in
    cc

pub walk_one : (tables : ℕ → Tables) (p k : ℕ) (path other : List ℕ) → IsWalk tables k p path
    → IsWalk tables k p other → path ≡ other
walk_one tables p k [] other g h = absurd g
walk_one tables p k (x ∷ path) [] g h = absurd h
walk_one tables p k (x ∷ path) (y ∷ other) g h =
    let i = g.0 in
    let j = h.0 in
    let f = goes_one tables k p path other g.1 h.1 in
    cc
