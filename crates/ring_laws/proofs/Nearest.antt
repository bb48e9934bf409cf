-- What the neighbours of a member are.
use Rattle.std.proofs.Common.{◌≡◌, ◌≢◌, ℕ, zero, suc, ◌^◌, ◌<◌, List, [], ◌∷◌, take, length, length-take, refl, sym, ap, ◌∙◌, subst, inl, inr, arith}
use Rattle.reload_ids.specs.Ring.{distance}
use Rattle.chord_tables.specs.declared.TheConstants.{MAX_NEIGHBOURS}
use Rattle.chord_tables.specs.Neighbours.{put_by, by_way, without}
use Rattle.chord_tables.specs.Tables.{Tables}
use Rattle.ring_laws.specs.Members.{IsAmong, AreAmong, AreMembers, IsRising, AreNearest, IsExact}
use Rattle.ring_laws.proofs.Lists.{member-small, among-take, among-without, members-without, without-none, without-same, without-other}
use Rattle.ring_laws.proofs.Rising.{TellsApart, tells_fewer, put_by_cases, by_way_rising, among-by_way, by_way_has}
use Rattle.ring_laws.proofs.Near.{near, among-near, near-named}
use Rattle.ring_laws.proofs.Owners.{tells_after, tells_before, predecessors-near, successors-near}

rising-take : (way : ℕ → ℕ) (n : ℕ) (xs : List ℕ) → IsRising way xs → IsRising way (take n xs)
rising-take way zero xs r = tt
rising-take way (suc n) [] r = tt
rising-take way (suc n) (x ∷ xs) r =
    ((λ y i. r.0 y (among-take n y xs i)), rising-take way n xs r.1)

-- who isn't one of the first comes after them
rising-others : (way : ℕ → ℕ) (n x y : ℕ) (xs : List ℕ) → IsRising way xs → IsAmong x (take n xs)
    → IsAmong y xs → ¬ IsAmong y (take n xs) → way x < way y
rising-others way zero x y xs r i j out = absurd i
rising-others way (suc n) x y [] r i j out = absurd j
rising-others way (suc n) x y (z ∷ zs) r i (inl e) out = absurd (out (inl e))
rising-others way (suc n) x y (z ∷ zs) r (inl e) (inr j) out =
    let l = r.0 y j in let f = ap way e in omega arith
rising-others way (suc n) x y (z ∷ zs) r (inr i) (inr j) out =
    rising-others way n x y zs r.1 i j (λ k. out (inr k))

length-put_by : (way : ℕ → ℕ) (id : ℕ) (xs : List ℕ) → ¬ IsAmong id xs
    → length (put_by way id xs) ≡ suc (length xs)
length-put_by way id [] out = refl
length-put_by way id (x ∷ xs) out =
    let later = length-put_by way id xs (λ i. out (inr i)) in
    put_by_cases way id x xs (λ z. length z ≡ suc (length (x ∷ xs)))
    (λ e. absurd (out (inl e))) (λ _ _. refl) (λ _ _. ap suc later)

length-by_way : (way : ℕ → ℕ) (xs : List ℕ) → AreMembers xs → length (by_way way xs) ≡ length xs
length-by_way way [] d = refl
length-by_way way (x ∷ xs) d =
    length-put_by way x (by_way way xs) (λ i. d.1 (among-by_way way x xs i)) ∙ ap suc
    (length-by_way way xs d.2)

length-without : (p : ℕ) (xs : List ℕ) → AreMembers xs → IsAmong p xs
    → suc (length (without p xs)) ≡ length xs
length-without p [] d i = absurd i
length-without p (x ∷ xs) d (inl e) =
    let out : ¬ IsAmong p xs = λ i. d.1 (subst (λ z. IsAmong z xs) e i) in
    ap (λ z. suc (length z)) (without-same p x xs (sym e) ∙ without-none p xs out)
length-without p (x ∷ xs) d (inr i) =
    let n : x ≢ p = λ e. d.1 (subst (λ z. IsAmong z xs) (sym e) i) in
    ap (λ z. suc (length z)) (without-other p x xs n) ∙ ap suc (length-without p xs d.2 i)

near-nearest : (members : List ℕ) (p : ℕ) (way : ℕ → ℕ) → AreMembers members → IsAmong p members
    → TellsApart way members → AreNearest members p way (near way p members)
near-nearest members p way d here tells =
    let rest = without p members in
    let all = by_way way rest in
    let fewer = tells_fewer way rest members (λ y i. (among-without p y members i).0) tells in
    let rising = by_way_rising way rest fewer in
    let taken = length-take MAX_NEIGHBOURS all in
    let ordered = length-by_way way rest (members-without p members d) in
    let others = length-without p members d here in
    record {
      among = λ y i. among-by_way way y rest (among-take MAX_NEIGHBOURS y all i);
      rising = rising-take way MAX_NEIGHBOURS all rising;
      others = λ x y i j out. rising-others way MAX_NEIGHBOURS x y all rising i
          (by_way_has way y rest j) out;
      many = omega arith;
    }

module _ (members : List ℕ) (t : Tables) (d : AreMembers members) (h : IsExact members t) where
  lp : t.me < 2 ^ 128
  lp = member-small t.me members d h.member

  pub predecessors-nearest : AreNearest members t.me (λ x. distance x t.me) t.predecessors
  predecessors-nearest =
      subst (AreNearest members t.me (λ x. distance x t.me))
      (sym (h.predecessors ∙ predecessors-near t.me members))
      (near-nearest members t.me (λ x. distance x t.me) d h.member (tells_before t.me members lp d))

  pub successors-nearest : AreNearest members t.me (λ x. distance t.me x) t.successors
  successors-nearest =
      subst (AreNearest members t.me (λ x. distance t.me x))
      (sym (h.successors ∙ successors-near t.me members))
      (near-nearest members t.me (λ x. distance t.me x) d h.member (tells_after t.me members lp d))

-- the order of the members is no matter
pub exact-reordered : (members others : List ℕ) (t : Tables) → AreMembers members
    → AreMembers others → AreAmong members others → AreAmong others members → IsExact members t
    → IsExact others t
exact-reordered members others t d e sub back h =
    let p = t.me in
    let lp = member-small p members d h.member in
    let before : ℕ → ℕ = λ x. distance x p in
    let after : ℕ → ℕ = λ x. distance p x in
    record {
      member = sub p h.member;
      predecessors = h.predecessors ∙ predecessors-near p members
          ∙ near-named before p members others (tells_before p others lp e) sub
          (λ y i. back y (among-near before p y others i).0)
          ∙ sym (predecessors-near p others);
      successors = h.successors ∙ successors-near p members
          ∙ near-named after p members others (tells_after p others lp e) sub
          (λ y i. back y (among-near after p y others i).0)
          ∙ sym (successors-near p others);
      fingers = λ y i. sub y (h.fingers y i);
    }
