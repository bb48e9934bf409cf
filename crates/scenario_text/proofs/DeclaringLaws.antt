-- Kinds and nodes that are declared one after the other are apart exactly where each is new.
use Rattle.std.proofs.Common.{◌≡◌, ◌≢◌, ℕ, suc, ◌+◌, ◌<◌, ◌≤◌, Bool, true, false, ◌&&◌, ◌||◌, cond, List, [], ◌∷◌, ◌++◌, length, Option, Some, None, refl, sym, ap, subst, ◌∙◌, eq-eqb, ne_eqb, inl, inr, arith, length-append}
use Rattle.std.specs.Prelude.{◌==◌, not, find, is_none, nat_lt}
use Rattle.std.specs.List.{AllByRecursion, list_all, list_any}
use Rattle.std.proofs.lemmas.Bool.{and_parts, cases_eq, eqb-true, ltb-true, lt-ltb}
use Rattle.std.proofs.lemmas.List.Sums.{sum_by-append, sum_by-cons}
use Rattle.data_models.specs.declared.config.TheConstants.{MAX_KINDS}
use Rattle.data_models.specs.declared.config.KindDef.{KindDef}
use Rattle.data_models.specs.declared.config.Config.{Config}
use Rattle.data_models.specs.Configs.{AreDistinct, kind_of}
use Rattle.scenario_text.specs.declared.scenario.TheConstants.{MAX_NODES, MAX_PEERS}
use Rattle.request_words.specs.declared.node.DeclaredNode.{DeclaredNode}
use Rattle.request_words.specs.declared.node.Role.TheVariants.{Peer}
use Rattle.request_words.specs.Nodes.{is_role}
use Rattle.scenario_text.specs.Declaring.{are_apart, has_room, is_new_kind, is_new_node, peer_count}
use Rattle.scenario_text.specs.Scenarios.{AreApart}
use Rattle.request_words.proofs.GroupLaws.{all-snoc}

-- what all of two lists have
pub all-front : {A : Type 0} (P : A → Type 0) (xs ys : List A) → AllByRecursion P (xs ++ ys) → AllByRecursion P xs
all-front P [] ys all = tt
all-front P (x ∷ xs) ys all = (all.0, all-front P xs ys all.1)

pub all-at : {A : Type 0} (P : A → Type 0) (xs : List A) (y : A) (ys : List A) → AllByRecursion P (xs ++ y ∷ ys) → P y
all-at P [] y ys all = all.0
all-at P (x ∷ xs) y ys all = all-at P xs y ys all.1

-- two tests that both hold
both : (a b : Bool) → a ≡ true → b ≡ true → (a && b) ≡ true
both a b is_a is_b = rw (is_a, is_b) refl

-- one more than these is within a limit
room : {A : Type 0} (xs : List A) (y : A) (ys : List A) (most : ℕ) → length (xs ++ y ∷ ys) ≤ most → nat_lt (length xs) most ≡ true
room xs y ys most few = let long = length-append xs (y ∷ ys) in lt-ltb (length xs) most (omega (arith, long, few))

pub one_more : {A : Type 0} (xs : List A) (y : A) (most : ℕ) → nat_lt (length xs) most ≡ true → length (xs ++ y ∷ []) ≤ most
one_more xs y most few = let below = ltb-true (length xs) most few in let long = length-append xs (y ∷ []) in omega (arith, below, long)

-- ---- kinds

-- a kind that none of these is
IsMissing : ℕ → List KindDef → Type 0
IsMissing id kinds = find (λ (k : KindDef). k.id == id) kinds ≡ None

missing : (kinds : List KindDef) (kind : KindDef) (more : List KindDef) → AreDistinct (kinds ++ kind ∷ more) → IsMissing kind.id kinds
unfolding IsMissing
missing [] kind more distinct = refl
missing (first ∷ kinds) kind more distinct =
    let other : kind.id ≢ first.id = all-at (λ (k : KindDef). k.id ≢ first.id) kinds kind more distinct.0 in
    rw (ne_eqb first.id kind.id (λ same. other (sym same))) (missing kinds kind more distinct.1)

distinct-snoc : (kinds : List KindDef) (kind : KindDef) → AreDistinct kinds → IsMissing kind.id kinds → AreDistinct (kinds ++ kind ∷ [])
unfolding IsMissing
distinct-snoc [] kind distinct none = (tt, tt)
distinct-snoc (first ∷ kinds) kind distinct none =
    elim (cases_eq first.id kind.id) [
      | inl same ↦ absurd (found_first (first.id == kind.id) (eq-eqb first.id kind.id same) none)
      | inr other ↦ (
        all-snoc (λ (k : KindDef). k.id ≢ first.id) kinds kind distinct.0 (λ same. other (sym same)),
        distinct-snoc kinds kind distinct.1 (rw (← ap (λ (b : Bool). cond b (Some first) (find (λ (k : KindDef). k.id == kind.id) kinds)) (ne_eqb first.id kind.id other)) none),
      )
    ]
  where
    found_first : (b : Bool) → b ≡ true → cond b (Some first) (find (λ (k : KindDef). k.id == kind.id) kinds) ≡ None → ⊥
    found_first true e none = cc
    found_first false e none = cc

none_is : (found : Option KindDef) → is_none found ≡ true → found ≡ None
none_is None e = refl
none_is (Some kind) e = absurd cc

-- a kind that is declared next is new
pub kind-new : (config : Config) (kind : KindDef) (more : List KindDef) → length (config.kinds ++ kind ∷ more) ≤ MAX_KINDS → AreDistinct (config.kinds ++ kind ∷ more) → is_new_kind config kind ≡ true
unfolding is_new_kind kind_of IsMissing
kind-new config kind more few distinct =
    both (nat_lt (length config.kinds) MAX_KINDS) (is_none (find (λ (k : KindDef). k.id == kind.id) config.kinds)) (room config.kinds kind more MAX_KINDS few) (ap is_none (missing config.kinds kind more distinct))

-- and a new one keeps them apart
pub new-kind : (config : Config) (kind : KindDef) → is_new_kind config kind ≡ true → AreDistinct config.kinds → (length (config.kinds ++ kind ∷ []) ≤ MAX_KINDS) × AreDistinct (config.kinds ++ kind ∷ [])
unfolding is_new_kind kind_of IsMissing
new-kind config kind new distinct =
    let parts = and_parts (nat_lt (length config.kinds) MAX_KINDS) (is_none (find (λ (k : KindDef). k.id == kind.id) config.kinds)) new in
    (one_more config.kinds kind MAX_KINDS parts.0, distinct-snoc config.kinds kind distinct (none_is (find (λ (k : KindDef). k.id == kind.id) config.kinds) parts.1))

-- ---- nodes

eqb-sym : (a b : ℕ) → (a == b) ≡ (b == a)
eqb-sym a b =
    elim (cases_eq a b) [
      | inl same ↦ eq-eqb a b same ∙ sym (eq-eqb b a (sym same))
      | inr other ↦ ne_eqb a b other ∙ sym (ne_eqb b a (λ same. other (sym same)))
    ]

apart-sym : (a b : DeclaredNode) → are_apart a b ≡ are_apart b a
unfolding are_apart
apart-sym a b = rw (eqb-sym a.number b.number, eqb-sym a.node.0 b.node.0) refl

all_apart : (nodes : List DeclaredNode) (node : DeclaredNode) (more : List DeclaredNode) → AreApart (nodes ++ node ∷ more) → list_all (are_apart node) nodes ≡ true
all_apart [] node more apart = refl
all_apart (first ∷ nodes) node more apart =
    let here : are_apart first node ≡ true = all-at (λ other. are_apart first other ≡ true) nodes node more apart.0 in
    both (are_apart node first) (list_all (are_apart node) nodes) (apart-sym node first ∙ here) (all_apart nodes node more apart.1)

apart-snoc : (nodes : List DeclaredNode) (node : DeclaredNode) → AreApart nodes → list_all (are_apart node) nodes ≡ true → AreApart (nodes ++ node ∷ [])
apart-snoc [] node apart all = (tt, tt)
apart-snoc (first ∷ nodes) node apart all =
    let parts = and_parts (are_apart node first) (list_all (are_apart node) nodes) all in
    (all-snoc (λ other. are_apart first other ≡ true) nodes node apart.0 (apart-sym first node ∙ parts.0), apart-snoc nodes node apart.1 parts.1)

-- ---- peers

pub no_peers : peer_count [] ≡ 0
unfolding peer_count
no_peers = refl

-- how many peers there are with a node, and with those behind it
count-first : (node : DeclaredNode) (more : List DeclaredNode) (peer : Bool) → is_role Peer node.role ≡ peer → peer_count (node ∷ more) ≡ cond peer 1 0 + peer_count more
unfolding peer_count
count-first node more peer is = sum_by-cons (λ (n : DeclaredNode). cond (is_role Peer n.role) 1 0) node more ∙ ap (λ (b : Bool). cond b 1 0 + peer_count more) is

count-append : (nodes more : List DeclaredNode) → peer_count (nodes ++ more) ≡ peer_count nodes + peer_count more
unfolding peer_count
count-append nodes more = sum_by-append (λ (n : DeclaredNode). cond (is_role Peer n.role) 1 0) nodes more

peer-room : (nodes : List DeclaredNode) (node : DeclaredNode) (more : List DeclaredNode) → peer_count (nodes ++ node ∷ more) ≤ MAX_PEERS → has_room nodes node.role ≡ true
unfolding has_room
peer-room nodes node more few = by_role (is_role Peer node.role) refl
  where
    by_role : (peer : Bool) → is_role Peer node.role ≡ peer → (not peer || nat_lt (peer_count nodes) MAX_PEERS) ≡ true
    by_role false is = refl
    by_role true is = lt-ltb (peer_count nodes) MAX_PEERS (omega (arith, few, count-append nodes (node ∷ more), count-first node more true is))

room-peer : (nodes : List DeclaredNode) (node : DeclaredNode) → has_room nodes node.role ≡ true → peer_count nodes ≤ MAX_PEERS → peer_count (nodes ++ node ∷ []) ≤ MAX_PEERS
unfolding has_room
room-peer nodes node room few = by_role (is_role Peer node.role) refl room
  where
    by_role : (peer : Bool) → is_role Peer node.role ≡ peer → (not peer || nat_lt (peer_count nodes) MAX_PEERS) ≡ true → peer_count (nodes ++ node ∷ []) ≤ MAX_PEERS
    by_role false is room = omega (arith, few, no_peers, count-append nodes (node ∷ []), count-first node [] false is)
    by_role true is room = omega (arith, ltb-true (peer_count nodes) MAX_PEERS room, no_peers, count-append nodes (node ∷ []), count-first node [] true is)

-- ---- whole nodes

-- nodes within their limits, and apart
pub record AreNodes (nodes : List DeclaredNode) : Type 0 where
  pub few : length nodes ≤ MAX_NODES
  pub few_peers : peer_count nodes ≤ MAX_PEERS
  pub apart : AreApart nodes

pub node-new : (nodes : List DeclaredNode) (node : DeclaredNode) (more : List DeclaredNode) → AreNodes (nodes ++ node ∷ more) → is_new_node nodes node ≡ true
unfolding is_new_node
node-new nodes node more are =
    let room_there = both (nat_lt (length nodes) MAX_NODES) (has_room nodes node.role) (room nodes node more MAX_NODES are.few) (peer-room nodes node more are.few_peers) in
    both (nat_lt (length nodes) MAX_NODES && has_room nodes node.role) (list_all (are_apart node) nodes) room_there (all_apart nodes node more are.apart)

pub new-node : (nodes : List DeclaredNode) (node : DeclaredNode) → is_new_node nodes node ≡ true → peer_count nodes ≤ MAX_PEERS → AreApart nodes → AreNodes (nodes ++ node ∷ [])
unfolding is_new_node
new-node nodes node new few apart =
    let parts = and_parts (nat_lt (length nodes) MAX_NODES && has_room nodes node.role) (list_all (are_apart node) nodes) new in
    let room_there = and_parts (nat_lt (length nodes) MAX_NODES) (has_room nodes node.role) parts.0 in
    record { few = one_more nodes node MAX_NODES room_there.0; few_peers = room-peer nodes node room_there.1 few; apart = apart-snoc nodes node apart parts.1 }
