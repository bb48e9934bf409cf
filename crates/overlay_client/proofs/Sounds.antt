-- What always holds of a client holds after each step.
use Rattle.std.proofs.Common.{◌≡◌, ℕ, ◌+◌, ◌-◌, ◌*◌, ◌^◌, ◌<◌, ◌≤◌, nat_lt, List, length, Bool, true, false, cond, Option, Some, None, is_some, refl, sym, ap, subst, ◌∙◌, arith}
use Rattle.std.specs.Ordering.{nat_cmp, eq_by_cmp}
use Rattle.std.specs.Cmp.{nat_cmp_total}
use Rattle.std.specs.FinMap.{FinMap, nat_cmp-IsAntisymmetric, get, insert, remove, empty, get-empty, get-remove, len, len-empty, len-insert, len-remove}
use Rattle.transaction_table.proofs.NumberMaps.{equal_of}
use Rattle.ordered_tables.proofs.Finite.{at_key, get-insert_there, get-insert_elsewhere}
use Rattle.std.proofs.lemmas.Bool.Decides.{nat_tests}
use Rattle.wire_core.specs.declared.limits.TheConstants.{MAX_MESSAGE}
use Rattle.reload_ids.specs.declared.NodeId.{NodeId}
use Rattle.security_block.specs.declared.about.About.{About}
use Rattle.data_models.specs.declared.config.Config.{Config}
use Rattle.transaction_table.specs.declared.txn.Txn.{Txn}
use Rattle.transaction_table.specs.declared.txn.Queued.{Queued}
use Rattle.transaction_table.specs.declared.outbox.Message.{Message}
use Rattle.transaction_table.specs.declared.outbox.Request.{Request}
use Rattle.transaction_table.specs.Tables.{Txns, Outboxes, Requests, IsNew, issued, outstanding, after_answer}
use Rattle.node_model.specs.declared.question.Question.{Question}
use Rattle.node_model.specs.Nodes.{Node, Post, new_node, next_id, counted, node_after}
use Rattle.node_model.specs.Clients.{Client, node_asking}
use Rattle.overlay_client.specs.Sound.{IsSound, client_of}
use Rattle.overlay_client.proofs.Tables.{answer_ends}

-- a client whose node is about the same one, and used the same ids
pub node_sound : (n m : Node) (t : Txns) (q : FinMap nat_cmp Question) → IsSound (client_of n t q)
    → m.about ≡ n.about → m.number ≡ n.number → m.ids ≡ n.ids → IsSound (client_of m t q)
node_sound n m t q s about number ids = record {
  client = ap (λ (a : About). a.peer) about ∙ s.client;
  none_queued = s.none_queued;
  used = λ id le. s.used id (omega (arith, le, ids, ap (λ (k : ℕ). k * 2 ^ 32) number));
  same = s.same;
  count = s.count;
  few = omega (arith, s.few, ids);
  named = s.named;
  small = s.small;
}

pub counted_sound : (n m : Node) (t : Txns) (q : FinMap nat_cmp Question)
    → IsSound (client_of n t q) → m ≡ counted n → IsSound (client_of m t q)
unfolding counted
counted_sound n m t q s e = subst (λ (k : Node). IsSound (client_of k t q)) (sym e)
    (node_sound n (counted n) t q s refl refl refl)

pub heard_sound : (from : NodeId) (sequence : ℕ) (posts : List Post) (n m : Node) (t : Txns)
    (q : FinMap nat_cmp Question) → IsSound (client_of n t q)
    → m ≡ node_after from sequence posts n → IsSound (client_of m t q)
unfolding node_after
heard_sound from sequence posts n m t q s e = subst (λ (k : Node). IsSound (client_of k t q)) (sym e)
    (node_sound n (node_after from sequence posts n) t q s refl refl refl)

-- nothing is there yet
start_sound : (n : Node) → n.about.peer ≡ false
    → IsSound (client_of n (record { outboxes = empty; issued = empty }) empty)
start_sound n is = record {
  client = is;
  none_queued = refl;
  used = λ id le. get-empty nat_cmp id;
  same = λ id. ap is_some (get-empty nat_cmp id) ∙ sym (ap is_some (get-empty nat_cmp id));
  count = len-empty nat_cmp Request ∙ sym (len-empty nat_cmp Question);
  few = omega (arith, len-empty nat_cmp Request);
  named = λ id r is. absurd (nothing id r is);
  small = λ id r is. absurd (nothing id r is);
}
  where
    nothing : (id : ℕ) (r : Request) → get {R = nat_cmp} empty id ≡ Some r → ⊥
    nothing id r is =
        let none : None ≡ Some r = sym (get-empty nat_cmp id) ∙ is in absurd cc

pub new_sound : (number : ℕ) (about : About) (config : Config) (n : Node) (t : Txns)
    (q : FinMap nat_cmp Question) → about.peer ≡ false → n ≡ new_node number about config
    → t.outboxes ≡ empty → t.issued ≡ empty → q ≡ empty → IsSound (client_of n t q)
new_sound number about config n t q is en eo ei eq =
    let et : t ≡ record { outboxes = empty; issued = empty } =
    ap (λ (o : Outboxes). record t { outboxes = o }) eo
    ∙ ap (λ (r : Requests). record { outboxes = empty; issued = r }) ei in
    subst (λ (m : FinMap nat_cmp Question). IsSound (client_of n t m)) (sym eq)
    (subst (λ (u : Txns). IsSound (client_of n u empty)) (sym et)
    (start_sound n (ap (λ (m : Node). m.about.peer) en ∙ is)))

-- the next id is one that no transaction and no question has
pub next_is_new : (c : Client) → IsSound c → IsNew (next_id c.node) c.txns
next_is_new c s = (
  λ peer o is.
      let none : get c.txns.outboxes peer ≡ None =
      ap (λ (m : Outboxes). get m peer) s.none_queued ∙ get-empty nat_cmp peer in absurd cc,
  s.used (next_id c.node) (omega arith),
)

pub next_is_unasked : (c : Client) → IsSound c → get c.questions (next_id c.node) ≡ None
next_is_unasked c s = none_of _ (sym (s.same (next_id c.node))
    ∙ ap is_some (s.used (next_id c.node) (omega arith)))
  where
    none_of : {A : Type 0} (o : Option A) → is_some o ≡ false → o ≡ None
    none_of None e = refl
    none_of (Some a) e = absurd cc

-- a request more
insert_used : (m : Requests) (k n : ℕ) (r : Request) → k < n
    → ((q : ℕ) → n ≤ q → get m q ≡ None) → (q : ℕ) → n ≤ q → get (insert m k r) q ≡ None
insert_used m k n r lt none q le =
    elim (eq_by_cmp nat_cmp q k) as (λ b. eq_by_cmp nat_cmp q k ≡ b → get (insert m k r) q ≡ None) [
      | true ↦ λ e. absurd (apart e)
      | false ↦ λ e. get-insert_elsewhere nat_cmp_total m k q r e ∙ none q le
    ] refl
  where
    apart : eq_by_cmp nat_cmp q k ≡ true → ⊥
    apart e = let same : q ≡ k = nat_cmp-IsAntisymmetric q k (equal_of (nat_cmp q k) e) in omega arith

insert_same : (m : Requests) (n : FinMap nat_cmp Question) (k : ℕ) (r : Request) (v : Question)
    → ((q : ℕ) → is_some (get m q) ≡ is_some (get n q)) → (q : ℕ)
    → is_some (get (insert m k r) q) ≡ is_some (get (insert n k v) q)
insert_same m n k r v same q =
    at_key nat_cmp nat_cmp-IsAntisymmetric k q (λ (p : ℕ). is_some (get (insert m k r) p))
    (λ (p : ℕ). is_some (get (insert n k v) p))
    (ap is_some (get-insert_there nat_cmp_total m k r)
    ∙ sym (ap is_some (get-insert_there nat_cmp_total n k v)))
    (λ e. ap is_some (get-insert_elsewhere nat_cmp_total m k q r e) ∙ same q
    ∙ sym (ap is_some (get-insert_elsewhere nat_cmp_total n k q v e)))

insert_count : (m : Requests) (n : FinMap nat_cmp Question) (k : ℕ) (r : Request) (v : Question)
    → is_some (get m k) ≡ is_some (get n k) → len m ≡ len n
    → len (insert m k r) ≡ len (insert n k v)
insert_count m n k r v same count =
    len-insert nat_cmp_total m k r ∙ ap (λ (b : Bool). cond b (len m) (len m + 1)) same
    ∙ ap (λ (i : ℕ). cond (is_some (get n k)) i (i + 1)) count ∙ sym (len-insert nat_cmp_total n k v)

insert_few : (m : Requests) (k ids : ℕ) (r : Request) → len m ≤ ids → len (insert m k r) ≤ ids + 1
insert_few m k ids r le = by_test (is_some (get m k)) (len-insert nat_cmp_total m k r)
  where
    by_test : (b : Bool) → len (insert m k r) ≡ cond b (len m) (len m + 1) → len (insert m k r) ≤ ids + 1
    by_test true e = omega (arith, e, le)
    by_test false e = omega (arith, e, le)

-- what holds of each request, and of one that is put, holds of each
insert_all : (P : ℕ → Request → Type 0) (m : Requests) (k : ℕ) (r : Request) → P k r
    → ((q : ℕ) (x : Request) → get m q ≡ Some x → P q x)
    → (q : ℕ) (x : Request) → get (insert m k r) q ≡ Some x → P q x
insert_all P m k r here all q x is =
    elim (eq_by_cmp nat_cmp q k) as (λ b. eq_by_cmp nat_cmp q k ≡ b → P q x) [
      | true ↦ λ e.
          let same : q ≡ k = nat_cmp-IsAntisymmetric q k (equal_of (nat_cmp q k) e) in
          let there : Some r ≡ Some x = sym (ap (get (insert m k r)) same ∙ get-insert_there nat_cmp_total m k r) ∙ is in
          let one : r ≡ x = cc in
          subst (λ (i : ℕ). P i x) (sym same) (subst (P k) one here)
      | false ↦ λ e. all q x (sym (get-insert_elsewhere nat_cmp_total m k q r e) ∙ is)
    ] refl

remove_all : (P : ℕ → Request → Type 0) (m : Requests) (k : ℕ)
    → ((q : ℕ) (x : Request) → get m q ≡ Some x → P q x)
    → (q : ℕ) (x : Request) → get (remove m k) q ≡ Some x → P q x
remove_all P m k all q x is = by_test (eq_by_cmp nat_cmp q k) (sym (get-remove nat_cmp_total m k q) ∙ is)
  where
    by_test : (b : Bool) → cond b None (get m q) ≡ Some x → P q x
    by_test true e = absurd cc
    by_test false e = all q x e

abbrev IsNamed : ℕ → Request → Type 0
IsNamed id r = r.message.id ≡ id

abbrev IsSmallRequest : ℕ → Request → Type 0
IsSmallRequest id r = length r.message.bytes ≤ MAX_MESSAGE

pub asked_sound : (now : ℕ) (post : Post) (x : Txn Queued) (v : Question) (c : Client) → IsSound c
    → x.id ≡ next_id c.node → length x.message ≤ MAX_MESSAGE
    → IsSound (client_of (node_asking post c.node) (issued now x c.txns) (insert c.questions x.id v))
unfolding node_asking
asked_sound now post x v c s e within = record {
  client = s.client;
  none_queued = s.none_queued;
  used = insert_used c.txns.issued x.id (next_id (node_asking post c.node)) _
      (omega (arith, e)) (λ q le. s.used q (omega (arith, e, le)));
  same = insert_same c.txns.issued c.questions x.id _ v s.same;
  count = insert_count c.txns.issued c.questions x.id _ v (s.same x.id) s.count;
  few = insert_few c.txns.issued x.id c.node.ids _ s.few;
  named = insert_all IsNamed c.txns.issued x.id _ refl s.named;
  small = insert_all IsSmallRequest c.txns.issued x.id _ within s.small;
}

-- a request less
remove_used : (m : Requests) (k q : ℕ) → get m q ≡ None → get (remove m k) q ≡ None
remove_used m k q none =
    get-remove nat_cmp_total m k q ∙ ap (λ (o : Option Request). cond (eq_by_cmp nat_cmp q k) None o) none
    ∙ either (eq_by_cmp nat_cmp q k)
  where
    either : (b : Bool) → cond {A = Option Request} b None None ≡ None
    either true = refl
    either false = refl

remove_same : (m : Requests) (n : FinMap nat_cmp Question) (k q : ℕ)
    → is_some (get m q) ≡ is_some (get n q)
    → is_some (get (remove m k) q) ≡ is_some (get (remove n k) q)
remove_same m n k q same =
    ap is_some (get-remove nat_cmp_total m k q) ∙ by_test (eq_by_cmp nat_cmp q k)
    ∙ sym (ap is_some (get-remove nat_cmp_total n k q))
  where
    by_test : (b : Bool) → is_some (cond b None (get m q)) ≡ is_some (cond b None (get n q))
    by_test true = refl
    by_test false = same

remove_count : (m : Requests) (n : FinMap nat_cmp Question) (k : ℕ)
    → is_some (get m k) ≡ is_some (get n k) → len m ≡ len n → len (remove m k) ≡ len (remove n k)
remove_count m n k same count =
    len-remove nat_cmp_total m k ∙ ap (λ (b : Bool). cond b (len m - 1) (len m)) same
    ∙ ap (λ (i : ℕ). cond (is_some (get n k)) (i - 1) i) count ∙ sym (len-remove nat_cmp_total n k)

remove_few : (m : Requests) (k ids : ℕ) → len m ≤ ids → len (remove m k) ≤ ids
remove_few m k ids le = by_test (is_some (get m k)) (len-remove nat_cmp_total m k)
  where
    by_test : (b : Bool) → len (remove m k) ≡ cond b (len m - 1) (len m) → len (remove m k) ≤ ids
    by_test true e = omega (arith, e, le)
    by_test false e = omega (arith, e, le)

-- a request and its question end
pub ended_sound : (id : ℕ) (n : Node) (t : Txns) (q : FinMap nat_cmp Question)
    → IsSound (client_of n t q)
    → IsSound (client_of n (record t { issued = remove t.issued id }) (remove q id))
ended_sound id n t q s = record {
  client = s.client;
  none_queued = s.none_queued;
  used = λ k le. remove_used t.issued id k (s.used k le);
  same = λ k. remove_same t.issued q id k (s.same k);
  count = remove_count t.issued q id (s.same id) s.count;
  few = remove_few t.issued id n.ids s.few;
  named = remove_all IsNamed t.issued id s.named;
  small = remove_all IsSmallRequest t.issued id s.small;
}

pub taken_sound : (now : ℕ) (from : NodeId) (id : ℕ) (n : Node) (t : Txns)
    (q : FinMap nat_cmp Question) → IsSound (client_of n t q)
    → is_some (outstanding from.0 id t) ≡ true
    → IsSound (client_of n (after_answer now from.0 id t) (remove q id))
taken_sound now from id n t q s there =
    subst (λ (u : Txns). IsSound (client_of n u (remove q id)))
    (sym (answer_ends now from.0 id t s.none_queued there)) (ended_sound id n t q s)

-- a request changes that keeps its id and its bytes
pub again_sound : (id : ℕ) (r z : Request) (n : Node) (t : Txns) (q : FinMap nat_cmp Question)
    → IsSound (client_of n t q) → get t.issued id ≡ Some r → z.message ≡ r.message
    → IsSound (client_of n (record t { issued = insert t.issued id z }) q)
again_sound id r z n t q s is kept = record {
  client = s.client;
  none_queued = s.none_queued;
  used = insert_used t.issued id (next_id n) z below s.used;
  same = λ k. at_key nat_cmp nat_cmp-IsAntisymmetric id k (λ (p : ℕ). is_some (get (insert t.issued id z) p))
      (λ (p : ℕ). is_some (get q p))
      (ap is_some (get-insert_there nat_cmp_total t.issued id z) ∙ sym (ap is_some is) ∙ s.same id)
      (λ e. ap is_some (get-insert_elsewhere nat_cmp_total t.issued id k z e) ∙ s.same k);
  count = long ∙ s.count;
  few = omega (arith, long, s.few);
  named = insert_all IsNamed t.issued id z (ap (λ (m : Message). m.id) kept ∙ s.named id r is) s.named;
  small = insert_all IsSmallRequest t.issued id z
      (subst (λ (m : Message). length m.bytes ≤ MAX_MESSAGE) (sym kept) (s.small id r is)) s.small;
}
  where
    long : len (insert t.issued id z) ≡ len t.issued
    long = len-insert nat_cmp_total t.issued id z
        ∙ ap (λ (o : Option Request). cond (is_some o) (len t.issued) (len t.issued + 1)) is

    below : id < next_id n
    below = by_test (nat_lt id (next_id n)) refl
      where
        by_test : (b : Bool) → nat_lt id (next_id n) ≡ b → id < next_id n
        by_test true e = grind (arith, nat_tests, e)
        by_test false e =
            let over : next_id n ≤ id = grind (arith, nat_tests, e) in
            let none : get t.issued id ≡ None = s.used id over in absurd cc

pub taken_at : (now : ℕ) (from : NodeId) (id : ℕ) (n : Node) (t u : Txns)
    (q r : FinMap nat_cmp Question) → IsSound (client_of n t q)
    → is_some (outstanding from.0 id t) ≡ true → u ≡ after_answer now from.0 id t
    → r ≡ remove q id → IsSound (client_of n u r)
taken_at now from id n t u q r s there eu er =
    subst (λ (x : Txns). IsSound (client_of n x r)) (sym eu)
    (subst (λ (x : FinMap nat_cmp Question). IsSound (client_of n (after_answer now from.0 id t) x))
    (sym er) (taken_sound now from id n t q s there))
