-- A request that is issued.
use Rattle.std.proofs.Common.{◌≡◌, ℕ, ◌≤◌, Bool, cond, List, [], length, Option, Some, None, is_some, Result, IfOk, refl, sym, ap, subst, ◌∙◌, arith}
use Rattle.std.specs.Prelude.{unwrap_or, OnOk}
use Rattle.std.specs.Option.{option_map}
use Rattle.std.specs.Ordering.{nat_cmp}
use Rattle.std.specs.FinMap.{FinMap, insert, remove, empty, get}
use Rattle.wire_core.specs.declared.limits.TheConstants.{MAX_MESSAGE}
use Rattle.reload_ids.specs.declared.NodeId.{NodeId}
use Rattle.transaction_table.specs.declared.txn.Txn.{Txn}
use Rattle.transaction_table.specs.declared.txn.Outstanding.{Outstanding}
use Rattle.transaction_table.specs.Tables.{Txns, IsNew, issued, outstanding, after_answer}
use Rattle.node_messages.specs.Signed.{SignerWords}
use Rattle.node_model.specs.declared.input.Outputs.{Outputs}
use Rattle.node_model.specs.declared.question.Question.{Question}
use Rattle.node_model.specs.Links.{Sent}
use Rattle.node_model.specs.Nodes.{Node, Step, next_id, frames_of}
use Rattle.node_model.specs.Requests.{Request}
use Rattle.node_model.specs.Clients.{Client, node_asking, asks}
use Rattle.node_links.specs.Sendings.{posted}
use Rattle.overlay_client.specs.declared.asking.Asking.{Asking}
use Rattle.overlay_client.specs.Sound.{IsSound, client_of}
use Rattle.overlay_client.specs.Asked.{asking_of, IsSmall, queued_of, asked}
use Rattle.overlay_client.proofs.Tables.{issued_there, issued_back}
use Rattle.overlay_client.proofs.Notes.{question_back}
use Rattle.overlay_client.proofs.Sounds.{next_is_new, next_is_unasked, asked_sound}

-- the id is one that no transaction and no question has
pub new_at : (n : Node) (t : Txns) (q : FinMap nat_cmp Question) (id : ℕ)
    → IsSound (client_of n t q) → id ≡ next_id n → IsNew id t
new_at n t q id s e = subst (λ (k : ℕ). IsNew k t) (sym e) (next_is_new (client_of n t q) s)

pub unasked_at : (n : Node) (t : Txns) (q : FinMap nat_cmp Question) (id : ℕ)
    → IsSound (client_of n t q) → id ≡ next_id n → get q id ≡ None
unasked_at n t q id s e = ap (get q) e ∙ next_is_unasked (client_of n t q) s

-- the bytes of a request that was noted
pub noted_is : (now : ℕ) (peer : NodeId) (id : ℕ) (message : Option (List ℕ)) (bytes : List ℕ)
    (has : Bool) (t u : Txns) → t.outboxes ≡ empty → has ≡ is_some message
    → bytes ≡ unwrap_or message [] → u ≡ issued now (queued_of peer id bytes) t
    → cond has (option_map (λ (o : Txn Outstanding). o.message) (outstanding peer.0 id u)) None
    ≡ message
noted_is now peer id None bytes has t u none h b e =
    ap (λ (x : Bool). cond x
    (option_map (λ (o : Txn Outstanding). o.message) (outstanding peer.0 id u)) None) h
noted_is now peer id (Some m) bytes has t u none h b e =
    ap (λ (x : Bool). cond x
    (option_map (λ (o : Txn Outstanding). o.message) (outstanding peer.0 id u)) None) h
    ∙ ap (λ (v : Txns). option_map (λ (o : Txn Outstanding). o.message) (outstanding peer.0 id v)) e
    ∙ issued_there now (queued_of peer id bytes) t none ∙ ap (λ (x : List ℕ). Some x) b

pub small_some : (o : Option (List ℕ)) (x : List ℕ) → Some x ≡ o → IsSmall o
    → length x ≤ MAX_MESSAGE
small_some None x e s = absurd cc
small_some (Some y) x e s = let same : x ≡ y = cc in
    subst (λ (z : List ℕ). length z ≤ MAX_MESSAGE) (sym same) s

small_bytes : (o : Option (List ℕ)) → IsSmall o → length (unwrap_or o []) ≤ MAX_MESSAGE
small_bytes None s = omega arith
small_bytes (Some x) s = s

-- what the client is then
pub asked_node : (now : ℕ) (a : Asking) (m : Option (List ℕ)) (bytes : List ℕ) (n k : Node)
    (t u : Txns) (q r : FinMap nat_cmp Question) (c : Client) → client_of n t q ≡ c
    → m ≡ a.message → bytes ≡ unwrap_or a.message [] → k ≡ node_asking (posted a.peer m) n
    → u ≡ issued now (queued_of a.peer a.id bytes) t → r ≡ insert q a.id a.question
    → client_of k u r ≡ (asked now a c).node
unfolding asked
asked_node now a m bytes n k t u q r c view em eb ek eu er =
    ap (λ (x : Node). client_of x u r) (ek ∙ ap (λ (y : Option (List ℕ)). node_asking (posted a.peer y) n) em)
    ∙ ap (λ (x : Txns). client_of (node_asking (posted a.peer a.message) n) x r)
    (eu ∙ ap (λ (y : List ℕ). issued now (queued_of a.peer a.id y) t) eb)
    ∙ ap (λ (x : FinMap nat_cmp Question). client_of (node_asking (posted a.peer a.message) n)
    (issued now (queued_of a.peer a.id (unwrap_or a.message [])) t) x) er
    ∙ ap (λ (x : Client). (asked now a x).node) view

-- and what it puts out
pub asked_outputs : (now : ℕ) (a : Asking) (m : Option (List ℕ)) (fs : List Sent) (n : Node)
    (t : Txns) (q : FinMap nat_cmp Question) (c : Client) → client_of n t q ≡ c → m ≡ a.message
    → fs ≡ frames_of n.links (Some (posted a.peer m)) → (o : Outputs)
    → o ≡ record { frames = fs; notices = [] } → o ≡ (asked now a c).outputs
unfolding asked
asked_outputs now a m fs n t q c view em ef o eo =
    eo ∙ ap (λ (x : List Sent). record { frames = x; notices = [] })
    (ef ∙ ap (λ (y : Option (List ℕ)). frames_of n.links (Some (posted a.peer y))) em)
    ∙ ap (λ (x : Client). (asked now a x).outputs) view

pub asked_holds : (now : ℕ) (a : Asking) (m : Option (List ℕ)) (bytes : List ℕ) (n k : Node)
    (t u : Txns) (q r : FinMap nat_cmp Question) → IsSound (client_of n t q) → a.id ≡ next_id n
    → k ≡ node_asking (posted a.peer m) n → u ≡ issued now (queued_of a.peer a.id bytes) t
    → r ≡ insert q a.id a.question → bytes ≡ unwrap_or a.message [] → IsSmall a.message
    → IsSound (client_of k u r)
asked_holds now a m bytes n k t u q r s e ek eu er eb small =
    subst (λ (x : Node). IsSound (client_of x u r)) (sym ek)
    (subst (λ (x : Txns). IsSound (client_of (node_asking (posted a.peer m) n) x r)) (sym eu)
    (subst (λ (x : FinMap nat_cmp Question). IsSound (client_of (node_asking (posted a.peer m) n)
    (issued now (queued_of a.peer a.id bytes) t) x)) (sym er)
    (asked_sound now (posted a.peer m) (queued_of a.peer a.id bytes) a.question (client_of n t q) s e
    (subst (λ (x : List ℕ). length x ≤ MAX_MESSAGE) (sym eb) (small_bytes a.message small)))))

-- a request that is taken back leaves all as it was
pub taken_back : (now : ℕ) (a : Asking) (bytes : List ℕ) (n k : Node) (t u v : Txns)
    (q r w : FinMap nat_cmp Question) → IsSound (client_of n t q) → a.id ≡ next_id n → k ≡ n
    → u ≡ issued now (queued_of a.peer a.id bytes) t → r ≡ insert q a.id a.question
    → v ≡ after_answer now a.peer.0 a.id u → w ≡ remove r a.id
    → client_of k v w ≡ client_of n t q
taken_back now a bytes n k t u v q r w s e ek eu er ev ew =
    let et : v ≡ t =
    ev ∙ ap (after_answer now a.peer.0 a.id) eu ∙ issued_back now (queued_of a.peer a.id bytes) t
    s.none_queued ((new_at n t q a.id s e).1) in
    let eq : w ≡ q =
    ew ∙ ap (λ (x : FinMap nat_cmp Question). remove x a.id) er
    ∙ question_back q a.id a.question (unasked_at n t q a.id s e) in
    ap (λ (x : Node). client_of x v w) ek ∙ ap (λ (x : Txns). client_of n x w) et
    ∙ ap (λ (x : FinMap nat_cmp Question). client_of n t x) eq

-- a request of the model is one that is made
pub asks_is : (words : SignerWords) (now : ℕ) (r : Request) (c : Client)
    → asked now (asking_of words c.node r) c ≡ asks words now r c
unfolding asked asks
asks_is words now r c = refl

same_step : (words : SignerWords) (now : ℕ) (q : Node → Request) (a : Asking) (n : Node)
    (c : Client) → a ≡ asking_of words n (q n) → n ≡ c.node
    → asked now a c ≡ asks words now (q c.node) c
same_step words now q a n c ea en =
    ap (λ (x : Asking). asked now x c) ea
    ∙ ap (λ (m : Node). asked now (asking_of words m (q m)) c) en ∙ asks_is words now (q c.node) c

pub ask_ok : {E : Type 0} (r : Result Outputs E) (new : Client) (words : SignerWords) (now : ℕ)
    (q : Node → Request) (a : Asking) (n : Node) (c : Client) → a ≡ asking_of words n (q n)
    → n ≡ c.node → OnOk r (new ≡ (asked now a c).node)
    → OnOk r (new ≡ (asks words now (q c.node) c).node)
ask_ok r new words now q a n c ea en h =
    subst (λ (s : Step Client). OnOk r (new ≡ s.node)) (same_step words now q a n c ea en) h

pub ask_out : {E : Type 0} (r : Result Outputs E) (words : SignerWords) (now : ℕ)
    (q : Node → Request) (a : Asking) (n : Node) (c : Client) → a ≡ asking_of words n (q n)
    → n ≡ c.node → IfOk r (λ o. o ≡ (asked now a c).outputs)
    → IfOk r (λ o. o ≡ (asks words now (q c.node) c).outputs)
ask_out r words now q a n c ea en h =
    subst (λ (s : Step Client). IfOk r (λ o. o ≡ s.outputs)) (same_step words now q a n c ea en) h
