-- The requests of a client, which has no outboxes.
use Rattle.std.proofs.Common.{◌≡◌, ℕ, Bool, true, false, cond, eqb, Option, Some, None, is_some, refl, ap, ◌∙◌}
use Rattle.std.specs.Option.{option_map}
use Rattle.std.specs.Ordering.{nat_cmp}
use Rattle.std.specs.Cmp.{nat_cmp_total}
use Rattle.std.specs.FinMap.{FinMap, nat_cmp-IsAntisymmetric, get, insert, remove, empty, get-empty}
use Rattle.std.proofs.lemmas.Bool.{eq-eqb}
use Rattle.ordered_tables.proofs.Finite.{get-insert_there, remove-insert}
use Rattle.transaction_table.specs.declared.txn.Txn.{Txn}
use Rattle.transaction_table.specs.declared.txn.Queued.{Queued}
use Rattle.transaction_table.specs.declared.txn.Outstanding.{Outstanding}
use Rattle.transaction_table.specs.declared.outbox.Request.{Request}
use Rattle.transaction_table.specs.declared.spot.Spot.{Spot}
use Rattle.transaction_table.specs.declared.spot.Spot.TheVariants.{Issued}
use Rattle.transaction_table.specs.Sends.{due_after}
use Rattle.transaction_table.specs.Outboxes.{message_of}
use Rattle.transaction_table.specs.Tables.{Txns, Requests, issued, outstanding, spot_of, head_spot, request_spot, either_spot, after_answer, ended, txn_at, request_txn}

-- there is nothing in no map
pub none_in : {X : Type 0} (q : ℕ) (m : FinMap nat_cmp X) → m ≡ empty → get m q ≡ None
none_in {X} q m e = ap (λ (n : FinMap nat_cmp X). get n q) e ∙ get-empty nat_cmp q

-- without outboxes it stands among the requests
spot_issued : (from id : ℕ) (t : Txns) → t.outboxes ≡ empty
    → spot_of from id t ≡ request_spot from id (get t.issued id)
spot_issued from id t e =
    ap (λ o. either_spot (head_spot from id o) (request_spot from id (get t.issued id)))
    (none_in from t.outboxes e)

-- a request is there, or not
spot_there : (from id : ℕ) (o : Option Request)
    → (b : Bool) × (request_spot from id o ≡ cond b (Some (Issued id)) None)
spot_there from id None = (false, refl)
spot_there from id (Some r) = (eqb r.peer.0 from, refl)

-- an answer to a request ends it
spot_ends : (now from id : ℕ) (t : Txns) (b : Bool)
    → spot_of from id t ≡ cond b (Some (Issued id)) None
    → is_some (outstanding from id t) ≡ true
    → after_answer now from id t ≡ record t { issued = remove t.issued id }
spot_ends now from id t true e there =
    ap (λ (s : Option Spot). elim s [ None ↦ t | Some x ↦ ended now x t ]) e
spot_ends now from id t false e there =
    let none : outstanding from id t ≡ None =
    ap (λ (s : Option Spot). elim s [ None ↦ None | Some x ↦ txn_at x t ]) e in absurd cc

pub answer_ends : (now from id : ℕ) (t : Txns) → t.outboxes ≡ empty
    → is_some (outstanding from id t) ≡ true
    → after_answer now from id t ≡ record t { issued = remove t.issued id }
answer_ends now from id t e there =
    let at = spot_there from id (get t.issued id) in
    spot_ends now from id t at.0 (spot_issued from id t e ∙ at.1) there

-- a request that was issued is outstanding
pub issued_there : (now : ℕ) (x : Txn Queued) (t : Txns) → t.outboxes ≡ empty
    → option_map (λ (o : Txn Outstanding). o.message) (outstanding x.peer.0 x.id (issued now x t))
    ≡ Some x.message
issued_there now x t e =
    let r : Request = record {
      peer = x.peer;
      message = message_of x;
      sends = 1;
      due = due_after now;
    } in
    let there : get (insert t.issued x.id r) x.id ≡ Some r =
    get-insert_there nat_cmp_total t.issued x.id r in
    let same : eqb x.peer.0 x.peer.0 ≡ true = eq-eqb x.peer.0 x.peer.0 refl in
    let spot : spot_of x.peer.0 x.id (issued now x t) ≡ Some (Issued x.id) =
    spot_issued x.peer.0 x.id (issued now x t) e ∙ ap (request_spot x.peer.0 x.id) there
    ∙ ap (λ b. cond b (Some (Issued x.id)) None) same in
    let txn : outstanding x.peer.0 x.id (issued now x t) ≡ Some (request_txn r) =
    ap (λ (s : Option Spot). elim s [ None ↦ None | Some y ↦ txn_at y (issued now x t) ]) spot
    ∙ ap (option_map request_txn) there in
    ap (option_map (λ (o : Txn Outstanding). o.message)) txn

-- and taken back it is as if it had never been issued
pub issued_back : (now : ℕ) (x : Txn Queued) (t : Txns) → t.outboxes ≡ empty
    → get t.issued x.id ≡ None → after_answer now x.peer.0 x.id (issued now x t) ≡ t
issued_back now x t e none =
    let r : Request = record {
      peer = x.peer;
      message = message_of x;
      sends = 1;
      due = due_after now;
    } in
    let there : is_some (outstanding x.peer.0 x.id (issued now x t)) ≡ true =
    some_of _ _ _ (issued_there now x t e) in
    answer_ends now x.peer.0 x.id (issued now x t) e there
    ∙ ap (λ (rs : Requests). record t { issued = rs })
    (remove-insert nat_cmp_total nat_cmp-IsAntisymmetric t.issued x.id r none)
  where
    some_of : {A B : Type 0} (f : A → B) (o : Option A) (b : B) → option_map f o ≡ Some b
        → is_some o ≡ true
    some_of f None b is = absurd cc
    some_of f (Some a) b is = refl
