-- The due list of a table, while its transactions change.
use Rattle.std.proofs.Common.{◌≡◌, ℕ, ◌==◌, Bool, true, false, cond, List, [], ◌∷◌, refl, ap, sym, subst, ◌∙◌}
use Rattle.std.specs.Prelude.{Option, Some, None, IsSome, IfSome, is_some, Result, Ok, Err, is_ok, IfOk}
use Rattle.std.specs.Option.{option_map}
use Rattle.std.specs.List.{AllByRecursion}
use Rattle.std.specs.FinMap.{get, insert, remove, empty}
use Rattle.due_list.specs.Entries.{Entry, with_entry, without, entry_at, entry_of, AreInOrder}
use Rattle.due_list.proofs.Ids.{same_id, one_id, id_of_entry, of_with, of_without}
use Rattle.transaction_table.specs.declared.outbox.Message.{Message}
use Rattle.transaction_table.specs.declared.outbox.Outbox.{Outbox}
use Rattle.transaction_table.specs.declared.outbox.Request.{Request}
use Rattle.transaction_table.specs.Outboxes.{HasLost, opened, behind, next_of, replaced, changed, again_outbox, again_request}
use Rattle.transaction_table.specs.Sends.{due_after}
use Rattle.transaction_table.specs.Tables.{Txns, Outboxes, Requests, messages, AreDistinct, AreApart, IsNew}
use Rattle.transaction_table.specs.Timed.{Time, time_of, passed, AreTimed, IsListed}
use Rattle.transaction_table.proofs.Apart.{all-push, all-front}
use Rattle.transaction_table.proofs.Once.{get_put, get_removed}
use Rattle.transaction_table.proofs.Timed.{put_back, none_some, one_there, timed_empty, timed_owner, timed_removed, timed_added, timed_ended, timed_issued, untimed}

abbrev at : Entry → Time
at e = (e.due, e.owner)

time_cond : (b : Bool) (x : Entry) (o : Option Entry) → option_map at (cond b (Some x) o) ≡ cond b (Some (at x)) (option_map at o)
time_cond true x o = refl
time_cond false x o = refl

time_less : (b : Bool) (o : Option Entry) → option_map at (cond b None o) ≡ cond b None (option_map at o)
time_less true o = refl
time_less false o = refl

-- what is due by no entry
pub entry_none : (o : Option Entry) → option_map at o ≡ None → o ≡ None
entry_none None e = refl
entry_none (Some x) e = absurd (cc)

pub entry_some : (o : Option Entry) → IsSome (option_map at o) → IsSome o
entry_some None e = e
entry_some (Some x) e = refl

-- an entry that is added
pub set_times : (e : Entry) (es fs : List Entry) → entry_of e.id es ≡ None → fs ≡ with_entry e es → (k : ℕ) → time_of k fs ≡ cond (e.id == k) (Some (e.due, e.owner)) (time_of k es)
set_times e es fs n f k = ap (time_of k) f ∙ ap (option_map at) (of_with k e es n) ∙ time_cond (e.id == k) e (entry_of k es)

-- times that are added to what is as before
pub then_times : (b : Bool) (x : Time) (o p q : Option Time) → q ≡ cond b (Some x) o → o ≡ p → q ≡ cond b (Some x) p
then_times b x o p q e f = e ∙ ap (cond b (Some x)) f

pub none_there : {X : Type 0} (o : Option X) → is_some o ≡ false → o ≡ None
none_there None e = refl
none_there (Some x) e = absurd (cc)

pub on_success : {A E : Type 0} (P : A → Type 0) (r : Result A E) → is_ok r ≡ true → IfOk r P → (a : A) × P a
on_success P (Ok x) e h = (x, h)
on_success P (Err y) e h = absurd (cc)

-- an entry that is taken out
pub cleared_times : (i p : ℕ) (es fs : List Entry) → AreInOrder es → entry_at p es ≡ entry_of i es → IsSome (entry_of i es) → fs ≡ without p es → (k : ℕ) → time_of k fs ≡ cond (i == k) None (time_of k es)
cleared_times i p es fs h a there f k = by_entry (entry_of i es) refl there
  where
    by_entry : (o : Option Entry) → entry_of i es ≡ o → IsSome o → time_of k fs ≡ cond (i == k) None (time_of k es)
    by_entry None e s = absurd (cc)
    by_entry (Some x) e s =
        ap (time_of k) f ∙ ap (option_map at) (of_without k p x es h (a ∙ e)) ∙ time_less (x.id == k) (entry_of k es)
        ∙ ap (λ j. cond (j == k) None (time_of k es)) (id_of_entry i es x e)

pub listed_empty : (es : List Entry) (os : Outboxes) (rs : Requests) → es ≡ [] → os ≡ empty → rs ≡ empty → IsListed es (record { outboxes = os; issued = rs })
listed_empty es os rs e f g = (
  (λ k. k),
  subst (λ (x : Outboxes). AreTimed (λ k. k) (λ k. time_of k es) (record { outboxes = x; issued = rs })) (sym f)
      (subst (λ (x : Requests). AreTimed (λ k. k) (λ k. time_of k es) (record { outboxes = empty; issued = x })) (sym g)
      (timed_empty (λ k. k) (λ k. time_of k es) (λ k. ap (time_of k) e))),
)

module _ (t : Txns) (es : List Entry) where
  pub as_outboxes : (os ps : Outboxes) (fs : List Entry) → os ≡ ps → IsListed fs (record t { outboxes = ps }) → IsListed fs (record t { outboxes = os })
  as_outboxes os ps fs e l = subst (λ (x : Outboxes). IsListed fs (record t { outboxes = x })) (sym e) l

  pub as_issued : (rs qs : Requests) (fs : List Entry) → rs ≡ qs → IsListed fs (record t { issued = qs }) → IsListed fs (record t { issued = rs })
  as_issued rs qs fs e l = subst (λ (x : Requests). IsListed fs (record t { issued = x })) (sym e) l

  pub as_before : (fs : List Entry) → fs ≡ es → IsListed es t → IsListed fs t
  as_before fs e l = subst (λ (x : List Entry). IsListed x t) (sym e) l

module _ (t : Txns) (es : List Entry) (l : IsListed es t) where
  -- an id that no transaction has isn't due
  pub unlisted : (i : ℕ) → IsNew i t → time_of i es ≡ None
  unlisted i n = untimed l.0 (λ k. time_of k es) t l.1 i (λ q u e s. (n.0 q u e).0 s) n.1

  -- a message that is sent at once
  pub listed_opened : (m : Message) → IsNew m.id t → (now p : ℕ) → get t.outboxes p ≡ None → (fs : List Entry) → ((k : ℕ) → time_of k fs ≡ cond (m.id == k) (Some (due_after now, Some p)) (time_of k es))
      → IsListed fs (record t { outboxes = insert t.outboxes p (opened now m []) })
  listed_opened m n now p none fs h =
      let w : ℕ → ℕ = λ j. cond (m.id == j) p (l.0 j) in
      (w, timed_added w (λ k. time_of k es) t (timed_owner l.0 (λ k. time_of k es) t l.1 m.id p n.0) p (opened now m []) none n.1 (ap (λ b. cond b p (l.0 m.id)) (one_id m.id), tt) (λ k. time_of k fs) h)

  -- a request that is sent at once
  pub listed_issued : (i : ℕ) (z : Request) → IsNew i t → z.message.id ≡ i → (fs : List Entry) → ((k : ℕ) → time_of k fs ≡ cond (i == k) (Some (z.due, None)) (time_of k es))
      → IsListed fs (record t { issued = insert t.issued i z })
  listed_issued i z n named fs h =
      (l.0, timed_issued l.0 (λ k. time_of k es) t l.1 i z named (λ q u e s. (n.0 q u e).0 s) (λ k. time_of k fs) h)

module _ (t : Txns) (a : AreApart t) (w : ℕ → ℕ) (f : ℕ → Option Time) (d : AreTimed w f t) where
  -- an outbox in the place of another one
  timed_put : (p : ℕ) (o n : Outbox) → get t.outboxes p ≡ Some o → get t.issued n.head.id ≡ None → AllByRecursion (λ m. w m.id ≡ p) (messages n)
      → (g : ℕ → Option Time) → ((k : ℕ) → g k ≡ cond (n.head.id == k) (Some (n.due, Some p)) (cond (o.head.id == k) None (f k))) → AreTimed w g (record t { outboxes = insert t.outboxes p n })
  timed_put p o n there free mine g h =
      let f1 : ℕ → Option Time = λ k. cond (o.head.id == k) None (f k) in
      let t1 : Txns = record t { outboxes = remove t.outboxes p } in
      let d1 : AreTimed w f1 t1 = timed_removed w f t d a p o there f1 (λ k. refl) in
      subst (λ (x : Outboxes). AreTimed w g (record t { outboxes = x })) (put_back t.outboxes p n) (timed_added w f1 t1 d1 p n (get_removed t.outboxes p) free mine g h)

  -- a request in the place of another one
  timed_put_request : (i : ℕ) (y z : Request) → get t.issued i ≡ Some y → z.message.id ≡ i → (g : ℕ → Option Time) → ((k : ℕ) → g k ≡ cond (i == k) (Some (z.due, None)) (cond (i == k) None (f k)))
      → AreTimed w g (record t { issued = insert t.issued i z })
  timed_put_request i y z there named g h =
      let f1 : ℕ → Option Time = λ k. cond (i == k) None (f k) in
      let t1 : Txns = record t { issued = remove t.issued i } in
      let d1 : AreTimed w f1 t1 = timed_ended w f t d a i y there f1 (λ k. refl) in
      subst (λ (x : Requests). AreTimed w g (record t { issued = x })) (put_back t.issued i z)
      (timed_issued w f1 t1 d1 i z named (λ q u e s. none_some t.issued u.head.id i y s (a.apart q u e).1.0 there) g h)

module _ (t : Txns) (a : AreApart t) (es : List Entry) (l : IsListed es t) where
  restored : (o : Outbox) (p k : ℕ) → get t.outboxes p ≡ Some o → (b : Bool) → (o.head.id == k) ≡ b → time_of k es ≡ cond b (Some (o.due, Some p)) (cond b None (time_of k es))
  restored o p k e true c = subst (λ j. time_of j es ≡ Some (o.due, Some p)) (same_id o.head.id k c) (l.1.heads p o e)
  restored o p k e false c = refl

  -- a message that waits behind the others
  pub listed_behind : (m : Message) → IsNew m.id t → (p : ℕ) (there : Option Outbox) → get t.outboxes p ≡ there → IsListed es (record t { outboxes = changed (behind m) p t.outboxes there })
  listed_behind m n p None e = l
  listed_behind m n p (Some o) e =
      let w : ℕ → ℕ = λ j. cond (m.id == j) p (l.0 j) in
      let f : ℕ → Option Time = λ k. time_of k es in
      let d : AreTimed w f t = timed_owner l.0 f t l.1 m.id p n.0 in
      (w, timed_put t a w f d p o (behind m o) e (a.apart p o e).1.0 (all-push (λ x. w x.id ≡ p) (messages o) m (d.owned p o e) (ap (λ b. cond b p (l.0 m.id)) (one_id m.id))) f (λ k. restored o p k e (o.head.id == k) refl))

  -- the last message that waits is taken out
  pub listed_lost : (m : Message) (p : ℕ) (os : Outboxes) → HasLost m p t.outboxes os → IsListed es (record t { outboxes = os })
  listed_lost m p os h =
      let o : Outbox = h.0 in
      let f : ℕ → Option Time = λ k. time_of k es in
      as_outboxes t es os _ es h.2 (
        l.0,
        timed_put t a l.0 f l.1 p (behind m o) o h.1 (a.apart p (behind m o) h.1).1.0 (all-front (λ x. l.0 x.id ≡ p) (messages o) m (l.1.owned p (behind m o) h.1)) f (λ k. restored (behind m o) p k h.1 (o.head.id == k) refl),
      )

  -- an outbox that is forgotten
  pub listed_removed : (p : ℕ) (o : Outbox) → get t.outboxes p ≡ Some o → (fs : List Entry) → ((k : ℕ) → time_of k fs ≡ cond (o.head.id == k) None (time_of k es))
      → IsListed fs (record t { outboxes = remove t.outboxes p })
  listed_removed p o e fs h = (l.0, timed_removed l.0 (λ k. time_of k es) t l.1 a p o e (λ k. time_of k fs) h)

  -- a request that ends
  pub listed_ended : (i : ℕ) (z : Request) → get t.issued i ≡ Some z → (fs : List Entry) → ((k : ℕ) → time_of k fs ≡ cond (i == k) None (time_of k es))
      → IsListed fs (record t { issued = remove t.issued i })
  listed_ended i z e fs h = (l.0, timed_ended l.0 (λ k. time_of k es) t l.1 a i z e (λ k. time_of k fs) h)

  -- a head is due
  pub head_some : (p : ℕ) (o : Outbox) → get t.outboxes p ≡ Some o → IsSome (time_of o.head.id es)
  head_some p o e = subst IsSome (sym (l.1.heads p o e)) refl

  pub request_some : (i : ℕ) (z : Request) → get t.issued i ≡ Some z → IsSome (time_of i es)
  request_some i z e = subst IsSome (sym (l.1.requests i z e).1) refl

  -- a head that is sent again
  pub listed_again : (now p : ℕ) (o : Outbox) → get t.outboxes p ≡ Some o → (fs : List Entry) → ((k : ℕ) → time_of k fs ≡ passed o.head.id (Some o.head.id) (due_after now, Some p) k (time_of k es))
      → IsListed fs (record t { outboxes = insert t.outboxes p (again_outbox now o) })
  listed_again now p o e fs h =
      (l.0, timed_put t a l.0 (λ k. time_of k es) l.1 p o (again_outbox now o) e (a.apart p o e).1.0 (l.1.owned p o e) (λ k. time_of k fs) h)

  pub listed_request_again : (now i : ℕ) (z : Request) → get t.issued i ≡ Some z → (fs : List Entry) → ((k : ℕ) → time_of k fs ≡ passed i (Some i) (due_after now, None) k (time_of k es))
      → IsListed fs (record t { issued = insert t.issued i (again_request now z) })
  listed_request_again now i z e fs h =
      (l.0, timed_put_request t a l.0 (λ k. time_of k es) l.1 i z (again_request now z) e (l.1.requests i z e).0 (λ k. time_of k fs) h)

  -- the message behind a head isn't due
  waiting_new : (p : ℕ) (o : Outbox) (m : Message) (ms : List Message) → get t.outboxes p ≡ Some o → AreDistinct (o.head ∷ m ∷ ms) × AllByRecursion (λ x. get t.issued x.id ≡ None) (o.head ∷ m ∷ ms)
      → AllByRecursion (λ x. l.0 x.id ≡ p) (o.head ∷ m ∷ ms) → time_of m.id es ≡ None
  waiting_new p o m ms e apart mine = untimed l.0 (λ k. time_of k es) t l.1 m.id (λ q u g s. nowhere q u g s) apart.1.1.0
    where
      nowhere : (q : ℕ) (u : Outbox) → get t.outboxes q ≡ Some u → u.head.id ≡ m.id → ⊥
      nowhere q u g s =
          let same : q ≡ p = sym (l.1.owned q u g).0 ∙ ap l.0 s ∙ mine.1.0 in
          apart.0.0.0 (sym s ∙ ap (λ (v : Outbox). v.head.id) (one_there t.outboxes q p u o same g e))

  -- the next message of an outbox is sent
  next_sent : (now p : ℕ) (o : Outbox) → get t.outboxes p ≡ Some o → (next : Option ℕ) → next ≡ option_map (λ u. u.head.id) (get (next_of now p t.outboxes (Some o)) p)
      → IfSome next (λ i. cond (o.head.id == i) None (time_of i es) ≡ None)
      × ((fs : List Entry) → ((k : ℕ) → time_of k fs ≡ passed o.head.id next (due_after now, Some p) k (time_of k es)) → IsListed fs (record t { outboxes = next_of now p t.outboxes (Some o) }))
  next_sent now p o e next x = by_waiting o.waiting (a.apart p o e) (l.1.owned p o e) x
    where
      skip : (i : ℕ) (b : Bool) → time_of i es ≡ None → cond b None (time_of i es) ≡ None
      skip i true n = refl
      skip i false n = n

      by_waiting : (ms : List Message) → AreDistinct (o.head ∷ ms) × AllByRecursion (λ m. get t.issued m.id ≡ None) (o.head ∷ ms) → AllByRecursion (λ m. l.0 m.id ≡ p) (o.head ∷ ms)
          → next ≡ option_map (λ u. u.head.id) (get (replaced p t.outboxes (elim ms [ [] ↦ None | m ∷ rest ↦ Some (opened now m rest) ])) p)
          → IfSome next (λ i. cond (o.head.id == i) None (time_of i es) ≡ None)
          × ((fs : List Entry) → ((k : ℕ) → time_of k fs ≡ passed o.head.id next (due_after now, Some p) k (time_of k es))
          → IsListed fs (record t { outboxes = replaced p t.outboxes (elim ms [ [] ↦ None | m ∷ rest ↦ Some (opened now m rest) ]) }))
      by_waiting [] apart mine y =
          let none : next ≡ None = y ∙ ap (option_map (λ (u : Outbox). u.head.id)) (get_removed t.outboxes p) in (
            subst (λ n. IfSome n (λ i. cond (o.head.id == i) None (time_of i es) ≡ None)) (sym none) tt,
            (λ fs h. listed_removed p o e fs (λ k. h k ∙ ap (λ n. passed o.head.id n (due_after now, Some p) k (time_of k es)) none)),
          )
      by_waiting (m ∷ rest) apart mine y =
          let some : next ≡ Some m.id = y ∙ ap (option_map (λ (u : Outbox). u.head.id)) (get_put t.outboxes p (opened now m rest)) in (
            subst (λ n. IfSome n (λ i. cond (o.head.id == i) None (time_of i es) ≡ None)) (sym some) (skip m.id (o.head.id == m.id) (waiting_new p o m rest e apart mine)),
            (λ fs h. (
              l.0,
              timed_put t a l.0 (λ k. time_of k es) l.1 p o (opened now m rest) e apart.1.1.0 mine.1 (λ k. time_of k fs)
                  (λ k. h k ∙ ap (λ n. passed o.head.id n (due_after now, Some p) k (time_of k es)) some),
            )),
          )

  -- a head ends
  pub head_passed : (now p : ℕ) (there : Option Outbox) → get t.outboxes p ≡ there → (h : Message) → Some h ≡ option_map (λ o. o.head) there
      → (next : Option ℕ) → next ≡ option_map (λ u. u.head.id) (get (next_of now p t.outboxes there) p)
      → IsSome (time_of h.id es) × IfSome next (λ i. cond (h.id == i) None (time_of i es) ≡ None)
      × ((fs : List Entry) → ((k : ℕ) → time_of k fs ≡ passed h.id next (due_after now, Some p) k (time_of k es)) → IsListed fs (record t { outboxes = next_of now p t.outboxes there }))
  head_passed now p None e h s next x = absurd (cc)
  head_passed now p (Some o) e h s next x =
      let same : o.head ≡ h = cc in
      let both = next_sent now p o e next x in
      subst (λ (m : Message). IsSome (time_of m.id es) × IfSome next (λ i. cond (m.id == i) None (time_of i es) ≡ None)
      × ((fs : List Entry) → ((k : ℕ) → time_of k fs ≡ passed m.id next (due_after now, Some p) k (time_of k es)) → IsListed fs (record t { outboxes = next_of now p t.outboxes (Some o) })))
      same (head_some p o e, both.0, both.1)

  once_passed : (i : ℕ) (o : Option Time) → cond (i == i) None o ≡ None
  once_passed i o = ap (λ b. cond b None o) (one_id i)

  -- a head is sent again
  pub head_repeated : (now p : ℕ) (there : Option Outbox) → get t.outboxes p ≡ there → (i : ℕ) → Some i ≡ option_map (λ o. o.head.id) (get (changed (again_outbox now) p t.outboxes there) p)
      → IsSome (time_of i es) × (cond (i == i) None (time_of i es) ≡ None)
      × ((fs : List Entry) → ((k : ℕ) → time_of k fs ≡ passed i (Some i) (due_after now, Some p) k (time_of k es)) → IsListed fs (record t { outboxes = changed (again_outbox now) p t.outboxes there }))
  head_repeated now p None e i s = let x : Some i ≡ None = s ∙ ap (option_map (λ (o : Outbox). o.head.id)) e in absurd (cc)
  head_repeated now p (Some o) e i s =
      let x : Some i ≡ Some o.head.id = s ∙ ap (option_map (λ (u : Outbox). u.head.id)) (get_put t.outboxes p (again_outbox now o)) in
      let same : o.head.id ≡ i = cc in
      subst (λ (j : ℕ). IsSome (time_of j es) × (cond (j == j) None (time_of j es) ≡ None)
      × ((fs : List Entry) → ((k : ℕ) → time_of k fs ≡ passed j (Some j) (due_after now, Some p) k (time_of k es)) → IsListed fs (record t { outboxes = insert t.outboxes p (again_outbox now o) })))
      same (head_some p o e, once_passed o.head.id (time_of o.head.id es), (λ fs h. listed_again now p o e fs h))

  -- no head is sent again
  pub head_missing : (now p : ℕ) (there : Option Outbox) → get t.outboxes p ≡ there → None ≡ option_map (λ o. o.head.id) (get (changed (again_outbox now) p t.outboxes there) p)
      → IsListed es (record t { outboxes = changed (again_outbox now) p t.outboxes there })
  head_missing now p None e s = l
  head_missing now p (Some o) e s = let x : None ≡ Some o.head.id = s ∙ ap (option_map (λ (u : Outbox). u.head.id)) (get_put t.outboxes p (again_outbox now o)) in absurd (cc)

  -- a request is sent again
  pub request_repeated : (now i : ℕ) (there : Option Request) → get t.issued i ≡ there → IsSome (get (changed (again_request now) i t.issued there) i)
      → IsSome (time_of i es) × (cond (i == i) None (time_of i es) ≡ None)
      × ((fs : List Entry) → ((k : ℕ) → time_of k fs ≡ passed i (Some i) (due_after now, None) k (time_of k es)) → IsListed fs (record t { issued = changed (again_request now) i t.issued there }))
  request_repeated now i None e s = let x : IsSome {T = Request} None = subst (λ (o : Option Request). IsSome o) e s in absurd (cc)
  request_repeated now i (Some z) e s = (request_some i z e, once_passed i (time_of i es), (λ fs h. listed_request_again now i z e fs h))

  -- no request is sent again
  pub request_missing : (now i : ℕ) (there : Option Request) → get t.issued i ≡ there → is_some (get (changed (again_request now) i t.issued there) i) ≡ false
      → IsListed es (record t { issued = changed (again_request now) i t.issued there })
  request_missing now i None e s = l
  request_missing now i (Some z) e s =
      let x : true ≡ false = sym (ap (λ (o : Option Request). is_some o) (get_put t.issued i (again_request now z))) ∙ s in absurd (cc)
