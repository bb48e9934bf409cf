-- The decisions of a ring whose tables don't change are those of one map.
use Rattle.std.proofs.Common.{◌≡◌, ◌≢◌, ℕ, ◌⊎◌, inl, inr, ◌++◌, List, [], ◌∷◌, map, true, Some, refl, sym, ap, ◌∙◌, subst, ⊎_elim}
use Rattle.std.specs.List.{filter_map}
use Rattle.std.specs.Ordering.{nat_cmp}
use Rattle.std.specs.Cmp.{nat_cmp_total}
use Rattle.std.specs.FinMap.{FinMap, get, insert, get-insert}
use Rattle.std.proofs.lemmas.Bool.{cases_eq, cond-true, cond-false}
use Rattle.reload_ids.specs.declared.NodeId.{NodeId}
use Rattle.reload_ids.specs.declared.ResourceId.{ResourceId}
use Rattle.chord_tables.specs.Tables.{Tables, owns}
use Rattle.data_models.specs.declared.config.Config.{Config}
use Rattle.node_messages.specs.Signed.{SignerWords}
use Rattle.storage_model.specs.Records.{Record, Map, record_in}
use Rattle.storage_model.specs.Decisions.{Decision, Effect, effect_of, effect_on, changed, map_after, IsLegalFrom}
use Rattle.storage_model.specs.Laws.{map_from}
use Rattle.storage_model.specs.declared.request.Asked.{Asked}
use Rattle.storage_model.proofs.Truths.{key_same, key_other}
use Rattle.storage_model.proofs.Effects.{after, record_in-same, record_in-other}
use Rattle.node_model.specs.declared.notice.Notice.{Notice}
use Rattle.node_model.specs.declared.notice.Notice.TheVariants as notices
use Rattle.node_model.specs.Nodes.{Step, Cause}
use Rattle.node_model.specs.Peers.{Peer, peer_step, effect_at}
use Rattle.node_model.specs.Clients.{Client, client_step}
use Rattle.run_model.specs.declared.flight.Flight.{Flight}
use Rattle.run_model.specs.declared.happening.Happening.{Happening}
use Rattle.run_model.specs.declared.happening.Happening.TheVariants.{Tells}
use Rattle.run_model.specs.Worlds.{World, Actor, APeer, AClient, Done, quiet, acts, after_step}
use Rattle.run_model.specs.Runs.{decision_in}
use Rattle.overlay_laws.proofs.Deeds.{Deed, Silent, Decides, acts_peer}
use Rattle.overlay_laws.proofs.Tellings.{TellsAnswers, Nothing, Answer, Ends, tells_client}

-- the decisions among what happened
abbrev pub decided : Config → List Happening → List Decision
decided config hs = filter_map (decision_in config) hs

-- each peer's record of what it owns is that of the one map, each id has one owner, and all have
-- the world's configuration
pub record Holds (m : Map) (w : World) : Type 0 where
  pub same : (n : ℕ) (p : Peer) → get w.actors n ≡ Some (APeer p)
      → (r : ℕ) → owns p.tables r ≡ true → record_in p.records r ≡ record_in m r
  pub one : (n k : ℕ) (p q : Peer) → get w.actors n ≡ Some (APeer p) → get w.actors k ≡ Some (APeer q)
      → (r : ℕ) → owns p.tables r ≡ true → owns q.tables r ≡ true → n ≡ k
  pub config : (n : ℕ) (p : Peer) → get w.actors n ≡ Some (APeer p) → p.node.config ≡ w.config

-- a part of an event keeps that, and its decisions are those of the one map
pub record Goes (m : Map) (w : World) (d : Done) : Type 0 where
  pub holds : Holds (map_from m (decided w.config d.happened)) d.world
  pub config : d.world.config ≡ w.config
  pub legal : (later : List Decision)
      → IsLegalFrom (map_from m (decided w.config d.happened)) later
      → IsLegalFrom m (decided w.config d.happened ++ later)

-- ---- parts that no node has a part in

before : (w v : World) → v.actors ≡ w.actors → (n : ℕ) (p : Peer) → get v.actors n ≡ Some (APeer p) → get w.actors n ≡ Some (APeer p)
before w v actors n p e = subst (λ (a : FinMap nat_cmp Actor). get a n ≡ Some (APeer p)) actors e

pub holds_still : (m : Map) (w v : World) → v.actors ≡ w.actors → v.config ≡ w.config → Holds m w → Holds m v
holds_still m w v actors config h = record {
  same = λ n p e r own. h.same n p (before w v actors n p e) r own;
  one = λ n k p q e d r own also. h.one n k p q (before w v actors n p e) (before w v actors k q d) r own also;
  config = λ n p e. h.config n p (before w v actors n p e) ∙ sym config;
}

pub goes_on : (m : Map) (w v : World) → v.actors ≡ w.actors → v.config ≡ w.config → Holds m w → Goes m w (quiet v)
unfolding map_from
goes_on m w v actors config h = record { holds = holds_still m w v actors config h; config = config; legal = λ later l. l }

-- ---- a step of a peer

-- what stands at a number once another peer stands at one
pub found : (actors : FinMap nat_cmp Actor) (n : ℕ) (x : Peer) (k : ℕ) (q : Peer) → get (insert actors n (APeer x)) k ≡ Some (APeer q)
    → ((k ≡ n) × (q ≡ x)) ⊎ ((k ≢ n) × (get actors k ≡ Some (APeer q)))
found actors n x k q e =
    ⊎_elim
    (λ (s : k ≡ n).
    let at : get (insert actors n (APeer x)) k ≡ Some (APeer x) = subst (λ i. get (insert actors n (APeer x)) i ≡ Some (APeer x)) (sym s) (get-insert nat_cmp_total actors n (APeer x) n ∙ cond-true _ _ _ (key_same n)) in
    let same : q ≡ x = cc in
    inl (s, same))
    (λ (o : k ≢ n). inr (o, sym (get-insert nat_cmp_total actors n (APeer x) k ∙ cond-false _ _ _ (key_other k n o)) ∙ e))
    (cases_eq k n)

-- a peer with the tables of another one stood at a number
record Stood (actors : FinMap nat_cmp Actor) (k : ℕ) (q : Peer) : Type 0 where
  peer : Peer
  there : get actors k ≡ Some (APeer peer)
  tables : q.tables ≡ peer.tables

stood : (actors : FinMap nat_cmp Actor) (n : ℕ) (p x : Peer) → get actors n ≡ Some (APeer p) → x.tables ≡ p.tables → (k : ℕ) (q : Peer) → get (insert actors n (APeer x)) k ≡ Some (APeer q) → Stood actors k q
stood actors n p x at tables k q e =
    ⊎_elim
    (λ (f : (k ≡ n) × (q ≡ x)). record { peer = p; there = subst (λ i. get actors i ≡ Some (APeer p)) (sym f.0) at; tables = ap (λ (y : Peer). y.tables) f.1 ∙ tables })
    (λ (f : (k ≢ n) × (get actors k ≡ Some (APeer q))). record { peer = q; there = f.1; tables = refl })
    (found actors n x k q e)

-- a peer with the same tables stands in the place of another one
holds_with : (m after_ : Map) (w : World) (n : ℕ) (p x : Peer) (flights : List Flight) → Holds m w → get w.actors n ≡ Some (APeer p)
    → x.tables ≡ p.tables → x.node.config ≡ p.node.config
    → ((r : ℕ) → owns p.tables r ≡ true → record_in x.records r ≡ record_in after_ r)
    → ((r : ℕ) → (owns p.tables r ≡ true → ⊥) → record_in after_ r ≡ record_in m r)
    → Holds after_ (record w { actors = insert w.actors n (APeer x); flights = flights })
holds_with m after_ w n p x flights h at tables config mine others = record {
  same = λ k q e r own.
      ⊎_elim
      (λ (f : (k ≡ n) × (q ≡ x)).
      let here : owns p.tables r ≡ true = subst (λ (t : Tables). owns t r ≡ true) (ap (λ (y : Peer). y.tables) f.1 ∙ tables) own in
      ap (λ (y : Peer). record_in y.records r) f.1 ∙ mine r here)
      (λ (f : (k ≢ n) × (get w.actors k ≡ Some (APeer q))). h.same k q f.1 r own ∙ sym (others r (λ o. f.0 (h.one k n q p f.1 at r own o))))
      (found w.actors n x k q e);
  one = λ k j q y e d r own also.
      let a = stood w.actors n p x at tables k q e in
      let b = stood w.actors n p x at tables j y d in
      h.one k j a.peer b.peer a.there b.there r (subst (λ (t : Tables). owns t r ≡ true) a.tables own) (subst (λ (t : Tables). owns t r ≡ true) b.tables also);
  config = λ k q e.
      ⊎_elim
      (λ (f : (k ≡ n) × (q ≡ x)). ap (λ (y : Peer). y.node.config) f.1 ∙ config ∙ h.config n p at)
      (λ (f : (k ≢ n) × (get w.actors k ≡ Some (APeer q))). h.config k q f.1)
      (found w.actors n x k q e);
}

-- what is made of a request is the same under the same configuration and record
same_effect : (c d : Config) (now resource : ℕ) (x y : Record) (origin : NodeId) (id : ℕ) (q : Asked) → c ≡ d → x ≡ y → effect_of c now resource x origin id q ≡ effect_of d now resource y origin id q
same_effect c d now resource x y origin id q e f = ap (λ (c : Config). effect_of c now resource x origin id q) e ∙ ap (λ (x : Record). effect_of d now resource x origin id q) f

-- the decision that a peer tells
abbrev pub told_decision : Config → ℕ → ℕ → ResourceId → NodeId → ℕ → Asked → Effect → Decision
told_decision config n now r origin id q e = record { peer = n; time = now; config = config; resource = r.0; origin = origin; id = id; asked = q; answer = e.answer }

pub decided_one : (config : Config) (n now : ℕ) (r : ResourceId) (origin : NodeId) (id : ℕ) (q : Asked) (e : Effect) (told : List Notice)
    → told ≡ notices.Decision now r origin id q e.answer e.acted ∷ [] → decided config (map (Tells n) told) ≡ told_decision config n now r origin id q e ∷ []
decided_one config n now r origin id q e told is = rw is refl

pub decided_none : (config : Config) (n : ℕ) (told : List Notice) → told ≡ [] → decided config (map (Tells n) told) ≡ []
decided_none config n told is = rw is refl

-- the map after one decision, and what is legal then
abbrev GoesBy : Map → World → World → List Decision → Type 0
GoesBy m w v ds = Holds (map_from m ds) v × ((later : List Decision) → IsLegalFrom (map_from m ds) later → IsLegalFrom m (ds ++ later))

goes_none : (m : Map) (w v : World) → Holds m v → GoesBy m w v []
unfolding map_from
goes_none m w v h = (h, λ later l. l)

goes_one : (m : Map) (w v : World) (d : Decision) → Holds (map_after m d) v → d.answer ≡ (effect_on m d).answer → GoesBy m w v (d ∷ [])
unfolding map_from IsLegalFrom
goes_one m w v d h is = (h, λ later l. (is, l))

record_changed : (m : Map) (p x : Peer) (r : ResourceId) (own e : Effect) → x.records ≡ changed p.records r.0 own.next → own ≡ e → record_in p.records r.0 ≡ record_in m r.0
    → (q : ℕ) → (q ≢ r.0 → record_in p.records q ≡ record_in m q) → record_in x.records q ≡ record_in (changed m r.0 e.next) q
record_changed m p x r own e is same at q other =
    ap (λ (records : Map). record_in records q) (is ∙ ap (λ (f : Effect). changed p.records r.0 f.next) same)
    ∙ ⊎_elim
    (λ (here : q ≡ r.0). subst (λ i. record_in (changed p.records r.0 e.next) i ≡ record_in (changed m r.0 e.next) i) (sym here)
    (record_in-same p.records r.0 e.next ∙ ap (λ (y : Record). after y e.next) at ∙ sym (record_in-same m r.0 e.next)))
    (λ (off : q ≢ r.0). record_in-other p.records r.0 e.next q off ∙ other off ∙ sym (record_in-other m r.0 e.next q off))
    (cases_eq q r.0)

goes_deed : (m : Map) (w : World) (n : ℕ) (p x : Peer) (told : List Notice) (flights : List Flight) → Holds m w → get w.actors n ≡ Some (APeer p)
    → x.tables ≡ p.tables → x.node.config ≡ p.node.config → Deed w.clock p (record { peer = x; posts = []; notices = told })
    → GoesBy m w (record w { actors = insert w.actors n (APeer x); flights = flights }) (decided w.config (map (Tells n) told))
goes_deed m w n p x told flights h at tables config (Silent still records nothing) =
    subst (GoesBy m w (record w { actors = insert w.actors n (APeer x); flights = flights })) (sym (decided_none w.config n told nothing))
    (goes_none m w _ (holds_with m m w n p x flights h at tables config (λ r own. ap (λ (y : Map). record_in y r) records ∙ h.same n p at r own) (λ r not_. refl)))
goes_deed m w n p x told flights h at tables config (Decides r origin id q still own records one) =
    let e : Effect = effect_at p w.clock r origin id q in
    let d : Decision = told_decision w.config n w.clock r origin id q e in
    let same : e ≡ effect_on m d = same_effect p.node.config w.config w.clock r.0 (record_in p.records r.0) (record_in m r.0) origin id q (h.config n p at) (h.same n p at r.0 own) in
    subst (GoesBy m w (record w { actors = insert w.actors n (APeer x); flights = flights })) (sym (decided_one w.config n w.clock r origin id q e told one))
    (goes_one m w _ d
    (holds_with m (map_after m d) w n p x flights h at tables config
    (λ k mine. record_changed m p x r e (effect_on m d) records same (h.same n p at r.0 own) k (λ off. h.same n p at k mine))
    (λ k not_. record_in-other m r.0 (effect_on m d).next k (λ (is : k ≡ r.0). not_ (subst (λ i. owns p.tables i ≡ true) (sym is) own))))
    (ap (λ (f : Effect). f.answer) same))

pub goes_peer : (words : SignerWords) (cause : Cause) (m : Map) (w : World) (n : ℕ) (p : Peer) → Holds m w → get w.actors n ≡ Some (APeer p) → Goes m w (after_step n w (acts words w.clock cause (APeer p)))
unfolding after_step
goes_peer words cause m w n p h at =
    let a = acts_peer words w.clock cause p in
    let s : Step Peer = peer_step words w.clock cause p in
    let g = goes_deed m w n p s.node s.outputs.notices _ h at a.tables a.config a.deed in
    record { holds = g.0; config = refl; legal = g.1 }

-- ---- a step of a client, and refusals

clash : (x : Client) (q : Peer) → Some (AClient x) ≡ Some (APeer q) → ⊥
clash x q e = cc

-- a peer that stands at a number once a client stands at one stood there before
pub other_found : (actors : FinMap nat_cmp Actor) (n : ℕ) (x : Client) (k : ℕ) (q : Peer) → get (insert actors n (AClient x)) k ≡ Some (APeer q) → get actors k ≡ Some (APeer q)
other_found actors n x k q e =
    ⊎_elim
    (λ (s : k ≡ n).
    let here : get (insert actors n (AClient x)) k ≡ Some (AClient x) = subst (λ i. get (insert actors n (AClient x)) i ≡ Some (AClient x)) (sym s) (get-insert nat_cmp_total actors n (AClient x) n ∙ cond-true _ _ _ (key_same n)) in
    absurd (clash x q (sym here ∙ e)))
    (λ (o : k ≢ n). sym (get-insert nat_cmp_total actors n (AClient x) k ∙ cond-false _ _ _ (key_other k n o)) ∙ e)
    (cases_eq k n)

decided_ends : (config : Config) (n : ℕ) (ids : List ℕ) → decided config (map (Tells n) (map notices.TimedOut ids)) ≡ []
decided_ends config n [] = refl
decided_ends config n (id ∷ ids) = decided_ends config n ids

pub decided_answers : (config : Config) (n : ℕ) (told : List Notice) → TellsAnswers told → decided config (map (Tells n) told) ≡ []
decided_answers config n told (Nothing is) = rw is refl
decided_answers config n told (Answer id what is) = rw is refl
decided_answers config n told (Ends ids is) = rw is (decided_ends config n ids)

pub goes_client : (words : SignerWords) (cause : Cause) (m : Map) (w : World) (n : ℕ) (c : Client) → Holds m w → Goes m w (after_step n w (acts words w.clock cause (AClient c)))
unfolding after_step
goes_client words cause m w n c h =
    let s : Step Client = client_step words w.clock cause c in
    let v : World = (after_step n w (acts words w.clock cause (AClient c))).world in
    let kept : Holds m v = record {
      same = λ k q e r own. h.same k q (other_found w.actors n s.node k q e) r own;
      one = λ k j p q e d r own also. h.one k j p q (other_found w.actors n s.node k p e) (other_found w.actors n s.node j q d) r own also;
      config = λ k q e. h.config k q (other_found w.actors n s.node k q e);
    } in
    let g = subst (GoesBy m w v) (sym (decided_answers w.config n s.outputs.notices (tells_client words w.clock cause c))) (goes_none m w v kept) in
    record { holds = g.0; config = refl; legal = g.1 }
