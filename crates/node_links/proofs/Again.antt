-- Messages that are sent again, one after the other.
use Rattle.std.proofs.Common.{◌≡◌, ℕ, suc, ◌+◌, ◌<◌, ◌≤◌, Bool, true, false, List, [], ◌∷◌, ◌++◌, length, drop, refl, ap, sym, subst, ◌∙◌, append_assoc, arith}
use Rattle.std.specs.Prelude.{Option, Some, None, IfSome, if◌then◌else◌}
use Rattle.std.specs.List.{filter_map, cons_option}
use Rattle.std.specs.Ordering.{nat_cmp}
use Rattle.std.specs.FinMap.{FinMap, empty}
use Rattle.std.specs.FinSet as set
use Rattle.std.proofs.Math.ListN.{get_or}
use Rattle.std.proofs.Math.Seq.{drop-cons}
use Rattle.std.specs.Option.{option_and_then, option_map}
use Rattle.std.proofs.lemmas.List.{append-nil, length-append}
use Rattle.reload_ids.specs.declared.NodeId.{NodeId}
use Rattle.wire_core.specs.declared.limits.TheConstants.{MAX_MESSAGE}
use Rattle.transaction_table.specs.declared.txn.Txn.{Txn}
use Rattle.transaction_table.specs.declared.txn.Outstanding.{Outstanding}
use Rattle.transaction_table.specs.declared.spot.Spot.{Spot}
use Rattle.transaction_table.specs.Sends.{is_over}
use Rattle.transaction_table.specs.Tables.{Txns, txn_at}
use Rattle.node_model.specs.Links.{Links, Sent, next_sequence, payload_to, with_sent}
use Rattle.node_model.specs.Nodes.{Node, Post, spelling_of, frames_of, links_after, frames_of_all, links_after_all}
use Rattle.node_model.specs.Clocks.{post_again, posts_again, node_clocked}
use Rattle.node_links.proofs.Framed.{few_frames}
use Rattle.node_links.proofs.Tables.{links_of}
use Rattle.node_links.specs.Kept.{node_of}
use Rattle.node_links.specs.Sendings.{posted}
use Rattle.node_links.specs.Small.{AreSmall}

frames_next : (links : Links) (o : Option Post) (ps : List Post) → frames_of_all links (cons_option o ps) ≡ frames_of links o ++ frames_of_all (links_after o links) ps
unfolding frames_of_all frames_of links_after
frames_next links None ps = refl
frames_next links (Some p) ps = refl

links_next : (links : Links) (o : Option Post) (ps : List Post) → links_after_all (cons_option o ps) links ≡ links_after_all ps (links_after o links)
unfolding links_after_all links_after
links_next links None ps = refl
links_next links (Some p) ps = refl

-- what is sent again of the transaction at a spot
abbrev pub again_at : Option ℕ → Txns → Spot → Option Post
again_at limit t s = option_and_then (post_again limit) (txn_at s t)

-- nothing is left
pub nothing_again : (limit : Option ℕ) (t : Txns) (links : Links) → (frames_of_all links (posts_again limit t []) ≡ []) × (links_after_all (posts_again limit t []) links ≡ links)
unfolding posts_again frames_of_all links_after_all
nothing_again limit t links = (refl, refl)

-- one of them, and the rest
pub frames_more : (limit : Option ℕ) (t : Txns) (links : Links) (s : Spot) (ss : List Spot)
    → frames_of_all links (posts_again limit t (s ∷ ss)) ≡ frames_of links (again_at limit t s) ++ frames_of_all (links_after (again_at limit t s) links) (posts_again limit t ss)
unfolding posts_again
frames_more limit t links s ss = frames_next links (again_at limit t s) (filter_map (again_at limit t) ss)

pub links_more : (limit : Option ℕ) (t : Txns) (links : Links) (s : Spot) (ss : List Spot)
    → links_after_all (posts_again limit t (s ∷ ss)) links ≡ links_after_all (posts_again limit t ss) (links_after (again_at limit t s) links)
unfolding posts_again
links_more limit t links s ss = links_next links (again_at limit t s) (filter_map (again_at limit t) ss)

-- no more frames leave than spots are given
few_posts : (links : Links) (ps : List Post) → length (frames_of_all links ps) ≤ length ps
unfolding frames_of_all
few_posts links [] = omega arith
few_posts links (p ∷ ps) =
    let rest = few_posts (links_after (Some p) links) ps in
    omega (arith, few_frames links (Some p), rest, length-append (frames_of links (Some p)) (frames_of_all (links_after (Some p) links) ps))

few_some : {X : Type 0} (o : Option X) (xs : List X) → length (cons_option o xs) ≤ length xs + 1
few_some None xs = omega arith
few_some (Some x) xs = omega arith

few_again : (limit : Option ℕ) (t : Txns) (ss : List Spot) → length (posts_again limit t ss) ≤ length ss
unfolding posts_again
few_again limit t [] = omega arith
few_again limit t (s ∷ ss) =
    let rest = few_again limit t ss in omega (arith, rest, few_some (again_at limit t s) (filter_map (again_at limit t) ss))

pub few_resent : (limit : Option ℕ) (t : Txns) (links : Links) (ss : List Spot) (fs : List Sent) (len : ℕ) → fs ≡ frames_of_all links (posts_again limit t ss) → len ≡ length fs → len ≤ length ss
few_resent limit t links ss fs len is count =
    omega (arith, ap length is, count, few_posts links (posts_again limit t ss), few_again limit t ss)

pub clocked : (n : Node) (posts : List Post) (links : Links) (fs : List Sent) (len : ℕ) → links ≡ links_after_all posts n.links → fs ≡ frames_of_all n.links posts → len ≡ length fs
    → node_of n.number n.about n.config links n.ids (n.inputs + 1) (n.frames + len) ≡ node_clocked posts n
unfolding node_clocked
clocked n posts links fs len after is count =
    ap (λ l. node_of n.number n.about n.config l n.ids (n.inputs + 1) (n.frames + len)) after
    ∙ ap (λ k. node_of n.number n.about n.config (links_after_all posts n.links) n.ids (n.inputs + 1) (n.frames + k)) (count ∙ ap length is)

-- ---- the transaction at one spot

if_some_map : {A B : Type 0} (f : A → B) (P : B → Type 0) (o : Option A) → IfSome (option_map f o) P → IfSome o (λ a. P (f a))
if_some_map f P None h = h
if_some_map f P (Some a) h = h

small_spelling : (bytes : List ℕ) → length bytes ≤ MAX_MESSAGE → IfSome (spelling_of bytes) (λ bs. length bs ≤ MAX_MESSAGE)
small_spelling [] le = tt
small_spelling (b ∷ bs) le = le

small_post : (b : Bool) (x : Txn Outstanding) → length x.message ≤ MAX_MESSAGE → (p : Post) → Some p ≡ (if b then None else Some (posted x.peer (spelling_of x.message)))
    → IfSome p.message (λ bs. length bs ≤ MAX_MESSAGE)
small_post true x le p e = absurd (cc)
small_post false x le p e =
    let same : p.message ≡ spelling_of x.message = ap (λ (o : Option Post). elim o [ None ↦ p.message | Some q ↦ q.message ]) e in
    subst (λ (m : Option (List ℕ)). IfSome m (λ bs. length bs ≤ MAX_MESSAGE)) (sym same) (small_spelling x.message le)

small_at : (limit : Option ℕ) (o : Option (Txn Outstanding)) → ((x : Txn Outstanding) → o ≡ Some x → length x.message ≤ MAX_MESSAGE) → (p : Post) → Some p ≡ option_and_then (post_again limit) o
    → IfSome p.message (λ bs. length bs ≤ MAX_MESSAGE)
small_at limit None small p e = absurd (cc)
small_at limit (Some x) small p e = small_post (is_over limit x.sends) x (small x refl) p e

-- nothing is sent again, or a message is
module _ {A B : Type 0} (to : A → NodeId) (message : A → Option B) (now : B → List ℕ) (limit : Option ℕ) (t : Txns) (s : Spot) (o : Option A)
    (is : option_map (λ a. posted (to a) (option_map now (message a))) o ≡ again_at limit t s) where
  pub none_again : None ≡ o → None ≡ again_at limit t s
  none_again e = ap (option_map (λ a. posted (to a) (option_map now (message a)))) e ∙ is

  pub some_again : (a : A) → Some a ≡ o → Some (posted (to a) (option_map now (message a))) ≡ again_at limit t s
  some_again a e = ap (option_map (λ x. posted (to x) (option_map now (message x)))) e ∙ is

  pub small_again : (a : A) → Some a ≡ o → AreSmall t → IfSome (message a) (λ m. length (now m) ≤ MAX_MESSAGE)
  small_again a e small =
      if_some_map now (λ bs. length bs ≤ MAX_MESSAGE) (message a)
      (small_at limit (txn_at s t) (small s) (posted (to a) (option_map now (message a))) (some_again a e))

pub none_leaves : (links : Links) (out : List Sent) (o : Option Post) → None ≡ o → (out ≡ out ++ frames_of links o) × (links ≡ links_after o links)
unfolding frames_of links_after
none_leaves links out o e =
    (sym (append-nil out) ∙ ap (λ p. out ++ frames_of links p) e, ap (λ p. links_after p links) e)

pub one_leaves : (links : Links) (to : NodeId) (m : Option (List ℕ)) (o : Option Post) → Some (posted to m) ≡ o → with_sent to.0 links ≡ links_after o links
unfolding links_after
one_leaves links to m o e = ap (λ p. links_after p links) e

-- one more of them was sent again
pub again_more : (limit : Option ℕ) (t : Txns) (links new : Links) (s : Spot) (ss rest : List Spot) (out more all : List Sent) (after : Links)
    → ss ≡ s ∷ rest → more ≡ out ++ frames_of links (again_at limit t s) → new ≡ links_after (again_at limit t s) links
    → out ++ frames_of_all links (posts_again limit t ss) ≡ all → links_after_all (posts_again limit t ss) links ≡ after
    → (more ++ frames_of_all new (posts_again limit t rest) ≡ all) × (links_after_all (posts_again limit t rest) new ≡ after)
again_more limit t links new s ss rest out more all after split sent used frames left = (
  ap (λ fs. fs ++ frames_of_all new (posts_again limit t rest)) sent
      ∙ ap (λ l. (out ++ frames_of links (again_at limit t s)) ++ frames_of_all l (posts_again limit t rest)) used
      ∙ append_assoc out (frames_of links (again_at limit t s)) (frames_of_all (links_after (again_at limit t s) links) (posts_again limit t rest))
      ∙ ap (λ fs. out ++ fs) (sym (frames_more limit t links s rest))
      ∙ ap (λ xs. out ++ frames_of_all links (posts_again limit t xs)) (sym split) ∙ frames,
  ap (links_after_all (posts_again limit t rest)) used ∙ sym (links_more limit t links s rest)
      ∙ ap (λ xs. links_after_all (posts_again limit t xs) links) (sym split) ∙ left,
)

-- all of them were
pub again_all : (limit : Option ℕ) (t : Txns) (links : Links) (ss : List Spot) (out all : List Sent) (after : Links)
    → ss ≡ [] → out ++ frames_of_all links (posts_again limit t ss) ≡ all → links_after_all (posts_again limit t ss) links ≡ after → (out ≡ all) × (links ≡ after)
again_all limit t links ss out all after none frames left =
    let nothing = nothing_again limit t links in (
      sym (append-nil out) ∙ ap (λ fs. out ++ fs) (sym nothing.0) ∙ ap (λ xs. out ++ frames_of_all links (posts_again limit t xs)) (sym none) ∙ frames,
      sym nothing.1 ∙ ap (λ xs. links_after_all (posts_again limit t xs) links) (sym none) ∙ left,
    )

-- the first of what is left, and the rest
pub split : (ss : List Spot) (i : ℕ) (d : Spot) → i < length ss → drop i ss ≡ get_or ss i d ∷ drop (i + 1) ss
split ss i d less = drop-cons ss i d less ∙ ap (λ n. get_or ss i d ∷ drop n ss) (suc_one i)
  where
    suc_one : (n : ℕ) → suc n ≡ n + 1
    suc_one n = omega arith

-- ---- what was heard makes no difference

abbrev Heard : Type 0
Heard = FinMap nat_cmp (set.FinSet nat_cmp)

frame_apart : (links : Links) (h : Heard) (p : Post) → frames_of (record links { heard = h }) (Some p) ≡ frames_of links (Some p)
unfolding frames_of payload_to next_sequence
frame_apart links h p = refl

link_apart : (links : Links) (h : Heard) (p : Post) → links_after (Some p) (record links { heard = h }) ≡ record (links_after (Some p) links) { heard = h }
unfolding links_after with_sent next_sequence
link_apart links h p = refl

link_heard : (links : Links) (p : Post) → (links_after (Some p) links).heard ≡ links.heard
unfolding links_after with_sent
link_heard links p = refl

frames_apart : (links : Links) (h : Heard) (ps : List Post) → frames_of_all (record links { heard = h }) ps ≡ frames_of_all links ps
unfolding frames_of_all
frames_apart links h [] = refl
frames_apart links h (p ∷ ps) =
    ap (λ fs. fs ++ frames_of_all (links_after (Some p) (record links { heard = h })) ps) (frame_apart links h p)
    ∙ ap (λ l. frames_of links (Some p) ++ frames_of_all l ps) (link_apart links h p)
    ∙ ap (λ fs. frames_of links (Some p) ++ fs) (frames_apart (links_after (Some p) links) h ps)

links_apart : (links : Links) (h : Heard) (ps : List Post) → links_after_all ps (record links { heard = h }) ≡ record (links_after_all ps links) { heard = h }
unfolding links_after_all
links_apart links h [] = refl
links_apart links h (p ∷ ps) =
    ap (links_after_all ps) (link_apart links h p) ∙ links_apart (links_after (Some p) links) h ps

links_heard : (links : Links) (ps : List Post) → (links_after_all ps links).heard ≡ links.heard
unfolding links_after_all
links_heard links [] = refl
links_heard links (p ∷ ps) = links_heard (links_after (Some p) links) ps ∙ link_heard links p

-- the frames that leave are those of the node's links
pub frames_alone : (links alone : Links) (ps : List Post) (fs : List Sent) → alone ≡ record links { heard = empty } → fs ≡ frames_of_all alone ps → fs ≡ frames_of_all links ps
frames_alone links alone ps fs e is = is ∙ ap (λ l. frames_of_all l ps) e ∙ frames_apart links empty ps

-- what was sent is put in the place of what was sent before
pub links_alone : (links alone : Links) (ps : List Post) (sent : FinMap nat_cmp ℕ) (heard : Heard) → alone ≡ record links { heard = empty } → sent ≡ (links_after_all ps alone).sent → heard ≡ links.heard
    → links_of sent heard ≡ links_after_all ps links
links_alone links alone ps sent heard e is same =
    let after : links_after_all ps alone ≡ record (links_after_all ps links) { heard = empty } = ap (links_after_all ps) e ∙ links_apart links empty ps in
    ap (λ s. links_of s heard) (is ∙ ap (λ (l : Links). l.sent) after)
    ∙ ap (λ h. links_of (links_after_all ps links).sent h) (same ∙ sym (links_heard links ps))
