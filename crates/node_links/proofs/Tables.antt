-- What becomes of the tables of links, and what is taken back.
use Rattle.std.proofs.Common.{◌≡◌, ℕ, Option, Some, None, sym, ap, ◌∙◌}
use Rattle.std.specs.Prelude.{is_some, unwrap_or, if◌then◌else◌}
use Rattle.std.specs.Ordering.{nat_cmp}
use Rattle.std.specs.Cmp.{nat_cmp_total}
use Rattle.std.specs.FinSet as set
use Rattle.std.specs.FinSet.{nat_cmp-IsAntisymmetric}
use Rattle.std.specs.FinMap.{FinMap, get, insert, remove}
use Rattle.ordered_tables.proofs.Finite.{get-insert_there, insert-insert, insert-same, remove-insert}
use Rattle.node_model.specs.Links.{Links, next_sequence, with_sent, with_heard}

-- what is put in the place of a value that was taken out
pub put_twice : {X : Type 0} (m one two : FinMap nat_cmp X) (k : ℕ) (e x y : X) → Some x ≡ get m k → one ≡ (if is_some (get m k) then insert m k e else m) → two ≡ (if is_some (get one k) then insert one k y else one) → two ≡ insert m k y
put_twice m one two k e x y is first second =
    let there : one ≡ insert m k e = first ∙ ap (λ o. if is_some o then insert m k e else m) (sym is) in
    second ∙ ap (λ n. if is_some (get n k) then insert n k y else n) there
    ∙ ap (λ o. if is_some o then insert (insert m k e) k y else insert m k e) (get-insert_there nat_cmp_total m k e)
    ∙ insert-insert nat_cmp_total nat_cmp-IsAntisymmetric m k e y

pub put_again : {X : Type 0} (m two : FinMap nat_cmp X) (k : ℕ) (x : X) → Some x ≡ get m k → two ≡ insert m k x → two ≡ m
put_again m two k x is e = e ∙ insert-same nat_cmp_total nat_cmp-IsAntisymmetric m k x (sym is)

abbrev pub links_of : FinMap nat_cmp ℕ → FinMap nat_cmp (set.FinSet nat_cmp) → Links
links_of sent heard = record { sent = sent; heard = heard }

same_links : (a b : Links) → a.sent ≡ b.sent → a.heard ≡ b.heard → a ≡ b
same_links a b sent heard = ap (λ s. links_of s a.heard) sent ∙ ap (λ h. links_of b.sent h) heard

-- ---- the last sequence to a node is put back

module _ (links old : Links) (to : ℕ) (is : old ≡ with_sent to links) where
  given : old.sent ≡ insert links.sent to (next_sequence links to)
  unfolding with_sent
  given = ap (λ (l : Links). l.sent) is

  left : old.heard ≡ links.heard
  unfolding with_sent
  left = ap (λ (l : Links). l.heard) is

  pub last_again : (last : ℕ) (sent : FinMap nat_cmp ℕ) → Some last ≡ get links.sent to → sent ≡ (if is_some (get old.sent to) then insert old.sent to last else old.sent) → links_of sent old.heard ≡ links
  last_again last sent at put =
      let next = next_sequence links to in
      same_links (links_of sent old.heard) links
      (put ∙ ap (λ n. if is_some (get n to) then insert n to last else n) given
      ∙ ap (λ o. if is_some o then insert (insert links.sent to next) to last else insert links.sent to next) (get-insert_there nat_cmp_total links.sent to next)
      ∙ insert-insert nat_cmp_total nat_cmp-IsAntisymmetric links.sent to next last
      ∙ insert-same nat_cmp_total nat_cmp-IsAntisymmetric links.sent to last (sym at))
      left

  pub none_again : (sent : FinMap nat_cmp ℕ) → None ≡ get links.sent to → sent ≡ remove old.sent to → links_of sent old.heard ≡ links
  none_again sent at put =
      same_links (links_of sent old.heard) links
      (put ∙ ap (λ n. remove n to) given ∙ remove-insert nat_cmp_total nat_cmp-IsAntisymmetric links.sent to (next_sequence links to) (sym at))
      left

-- ---- a payload more was heard from a node

-- what was heard from a node, where something was, and where nothing was
pub heard_there : (links : Links) (from sequence : ℕ) (x : set.FinSet nat_cmp) → Some x ≡ get links.heard from
    → links_of links.sent (insert links.heard from (set.insert x sequence)) ≡ with_heard from sequence links
unfolding with_heard
heard_there links from sequence x is =
    ap (λ (o : Option (set.FinSet nat_cmp)). links_of links.sent (insert links.heard from (set.insert (unwrap_or o set.empty) sequence))) is

pub heard_first : (links : Links) (from sequence : ℕ) → None ≡ get links.heard from
    → links_of links.sent (insert links.heard from (set.insert set.empty sequence)) ≡ with_heard from sequence links
unfolding with_heard
heard_first links from sequence is =
    ap (λ (o : Option (set.FinSet nat_cmp)). links_of links.sent (insert links.heard from (set.insert (unwrap_or o set.empty) sequence))) is
