-- What a certificate of the stand-in says is read as it is spelled.
use Rattle.std.proofs.Common.{◌≡◌, ℕ, ◌+◌, ◌^◌, ◌<◌, ◌≤◌, Bool, true, false, cond, ◌&&◌, eqb, leb, List, [], length, Some, None, refl, sym, ap, subst, ◌∙◌, lit<, arith}
use Rattle.std.proofs.lemmas.Bool.{eqb-true, leb-true, le-leb}
use Rattle.std.proofs.lemmas.List.{append-nil}
use Rattle.wire_core.specs.declared.bad.Reason.TheVariants.{BadValue}
use Rattle.wire_core.specs.Part.{Part, part}
use Rattle.wire_core.specs.Spelling.{number, vector}
use Rattle.wire_core.specs.Reading.{rest_at}
use Rattle.wire_core.specs.Layout.{Follows, IsLayout}
use Rattle.wire_core.specs.Laws.Ids.{node_id_laid}
use Rattle.wire_core.specs.Laws.Steps.{Anything, Nothing, Always, Lays, laid, known, ok_is, seq, seq_fixed, done_laid, fits_as, spelled_as, placed, tested}
use Rattle.wire_core.specs.Laws.Words.{vector_laid, exact_laid, code_laid}
use Rattle.security_block.specs.declared.about.About.{About}
use Rattle.security_block.specs.declared.about.TheConstants.{MAX_USER}
use Rattle.security_block.specs.declared.stand_in.TheConstants.{VERSION}
use Rattle.security_block.specs.Signers.{IsNamed}
use Rattle.security_block.specs.StandIn.{role, role_of, claim, role_at, user_at, claim_at}

pub both : (a b : Bool) → (a && b) ≡ true → (a ≡ true) × (b ≡ true)
both true true e = (refl, refl)
both true false e = absurd cc
both false b e = absurd cc

pub and_true : {a b : Bool} → a ≡ true → b ≡ true → (a && b) ≡ true
and_true {a} {b} e f = ap (λ x. x && b) e ∙ f

-- a role's number stands for the role, and no other does
role-lt : (peer : Bool) → role peer < 256
unfolding role
role-lt true = lit< tt
role-lt false = lit< tt

role_of-role : (peer : Bool) → role_of (role peer) ≡ Some peer
unfolding role role_of
role_of-role true = refl
role_of-role false = refl

role-role_of : (code : ℕ) (peer : Bool) → role_of code ≡ Some peer → role peer ≡ code
unfolding role role_of
role-role_of code peer e =
    elim (eqb code 1) as (λ b. eqb code 1 ≡ b → cond b (Some true)
    (cond (eqb code 2) (Some false) None) ≡ Some peer → cond peer 1 2 ≡ code) [
      | true ↦ λ one f. let is : true ≡ peer = cc in ap (λ (p : Bool). cond p 1 2) (sym is)
          ∙ sym (eqb-true code 1 one)
      | false ↦ λ other f.
          elim (eqb code 2) as (λ b. eqb code 2 ≡ b → cond b (Some false) None ≡ Some peer
          → cond peer 1 2 ≡ code) [
            | true ↦ λ two g. let is : false ≡ peer = cc in ap (λ (p : Bool). cond p 1 2) (sym is)
                ∙ sym (eqb-true code 2 two)
            | false ↦ λ none g. absurd cc
          ] refl f
    ] refl e

abbrev IsName : List ℕ → Type 0
IsName user = (1 ≤ length user) × (length user ≤ MAX_USER)

same_about : (a b : About) → a.peer ≡ b.peer → a.node ≡ b.node → a.user ≡ b.user → a ≡ b
same_about a b e f g = λ i. record { peer = e i; node = f i; user = g i }

abbrev pub IsClaim : About → Type 0
IsClaim who = IsNamed who × (who.node.0 < 2 ^ 128)

module _ {n : ℕ} where
  -- all that is left of a part, whatever its numbers are
  left_laid : Lays n Nothing Always Always (λ bytes. bytes) rest_at
  left_laid = record {
    takes = λ p y q bytes ends e. subst
        (λ (r : List ℕ × Part). Unit {0} × Unit {0} × Follows p r.0 r.1)
        (ok_is (p.bytes, part (p.place + length p.bytes) []) (y, q) e)
        (tt, tt, record { bytes = sym (append-nil p.bytes); place = refl });
    again = λ place y rest ends k fits after. rw (after, append-nil) refl;
    within = λ p bad bytes ends e. absurd cc;
  }

  user_laid : Lays n Anything Always IsName (λ user. vector 1 user) user_at
  unfolding user_at
  user_laid =
      let law = placed {n = n} (λ place le. seq {Known = Always} {Fits = IsName} (λ user. user)
      (vector_laid 1 left_laid) (λ user _.
      tested (leb 1 (length user) && leb (length user) MAX_USER) place BadValue (λ _. le)
      (λ u k f. let e : u ≡ user = k.0 in
      subst (λ (v : List ℕ). (leb 1 (length v) && leb (length v) MAX_USER) ≡ true) e
      (and_true (le-leb 1 (length u) f.0) (le-leb (length u) MAX_USER f.1)))
      (λ ok. let t = both _ _ ok in
      fits_as IsName (done_laid user (refl, tt) (λ u k. k.0))
      (λ u k f. subst IsName (sym k.0)
      (leb-true 1 (length user) t.0, leb-true (length user) MAX_USER t.1)) (λ u k f. tt)))) in
      spelled_as (λ user. vector 1 user)
      (fits_as IsName law (λ u k f. f.1) (λ u k f. ((omega (arith, f.1), tt), f)))
      (λ u k f. append-nil (vector 1 u))

  claim_lays : Lays n Anything Always IsClaim claim claim_at
  unfolding claim claim_at role_at
  claim_lays =
      fits_as IsClaim (seq_fixed {Known = Always} (exact_laid 1 VERSION (lit< tt))
      (seq (λ who. who.peer)
      (code_laid 1 role role_of (λ peer. (role-lt peer, role_of-role peer)) role-role_of)
      (λ peer _.
      seq (λ who. who.node) (known node_id_laid)
      (λ node _. seq (λ who. who.user) user_laid (λ user _.
      done_laid (record { peer = peer; node = node; user = user }) (refl, (refl, (refl, tt)))
      (λ who k. same_about who _ k.1.1.0 k.1.0 k.0))))))
      (λ who k f. (f.1.1.0, f.1.0.1)) (λ who k f. (tt, ((tt, f.1), (f.0, tt))))

pub claim_laid : IsLayout IsClaim claim claim_at
claim_laid = laid (λ n. claim_lays {n = n})
