use Rattle.std.proofs.Common.{◌≡◌, ◌∙◌, ◌<◌, ◌^◌, [], ◌∷◌, ◌++◌, ap, sym, subst}
use Rattle.std.specs.List.{All}
use Rattle.std.proofs.lemmas.List.Elements.{All-push}
use Rattle.chord_tables.specs.Tables.{number}
use Rattle.peer_routing.specs.Best.{pointed, farthest_with, nearest_with}
use Rattle.peer_routing.proofs.Folds.{far_last, near_last, pointed_last, pointed_none}
use Rattle.peer_routing.proofs.best.Best.look_at_fingers.Goals as goal

pub loop-last-preserved-in-Some-last : goal.loop-last-preserved-in-Some-last
loop-last-preserved-in-Some-last c =
    let me = c.args.me.0 in
    let k = c.args.k in
    let x = c.in-Some-last.node.0 in
    let before = c.in-Some.before.now in
    let left : c.loop-last.left.now
    ≡ before ++ c.in-Some.last.now ∷ [] = c.in-Some.ensures.cases.0 in
    let whole : pointed before ++ x ∷ [] ≡ pointed c.loop-last.left.now =
    sym (ap pointed left ∙ ap (λ f. pointed (before ++ f ∷ [])) c.in-Some-last.is
    ∙ pointed_last before c.in-Some-last.node) in
    record {
      farthest = ap (farthest_with me k (pointed before)) c.look-best.ensures.farthest
          ∙ sym (far_last me k (pointed before) x (number c.loop-last.best.farthest))
          ∙ ap (λ l. farthest_with me k l (number c.loop-last.best.farthest)) whole
          ∙ c.loop-last.invariant.farthest;
      nearest = ap (nearest_with k (pointed before)) c.look-best.ensures.nearest
          ∙ sym (near_last k (pointed before) x (number c.loop-last.best.nearest))
          ∙ ap (λ l. nearest_with k l (number c.loop-last.best.nearest)) whole
          ∙ c.loop-last.invariant.nearest;
      fit =
          λ all. c.loop-last.invariant.fit (subst (All (λ y. y < 2 ^ 128)) whole
          (All-push (λ y. y < 2 ^ 128) (pointed before) x all c.look-best.ensures.fits));
    }

pub loop-last-preserved : goal.loop-last-preserved
loop-last-preserved c =
    let before = c.in-Some.before.now in
    let left : c.loop-last.left.now
    ≡ before ++ c.in-Some.last.now ∷ [] = c.in-Some.ensures.cases.0 in
    let whole : pointed before ≡ pointed c.loop-last.left.now =
    sym (ap pointed left ∙ ap (λ f. pointed (before ++ f ∷ [])) c.in_default-last.is
    ∙ pointed_none before) in
    record {
      farthest =
          ap (λ l. farthest_with c.args.me.0 c.args.k l (number c.loop-last.best.farthest)) whole
          ∙ c.loop-last.invariant.farthest;
      nearest =
          ap (λ l. nearest_with c.args.k l (number c.loop-last.best.nearest)) whole
          ∙ c.loop-last.invariant.nearest;
      fit = λ all. c.loop-last.invariant.fit (subst (All (λ y. y < 2 ^ 128)) whole all);
    }
