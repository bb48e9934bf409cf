use Rattle.std.proofs.Common.{◌≡◌, ◌∙◌, ◌<◌, ◌^◌, [], ◌∷◌, ◌++◌, ap, sym, subst}
use Rattle.std.specs.List.{All}
use Rattle.std.proofs.lemmas.List.Elements.{All-push}
use Rattle.chord_tables.specs.Tables.{ids, number}
use Rattle.peer_routing.specs.Best.{farthest_with, nearest_with}
use Rattle.peer_routing.proofs.Folds.{far_last, near_last, ids_last}
use Rattle.peer_routing.proofs.best.Best.look_at.Goals as goal

pub loop-last-preserved : goal.loop-last-preserved
loop-last-preserved c =
    let me = c.args.me.0 in
    let k = c.args.k in
    let x = c.in-Some.last.now.0 in
    let before = c.in-Some.before.now in
    let whole : ids before ++ x ∷ []
    ≡ ids c.loop-last.left.now =
    sym (ap ids c.in-Some.ensures.cases.0 ∙ ids_last before c.in-Some.last.now) in
    record {
      farthest = ap (farthest_with me k (ids before)) c.look-best.ensures.farthest
          ∙ sym (far_last me k (ids before) x (number c.loop-last.best.farthest))
          ∙ ap (λ l. farthest_with me k l (number c.loop-last.best.farthest)) whole
          ∙ c.loop-last.invariant.farthest;
      nearest = ap (nearest_with k (ids before)) c.look-best.ensures.nearest
          ∙ sym (near_last k (ids before) x (number c.loop-last.best.nearest))
          ∙ ap (λ l. nearest_with k l (number c.loop-last.best.nearest)) whole
          ∙ c.loop-last.invariant.nearest;
      fit =
          λ all. c.loop-last.invariant.fit (subst (All (λ y. y < 2 ^ 128)) whole
          (All-push (λ y. y < 2 ^ 128) (ids before) x all c.look-best.ensures.fits));
    }
