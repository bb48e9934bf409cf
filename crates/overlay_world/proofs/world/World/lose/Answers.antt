use Rattle.std.proofs.Common.{◌≡◌, true, length, sym, subst, ◌∙◌, [], ◌∷◌, ◌++◌}
use Rattle.std.specs.Prelude.{OnOk, ◌==◌, ◌||◌, not, nat_lt}
use Rattle.run_model.specs.declared.happening.Happening.TheVariants.{NoSuchFrame}
use Rattle.run_model.specs.Moves.{lost}
use Rattle.run_text.specs.Lines.{happened_text}
use Rattle.overlay_world.specs.Codes.{standing_of}
use Rattle.overlay_world.specs.Standings.{Standing, world_in}
use Rattle.overlay_world.specs.Sendings.{IsNone}
use Rattle.overlay_world.specs.Parts.{scene_of, IsSound, Does}
use Rattle.overlay_world.proofs.Standings.{sent_is}
use Rattle.overlay_world.proofs.Flown.{lost_not}
use Rattle.overlay_world.proofs.Heard.{place_there, lost_does}
use Rattle.overlay_world.proofs.Goings.{refusal_goes}
use Rattle.overlay_world.proofs.world.World.lose.Goals as goal

pub returns-then-not-was_sent : goal.returns-then-not-was_sent
returns-then-not-was_sent c = λ air sound.
    refusal_goes (lost c.args.line c.args.k (world_in c.args.self.now air)) IsNone c.args.self.now air c.args.out.now c.refused.new.out (NoSuchFrame c.args.line) c.refused.result
    (lost_not c.args.line c.args.k (world_in c.args.self.now air) (sent_is c.args.k c.args.self.now air ∙ sym c.was_sent.ensures ∙ c.if-not-was_sent.true)) sound (subst (λ (s : Standing). OnOk c.refused.result (c.refused.new.out ≡ c.args.out.now ++ happened_text s.names (NoSuchFrame c.args.line ∷ []))) c.self.view_is c.refused.ensures.told) c.refused.ensures.err

pub lost-requires : goal.lost-requires
lost-requires c = place_there c.args.k (standing_of c.self.inside.clock c.self.inside.config c.self.inside.names c.self.inside.actors c.self.inside.failed c.self.inside.fates) (subst (λ (s : Standing). not ((c.args.k == 0) || nat_lt (length s.fates) c.args.k) ≡ true) (sym c.self.view_is) (sym c.was_sent.ensures ∙ c.if-not-was_sent.false))

pub returns : goal.returns
returns c = λ air sound.
    subst (λ (s : Standing). Does (lost c.args.line c.args.k (world_in s air)) (scene_of s air c.args.out.now) (scene_of (record (standing_of c.self.inside.clock c.self.inside.config c.self.inside.names c.self.inside.actors c.self.inside.failed c.self.inside.fates) { fates = c.lost.new.self }) air c.args.out.now)) c.self.view_is
    (lost_does c.args.line c.args.k (standing_of c.self.inside.clock c.self.inside.config c.self.inside.names c.self.inside.actors c.self.inside.failed c.self.inside.fates) air c.args.out.now c.lost.new.self (subst (λ (s : Standing). IsSound (scene_of s air c.args.out.now)) (sym c.self.view_is) sound) (subst (λ (s : Standing). not ((c.args.k == 0) || nat_lt (length s.fates) c.args.k) ≡ true) (sym c.self.view_is) (sym c.was_sent.ensures ∙ c.if-not-was_sent.false)) c.lost.ensures)
