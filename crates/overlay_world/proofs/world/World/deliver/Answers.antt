use Rattle.std.specs.Prelude.{OnOk}
use Rattle.std.proofs.Common.{◌-◌, sym, ◌∙◌, ◌≡◌, [], ◌∷◌, ◌++◌, subst}
use Rattle.node_messages.specs.Signed.{words_of}
use Rattle.run_model.specs.declared.happening.Happening.TheVariants.{NoSuchFrame}
use Rattle.run_model.specs.declared.moves.Move.TheVariants.{Deliver}
use Rattle.run_model.specs.Moves.{flown_at, delivered}
use Rattle.run_model.specs.Stops.{IsNodeFull}
use Rattle.run_text.specs.Lines.{happened_text}
use Rattle.overlay_world.specs.Standings.{Standing, world_in}
use Rattle.overlay_world.specs.Sendings.{IsFullAt}
use Rattle.overlay_world.specs.Parts.{scene_of}
use Rattle.overlay_world.proofs.Standings.{sent_is}
use Rattle.overlay_world.proofs.Flown.{delivered_is, delivered_not, deliver_halts}
use Rattle.overlay_world.proofs.Goings.{goes_as, refusal_goes}
use Rattle.overlay_world.proofs.world.World.deliver.Goals as goal

pub returns-then-not-was_sent : goal.returns-then-not-was_sent
returns-then-not-was_sent g c =
    refusal_goes (delivered (words_of g.G.Signer.certificate_of g.G.Signer.signature_of g.G.Signer.about_of g.G.Signer.verifies c.args.signer.now) c.args.line c.args.k (world_in c.args.self.now (g.A.Air.view c.args.air.now))) (IsNodeFull (words_of g.G.Signer.certificate_of g.G.Signer.signature_of g.G.Signer.about_of g.G.Signer.verifies c.args.signer.now) (Deliver c.args.k) (world_in c.args.self.now (g.A.Air.view c.args.air.now))) c.args.self.now (g.A.Air.view c.args.air.now) c.args.out.now c.refused.new.out (NoSuchFrame c.args.line) c.refused.result
    (delivered_not (words_of g.G.Signer.certificate_of g.G.Signer.signature_of g.G.Signer.about_of g.G.Signer.verifies c.args.signer.now) c.args.line c.args.k (world_in c.args.self.now (g.A.Air.view c.args.air.now)) (sent_is c.args.k c.args.self.now (g.A.Air.view c.args.air.now) ∙ sym c.was_sent.ensures ∙ c.if-not-was_sent.true)) c.requires.sound (subst (λ (s : Standing). OnOk c.refused.result (c.refused.new.out ≡ c.args.out.now ++ happened_text s.names (NoSuchFrame c.args.line ∷ []))) c.self.view_is c.refused.ensures.told) c.refused.ensures.err

pub returns : goal.returns
returns g c =
    goes_as (flown_at (words_of g.G.Signer.certificate_of g.G.Signer.signature_of g.G.Signer.about_of g.G.Signer.verifies c.args.signer.now) (c.args.k - 1) (world_in c.args.self.now (g.A.Air.view c.args.air.now))) (delivered (words_of g.G.Signer.certificate_of g.G.Signer.signature_of g.G.Signer.about_of g.G.Signer.verifies c.args.signer.now) c.args.line c.args.k (world_in c.args.self.now (g.A.Air.view c.args.air.now))) (IsFullAt (c.args.k - 1) (world_in c.args.self.now (g.A.Air.view c.args.air.now))) (IsNodeFull (words_of g.G.Signer.certificate_of g.G.Signer.signature_of g.G.Signer.about_of g.G.Signer.verifies c.args.signer.now) (Deliver c.args.k) (world_in c.args.self.now (g.A.Air.view c.args.air.now))) (scene_of c.args.self.now (g.A.Air.view c.args.air.now) c.args.out.now) (scene_of c.fly.new.self (g.A.Air.view c.fly.new.air) c.fly.new.out) c.fly.result
    (sym (delivered_is (words_of g.G.Signer.certificate_of g.G.Signer.signature_of g.G.Signer.about_of g.G.Signer.verifies c.args.signer.now) c.args.line c.args.k (world_in c.args.self.now (g.A.Air.view c.args.air.now)) (sent_is c.args.k c.args.self.now (g.A.Air.view c.args.air.now) ∙ sym c.was_sent.ensures ∙ c.if-not-was_sent.false)))
    (λ e h. deliver_halts (words_of g.G.Signer.certificate_of g.G.Signer.signature_of g.G.Signer.about_of g.G.Signer.verifies c.args.signer.now) c.args.line c.args.k (world_in c.args.self.now (g.A.Air.view c.args.air.now)) (g.A.Air.view c.args.air.now) (g.A.Air.view c.fly.new.air) e (sent_is c.args.k c.args.self.now (g.A.Air.view c.args.air.now) ∙ sym c.was_sent.ensures ∙ c.if-not-was_sent.false) h) c.fly.ensures
