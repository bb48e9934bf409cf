use Rattle.std.proofs.Common.{◌≡◌, ap, sym, subst, refl, ◌∙◌, Some, IfErr}
use Rattle.std.specs.FinMap as map
use Rattle.node_messages.specs.Signed.{words_of}
use Rattle.node_model.specs.Nodes.{cause_of}
use Rattle.ordered_tables.proofs.Places.{read_there, written_rises, written_there, get_gap}
use Rattle.run_model.specs.Worlds.{Actor, acts}
use Rattle.run_model.specs.Stops.{load_of}
use Rattle.overlay_world.specs.Sendings.{IsUnheard}
use Rattle.overlay_world.proofs.Nodes.{numbers_written, there, absent, put_there, put_nowhere, handed_on}
use Rattle.overlay_world.proofs.actors.Actors.handle.Goals as goal

pub invariant_of-self : goal.invariant_of-self
invariant_of-self g c = (
  written_rises c.self.inside.rows.items c.from.result c.in-Ok.place c.index_mut.result.now c.self.invariant.0 c.in-Ok.ensures.0 c.in-Ok.ensures.1 c.index_mut.ensures.value c.handled.new.actor,
  numbers_written c.self.inside.rows.items c.in-Ok.place c.index_mut.result.now c.handled.new.actor c.in-Ok.ensures.0 c.index_mut.ensures.value c.self.invariant.1,
)

pub returns-in_err-handled-in-Ok-clause-unheard : goal.returns-in_err-handled-in-Ok-clause-unheard
returns-in_err-handled-in-Ok-clause-unheard g c =
    let key : c.from.result ≡ c.args.number = cc in
    let read =
    read_there c.self.inside.rows.items c.from.result c.in-Ok.place c.index_mut.result.now c.self.invariant.0 c.in-Ok.ensures.0 c.in-Ok.ensures.1 c.index_mut.ensures.value
    ∙ ap (λ m. map.get m c.from.result) c.self.view_is
    ∙ ap (map.get c.args.self.now) key in
    subst (λ o. IfErr c.from_residual.result (IsUnheard c.args.number (load_of o))) read
    (handed_on c.from_residual.result c.in_err-handled-in-Ok.field-0.0 (IsUnheard c.args.number (load_of (Some c.index_mut.result.now.1)))
    c.from_residual.ensures.1 c.in_err-handled-in-Ok.ensures.unheard)

pub invariant_of-self-in-Ok : goal.invariant_of-self-in-Ok
invariant_of-self-in-Ok g c = (
  written_rises c.self.inside.rows.items c.from.result c.in-Ok.place c.index_mut.result.now c.self.invariant.0 c.in-Ok.ensures.0 c.in-Ok.ensures.1 c.index_mut.ensures.value c.handled.new.actor,
  numbers_written c.self.inside.rows.items c.in-Ok.place c.index_mut.result.now c.handled.new.actor c.in-Ok.ensures.0 c.index_mut.ensures.value c.self.invariant.1,
)

pub returns-in_ok-handled-in-Ok-clause-outputs : goal.returns-in_ok-handled-in-Ok-clause-outputs
returns-in_ok-handled-in-Ok-clause-outputs g c =
    let words = words_of g.G.Signer.certificate_of g.G.Signer.signature_of g.G.Signer.about_of g.G.Signer.verifies c.args.signer.now in
    let key : c.from.result ≡ c.args.number = cc in
    let read =
    read_there c.self.inside.rows.items c.from.result c.in-Ok.place c.index_mut.result.now c.self.invariant.0 c.in-Ok.ensures.0 c.in-Ok.ensures.1 c.index_mut.ensures.value
    ∙ ap (λ m. map.get m c.from.result) c.self.view_is
    ∙ ap (map.get c.args.self.now) key in
    there c.args.number c.args.self.now (λ (a : Actor). (acts words c.args.now (cause_of c.args.input) a).outputs) c.index_mut.result.now.1 _ read c.in_ok-handled-in-Ok.ensures.outputs

pub returns-in_ok-handled-in-Ok-clause-actors : goal.returns-in_ok-handled-in-Ok-clause-actors
returns-in_ok-handled-in-Ok-clause-actors g c =
    let words = words_of g.G.Signer.certificate_of g.G.Signer.signature_of g.G.Signer.about_of g.G.Signer.verifies c.args.signer.now in
    let key : c.from.result ≡ c.args.number = cc in
    let read =
    read_there c.self.inside.rows.items c.from.result c.in-Ok.place c.index_mut.result.now c.self.invariant.0 c.in-Ok.ensures.0 c.in-Ok.ensures.1 c.index_mut.ensures.value
    ∙ ap (λ m. map.get m c.from.result) c.self.view_is
    ∙ ap (map.get c.args.self.now) key in
    let written =
    written_there c.self.inside.rows.items c.from.result c.in-Ok.place c.index_mut.result.now c.self.invariant.0 c.in-Ok.ensures.0 c.in-Ok.ensures.1 c.index_mut.ensures.value c.handled.new.actor
    ∙ ap (λ m. map.insert m c.from.result c.handled.new.actor) c.self.view_is
    ∙ ap (λ k. map.insert c.args.self.now k c.handled.new.actor) key in
    put_there c.args.number c.args.self.now _ (λ (a : Actor). (acts words c.args.now (cause_of c.args.input) a).node) c.index_mut.result.now.1 c.handled.new.actor read written c.in_ok-handled-in-Ok.ensures.node

pub returns-in-Err-clause-outputs : goal.returns-in-Err-clause-outputs
returns-in-Err-clause-outputs g c =
    let words = words_of g.G.Signer.certificate_of g.G.Signer.signature_of g.G.Signer.about_of g.G.Signer.verifies c.args.signer.now in
    let key : c.from.result ≡ c.args.number = cc in
    let absent_there =
    ap (λ k. map.get c.args.self.now k) (sym key) ∙ ap (λ m. map.get m c.from.result) (sym c.self.view_is)
    ∙ get_gap c.self.inside.rows.items c.from.result c.in-Err.field-0 c.self.invariant.0 c.in-Err.ensures.1 c.in-Err.ensures.2 in
    absent c.args.number c.args.self.now (λ (a : Actor). (acts words c.args.now (cause_of c.args.input) a).outputs) absent_there

pub returns-in-Err-clause-actors : goal.returns-in-Err-clause-actors
returns-in-Err-clause-actors g c =
    let words = words_of g.G.Signer.certificate_of g.G.Signer.signature_of g.G.Signer.about_of g.G.Signer.verifies c.args.signer.now in
    let key : c.from.result ≡ c.args.number = cc in
    let absent_there =
    ap (λ k. map.get c.args.self.now k) (sym key) ∙ ap (λ m. map.get m c.from.result) (sym c.self.view_is)
    ∙ get_gap c.self.inside.rows.items c.from.result c.in-Err.field-0 c.self.invariant.0 c.in-Err.ensures.1 c.in-Err.ensures.2 in
    put_nowhere c.args.number c.args.self.now c.args.self.now (λ (a : Actor). (acts words c.args.now (cause_of c.args.input) a).node) absent_there refl
