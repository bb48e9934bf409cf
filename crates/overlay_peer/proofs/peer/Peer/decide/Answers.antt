use Rattle.std.proofs.Common.{◌≡◌, [], ◌∷◌, ap, sym, subst, ◌∙◌}
use Rattle.data_models.specs.declared.config.Config.{Config}
use Rattle.storage_model.specs.declared.answer.Answer.{Answer}
use Rattle.storage_model.specs.Records.{Map}
use Rattle.storage_model.specs.Laws.{IsSoundAsked}
use Rattle.node_messages.specs.Signed.{words_of}
use Rattle.node_model.specs.Nodes.{Node}
use Rattle.node_model.specs.Peers.{Peer}
use Rattle.overlay_peer.specs.Kept.{IsKept, peer_of}
use Rattle.overlay_peer.specs.Plans.{effect_on, answer_post, answer_outputs}
use Rattle.overlay_peer.proofs.Deciding.{outputs_are}
use Rattle.overlay_peer.proofs.Keeping.{kept_decided}
use Rattle.overlay_peer.proofs.peer.Peer.decide.Goals as goal

pub invariant_of-self-in-Ok : goal.invariant_of-self-in-Ok
invariant_of-self-in-Ok g c =
    let words = words_of g.G.Signer.certificate_of g.G.Signer.signature_of g.G.Signer.about_of g.G.Signer.verifies c.args.signer.now in
    let own : c.args.self.now.node.config ≡ c.config.result.now = sym (c.config.ensures ∙ ap (λ (p : Peer). p.node.config) c.self.view_is) in
    kept_decided c.args.from c.args.sequence (answer_post words c.self.inside.node c.self.inside.tables c.args.from c.args.question.reply c.in_ok-ruling.ruling.answer ∷ [])
    c.self.inside.node c.answer.new.node c.self.inside.tables c.self.inside.shelf c.rule_on_with_undo.new.shelf c.self.inside.table c.config.result.now c.args.now c.args.question
    c.in-Ok.ensures.node c.in_ok-ruling.ensures.shelf (subst (λ (k : Config). IsSoundAsked k c.args.question.request) own c.requires.sound) c.self.invariant

pub invariant_of-self-in-Ok-2 : goal.invariant_of-self-in-Ok-2
invariant_of-self-in-Ok-2 g c =
    let words = words_of g.G.Signer.certificate_of g.G.Signer.signature_of g.G.Signer.about_of g.G.Signer.verifies c.args.signer.now in
    let own : c.args.self.now.node.config ≡ c.config.result.now = sym (c.config.ensures ∙ ap (λ (p : Peer). p.node.config) c.self.view_is) in
    kept_decided c.args.from c.args.sequence (answer_post words c.self.inside.node c.self.inside.tables c.args.from c.args.question.reply c.in_ok-ruling.ruling.answer ∷ [])
    c.self.inside.node c.answer.new.node c.self.inside.tables c.self.inside.shelf c.rule_on_with_undo.new.shelf c.self.inside.table c.config.result.now c.args.now c.args.question
    c.in-Ok.ensures.node c.in_ok-ruling.ensures.shelf (subst (λ (k : Config). IsSoundAsked k c.args.question.request) own c.requires.sound) c.self.invariant

pub invariant_of-self-in-Ok-3 : goal.invariant_of-self-in-Ok-3
invariant_of-self-in-Ok-3 g c =
    let words = words_of g.G.Signer.certificate_of g.G.Signer.signature_of g.G.Signer.about_of g.G.Signer.verifies c.args.signer.now in
    let own : c.args.self.now.node.config ≡ c.config.result.now = sym (c.config.ensures ∙ ap (λ (p : Peer). p.node.config) c.self.view_is) in
    kept_decided c.args.from c.args.sequence (answer_post words c.self.inside.node c.self.inside.tables c.args.from c.args.question.reply c.in_ok-ruling.ruling.answer ∷ [])
    c.self.inside.node c.answer.new.node c.self.inside.tables c.self.inside.shelf c.rule_on_with_undo.new.shelf c.self.inside.table c.config.result.now c.args.now c.args.question
    c.in-Ok.ensures.node c.in_ok-ruling.ensures.shelf (subst (λ (k : Config). IsSoundAsked k c.args.question.request) own c.requires.sound) c.self.invariant

pub invariant_of-self-in-Ok-4 : goal.invariant_of-self-in-Ok-4
invariant_of-self-in-Ok-4 g c =
    let words = words_of g.G.Signer.certificate_of g.G.Signer.signature_of g.G.Signer.about_of g.G.Signer.verifies c.args.signer.now in
    let own : c.args.self.now.node.config ≡ c.config.result.now = sym (c.config.ensures ∙ ap (λ (p : Peer). p.node.config) c.self.view_is) in
    kept_decided c.args.from c.args.sequence (answer_post words c.self.inside.node c.self.inside.tables c.args.from c.args.question.reply c.in_ok-ruling.ruling.answer ∷ [])
    c.self.inside.node c.answer.new.node c.self.inside.tables c.self.inside.shelf c.rule_on_with_undo.new.shelf c.self.inside.table c.config.result.now c.args.now c.args.question
    c.in-Ok.ensures.node c.in_ok-ruling.ensures.shelf (subst (λ (k : Config). IsSoundAsked k c.args.question.request) own c.requires.sound) c.self.invariant

pub invariant_of-self-in-Ok-5 : goal.invariant_of-self-in-Ok-5
invariant_of-self-in-Ok-5 g c =
    let words = words_of g.G.Signer.certificate_of g.G.Signer.signature_of g.G.Signer.about_of g.G.Signer.verifies c.args.signer.now in
    let own : c.args.self.now.node.config ≡ c.config.result.now = sym (c.config.ensures ∙ ap (λ (p : Peer). p.node.config) c.self.view_is) in
    kept_decided c.args.from c.args.sequence (answer_post words c.self.inside.node c.self.inside.tables c.args.from c.args.question.reply c.in_ok-ruling.ruling.answer ∷ [])
    c.self.inside.node c.answer.new.node c.self.inside.tables c.self.inside.shelf c.rule_on_with_undo.new.shelf c.self.inside.table c.config.result.now c.args.now c.args.question
    c.in-Ok.ensures.node c.in_ok-ruling.ensures.shelf (subst (λ (k : Config). IsSoundAsked k c.args.question.request) own c.requires.sound) c.self.invariant

pub take_back-requires : goal.take_back-requires
take_back-requires g c = (c.self.inside.shelf, c.in_ok-ruling.ensures.undo)

pub invariant_of-self-in-Err : goal.invariant_of-self-in-Err
invariant_of-self-in-Err g c =
    let back : c.take_back.new.shelf ≡ c.self.inside.shelf = c.take_back.ensures c.self.inside.shelf c.in_ok-ruling.ensures.undo in
    subst (λ (n : Node). IsKept n c.self.inside.tables c.take_back.new.shelf c.self.inside.table) (sym c.in-Err.ensures.err)
    (subst (λ (s : Map). IsKept c.self.inside.node c.self.inside.tables s c.self.inside.table) (sym back) c.self.invariant)

pub returns-in-Err-clause-err : goal.returns-in-Err-clause-err
returns-in-Err-clause-err g c =
    let i = c.self.inside in
    let back : c.take_back.new.shelf ≡ i.shelf = c.take_back.ensures i.shelf c.in_ok-ruling.ensures.undo in
    ap (λ (n : Node). peer_of n i.membership i.tables c.take_back.new.shelf i.table i.taken i.queued) c.in-Err.ensures.err
    ∙ ap (λ (s : Map). peer_of i.node i.membership i.tables s i.table i.taken i.queued) back
    ∙ c.self.view_is

pub returns-in-Ok-clause-outputs : goal.returns-in-Ok-clause-outputs
returns-in-Ok-clause-outputs g c =
    let words = words_of g.G.Signer.certificate_of g.G.Signer.signature_of g.G.Signer.about_of g.G.Signer.verifies c.args.signer.now in
    let p = c.args.self.now in
    let q = c.args.question in
    let r = c.in_ok-ruling.ruling in
    let answer : r.answer ≡ (effect_on p.records p.node.config c.args.now q).answer =
    c.in_ok-ruling.ensures.answer ∙ ap (λ (k : Config). (effect_on c.self.inside.shelf k c.args.now q).answer) c.config.ensures
    ∙ ap (λ (x : Peer). (effect_on x.records x.node.config c.args.now q).answer) c.self.view_is in
    let acted : r.acted ≡ (effect_on p.records p.node.config c.args.now q).acted =
    c.in_ok-ruling.ensures.acted ∙ ap (λ (k : Config). (effect_on c.self.inside.shelf k c.args.now q).acted) c.config.ensures
    ∙ ap (λ (x : Peer). (effect_on x.records x.node.config c.args.now q).acted) c.self.view_is in
    c.in-Ok.ensures.outputs
    ∙ ap (λ (x : Peer). answer_outputs words x.node x.tables c.args.now c.args.from c.args.sequence q r.answer r.acted) c.self.view_is
    ∙ ap (λ (a : Answer). answer_outputs words p.node p.tables c.args.now c.args.from c.args.sequence q a r.acted) answer
    ∙ ap (λ b. answer_outputs words p.node p.tables c.args.now c.args.from c.args.sequence q (effect_on p.records p.node.config c.args.now q).answer b) acted
    ∙ outputs_are words p c.args.now c.args.from c.args.sequence q
