use Rattle.std.proofs.Common.{◌≡◌, ◌≤◌, length, Some, None, sym, ap, subst, ◌∙◌}
use Rattle.std.specs.Prelude.{IfSome}
use Rattle.std.specs.Option.{option_copied}
use Rattle.wire_core.specs.declared.limits.TheConstants.{MAX_MESSAGE}
use Rattle.node_model.specs.Nodes.{next_id}
use Rattle.node_model.specs.Clients.{Client}
use Rattle.overlay_client.specs.Sound.{IsSound}
use Rattle.overlay_client.proofs.Asks.{new_at, noted_is, small_some, asked_node, asked_outputs, asked_holds, taken_back}
use Rattle.overlay_client.proofs.client.Client.ask.Goals as goal

pub note-requires-clause-new : goal.note-requires-clause-new
note-requires-clause-new c =
    let i = c.self.inside in
    new_at i.node i.table i.questions c.args.asking.id c.self.invariant
    (c.requires.next ∙ sym (ap (λ (x : Client). next_id x.node) c.self.view_is))

pub ask-requires-clause-within : goal.ask-requires-clause-within
ask-requires-clause-within c =
    let i = c.self.inside in
    let a = c.args.asking in
    let is : option_copied c.noted-message.result ≡ a.message = c.noted-message.ensures
    ∙ noted_is c.args.now a.peer a.id a.message c.bytes_or_none-bytes.result
    c.is_some-has_bytes.result i.table c.note.new.table c.self.invariant.none_queued
    c.is_some-has_bytes.ensures c.bytes_or_none-bytes.ensures c.in_ok-note.ensures.ok in
    (elim (c.noted-message.result) as (λ r. option_copied r ≡ a.message
    → IfSome r (λ m. length m.now ≤ MAX_MESSAGE)) [
      | None ↦ λ e. tt
      | Some m ↦ λ e. small_some a.message m.now e c.requires.small
    ]) is

pub invariant_of-self-in-Ok : goal.invariant_of-self-in-Ok
invariant_of-self-in-Ok c =
    let i = c.self.inside in
    asked_holds c.args.now c.args.asking (option_copied c.noted-message.result)
    c.bytes_or_none-bytes.result i.node c.ask.new.self i.table c.note.new.table i.questions
    c.note.new.questions c.self.invariant
    (c.requires.next ∙ sym (ap (λ (x : Client). next_id x.node) c.self.view_is))
    c.in-Ok.ensures.ok c.in_ok-note.ensures.ok c.in_ok-note.ensures.asked
    c.bytes_or_none-bytes.ensures c.requires.small

pub returns-in-Ok-clause-ok : goal.returns-in-Ok-clause-ok
returns-in-Ok-clause-ok c =
    let i = c.self.inside in
    let a = c.args.asking in
    let is : option_copied c.noted-message.result ≡ a.message = c.noted-message.ensures
    ∙ noted_is c.args.now a.peer a.id a.message c.bytes_or_none-bytes.result
    c.is_some-has_bytes.result i.table c.note.new.table c.self.invariant.none_queued
    c.is_some-has_bytes.ensures c.bytes_or_none-bytes.ensures c.in_ok-note.ensures.ok in
    asked_node c.args.now a (option_copied c.noted-message.result) c.bytes_or_none-bytes.result
    i.node c.ask.new.self i.table c.note.new.table i.questions c.note.new.questions c.args.self.now
    c.self.view_is is c.bytes_or_none-bytes.ensures c.in-Ok.ensures.ok c.in_ok-note.ensures.ok
    c.in_ok-note.ensures.asked

pub returns-in-Ok-clause-outputs : goal.returns-in-Ok-clause-outputs
returns-in-Ok-clause-outputs c =
    let i = c.self.inside in
    let a = c.args.asking in
    let is : option_copied c.noted-message.result ≡ a.message = c.noted-message.ensures
    ∙ noted_is c.args.now a.peer a.id a.message c.bytes_or_none-bytes.result
    c.is_some-has_bytes.result i.table c.note.new.table c.self.invariant.none_queued
    c.is_some-has_bytes.ensures c.bytes_or_none-bytes.ensures c.in_ok-note.ensures.ok in
    asked_outputs c.args.now a (option_copied c.noted-message.result) c.in-Ok.frames i.node i.table
    i.questions c.args.self.now c.self.view_is is c.in-Ok.ensures.frames _
    (ap (λ ns. record { frames = c.in-Ok.frames; notices = ns }) c.new.ensures)

pub invariant_of-self-in-Err : goal.invariant_of-self-in-Err
invariant_of-self-in-Err c =
    let i = c.self.inside in
    subst IsSound (sym (taken_back c.args.now c.args.asking c.bytes_or_none-bytes.result i.node
    c.ask.new.self i.table c.note.new.table c.forget.new.table i.questions c.note.new.questions
    c.forget.new.questions c.self.invariant
    (c.requires.next ∙ sym (ap (λ (x : Client). next_id x.node) c.self.view_is))
    c.in-Err.ensures.err c.in_ok-note.ensures.ok c.in_ok-note.ensures.asked c.forget.ensures.table
    c.forget.ensures.questions)) c.self.invariant

pub returns-in-Err-clause-err : goal.returns-in-Err-clause-err
returns-in-Err-clause-err c =
    let i = c.self.inside in
    taken_back c.args.now c.args.asking c.bytes_or_none-bytes.result i.node
    c.ask.new.self i.table c.note.new.table c.forget.new.table i.questions c.note.new.questions
    c.forget.new.questions c.self.invariant
    (c.requires.next ∙ sym (ap (λ (x : Client). next_id x.node) c.self.view_is))
    c.in-Err.ensures.err c.in_ok-note.ensures.ok c.in_ok-note.ensures.asked c.forget.ensures.table
    c.forget.ensures.questions ∙ c.self.view_is
