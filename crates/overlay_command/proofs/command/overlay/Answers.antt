use Rattle.std.proofs.Common.{refl}
use Rattle.text_words.specs.Lines.{ended}
use Rattle.node_messages.specs.Signed.{words_of}
use Rattle.scenario_run.specs.Outcomes.{Outlets}
use Rattle.overlay_command.specs.declared.status.Status.TheVariants.{Usage, TooLong}
use Rattle.overlay_command.specs.Top.{Outside, usage_line, too_long_line}
use Rattle.overlay_command.proofs.Endings.{completes_input}
use Rattle.overlay_command.proofs.Tops.{ends_told, ends_input}
use Rattle.overlay_command.proofs.command.overlay.Goals as goal

pub returns-in_default-clause-ends : goal.returns-in_default-clause-ends
returns-in_default-clause-ends g c =
    let signer = words_of g.G.Signer.certificate_of g.G.Signer.signature_of g.G.Signer.about_of g.G.Signer.verifies c.args.signer.now in
    let before : Outside = record { source = g.S.Source.view c.args.source.now; outlets = record { sink = g.K.Sink.view c.args.sink.now; air = g.A.Air.view c.args.air.now } } in
    let after : Outside = record { source = g.S.Source.view c.args.source.now; outlets = record { sink = g.K.Sink.view c.tell.new.sink; air = g.A.Air.view c.args.air.now } } in
    let none = rw c.as_slice.ensures.value at (c.in_default.ensures.none refl) in
    rw c.of.ensures (ends_told signer c.args.words.now.items before before after Usage (ended usage_line) c.tell.result (none, refl, refl) refl (rw c.usage_line.ensures at c.tell.ensures) refl)

pub returns-in-Ok-clause-ends : goal.returns-in-Ok-clause-ends
returns-in-Ok-clause-ends g c =
    let signer = words_of g.G.Signer.certificate_of g.G.Signer.signature_of g.G.Signer.about_of g.G.Signer.verifies c.args.signer.now in
    let before : Outside = record { source = g.S.Source.view c.args.source.now; outlets = record { sink = g.K.Sink.view c.args.sink.now; air = g.A.Air.view c.args.air.now } } in
    let after : Outside = record { source = g.S.Source.view c.read_all.new.source; outlets = record { sink = g.K.Sink.view c.answer.new.sink; air = g.A.Air.view c.answer.new.air } } in
    let has = rw c.as_slice.ensures.value at c.in-Some.ensures.some in
    rw c.of-in-Ok.ensures (ends_input signer c.args.words.now.items before after c.in-Some.form c.in-Ok.input c.answer.result has c.in-Ok.ensures c.answer.ensures)

pub returns-in-Err-TooLong-clause-ends : goal.returns-in-Err-TooLong-clause-ends
returns-in-Err-TooLong-clause-ends g c =
    let signer = words_of g.G.Signer.certificate_of g.G.Signer.signature_of g.G.Signer.about_of g.G.Signer.verifies c.args.signer.now in
    let before : Outside = record { source = g.S.Source.view c.args.source.now; outlets = record { sink = g.K.Sink.view c.args.sink.now; air = g.A.Air.view c.args.air.now } } in
    let so_far : Outside = record { source = g.S.Source.view c.read_all.new.source; outlets = record { sink = g.K.Sink.view c.args.sink.now; air = g.A.Air.view c.args.air.now } } in
    let after : Outside = record { source = g.S.Source.view c.read_all.new.source; outlets = record { sink = g.K.Sink.view c.tell-in-Err-TooLong.new.sink; air = g.A.Air.view c.args.air.now } } in
    let has = rw c.as_slice.ensures.value at c.in-Some.ensures.some in
    let long = rw c.in-Err-TooLong.field-0-is at c.in-Err-TooLong.ensures in
    rw c.of-in-Err-TooLong.ensures (ends_told signer c.args.words.now.items before so_far after TooLong (ended too_long_line) c.tell-in-Err-TooLong.result ((c.in-Some.form, has), long, refl, refl) refl (rw c.too_long_line.ensures at c.tell-in-Err-TooLong.ensures) refl)

pub returns-in-Ok-clause-complete : goal.returns-in-Ok-clause-complete
returns-in-Ok-clause-complete g c =
    let signer = words_of g.G.Signer.certificate_of g.G.Signer.signature_of g.G.Signer.about_of g.G.Signer.verifies c.args.signer.now in
    let before : Outlets = record { sink = g.K.Sink.view c.args.sink.now; air = g.A.Air.view c.args.air.now } in
    let after : Outlets = record { sink = g.K.Sink.view c.answer.new.sink; air = g.A.Air.view c.answer.new.air } in
    let has = rw c.as_slice.ensures.value at c.in-Some.ensures.some in
    rw c.of-in-Ok.ensures (completes_input signer c.args.words.now.items (g.S.Source.view c.args.source.now) (g.S.Source.view c.read_all.new.source) c.in-Some.form c.in-Ok.input before after c.answer.result has c.in-Ok.ensures c.answer.ensures)
