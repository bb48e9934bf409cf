use Rattle.std.proofs.Common.{List, ℕ, ◌++◌, ap, ◌∙◌, append_assoc}
use Rattle.text_words.specs.Lines.{spaced}
use Rattle.text_words.specs.Transaction.{transaction_text}
use Rattle.text_words.proofs.PutLaws.{appended_then}
use Rattle.transcript_text.specs.Transcript.{asker_text, number_of, strange_text}
use Rattle.transcript_text.specs.Words.{number_text}
use Rattle.transcript_text.proofs.asked.put_asker.Goals as goal

pub returns : goal.returns
unfolding asker_text
returns c =
    appended_then c.args.out.now c.put_spaced_id.new.out c.put_strange.new.out
    (spaced (number_text (number_of c.args.nodes.now c.args.asker.origin.0)) ++ spaced (transaction_text c.args.asker.id))
    (strange_text c.args.strange) c.put_strange.result
    (
    c.in_ok-put_spaced_id.ensures
    ∙ ap (λ (text : List ℕ). text ++ spaced (transaction_text c.args.asker.id)) c.in_ok-put_origin.ensures
    ∙ append_assoc c.args.out.now (spaced (number_text (number_of c.args.nodes.now c.args.asker.origin.0))) (spaced (transaction_text c.args.asker.id))
    )
    c.put_strange.ensures
