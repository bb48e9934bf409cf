use Rattle.std.proofs.Common.{◌++◌}
use Rattle.std.specs.Prelude.{codes}
use Rattle.std.specs.Fmt.{decimal}
use Rattle.text_words.proofs.PutLaws.{appended_then}
use Rattle.transcript_text.specs.Transcript.{datum_of, stored_text}
use Rattle.request_words.specs.Values.{data_text, slot_key_text, value_text}
use Rattle.transcript_text.proofs.value.put_stored.Goals as goal

pub returns : goal.returns
unfolding stored_text value_text
returns c =
    appended_then c.args.out.now c.put_times.new.out c.put_datum.new.out
    (slot_key_text c.args.stored.now.key ++ codes ":" ++ decimal c.args.stored.now.storage_time ++ codes ":" ++ decimal c.args.stored.now.lifetime ++ codes ":")
    (data_text (datum_of c.args.stored.now)) c.put_datum.result c.in_ok-put_times.ensures c.put_datum.ensures
