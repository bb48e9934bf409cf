use Rattle.text_words.proofs.Lacking.{decimal-has_no, encode_lower-has_no, id_text-has_no, name-has_no}
use Rattle.text_words.proofs.laws.printed_words.Goals as goal

pub returns-clause-decimal : goal.returns-clause-decimal
returns-clause-decimal c = decimal-has_no

pub returns-clause-hex : goal.returns-clause-hex
returns-clause-hex c = encode_lower-has_no

pub returns-clause-id : goal.returns-clause-id
returns-clause-id c = id_text-has_no

pub returns-clause-name : goal.returns-clause-name
returns-clause-name c = name-has_no
