use Rattle.std.proofs.Common.{arith}
use Rattle.text_words.proofs.HexLaws.{encode_lower-more, encode_lower-none}
use Rattle.text_words.proofs.hex_word.put_digits.Goals as goal

pub loop-byte-init : goal.loop-byte-init
loop-byte-init c = encode_lower-none c.args.out.now

pub loop-byte-preserved : goal.loop-byte-preserved
loop-byte-preserved c =
    let written = rw c.unwrap.ensures at c.encode_to_slice.ensures.written in
    let more = c.in_ok-extend.ensures.ok in
    encode_lower-more c.args.out.now c.loop-byte.out c.extend.new.self c.args.bytes.now c.encode_to_slice.new.output c.loop-byte.byte-index (omega arith) c.loop-byte.invariant written more
