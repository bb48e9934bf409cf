-- The word of what has no definition is read exactly where it is what it spells.
use Rattle.std.specs.Prelude.{codes}
use Rattle.hex.specs.Hex.{encode_lower}
use Rattle.text_words.specs.Codec.{IsCodec}
use Rattle.text_words.specs.Hex.{AllBytes, hex_of}
use Rattle.text_words.proofs.CodecLaws.{behind_codec}
use Rattle.text_words.proofs.HexLaws.{hex_codec}
use Rattle.request_words.specs.Raw.{raw_of, raw_text}

pub raw_codec : IsCodec raw_of raw_text AllBytes
unfolding raw_of raw_text
raw_codec = behind_codec (codes "?") hex_of encode_lower AllBytes hex_codec
