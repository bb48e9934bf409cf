-- What a message that was read has as contents.
use Rattle.node_messages.specs.declared.message.Behind.{Behind}
use Rattle.node_messages.specs.declared.message.Behind.TheVariants.{Bad, Whole}
use Rattle.message_bodies.specs.Contents.{IsSpelledContents}

-- Contents that stand behind a header have a spelling.
abbrev pub IsSpelledBehind : Behind → Type 0
IsSpelledBehind Bad = Unit {0}
IsSpelledBehind (Whole contents certificates signer) = IsSpelledContents contents
