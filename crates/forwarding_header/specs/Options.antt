-- Forwarding options: their spelling, and how they are read.
use Rattle.std.specs.Prelude.{ℕ, ◌<◌, ◌^◌, List, [], ◌∷◌, length}
use Rattle.std.specs.List.{flat_map}
use Rattle.wire_core.specs.Spelling.{AreBytes, number, vector, joined}
use Rattle.wire_core.specs.Reading.{Reader, ◌>>=◌, done, rest_at, number_at, vector_at}
use Rattle.forwarding_header.specs.declared.forwarding_option.ForwardingOption.{ForwardingOption}

-- an option's bytes (RFC 6940, 6.3.2.3)
unfoldable pub option : ForwardingOption → List ℕ
option o = joined (number 1 o.code ∷ number 1 o.flags ∷ vector 2 o.value ∷ [])

-- the options of a list, one after the other
abbrev pub options : List ForwardingOption → List ℕ
options os = flat_map option os

-- its value fits its length
abbrev pub IsSpelledOption : ForwardingOption → Type 0
IsSpelledOption o = length o.value < 2 ^ 16

-- an option, whatever its code
unfoldable pub option_at : Reader ForwardingOption
option_at = do
  code ← number_at 1
  flags ← number_at 1
  value ← vector_at 2 rest_at
  done (record { code = code; flags = flags; value = value })

-- each number fits its field
pub record IsOptionInRange (o : ForwardingOption) : Type 0 where
  pub code : o.code < 2 ^ 8
  pub flags : o.flags < 2 ^ 8
  pub value : AreBytes o.value
