-- Probe: what a peer is asked about itself (RFC 6940, 6.4.2.5).
use Rattle.std.specs.Prelude.{ℕ, ◌<◌, ◌^◌, ◌==◌, List, length, Option, Some, None, if◌then◌else◌}
use Rattle.std.specs.List.{flat_map}
use Rattle.wire_core.specs.Spelling.{number, vector}
use Rattle.wire_core.specs.Reading.{Reader, ◌>>=◌, done, code_at, vector_at, list_at}
use Rattle.message_bodies.specs.declared.probe.ProbeInformationType.{ProbeInformationType}
use Rattle.message_bodies.specs.declared.probe.ProbeInformationType.TheVariants as asked
use Rattle.message_bodies.specs.declared.body.Body.{Body}
use Rattle.message_bodies.specs.declared.body.Body.TheVariants.{Probe}

-- the number of a type
abbrev pub probe_type : ProbeInformationType → ℕ
probe_type asked.ResponsibleSet = 1
probe_type asked.NumResources = 2
probe_type asked.Uptime = 3

-- its byte
unfoldable pub probe_question : ProbeInformationType → List ℕ
probe_question asks = number 1 (probe_type asks)

-- the types of a list, one after the other
abbrev pub probe_questions : List ProbeInformationType → List ℕ
probe_questions asks = flat_map probe_question asks

-- a Probe's body
unfoldable pub probe : List ProbeInformationType → List ℕ
probe asks = vector 1 (probe_questions asks)

-- At most 255 types are asked for.
abbrev pub IsSpelledProbe : List ProbeInformationType → Type 0
IsSpelledProbe asks = length (probe_questions asks) < 2 ^ 8

-- the type with a number
abbrev pub probe_type_of : ℕ → Option ProbeInformationType
probe_type_of code =
    if code == 1 then Some asked.ResponsibleSet
    else (if code == 2 then Some asked.NumResources
    else (if code == 3 then Some asked.Uptime else None))

-- a type; any other byte than 1, 2 or 3 is a bad value
unfoldable pub probe_question_at : Reader ProbeInformationType
probe_question_at = code_at 1 probe_type_of

-- a Probe's body
unfoldable pub probe_at : Reader Body
probe_at = do
  asks ← vector_at 1 (list_at probe_question_at)
  done (Probe asks)
