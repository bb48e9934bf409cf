-- The answer to a Probe: what a peer tells of itself, in the order asked (RFC 6940, 6.4.2.5).
use Rattle.std.specs.Prelude.{ℕ, ◌<◌, ◌^◌, ◌==◌, List, ◌++◌, length, if◌then◌else◌}
use Rattle.std.specs.List.{flat_map}
use Rattle.wire_core.specs.declared.bad.Reason.TheVariants.{BadValue}
use Rattle.wire_core.specs.Spelling.{number, vector}
use Rattle.wire_core.specs.Reading.{Reader, ◌>>=◌, done, refused, place_at, number_at, sized_at, vector_at, list_at}
use Rattle.message_bodies.specs.declared.probe_ans.ProbeInformation.{ProbeInformation}
use Rattle.message_bodies.specs.declared.probe_ans.ProbeInformation.TheVariants.{ResponsiblePpb, NumResources, Uptime}
use Rattle.message_bodies.specs.declared.body.Body.{Body}
use Rattle.message_bodies.specs.declared.body.Body.TheVariants.{ProbeAns}

-- a number of four bytes behind its length
abbrev pub told_number : ℕ → List ℕ
told_number n = number 1 4 ++ number 4 n

-- a fact's bytes: its type, the length 4 and its number
unfoldable pub probe_fact : ProbeInformation → List ℕ
probe_fact (ResponsiblePpb n) = number 1 1 ++ told_number n
probe_fact (NumResources n) = number 1 2 ++ told_number n
probe_fact (Uptime n) = number 1 3 ++ told_number n

-- the facts of a list, one after the other
abbrev pub probe_facts : List ProbeInformation → List ℕ
probe_facts facts = flat_map probe_fact facts

-- the body of a Probe's answer
unfoldable pub probe_ans : List ProbeInformation → List ℕ
probe_ans facts = vector 2 (probe_facts facts)

-- The facts have at most 65,535 bytes.
abbrev pub IsSpelledProbeAns : List ProbeInformation → Type 0
IsSpelledProbeAns facts = length (probe_facts facts) < 2 ^ 16

-- each number fits its field
abbrev pub IsProbeFactInRange : ProbeInformation → Type 0
IsProbeFactInRange (ResponsiblePpb n) = n < 2 ^ 32
IsProbeFactInRange (NumResources n) = n < 2 ^ 32
IsProbeFactInRange (Uptime n) = n < 2 ^ 32

-- a number of four bytes behind its length; any other length than 4 is a bad value
unfoldable pub told_number_at : Reader ℕ
told_number_at = sized_at 1 4 (number_at 4)

-- a share of the ring behind its type
unfoldable pub responsible_ppb_at : Reader ProbeInformation
responsible_ppb_at = do
  n ← told_number_at
  done (ResponsiblePpb n)

-- a number of records behind its type
unfoldable pub num_resources_at : Reader ProbeInformation
num_resources_at = do
  n ← told_number_at
  done (NumResources n)

-- an uptime behind its type
unfoldable pub uptime_at : Reader ProbeInformation
uptime_at = do
  n ← told_number_at
  done (Uptime n)

-- what follows a fact's type, which stands at a place
unfoldable pub probe_fact_of : ℕ → ℕ → Reader ProbeInformation
probe_fact_of place code =
    if code == 1 then responsible_ppb_at
    else (if code == 2 then num_resources_at
    else (if code == 3 then uptime_at else refused place BadValue))

-- a fact; any other type than 1, 2 or 3 is a bad value
unfoldable pub probe_fact_at : Reader ProbeInformation
probe_fact_at = do
  place ← place_at
  code ← number_at 1
  probe_fact_of place code

-- the body of a Probe's answer
unfoldable pub probe_ans_at : Reader Body
probe_ans_at = do
  facts ← vector_at 2 (list_at probe_fact_at)
  done (ProbeAns facts)
