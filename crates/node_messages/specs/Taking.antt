-- What a call that takes the parts of a message behind its header answers.
use Rattle.std.specs.Prelude.{◌≡◌, Result, Ok, Err}
use Rattle.wire_core.specs.declared.bad.Bad.{Bad}
use Rattle.wire_core.specs.declared.bad.DecodeFault.{DecodeFault}
use Rattle.wire_core.specs.declared.bad.DecodeFault.TheVariants as faults
use Rattle.security_block.specs.declared.block.SecurityBlock.{SecurityBlock}
use Rattle.message_bodies.specs.declared.contents.Contents.{Contents}
use Rattle.node_messages.specs.declared.reading.Parts.{Parts}

-- It answered what this reading gives, unless memory ran out.
abbrev pub GivesParts : Result Parts DecodeFault → Result (Contents × SecurityBlock) Bad → Type 0
GivesParts (Ok p) read = read ≡ Ok (p.contents, p.block)
GivesParts (Err (faults.Bad bad)) read = read ≡ Err bad
GivesParts (Err faults.NoMemory) read = Unit {0}
