use Rattle.std.proofs.Common.{◌≡◌, ℕ, ◌+◌, ◌++◌, List, length, append_assoc, length-append, refl, arith}
use Rattle.std.proofs.lemmas.Result.{on_ok_weaker}
use Rattle.wire_core.specs.Spelling.{number, vector}
use Rattle.wire_core.specs.Laws.Bytes.{length-number}
use Rattle.forwarding_header.specs.Destinations.{destination}
use Rattle.forwarding_header.specs.declared.destination.Destination.TheVariants.{Opaque}
use Rattle.forwarding_header.proofs.destination.put_opaque.Goals as goal

-- a code, the length of a vector, and the vector are opaque bytes
opaque_parts : (old a b new bytes : List ℕ) → a ≡ old ++ number 1 3 → b ≡ a ++ number 1 (length bytes + 1) → new ≡ b ++ vector 1 bytes → new ≡ old ++ destination (Opaque bytes)
unfolding destination
opaque_parts old a b new bytes e f g =
    let len : length (vector 1 bytes) ≡ length bytes + 1 = omega (arith, length-append (number 1 (length bytes)) bytes, length-number 1 (length bytes)) in
    rw (len, g, f, e, append_assoc, append_assoc) refl

pub returns-clause-ok : goal.returns-clause-ok
returns-clause-ok c =
    on_ok_weaker c.put_bytes.result (opaque_parts c.args.out.now c.put_u8.new.out c.put_u8-2.new.out c.put_bytes.new.out c.args.bytes.now c.in_ok-put_u8.ensures.ok c.in_ok-put_u8-2.ensures.ok) c.put_bytes.ensures.ok
