use Rattle.std.proofs.Common.{take, ◌++◌, arith, length-append, length-take}
use Rattle.std.proofs.lemmas.Result.{err_from_is_err_and}
use Rattle.reload_base.proofs.Pieces.{Takes-then}
use Rattle.reload_base.proofs.reading.read_all.Goals as goal

pub returns-then-n-most : goal.returns-then-n-most
returns-then-n-most g c =
    let front = take c.in-Some.n c.read.new.buf in
    let read = c.in-Some.ensures in
    let before = c.pieces.invariant in
    let both = length-append c.pieces.text front in
    let some = length-take c.in-Some.n c.read.new.buf in
    (c.pieces.text ++ front, omega (arith, read.0, both, some), omega (arith, before.short, before.buffer, c.read.auto.buf, read.0, both, some), Takes-then _ _ _ c.pieces.text front before.taken read.1)

pub returns-in_err-extend-in-Some : goal.returns-in_err-extend-in-Some
returns-in_err-extend-in-Some g c =
    let front = take c.in-Some.n c.read.new.buf in
    let read = c.in-Some.ensures in
    let before = c.pieces.invariant in
    let both = length-append c.pieces.text front in
    let some = length-take c.in-Some.n c.read.new.buf in
    let p = err_from_is_err_and c.from_residual.result c.from_residual.ensures.1 in
    rw (p.1, p.2) (c.pieces.text ++ front, omega (arith, read.0, both, some), Takes-then _ _ _ c.pieces.text front before.taken read.1)
