use Rattle.std.proofs.Common.{arith}
use Rattle.std.proofs.lemmas.List.{length-append}
use Rattle.reload_base.proofs.Heads.{pushed_in, pushed_size, pushed_rise}
use Rattle.reload_base.proofs.memory_air.MemoryAir.append.Goals as goal

pub invariant_of-self-in_default : goal.invariant_of-self-in_default
invariant_of-self-in_default c =
    let heads = c.self.inside.heads in
    let bytes = c.self.inside.bytes in
    let room = rw (← c.self.view_is) at c.requires.room in
    rw (c.in_default.ensures.ok, c.len.ensures, c.in_ok-extend.ensures.ok) (
      pushed_size heads c.args.from c.args.to bytes c.args.bytes.now c.self.invariant.2 c.self.invariant.0,
      omega (arith, length-append bytes c.args.bytes.now, c.self.invariant.0, room),
      pushed_rise 0 heads c.args.from c.args.to bytes c.args.bytes.now c.self.invariant.2 c.requires.some,
    )

pub returns-clause-ok : goal.returns-clause-ok
returns-clause-ok c =
    rw (← c.self.view_is, c.in_default.ensures.ok, c.len.ensures, c.in_ok-extend.ensures.ok)
    (pushed_in c.self.inside.heads c.args.from c.args.to c.self.inside.bytes c.args.bytes.now c.self.invariant.2)
