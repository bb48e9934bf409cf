use Rattle.std.proofs.Common.{◌-◌, ℕ, refl, ◌∙◌, arith}
use Rattle.reload_base.proofs.Heads.{copied_from, counted_from}
use Rattle.reload_base.proofs.memory_air.MemoryAirAir.frame.Goals as goal
use Rattle.reload_base.proofs.memory_air.MemoryAirAir.frame.Goals.{in-Ok, in-Err}

pub returns-clause-got : goal.returns-clause-got
returns-clause-got c =
    let heads = c.self.inside.heads in
    let bytes = c.self.inside.bytes in
    let last = rw (← c.self.view_is) at c.requires.last in
    elim c.match-from_slice.branch [
      | in-Ok w ↦
          let cut = w.in-Ok.ensures ∙ c.split_at-2.ensures.back in
          let copied = rw (c.start_of.ensures, c.split_at.ensures.front, c.as_slice.ensures, c.as_slice-heads.ensures) at cut in
          rw (w.result-is, c.as_slice-heads.ensures, ← c.self.view_is) (
            copied_from 0 heads bytes w.in-Ok.bytes (c.args.k - 1) _ (omega (arith, c.requires.first, last, counted_from 0 heads bytes)) copied,
            refl,
          )
      | in-Err w ↦ rw w.result-is refl
    ]
