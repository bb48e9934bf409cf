use Rattle.std.proofs.Common.{◌≡◌, ◌++◌, map}
use Rattle.run_model.specs.declared.happening.Happening.TheVariants.{Tells}
use Rattle.run_text.specs.Lines.{happened_text}
use Rattle.overlay_world.proofs.sending.tell.Given as goal

-- the lines of those so far
abbrev pub invariant-loop-notice : goal.invariant-loop-notice
invariant-loop-notice l = l.out ≡ l.fn.out ++ happened_text l.names (map (Tells l.number) l.yielded)
