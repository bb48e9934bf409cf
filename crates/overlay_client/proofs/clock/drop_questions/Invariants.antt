use Rattle.std.proofs.Common.{◌≡◌, fold, take}
use Rattle.std.specs.FinMap.{remove}
use Rattle.overlay_client.proofs.clock.drop_questions.Given as goal

abbrev pub invariant-loop-id : goal.invariant-loop-id
invariant-loop-id l = l.questions ≡ fold remove l.initial.questions (take l.id-index l.ids)
