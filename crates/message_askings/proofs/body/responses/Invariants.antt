use Rattle.std.proofs.Common.{◌≡◌, take}
use Rattle.node_model.specs.Replies.{responses}
use Rattle.message_askings.proofs.body.responses.Given as goal

-- those so far are told
abbrev pub invariant-loop-kind : goal.invariant-loop-kind
invariant-loop-kind l = l.all ≡ responses l.replicas (take l.kind-index l.kind-items)
