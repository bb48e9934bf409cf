use Rattle.std.proofs.Common.{◌≡◌, take, drop}
use Rattle.std.specs.Prelude.{fold}
use Rattle.storage_model.specs.Puts.{put_kind}
use Rattle.storage_model.proofs.KindLaws.{AreApart}
use Rattle.record_state.proofs.PutKinds.{CanRise}
use Rattle.record_state.proofs.puts.put_kinds.Given as goal

abbrev pub invariant-loop-kind : goal.invariant-loop-kind
invariant-loop-kind l = record {
  before : l.draft.before ≡ l.initial.draft.before;
  kinds : l.draft.kinds ≡ fold (put_kind l.now) l.initial.draft.kinds (take l.kind-index l.request.kinds);
  apart : AreApart (drop l.kind-index l.request.kinds);
  rise : CanRise l.draft.kinds (drop l.kind-index l.request.kinds);
}
