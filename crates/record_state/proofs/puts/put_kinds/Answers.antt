use Rattle.std.proofs.Common.{◌<◌, ◌+◌, length, get_or, refl, ap, sym, subst, ◌∙◌, take, drop}
use Rattle.std.specs.Prelude.{fold}
use Rattle.std.proofs.lemmas.List.Sums.{fold_more}
use Rattle.storage_model.specs.Puts.{put_kind}
use Rattle.storage_model.proofs.KindLaws.{AreApart}
use Rattle.storage_model.proofs.Causes.{sound_apart}
use Rattle.record_state.proofs.PutKinds.{CanRise, can_rise, still_rises, tail_of}
use Rattle.record_state.proofs.puts.put_kinds.Goals as goal

pub loop-kind-init : goal.loop-kind-init
loop-kind-init c = record {
  before = refl;
  kinds = refl;
  apart = sound_apart c.args.config.now c.args.request.now c.requires.sound;
  rise = can_rise c.args.draft.now.kinds c.args.request.now.kinds c.requires.counted;
}

pub loop-kind-preserved : goal.loop-kind-preserved
loop-kind-preserved c =
    let less = subst (λ xs. c.loop-kind.kind-index < length xs) c.as_slice-kind-items.ensures c.loop-kind-test.true in
    let item = c.kind-item.is ∙ ap (λ xs. get_or xs c.loop-kind.kind-index c.kind-item.result) c.as_slice-kind-items.ensures in
    let tail = tail_of c.args.request.now.kinds c.loop-kind.kind-index c.kind-item.result less item in
    let apart = subst AreApart tail c.loop-kind.invariant.apart in
    let rise = subst (CanRise c.loop-kind.draft.kinds) tail c.loop-kind.invariant.rise in
    record {
      before = c.in_ok-put_kind.ensures.before ∙ c.loop-kind.invariant.before;
      kinds = c.in_ok-put_kind.ensures.ok ∙ ap (λ ks. put_kind c.args.now ks c.kind-item.result) c.loop-kind.invariant.kinds
          ∙ ap (put_kind c.args.now (fold (put_kind c.args.now) c.args.draft.now.kinds (take c.loop-kind.kind-index c.args.request.now.kinds))) item
          ∙ sym (fold_more (put_kind c.args.now) c.args.draft.now.kinds c.args.request.now.kinds c.loop-kind.kind-index c.kind-item.result less);
      apart = apart.1;
      rise = subst (λ ks. CanRise ks (drop (c.loop-kind.kind-index + 1) c.args.request.now.kinds)) (sym c.in_ok-put_kind.ensures.ok) (still_rises c.args.now c.loop-kind.draft.kinds c.kind-item.result _ apart.0 rise.1);
    }
