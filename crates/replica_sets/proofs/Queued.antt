-- What is queued to a mirror, in parts.
use Rattle.std.proofs.Common.{◌≡◌, refl, sym, ap, ◌∙◌, Bool, true, false, not, List, ◌++◌, append_assoc}
use Rattle.std.specs.List.{filter}
use Rattle.std.proofs.lemmas.List.{map-append}
use Rattle.std.proofs.lemmas.List.Elements.{filter-append, filter_agree}
use Rattle.reload_ids.specs.declared.NodeId.{NodeId}
use Rattle.reload_ids.specs.declared.ResourceId.{ResourceId}
use Rattle.replica_sets.specs.declared.range.Range.{Range}
use Rattle.replica_sets.specs.Refills.{owns, is_mirror, is_lacking, to_mirror, refilled_to}
use Rattle.replica_sets.proofs.Lists.{filter_all, filter_twice}

-- a mirror that wasn't one lacks all; one that was lacks what wasn't owned
pub lacking_new : (before : Range) (mirror : NodeId) (rs : List ResourceId)
    → is_mirror before mirror ≡ false
    → filter (λ r. is_lacking before mirror r) rs ≡ rs
unfolding is_lacking
lacking_new before mirror rs is =
    filter_all (λ r. is_lacking before mirror r) rs (λ k d lt. rw is refl)

pub lacking_old : (before : Range) (mirror : NodeId) (rs : List ResourceId)
    → is_mirror before mirror ≡ true
    → filter (λ r. is_lacking before mirror r) rs ≡ filter (λ r. not (owns before r)) rs
unfolding is_lacking
lacking_old before mirror rs is =
    filter_agree (λ r. is_lacking before mirror r) (λ r. not (owns before r)) (λ r. rw is refl) rs

pub queued_twice : (old next : List (NodeId × ResourceId)) (mirror : NodeId)
    (low high rs : List ResourceId)
    → next ≡ old ++ to_mirror mirror low → low ++ high ≡ rs
    → old ++ to_mirror mirror rs ≡ next ++ to_mirror mirror high
unfolding to_mirror
queued_twice old next mirror low high rs first is =
    let to : ResourceId → NodeId × ResourceId = λ r. (mirror, r) in
    rw (← is, first, map-append to low high, append_assoc) refl

pub mirror_refilled : (before after : Range) (mirror : NodeId) (held low high : List ResourceId)
    (old next last : List (NodeId × ResourceId))
    → low ++ high ≡ filter (λ r. owns after r) held
    → next ≡ old ++ to_mirror mirror (filter (λ r. is_lacking before mirror r) low)
    → last ≡ next ++ to_mirror mirror (filter (λ r. is_lacking before mirror r) high)
    → last ≡ old ++ refilled_to before after held mirror
unfolding refilled_to
mirror_refilled before after mirror held low high old next last is first second =
    let p : ResourceId → Bool = λ r. is_lacking before mirror r in
    let both =
    sym (filter-append p low high) ∙ ap (filter p) is
    ∙ filter_twice p (λ r. owns after r) held in
    second ∙ sym (queued_twice old next mirror (filter p low) (filter p high) _ first both)
