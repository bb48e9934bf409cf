use Rattle.std.proofs.Common.{◌++◌, ℕ, List, refl, ap, sym, subst, ◌∙◌, inl, inr}
use Rattle.std.specs.List.{AllByRecursion}
use Rattle.std.specs.Ordering.{nat_cmp}
use Rattle.std.specs.FinMap.{entries}
use Rattle.storage_model.specs.Records.{KindEntry, Kinds, Record}
use Rattle.record_state.specs.Written.{kind_written}
use Rattle.node_model.specs.Copies as model
use Rattle.ordered_tables.proofs.Trees.{entries-empty}
use Rattle.record_copies.specs.Said.{IsPlaced}
use Rattle.record_copies.proofs.Pushing.{none_left, all_pushed, next_said, next_light, next_follows, pushed_light, pushed_far}
use Rattle.record_copies.proofs.giving.push_kinds.Goals as goal

pub notes-init : goal.notes-init
notes-init c = record {
  same = (refl, refl, refl);
  so_far = ap (λ (m : Kinds). entries m ++ model.kinds_said c.of-left.result c.of-beside.result) c.requires.new
      ∙ ap (λ (es : List (ℕ × KindEntry)). es ++ model.kinds_said c.of-left.result c.of-beside.result) (entries-empty nat_cmp)
      ∙ ap (λ l. model.kinds_said l c.of-beside.result) c.of-left.ensures ∙ ap (model.kinds_said c.args.notes) c.of-beside.ensures;
  each = subst (AllByRecursion IsPlaced) (sym c.of-left.ensures) c.requires.placed.each;
}

pub returns-in_default-take : goal.returns-in_default-take
returns-in_default-take c =
    all_pushed c.notes.given c.args.given.now c.args.notes c.args.kinds (model.kinds_said c.notes.left c.notes.beside) c.requires.placed c.notes.invariant.same c.notes.invariant.so_far
    (none_left c.notes.left c.notes.beside (inr c.in_default-take.ensures.0))

pub kind_said-requires-clause-light : goal.kind_said-requires-clause-light
kind_said-requires-clause-light c =
    next_light (entries c.notes.given.kinds) c.in-Some.note c.take.new.self c.in-Some-take.kind c.take-in-Some.new.self c.notes.left c.notes.beside c.args.notes c.args.kinds c.requires.placed
    c.in-Some.ensures c.in-Some-take.ensures c.notes.invariant.each c.notes.invariant.so_far

pub push_kind-requires-clause-follows : goal.push_kind-requires-clause-follows
push_kind-requires-clause-follows c =
    let k = c.in_ok-kind_said.field-0 in
    let far = next_said (entries c.notes.given.kinds) c.in-Some.note c.take.new.self c.in-Some-take.kind c.take-in-Some.new.self c.notes.left c.notes.beside (k.kind, kind_written k) (model.kinds_said c.args.notes c.args.kinds)
    c.in-Some.ensures c.in-Some-take.ensures c.in_ok-kind_said.ensures.kind c.notes.invariant.so_far in
    next_follows c.notes.given.kinds k (model.kinds_said c.take.new.self c.take-in-Some.new.self) c.args.notes c.args.kinds c.requires.placed far c.in_ok-kind_said.ensures.some c.in_ok-kind_said.ensures.rising

pub push_kind-requires-clause-light : goal.push_kind-requires-clause-light
push_kind-requires-clause-light c =
    let k = c.in_ok-kind_said.field-0 in
    let far = next_said (entries c.notes.given.kinds) c.in-Some.note c.take.new.self c.in-Some-take.kind c.take-in-Some.new.self c.notes.left c.notes.beside (k.kind, kind_written k) (model.kinds_said c.args.notes c.args.kinds)
    c.in-Some.ensures c.in-Some-take.ensures c.in_ok-kind_said.ensures.kind c.notes.invariant.so_far in
    pushed_light c.notes.given.kinds (k.kind, kind_written k) (model.kinds_said c.take.new.self c.take-in-Some.new.self) c.args.notes c.args.kinds c.requires.placed far

pub notes-preserved : goal.notes-preserved
notes-preserved c =
    let k = c.in_ok-kind_said.field-0 in
    let far = next_said (entries c.notes.given.kinds) c.in-Some.note c.take.new.self c.in-Some-take.kind c.take-in-Some.new.self c.notes.left c.notes.beside (k.kind, kind_written k) (model.kinds_said c.args.notes c.args.kinds)
    c.in-Some.ensures c.in-Some-take.ensures c.in_ok-kind_said.ensures.kind c.notes.invariant.so_far in
    let is = c.in_ok-push_kind.ensures.ok in
    let same = c.notes.invariant.same in
    let each = subst (AllByRecursion IsPlaced) c.in-Some.ensures c.notes.invariant.each in
    record {
      same = (ap (λ (r : Record). r.turn) is ∙ same.0, ap (λ (r : Record). r.joined) is ∙ same.1, ap (λ (r : Record). r.kept) is ∙ same.2);
      so_far = ap (λ (r : Record). entries r.kinds ++ model.kinds_said c.take.new.self c.take-in-Some.new.self) is
          ∙ pushed_far c.notes.given.kinds (k.kind, kind_written k) (model.kinds_said c.take.new.self c.take-in-Some.new.self) c.args.notes c.args.kinds c.requires.placed far;
      each = each.1;
    }

pub returns : goal.returns
returns c =
    all_pushed c.notes.given c.args.given.now c.args.notes c.args.kinds (model.kinds_said c.notes.left c.notes.beside) c.requires.placed c.notes.invariant.same c.notes.invariant.so_far
    (none_left c.notes.left c.notes.beside (inl c.in_default.ensures.0))
