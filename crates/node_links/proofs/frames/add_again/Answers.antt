use Rattle.std.proofs.Common.{sym, ◌∙◌}
use Rattle.std.proofs.lemmas.Result.{on_ok_weaker}
use Rattle.node_links.proofs.Again.{none_again, some_again, small_again, none_leaves, one_leaves}
use Rattle.node_links.proofs.frames.add_again.Goals as goal

pub add_posted-requires : goal.add_posted-requires
add_posted-requires c =
    small_again (λ a. a.0) (λ a. a.1) (λ m. m.now) c.args.limit c.args.table.now c.args.spot c.posted_again.result c.posted_again.ensures (c.in-Some.to, c.in-Some.message) (sym c.in-Some.is) c.requires

pub returns-in-None-clause-frames : goal.returns-in-None-clause-frames
returns-in-None-clause-frames c =
    (none_leaves c.args.links.now c.args.out.now _ (none_again (λ a. a.0) (λ a. a.1) (λ m. m.now) c.args.limit c.args.table.now c.args.spot c.posted_again.result c.posted_again.ensures (sym c.in-None.is))).0

pub returns-in-None-clause-links : goal.returns-in-None-clause-links
returns-in-None-clause-links c =
    (none_leaves c.args.links.now c.args.out.now _ (none_again (λ a. a.0) (λ a. a.1) (λ m. m.now) c.args.limit c.args.table.now c.args.spot c.posted_again.result c.posted_again.ensures (sym c.in-None.is))).1

pub returns-in_ok-add_posted-in-Some-clause-links : goal.returns-in_ok-add_posted-in-Some-clause-links
returns-in_ok-add_posted-in-Some-clause-links c =
    on_ok_weaker c.note_sent.result
    (λ e. e ∙ one_leaves c.args.links.now c.in-Some.to _ _ (some_again (λ a. a.0) (λ a. a.1) (λ m. m.now) c.args.limit c.args.table.now c.args.spot c.posted_again.result c.posted_again.ensures (c.in-Some.to, c.in-Some.message) (sym c.in-Some.is)))
    c.note_sent.ensures.ok
