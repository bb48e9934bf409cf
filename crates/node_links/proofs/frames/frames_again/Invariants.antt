use Rattle.std.proofs.Common.{◌≡◌, ◌++◌, drop}
use Rattle.node_model.specs.Nodes.{frames_of_all, links_after_all}
use Rattle.node_model.specs.Clocks.{posts_again}
use Rattle.node_links.proofs.frames.frames_again.Given as goal

-- those so far, and those of the rest, are all
abbrev pub invariant-loop-spot : goal.invariant-loop-spot
invariant-loop-spot l = record {
  frames : l.out ++ frames_of_all l.links (posts_again l.limit l.table (drop l.spot-index l.spots)) ≡ frames_of_all l.initial.links (posts_again l.limit l.table l.spots);
  links : links_after_all (posts_again l.limit l.table (drop l.spot-index l.spots)) l.links ≡ links_after_all (posts_again l.limit l.table l.spots) l.initial.links;
}
