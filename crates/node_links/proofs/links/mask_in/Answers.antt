use Rattle.node_links.proofs.Masks.{one_mask}
use Rattle.node_links.proofs.links.mask_in.Goals as goal

pub returns : goal.returns
returns c = one_mask c.args.heard.now c.args.sequence c.mask.result c.mask.ensures
