use Rattle.std.proofs.Common.{◌≡◌, Some, None, ◌∙◌}
use Rattle.std.specs.FinMap.{get}
use Rattle.node_links.proofs.Tables.{links_of, last_again, none_again}
use Rattle.node_links.proofs.links.Links.put_back.Goals as goal

pub returns-in-Some : goal.returns-in-Some
returns-in-Some c = λ links before is.
    let there : Some c.in-Some.last ≡ get links.sent c.args.to.0 = cc in
    last_again links (links_of c.self.inside.sent c.self.inside.heard) c.args.to.0 (c.self.view_is ∙ is) c.in-Some.last c.exchange.new.self there c.exchange.ensures.table

pub returns-in-None : goal.returns-in-None
returns-in-None c = λ links before is.
    let none : None ≡ get links.sent c.args.to.0 = cc in
    none_again links (links_of c.self.inside.sent c.self.inside.heard) c.args.to.0 (c.self.view_is ∙ is) c.remove.new.self none c.remove.ensures.table
