use Rattle.std.proofs.Common.{ap, sym, ◌∙◌}
use Rattle.std.specs.FinMap.{insert}
use Rattle.std.proofs.lemmas.Result.{on_ok_weaker, on_err_weaker}
use Rattle.ordered_tables.proofs.Finite.{found_there}
use Rattle.node_model.specs.Links.{with_heard}
use Rattle.node_links.proofs.Tables.{links_of, put_twice, put_again, heard_there}
use Rattle.node_links.proofs.links.Links.note_heard.Goals as goal

pub returns-then-exchange-clause-ok : goal.returns-then-exchange-clause-ok
returns-then-exchange-clause-ok c =
    on_ok_weaker c.add-added.result
    (λ added. ap (λ h. links_of c.self.inside.sent h)
    (put_twice c.self.inside.heard c.exchange.new.self c.exchange-then-exchange.new.self c.args.from.0 c.new-acks.result c.exchange.new.value c.add-added.new.self
    (found_there _ _ _ (sym c.if-exchange.true ∙ c.exchange.ensures.there) c.exchange.ensures.value) c.exchange.ensures.table c.exchange-then-exchange.ensures.table ∙ ap (insert c.self.inside.heard c.args.from.0) added)
    ∙ heard_there (links_of c.self.inside.sent c.self.inside.heard) c.args.from.0 c.args.sequence c.exchange.new.value (found_there _ _ _ (sym c.if-exchange.true ∙ c.exchange.ensures.there) c.exchange.ensures.value)
    ∙ ap (with_heard c.args.from.0 c.args.sequence) c.self.view_is)
    c.add-added.ensures.ok

pub returns-then-exchange-clause-err : goal.returns-then-exchange-clause-err
returns-then-exchange-clause-err c =
    on_err_weaker c.add-added.result
    (λ left. ap (λ h. links_of c.self.inside.sent h)
    (put_again c.self.inside.heard c.exchange-then-exchange.new.self c.args.from.0 c.exchange.new.value
    (found_there _ _ _ (sym c.if-exchange.true ∙ c.exchange.ensures.there) c.exchange.ensures.value)
    (put_twice c.self.inside.heard c.exchange.new.self c.exchange-then-exchange.new.self c.args.from.0 c.new-acks.result c.exchange.new.value c.add-added.new.self
    (found_there _ _ _ (sym c.if-exchange.true ∙ c.exchange.ensures.there) c.exchange.ensures.value) c.exchange.ensures.table c.exchange-then-exchange.ensures.table ∙ ap (insert c.self.inside.heard c.args.from.0) left))
    ∙ c.self.view_is)
    c.add-added.ensures.err
