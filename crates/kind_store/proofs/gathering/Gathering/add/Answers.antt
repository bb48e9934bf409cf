use Rattle.std.proofs.Common.{◌≡◌, fold, OnOk, sym, ap, ◌∙◌, subst}
use Rattle.storage_model.specs.Fetches.{slots_asked}
use Rattle.kind_store.specs.Gathered.{with_keys, with_range}
use Rattle.kind_store.proofs.Gathers.{ranges_of}
use Rattle.kind_store.proofs.gathering.Gathering.add.Goals as goal

pub returns-in-Ranges : goal.returns-in-Ranges
returns-in-Ranges c =
    subst
    (λ selector. OnOk c.add_ranges.result (c.add_ranges.new.self ≡ with_keys c.args.now c.args.slots.now c.args.self.now (slots_asked c.args.now c.args.slots.now selector)))
    (sym c.in-Ranges.is)
    (subst (λ s. OnOk c.add_ranges.result (c.add_ranges.new.self ≡ s))
    (ap (fold (with_range c.args.now c.args.slots.now) c.args.self.now) c.as_slice.ensures ∙ ranges_of c.args.now c.args.slots.now c.args.self.now c.in-Ranges.ranges)
    c.add_ranges.ensures)
