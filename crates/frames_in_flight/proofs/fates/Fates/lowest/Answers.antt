use Rattle.std.proofs.Common.{length, drop, position, sym, ap, ◌∙◌, arith}
use Rattle.frames_in_flight.specs.Flying.{waits}
use Rattle.frames_in_flight.proofs.Fronts.{front_within, found_behind, none_behind}
use Rattle.frames_in_flight.proofs.fates.Fates.lowest.Goals as goal

pub split_at-requires : goal.split_at-requires
split_at-requires c =
    let within = front_within waits c.self.inside.fates.items in
    omega (arith, c.self.invariant, within, ap length c.as_slice.ensures.value)

pub invariant_of-self : goal.invariant_of-self
invariant_of-self c =
    let found = found_behind waits c.self.inside.settled c.in-Some.more c.self.inside.fates.items c.split_at.result.1.now c.self.invariant (c.split_at.ensures.back ∙ ap (drop c.self.inside.settled) c.as_slice.ensures.value) (sym c.in-Some.is ∙ c.first_waiting.ensures) in
    omega (arith, found.0)

pub invariant_of-self-in-None : goal.invariant_of-self-in-None
invariant_of-self-in-None c =
    let none = none_behind waits c.self.inside.settled c.self.inside.fates.items c.split_at.result.1.now c.self.invariant (c.split_at.ensures.back ∙ ap (drop c.self.inside.settled) c.as_slice.ensures.value) (sym c.in-None.is ∙ c.first_waiting.ensures) in
    omega (arith, none.0, c.len-self-inside.ensures)

pub returns-in-Some-clause-place : goal.returns-in-Some-clause-place
returns-in-Some-clause-place c =
    (found_behind waits c.self.inside.settled c.in-Some.more c.self.inside.fates.items c.split_at.result.1.now c.self.invariant (c.split_at.ensures.back ∙ ap (drop c.self.inside.settled) c.as_slice.ensures.value) (sym c.in-Some.is ∙ c.first_waiting.ensures)).1
    ∙ ap (position waits) c.self.view_is

pub returns-in-None-clause-place : goal.returns-in-None-clause-place
returns-in-None-clause-place c =
    (none_behind waits c.self.inside.settled c.self.inside.fates.items c.split_at.result.1.now c.self.invariant (c.split_at.ensures.back ∙ ap (drop c.self.inside.settled) c.as_slice.ensures.value) (sym c.in-None.is ∙ c.first_waiting.ensures)).1
    ∙ ap (position waits) c.self.view_is
