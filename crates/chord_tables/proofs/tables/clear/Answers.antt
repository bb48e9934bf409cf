use Rattle.std.proofs.Common.{◌∙◌, ◌<◌, ap, sym, map, length, get_or, set, arith}
use Rattle.std.specs.Prelude.{None}
use Rattle.std.proofs.lemmas.List.{map-set, length-map, get_or-map}
use Rattle.std.proofs.lemmas.List.Edits.{map_over_more}
use Rattle.chord_tables.specs.Tables.{number, spared}
use Rattle.chord_tables.proofs.tables.clear.Goals as goal

pub loop-finger-preserved : goal.loop-finger-preserved
loop-finger-preserved c =
    let items = c.loop-finger.finger-items in
    let i = c.loop-finger.finger-index in
    let here = number (get_or items i None) in
    let within : i < length items = omega arith in
    map-set number items i c.spared.result
    ∙ ap (set (map number items) i) c.spared.ensures
    ∙ map_over_more (spared c.args.node.0) (map number c.args.fingers.now) (map number items) i here
    (simp length-map c.loop-finger-test.true) c.loop-finger.invariant
    (sym (get_or-map number items i None here within))
