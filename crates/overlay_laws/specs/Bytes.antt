-- Frames as programs have them.
use Rattle.std.specs.List.{AllByRecursion}
use Rattle.wire_core.specs.Spelling.{AreBytes}
use Rattle.run_model.specs.Worlds.{World}

-- whether what each frame of a world holds are bytes
abbrev pub AreAllBytes : World → Type 0
AreAllBytes w = AllByRecursion (λ f. AreBytes f.bytes) w.flights
