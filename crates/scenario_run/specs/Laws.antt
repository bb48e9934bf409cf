-- What holds of the decisions of a run.
use Rattle.std.specs.Prelude.{List}
use Rattle.storage_model.specs.Decisions.{Decision, IsLegal, IsOnce}
use Rattle.overlay_laws.specs.Gives.{GivesLastPuts, GivesAtDecisions, HoldsPermitted, InTime}

-- The decisions, taken in order, are those of one map that each permitted Store changes at most
-- once: their clocks never fall, a Fetch is given what was last put there, if that hasn't expired,
-- at any moment and at each decision, and nothing is held that wasn't permitted.
pub record AreOfOneMap (ds : List Decision) : Type 0 where
  pub legal : IsLegal ds
  pub once : IsOnce ds
  pub in_time : InTime ds
  pub gives : GivesLastPuts ds
  pub gives_then : GivesAtDecisions ds
  pub permitted : HoldsPermitted ds
