-- What the calls of a fake do to its counters.
use Rattle.std.specs.Prelude.{◌≡◌, ◌+◌, ◌-◌, ◌^◌, ◌==◌, ◌&&◌, Bool, nat_lt, [], if◌then◌else◌}
use Rattle.std.specs.List.{list_any}
use Rattle.reload_base.specs.Outside.{raised}
use Rattle.reload_base.specs.declared.calls.Calls.{Calls}

-- whether the next call fails: its number is listed, and the counter of calls hasn't ended
unfoldable pub next_fails : Calls → Bool
next_fails c = nat_lt c.made (2 ^ 64 - 1) && list_any (λ n. n == c.made + 1) c.failing

-- the calls after one more; one that fails raises the count of faults
unfoldable pub counted : Calls → Calls
counted c = record c {
  made = raised c.made;
  faults = if next_fails c then raised c.faults else c.faults;
}

-- no call fails
abbrev pub IsFaultless : Calls → Type 0
IsFaultless c = c.failing ≡ []
