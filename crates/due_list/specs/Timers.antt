-- What a sorted vector holds, as entries.
use Rattle.std.specs.Prelude.{List, map}
use Rattle.due_list.specs.declared.timers.Timer.{Timer}
use Rattle.due_list.specs.Entries.{Entry}

-- a timer as an entry, whose place is its id
abbrev pub placed : Timer → Entry
placed t = record { due = t.due; id = t.id; owner = t.owner; place = t.id }

-- timers as entries
abbrev pub all_placed : List Timer → List Entry
all_placed ts = map placed ts
