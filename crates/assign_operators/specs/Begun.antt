-- A list as an assignment to its key finds it.
-- Assumes nothing.
use Rattle.rules.specs.Key.{Op, equal, unequal, assign, add, remove, final}
use Rattle.outcome.specs.State.{State}
use Rattle.outcome_lists.specs.Lists.{emptied}
use Rattle.outcome_target.specs.declared.Section.{Section}

-- `=` and `:=` begin with no entries
abbrev pub begun : Section → Op → State → State
begun section assign s = emptied section s
begun section final s = emptied section s
begun section equal s = s
begun section unequal s = s
begun section add s = s
begun section remove s = s
