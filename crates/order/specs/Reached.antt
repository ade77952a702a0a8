-- The machine after a list of entries. A refused entry changes nothing, so it may stand in the list.
use Rattle.std.specs.Prelude.{List, [], ◌∷◌}
use Rattle.entry.specs.declared.Entry.{Entry}
use Rattle.machine.specs.declared.Machine.{Machine}
use Rattle.machine.specs.Entries.{apply}

unfoldable pub after : Machine → List Entry → Machine
after m [] = m
after m (e ∷ es) = after (apply m e).machine es
