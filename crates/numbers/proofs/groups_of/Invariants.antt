-- The loop keeps `Remaining`: the bytes so far are the groups written, and those of `rest` are still to come.
use Rattle.std.proofs.Common.{◌-◌, ◌≤◌, length}
use Rattle.numbers.proofs.WrittenGroups.{Remaining}
use Rattle.numbers.proofs.groups_of.Given as goal

abbrev pub invariant-loop-rest : goal.invariant-loop-rest
invariant-loop-rest l = (length l.groups.items ≤ 4) × Remaining l.fn.n l.groups.items l.rest (4 - length l.groups.items)

abbrev pub decreases-loop-rest : goal.decreases-loop-rest
decreases-loop-rest l = 4 - length l.groups.items
