-- `machine::Machine::hops` meets its contract. The loop's invariant: the steps that were taken, with those still to come, are all.
use Rattle.std.proofs.Common.{◌≡◌, ◌-◌}
use Rattle.machine.specs.Steps.{hops}
use Rattle.machine.proofs.Runs.{plus}
use Rattle.machine.proofs.Machine.hops.Given as goal

abbrev pub invariant-loop-taken : goal.invariant-loop-taken
invariant-loop-taken l = hops l.most l.initial.self l.at.number ≡ plus l.taken (hops (l.most - l.taken) l.self l.at.number)
