-- `contents::walked` meets its contract: a turn takes the first link of the walk that is left.
use Rattle.std.proofs.Common.{◌≡◌, ◌-◌}
use Rattle.contents.specs.Contents.{walked}
use Rattle.contents.proofs.walked.Given as goal

abbrev pub invariant-loop-step : goal.invariant-loop-step
invariant-loop-step l = walked l.links l.at (l.many - l._step) ≡ walked l.links l.from l.many
