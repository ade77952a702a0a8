-- `listing::Listing::tell` meets its contract: line by line, as `Blocks` has it.
use Rattle.std.proofs.Common.{◌-◌, ◌/◌, length}
use Rattle.listing.proofs.Blocks.{Telling}
use Rattle.listing.proofs.Listing.tell.Given as goal

abbrev pub invariant-loop-told : goal.invariant-loop-told
invariant-loop-told l = Telling (length l.initial.out / 64) l.input l.initial.self l.initial.out l.out l.self l.at (length l.initial.out / 64 - l._told)
