-- `bq::entries` meets its contract: block by block.
use Rattle.listing.specs.Listing.{counted}
use Rattle.bq.proofs.Writing.{Blocks}
use Rattle.bq.proofs.entries.Given as goal

abbrev pub invariant-loop-round : goal.invariant-loop-round
invariant-loop-round g l = Blocks (counted l.s) l.initial.listing l._round l.listing (g.W.Write.contents l.initial.out) (g.W.Write.contents l.out)
