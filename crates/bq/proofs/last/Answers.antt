-- `bq::last` meets its contract: the line has room in 8,192 bytes.
use Rattle.bq.proofs.Writing.{queue_not_refused}
use Rattle.bq.proofs.last.Goals as goal

pub returns-in-Err : goal.returns-in-Err
returns-in-Err g c = queue_not_refused c.args.listing.now.machine c.queue.ensures.0 c.in-Err.is
