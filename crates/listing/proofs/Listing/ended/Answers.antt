-- `listing::Listing::ended` meets its contract: zeros alone are the line of no text.
use Rattle.std.proofs.Common.{[], sym, refl}
use Rattle.lent.proofs.Laws.{nothing_written}
use Rattle.line.proofs.Lines.{line_made}
use Rattle.listing.proofs.Listing.ended.Goals as goal

pub returns-clause-line : goal.returns-clause-line
returns-clause-line c = line_made [] (refl, sym (nothing_written 0 _))
