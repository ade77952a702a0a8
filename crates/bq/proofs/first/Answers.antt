-- `bq::first` meets its contract: the line, up to its count, is its text.
use Rattle.std.proofs.Common.{subst}
use Rattle.std.specs.Io.KnownBytes.{Appends}
use Rattle.bq.proofs.Writing.{first_held, on_ok}
use Rattle.bq.proofs.first.Goals as goal

pub shared_ref_as_front-write_all : goal.shared_ref_as_front-write_all
shared_ref_as_front-write_all g c = (first_held c.args.made c.first-line.ensures).1

pub returns : goal.returns
returns g c =
    on_ok c.write_all.result
    (subst (Appends (g.W.Write.contents c.args.out.now) (g.W.Write.contents c.write_all.new.self)) (first_held c.args.made c.first-line.ensures).0)
    c.write_all.ensures.bytes
