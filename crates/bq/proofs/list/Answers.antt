-- `bq::list` meets its contract: the first line, and then the entries' lines and the last.
use Rattle.std.proofs.Common.{sym, ◌∙◌}
use Rattle.bq.proofs.Writing.{on_ok, refused_told, accepted_told}
use Rattle.bq.proofs.list.Goals as goal

pub returns-in-Err : goal.returns-in-Err
returns-in-Err g c =
    on_ok c.first.result
    (refused_told c.args.s.now (g.W.Write.contents c.args.out.now) (g.W.Write.contents c.first.new.out) (sym c.of.ensures ∙ c.in-Err.is))
    c.first.ensures

pub returns-in_ok-first-in-Ok : goal.returns-in_ok-first-in-Ok
returns-in_ok-first-in-Ok g c =
    on_ok c.entries.result
    (
    accepted_told c.args.s.now (g.W.Write.contents c.args.out.now) (g.W.Write.contents c.first-in-Ok.new.out) (g.W.Write.contents c.entries.new.out)
    (sym c.of.ensures ∙ c.in-Ok.is) c.in_ok-first-in-Ok.ensures
    )
    c.entries.ensures
