-- `line::Line::of` meets its contract: what is written at the start of zeros, where it finds room, is put there.
use Rattle.std.proofs.Common.{◌≡◌, length, sym, ◌∙◌, rules}
use lib.ListN.{replicate}
use Rattle.std.specs.Prelude.{Ok}
use Rattle.lent.proofs.Laws.{writing_fits, written_fits, written_at_start}
use Rattle.line.proofs.Lines.{line_made}
use Rattle.line.proofs.Line.of.Goals as goal

pub returns : goal.returns
returns c =
    let text = c.args.text.now.so_far.bytes in
    let zeros = replicate 64 0 in
    let fits = c.put.ensures.0 ∙ writing_fits text zeros c.requires in
    let count : c.unwrap-count.result ≡ length text = search (rules, fits) in
    line_made text (count, c.put.ensures.1 ∙ written_fits text zeros c.requires ∙ sym (written_at_start text zeros))
