-- A line by value: its text stands at the start, and zeros behind it.
use Rattle.std.specs.Prelude.{ℕ, List, length, replicate}
use Rattle.lent.specs.Lent.{written_at}
use Rattle.line.specs.declared.Line.{Line}

unfoldable pub line_of : List ℕ → Line
line_of text = record { bytes = written_at 0 text (replicate 64 0); count = length text }
