-- What one call tells: the line that is put, and the listing after it, are the piece that is defined.
use Rattle.std.proofs.Common.{◌≡◌, ℕ, ◌≤◌, List, length, take, ap, ◌∙◌, arith}
use Rattle.lent.specs.Lent.{written_at}
use Rattle.std.specs.Prelude.{None, Some, Ok, Err}
use Rattle.schedule.specs.Read.{entry_at, EntryReading}
use Rattle.machine.specs.Entries.{apply}
use Rattle.contents.specs.Contents.{depth}
use Rattle.line.specs.declared.Line.{Line}
use Rattle.line.specs.Line.{line_of}
use Rattle.line.proofs.Lengths.{entry_few}
use Rattle.line.proofs.Lines.{Holds, line_counts_its_text, line_holds_its_text}
use Rattle.listing.specs.declared.Listing.{Listing}
use Rattle.listing.specs.Pieces.{by_reading, next_line}

module _ (s : List ℕ) (l : Listing) where
  -- a line finds room in 64 bytes
  pub next_line_few : length (next_line s l).text ≤ 64
  unfolding next_line
  next_line_few = few (entry_at s l.from)
    where
      few : (x : EntryReading) → length (by_reading x l).text ≤ 64
      few None = omega arith
      few (Some (Err r)) = omega (arith, entry_few l.place (Err r) 0 (depth l.machine))
      few (Some (Ok read)) = let t = apply l.machine read.entry in omega (arith, entry_few l.place t.answer t.steps (depth t.machine))

  module _ {line : Line} (e : line ≡ line_of (next_line s l).text) where
    pub next_counts : line.count ≡ length (next_line s l).text
    next_counts = ap (λ (x : Line). x.count) e ∙ line_counts_its_text (next_line s l).text

    pub next_holds : Holds line (next_line s l).text
    next_holds = rw e (line_holds_its_text (next_line s l).text next_line_few)

    -- the next line, put at a place
    pub next_put : (at : ℕ) (out : List ℕ) {last : List ℕ} → last ≡ written_at at (take line.count line.bytes) out → last ≡ written_at at (next_line s l).text out
    next_put at out put = put ∙ ap (λ (text : List ℕ). written_at at text out) next_holds.0
