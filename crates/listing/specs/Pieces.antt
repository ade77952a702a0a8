-- A listing told piece by piece: what each call writes, and how far the schedule has then been told.
-- The entries' places are 32 bits wide; no counted input has as many.
use Rattle.std.specs.Prelude.{ℕ, zero, suc, ◌+◌, ◌%◌, ◌^◌, true, false, cond, List, [], ◌++◌, length, None, Some, Result, Ok, Err}
use Rattle.refusal.specs.declared.Refusal.{Refusal}
use Rattle.entry.specs.declared.Entry.{Entry}
use Rattle.schedule.specs.Read.{set_up_of, entry_at, EntryReading, SetUpReading}
use Rattle.machine.specs.declared.Machine.{Machine}
use Rattle.machine.specs.declared.Told.{Told}
use Rattle.machine.specs.State.{fresh_machine}
use Rattle.machine.specs.Entries.{apply}
use Rattle.contents.specs.Contents.{contents, depth}
use Rattle.line.specs.Text.{first_text, entry_text, queue_text}
use Rattle.listing.specs.declared.Listing.{Listing}
use Rattle.listing.specs.declared.Opened.{Opened}
use Rattle.listing.specs.declared.Lines.{Lines}
use Rattle.listing.specs.Listing.{entry_line, counted}
use Rattle.refusal.specs.Verdicts.{accepted, and_then}

-- some text, and the listing after it
pub record Piece : Type 0 where
  pub text : List ℕ
  pub after : Listing

abbrev pub told : Piece → Lines
told p = record { listing = p.after; count = length p.text }

-- the set-up
abbrev pub beginning : Machine → ℕ → Listing
beginning m from = record { machine = m; from = from; place = 0; going = true }

abbrev pub opened_by : SetUpReading → Result Listing Refusal
opened_by reading = and_then reading λ up. Ok (beginning (fresh_machine up.threads up.nodes) up.next)

abbrev pub opened : List ℕ → Result Listing Refusal
opened s = opened_by (set_up_of (counted s))

-- the verdict beside the listing; a refused set-up's is that of a fresh machine of 0 and 0, from the first byte on
abbrev pub with_verdict : Result Listing Refusal → Opened
with_verdict (Ok l) = record { verdict = accepted; listing = l }
with_verdict (Err r) = record { verdict = Err r; listing = beginning (fresh_machine 0 0) 0 }

abbrev pub opened_with_verdict : List ℕ → Opened
opened_with_verdict s = with_verdict (opened s)

abbrev pub first_line : Result Listing Refusal → List ℕ
first_line (Ok l) = first_text (Ok l.machine)
first_line (Err r) = first_text (Err r)

-- the next entry's line
abbrev pub stopped : Listing → Listing
stopped l = record { machine = l.machine; from = l.from; place = l.place; going = false }

abbrev pub ended : Listing → Piece
ended l = record { text = []; after = stopped l }

abbrev pub refused_at : Listing → Refusal → Piece
refused_at l r = record { text = entry_text l.place (Err r) 0 (depth l.machine); after = stopped l }

abbrev pub after_entry : ℕ → ℕ → Told → Piece
after_entry place from t = record {
  text = entry_line place t;
  after = record { machine = t.machine; from = from; place = (place + 1) % 2 ^ 32; going = true };
}

abbrev pub entered : Listing → Entry → ℕ → Piece
entered l e n = after_entry l.place (l.from + n) (apply l.machine e)

abbrev pub by_reading : EntryReading → Listing → Piece
by_reading None l = ended l
by_reading (Some (Err r)) l = refused_at l r
by_reading (Some (Ok read)) l = entered l read.entry read.count

unfoldable pub next_line : List ℕ → Listing → Piece
next_line s l = by_reading (entry_at s l.from) l

-- the lines of the next entries, n at most
abbrev pub before : Piece → Piece → Piece
before p q = record { text = p.text ++ q.text; after = q.after }

unfoldable pub lines : ℕ → List ℕ → Listing → Piece
lines zero s l = record { text = []; after = l }
lines (suc n) s l = cond l.going (before (next_line s l) (lines n s (next_line s l).after)) (record { text = []; after = l })

-- what the queue holds
abbrev pub last_line : Listing → List ℕ
last_line l = queue_text (contents l.machine)
