-- One thread's row. 01, "Entries": a deferred call takes a pending place and is kept up in the tally; the step that ends a batch clears both.
use Rattle.std.specs.Prelude.{ℕ, ◌%◌, cond, [], replicate, ◌==◌, slice_set}
use Rattle.tally.specs.Tally.{nothing_pending, up}
use Rattle.tally.specs.Tally as tally
use Rattle.cells.specs.declared.Request.{Request}
use Rattle.cells.specs.Ends.{no_front}
use Rattle.place.specs.declared.Place.{Place}
use Rattle.place.specs.declared.Place.TheVariants.{Idle}
use Rattle.row.specs.declared.Row.{Row}

abbrev pub fresh_row : Row
fresh_row = record { place = Idle; pending = replicate 32 0; count = 0; tally = nothing_pending; first = 0; last = 0; future = 0 }

-- what stands past the end of the rows; no thread number leads there
abbrev pub no_row : Row
no_row = record { place = Idle; pending = []; count = 0; tally = nothing_pending; first = 0; last = 0; future = 0 }

abbrev pub placed : Row → Place → Row
placed r p = record { place = p; pending = r.pending; count = r.count; tally = r.tally; first = r.first; last = r.last; future = r.future }

abbrev pub calling : Row → Place → ℕ → Row
calling r p f = record { place = p; pending = r.pending; count = r.count; tally = r.tally; first = r.first; last = r.last; future = f }

-- an enqueue's node n is the batch's first where no enqueue was pending before
abbrev pub first_with : Row → ℕ → ℕ
first_with r n = cond (r.tally.enqueues == 0) n r.first

-- one more pending call, of the future f, before the tally has it
abbrev pub pushed : Row → ℕ → Row
pushed r f = record {
  place = r.place;
  pending = slice_set r.pending (r.count % 32) f;
  count = up r.count;
  tally = r.tally;
  first = r.first;
  last = r.last;
  future = r.future;
}

-- one more pending call, of the future f; an enqueue's node n is the batch's last
abbrev pub with_enqueue : Row → ℕ → ℕ → Row
with_enqueue r f n = record {
  place = r.place;
  pending = slice_set r.pending (r.count % 32) f;
  count = up r.count;
  tally = tally.with_enqueue r.tally;
  first = first_with r n;
  last = n;
  future = r.future;
}

abbrev pub with_dequeue : Row → ℕ → Row
with_dequeue r f = record {
  place = r.place;
  pending = slice_set r.pending (r.count % 32) f;
  count = up r.count;
  tally = tally.with_dequeue r.tally;
  first = r.first;
  last = r.last;
  future = r.future;
}

abbrev pub cleared : Row → Row
cleared r = record { place = Idle; pending = r.pending; count = 0; tally = nothing_pending; first = r.first; last = r.last; future = r.future }

-- what an announcement of the pending calls asks for; its old head is set at b2
abbrev pub request : Row → Request
request r = record { first = r.first; last = r.last; tally = r.tally; old_head = no_front }
