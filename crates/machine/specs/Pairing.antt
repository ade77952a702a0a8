-- Pairing of results with futures: listings 6 and 8 of 002, in the step that ends the call.
use Rattle.std.specs.Prelude.{ℕ, zero, suc, ◌+◌, ◌%◌, false, List, slice_index, slice_index_or, slice_set, Some, Ok}
use Rattle.cells.specs.Links.{Link}
use Rattle.memory.specs.Memory.{link_at}
use Rattle.row.specs.declared.Row.{Row}
use Rattle.row.specs.Row.{cleared}
use Rattle.answer.specs.declared.Item.{Item}
use Rattle.answer.specs.Answer.{Outcome, answered}
use Rattle.answer.specs.declared.Future.{Future}
use Rattle.machine.specs.declared.Told.{Told}
use Rattle.machine.specs.declared.Machine.{Machine}
use Rattle.pairing.specs.declared.Supply.TheVariants.{Batch, Dequeues}
use Rattle.pairing.specs.declared.Cursor.{Cursor}
use Rattle.pairing.specs.declared.Paid.{Paid}
use Rattle.pairing.specs.declared.Around.{Around}
use Rattle.pairing.specs.Pairing.{node_behind, next_of, pay}
use Rattle.machine.specs.State.{row_at, with_row, with_futures, future_at, item_in, no_future}

-- what a turn reads: links and items as they are, the batch's last node
abbrev pub around : List Link → List Item → ℕ → Cursor → Around
around links items last c = record {
  behind = link_at links c.at;
  node = node_behind (link_at links c.at) c.at;
  item = item_in items (node_behind (link_at links c.at) c.at);
  behind_next = link_at links (next_of c.supply);
  last = last;
}

abbrev pub done : Future → Outcome → Future
done f o = record { owner = f.owner; operation = f.operation; outcome = o }

-- the call of one future
abbrev pub paid_to : List Link → List Item → ℕ → Cursor → Future → Paid
paid_to links items last c f = pay c.at c.supply f.operation (around links items last c)

-- the k-th pending call's future; and the futures once it is done
abbrev pub pending_future : List ℕ → ℕ → List Future → Future
pending_future pending k fs = slice_index_or fs (slice_index pending (k % 32) % 512) no_future

abbrev pub with_outcome : List ℕ → ℕ → List Future → Outcome → List Future
with_outcome pending k fs o = slice_set fs (slice_index pending (k % 32) % 512) (done (pending_future pending k fs) o)

-- the futures of n pending calls from the k-th on become done, in calling order
unfoldable pub pair_from : ℕ → List Link → List Item → ℕ → List ℕ → ℕ → List Future → Cursor → List Future
pair_from zero links items last pending k fs c = fs
pair_from (suc n) links items last pending k fs c =
    pair_from n links items last pending (k + 1)
    (with_outcome pending k fs (Some (paid_to links items last c (pending_future pending k fs)).result))
    (paid_to links items last c (pending_future pending k fs)).cursor

-- the futures of a row's pending calls
abbrev pub pairing_of : Machine → Row → Cursor → Machine
pairing_of m r c = with_futures m (pair_from (r.count % 33) m.links m.items r.last r.pending 0 m.futures c)

unfoldable pub pairing : Machine → ℕ → Cursor → Machine
pairing m i c = pairing_of m (row_at m i) c

-- the end of a batch's call: its futures are done, the pending list and the tally cleared, the answer that of the future that was asked for
unfoldable pub settled : Machine → ℕ → ℕ → Cursor → Told
settled m i steps c = record {
  machine = with_row (pairing m i c) i (cleared (row_at m i));
  answer = Ok (answered (future_at (pairing m i c) (row_at m i).future).outcome);
  steps = steps;
}

-- where the two pairings begin: listing 6 at the old head, with the batch's first node; listing 8 at the head that was read, with the nodes taken
abbrev pub batch_cursor : ℕ → ℕ → Cursor
batch_cursor from first = record { at = from; supply = Batch (Some first) false }

abbrev pub dequeues_cursor : ℕ → ℕ → Cursor
dequeues_cursor from taken = record { at = from; supply = Dequeues taken }
