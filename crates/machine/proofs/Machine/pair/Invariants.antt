-- `machine::Machine::pair` meets its contract. The loop's invariant: only the futures have changed, and pairing what is left from here on gives
-- what pairing all of them gives from the start.
use Rattle.std.proofs.Common.{◌≡◌, ◌-◌, length}
use Rattle.machine.specs.State.{row_at, with_futures}
use Rattle.machine.specs.Pairing.{pair_from}
use Rattle.machine.proofs.Machine.pair.Given as goal

abbrev pub invariant-loop-pending : goal.invariant-loop-pending
invariant-loop-pending l =
    let m = l.fn.self in
    let row = row_at m l.fn.at.number in
    record {
      all : length l.pending-items ≡ l.count;
      same : l.self ≡ with_futures m l.self.futures;
      rest : pair_from (l.count - l.pending-index) m.links m.items row.last row.pending l.pending-index l.self.futures l.cursor ≡ pair_from l.count m.links m.items row.last row.pending 0 m.futures l.fn.start;
    }
