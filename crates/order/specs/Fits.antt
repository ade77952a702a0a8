-- The code is total: a number past the end of its table is taken by its remainder, a count of 32 bits wraps, a subtraction is cut off at 0.
-- Here is what it means that none of these is met: each number is below the size of its table, each count that goes up stays below 2^32, and
-- what is subtracted is not the larger. (The cut-offs that 01 itself speaks of are no such case: the depth, which is 0 where it would be
-- negative, and the failing dequeues of a batch, which are none where the queue is longer than the excess.)
use Rattle.std.specs.Prelude.{ℕ, ◌+◌, ◌-◌, ◌^◌, ◌<◌, ◌≤◌, get_or}
use Rattle.cells.specs.declared.Tail.{Tail}
use Rattle.cells.specs.declared.Request.{Request}
use Rattle.memory.specs.Memory.{announcement_at}
use Rattle.place.specs.declared.Place.{Place}
use Rattle.place.specs.declared.Place.TheVariants.{Idle, Enqueue, Dequeue, Batch, Dequeues, Running}
use Rattle.place.specs.declared.EnqueueStep.{EnqueueStep}
use Rattle.place.specs.declared.EnqueueStep.TheVariants.{E1, E2, E3, E4, E5}
use Rattle.place.specs.declared.DequeueStep.{DequeueStep}
use Rattle.place.specs.declared.DequeueStep.TheVariants.{D1, D2, D3}
use Rattle.place.specs.declared.DequeuesStep.{DequeuesStep}
use Rattle.place.specs.declared.DequeuesStep.TheVariants.{Q1, Q2, Q3}
use Rattle.place.specs.declared.RunStep.{RunStep}
use Rattle.place.specs.declared.RunStep.TheVariants.{A1, A2, A3, A4, A5, A6, A7, A8}
use Rattle.running.specs.Running.{size_at}
use Rattle.row.specs.declared.Row.{Row}
use Rattle.machine.specs.declared.Machine.{Machine}
use Rattle.machine.specs.State.{row_at}

abbrev pub NodeFits : ℕ → Type 0
NodeFits n = n < 512

-- a count goes up without a wrap
abbrev pub Rises : ℕ → ℕ → Type 0
Rises count by = count + by < 2 ^ 32

-- e2 reads and CASes the link of the tail's node; e3 and e5 move the tail by one
abbrev pub EnqueueFits : ℕ → EnqueueStep → Type 0
EnqueueFits n E1 = NodeFits n
EnqueueFits n (E2 t) = NodeFits n × NodeFits t.node
EnqueueFits n (E3 t) = NodeFits n × Rises t.count.0 1
EnqueueFits n (E4 t x) = NodeFits n × NodeFits x
EnqueueFits n (E5 t x) = NodeFits n × NodeFits x × Rises t.count.0 1

-- d3's node is also the one whose item is the result
abbrev pub DequeueFits : DequeueStep → Type 0
DequeueFits D1 = Unit {0}
DequeueFits (D2 f) = NodeFits f.node
DequeueFits (D3 f x) = NodeFits x × Rises f.count.0 1

abbrev pub DequeuesFits : DequeuesStep → Type 0
DequeuesFits Q1 = Unit {0}
DequeuesFits (Q2 w) = NodeFits w.at × Rises w.taken 1
DequeuesFits (Q3 w) = NodeFits w.at × Rises w.front.count.0 w.taken

-- a5 moves the tail by the batch's enqueues, and takes the old head's count from the old tail's for the size of the queue, the excess over that
-- from the dequeues; a6 has a node to go to; a7 moves the head up from the old head
pub record SizeFits (k : Request) (o : Tail) : Type 0 where
  pub rises : Rises o.count.0 k.tally.enqueues
  pub size : k.old_head.count.0 ≤ o.count.0
  pub successful : k.tally.excess - size_at k o ≤ k.tally.dequeues

abbrev pub RunFits : Request → RunStep → Type 0
RunFits k A1 = Unit {0}
RunFits k (A2 t) = Unit {0}
RunFits k (A3 t) = NodeFits t.node × NodeFits k.first
RunFits k (A4 t) = Unit {0}
RunFits k (A5 o) = NodeFits k.last × SizeFits k o
RunFits k (A6 rise x left) = NodeFits x × (0 < left)
RunFits k (A7 rise x) = NodeFits x × Rises k.old_head.count.0 rise
RunFits k (A8 t x) = NodeFits x × Rises t.count.0 1

-- a deferred enqueue's node is linked behind the last pending one's; announcements are numbered below 64
abbrev pub PlaceFits : Machine → Row → Place → Type 0
PlaceFits m r Idle = 0 < r.tally.enqueues → NodeFits r.last
PlaceFits m r (Enqueue n x) = EnqueueFits n x
PlaceFits m r (Dequeue x) = DequeueFits x
PlaceFits m r (Batch b x) = b < 64
PlaceFits m r (Dequeues x) = DequeuesFits x
PlaceFits m r (Running a x k) = (a < 64) × RunFits (announcement_at m.announcements a).request x

-- A row has at most 32 pending calls, each with a future below 512, as is the one whose result its call answers; no count of its tally wraps.
pub record RowFits (r : Row) : Type 0 where
  pub count : r.count ≤ 32
  pub enqueues : r.tally.enqueues ≤ 32
  pub dequeues : r.tally.dequeues ≤ 32
  pub futures : (j : ℕ) → j < r.count → get_or r.pending j 0 < 512
  pub asked : r.future < 512

pub record Fits (m : Machine) : Type 0 where
  pub places : (t : ℕ) → t < 8 → PlaceFits m (row_at m t) (row_at m t).place
  pub rows : (t : ℕ) → t < 8 → RowFits (row_at m t)
  -- an entry of a thread that is not below this number is refused, and there are 8 rows; of a future not below the number handed out, likewise
  pub threads : m.threads ≤ 8
  -- nodes, futures and announcements handed out
  pub nodes : m.used.nodes ≤ 512
  pub futures : m.used.futures ≤ 512
  pub announcements : m.used.announcements ≤ 64
