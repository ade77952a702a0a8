-- The order of effect, computed on two schedules: case 8 of 01, and a batch that another thread links. What is expected was worked out by hand
-- from 01, "Steps" and "Contents and order of effect"; the numbers beside the entries are the times of their events, counted from 0.
use Prim.Native.Nat.{ℕ}
use mathlib.Core.Path.{◌≡◌, refl}
use mathlib.Core.List.{List, [], ◌∷◌, map}
use mathlib.Core.Option.{none, some}
use Rattle.tally.specs.Fifo.{enqueue, dequeue, Result, ok, item, empty, left, results, after as after_call, result}
use Rattle.tally.specs.Excess.{enqueued}
use Rattle.memory.specs.Memory.{perform}
use Rattle.thread.specs.Enqueue.{enqueue_access, enqueue_after}
use Rattle.thread.specs.Dequeue.{dequeue_access, dequeue_after}
use Rattle.thread.specs.Batch.{batch_access, batch_after}
use Rattle.thread.specs.Dequeues.{dequeues_access, dequeues_after}
use Rattle.running.specs.Running.{run_access, run_after}
use Rattle.entry.specs.declared.Entry.{Entry}
use Rattle.entry.specs.declared.Entry.TheVariants.{Enqueue, Dequeue, FutureEnqueue, FutureDequeue, Evaluate, Step, Run}
use Rattle.machine.specs.declared.Machine.{Machine}
use Rattle.machine.specs.State.{fresh_machine}
use Rattle.machine.specs.Steps.{hop, advance}
use Rattle.machine.specs.Pairing.{pair_from, pairing, settled}
use Rattle.contents.specs.Contents.{abstract_head, chain_after, contents}
use Rattle.machine.specs.Entries.{decided, linked_behind, defer_enqueue, defer_dequeue, set_off, start_enqueue, start_dequeue, evaluate_waiting, evaluate_own, evaluate_known, evaluate, enqueue as enqueue_entry, dequeue as dequeue_entry, future_enqueue, future_dequeue, run, apply}
use Rattle.order.specs.Events.{kept_beside, run_events, entry_events, events}
use Rattle.order.specs.Order.{Effect, Given, Story, put_in, story_of}
use Rattle.order.specs.PlainQueue.{Ran, ran, leaves}
use Rattle.order.specs.Reached.{after}

-- what a schedule comes to
pub record Shown : Type 0 where
  pub order : List Effect
  pub given : List Given
  -- the order run singly on an empty list: each call's results, and what is left
  pub results : List (List (Result ℕ))
  pub left : List ℕ
  -- the machine's contents
  pub contents : List ℕ

abbrev pub shown_by : Machine → Story → Shown
shown_by m s = record {
  order = s.order;
  given = s.given;
  results = map (λ (x : Ran). x.results) (ran s.order []);
  left = leaves s.order [];
  contents = contents m;
}

-- on a fresh machine of two threads and eight nodes
abbrev pub shown : List Entry → Shown
shown es = shown_by (after (fresh_machine 2 8) es) (story_of (fresh_machine 2 8) es)

-- 01, case 8. Queue a. A batch DD reads to the end; another thread enqueues b; then q3 is taken. Here a is 10 and b is 20.
abbrev pub reads_to_the_end : List Entry
reads_to_the_end =
    -- starts at 0; e1 at 1; e2 at 2 links a; e3 at 3 ends
    Enqueue 0 10 ∷ Run 0 9
    -- futures 0 and 1, deferred at 4 and 5; their batch is set off at 6, for future 0
    ∷ FutureDequeue 0 ∷ FutureDequeue 0 ∷ Evaluate 0 0
    -- q1 at 7; q2 at 8 reads the node of a; q2 at 9 finds none, so q3 is next, past one node
    ∷ Step 0 ∷ Step 0 ∷ Step 0
    -- starts at 10; e1 at 11; e2 at 12 links b; e3 at 13 ends
    ∷ Enqueue 1 20 ∷ Run 1 9
    -- the head has not moved: q3 at 14 is taken and ends the batch
    ∷ Run 0 9
    -- future 1 is done, and asked for at 15
    ∷ Evaluate 0 1 ∷ []

-- Results a and empty, contents b: the batch is put in at its last q2 read, 9, before the enqueue of b, which took effect at 12.
pub batch_stands_at_its_last_read : shown reads_to_the_end ≡ record {
  order =
      record { call = record { thread = 0; calls = enqueue 10 ∷ []; futures = []; asked = none; began = 0 }; place = 2 }
      ∷ record { call = record { thread = 0; calls = dequeue ∷ dequeue ∷ []; futures = 0 ∷ 1 ∷ []; asked = some 0; began = 6 }; place = 9 }
      ∷ record { call = record { thread = 1; calls = enqueue 20 ∷ []; futures = []; asked = none; began = 10 }; place = 12 }
      ∷ [];
  given =
      record { thread = 0; future = none; began = some 0; result = ok; time = 3 }
      ∷ record { thread = 1; future = none; began = some 10; result = ok; time = 13 }
      ∷ record { thread = 0; future = some 0; began = some 6; result = item 10; time = 14 }
      ∷ record { thread = 0; future = some 1; began = none; result = empty; time = 15 }
      ∷ [];
  results = (ok ∷ []) ∷ (item 10 ∷ empty ∷ []) ∷ (ok ∷ []) ∷ [];
  left = 20 ∷ [];
  contents = 20 ∷ [];
}
unfolding after kept_beside events entry_events run_events apply decided run advance hop perform settled pairing pair_from contents abstract_head chain_after ran leaves results result left after_call enqueue_entry start_enqueue enqueue_access enqueue_after future_dequeue defer_dequeue evaluate evaluate_known evaluate_own evaluate_waiting set_off dequeues_access dequeues_after put_in
batch_stands_at_its_last_read = refl

-- A batch that another thread links: the announcement of thread 1's batch, number 0, is in the head when thread 0 dequeues.
abbrev pub helped : List Entry
helped =
    -- futures 0 and 1, deferred at 0 and 1; their batch is set off at 2, for future 1
    FutureEnqueue 1 5 ∷ FutureDequeue 1 ∷ Evaluate 1 1
    -- b1 at 3; b2 at 4 puts the announcement in the head
    ∷ Run 1 2
    -- starts at 5; d1 at 6 meets the announcement; a1 at 7; a2 at 8 finds no old tail; a3 at 9 links the batch
    ∷ Dequeue 0 ∷ Run 0 4
    -- a1 at 10; a2 at 11 finds no old tail; a3 at 12 finds the first node; a4 at 13; a5 at 14. Size 0 and no excess: its one dequeue succeeds, one
    -- node is walked from the old tail. a6 at 15; a7 at 16 ends the batch.
    ∷ Run 1 9
    -- a4 at 17; a5 at 18 is not taken; a6 at 19; a7 at 20 is not taken; back to d1, at 21; d2 at 22 finds none and ends
    ∷ Run 0 9 ∷ []

-- The batch stands where thread 0 took a3, as the call of thread 1, and once, though thread 1 came to a3 as well.
pub batch_stands_where_it_was_linked : shown helped ≡ record {
  order =
      record { call = record { thread = 1; calls = enqueue 5 ∷ dequeue ∷ []; futures = 0 ∷ 1 ∷ []; asked = some 1; began = 2 }; place = 9 }
      ∷ record { call = record { thread = 0; calls = dequeue ∷ []; futures = []; asked = none; began = 5 }; place = 22 }
      ∷ [];
  given =
      record { thread = 1; future = some 1; began = some 2; result = item 5; time = 16 }
      ∷ record { thread = 0; future = none; began = some 5; result = empty; time = 22 }
      ∷ [];
  results = (ok ∷ item 5 ∷ []) ∷ (empty ∷ []) ∷ [];
  left = [];
  contents = [];
}
unfolding after kept_beside events entry_events run_events apply decided run advance hop perform settled pairing pair_from contents abstract_head chain_after ran leaves results result left after_call future_enqueue defer_enqueue linked_behind future_dequeue defer_dequeue evaluate evaluate_known evaluate_own evaluate_waiting set_off enqueued batch_access batch_after run_access run_after dequeue_entry start_dequeue dequeue_access dequeue_after
batch_stands_where_it_was_linked = refl
