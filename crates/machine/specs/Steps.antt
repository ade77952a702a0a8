-- 01, "Steps": one step is one access; and Run, a fold of steps with its count.
use Rattle.std.specs.Prelude.{ℕ, zero, suc, Bool, true, false, cond, slice_index_or, Ok, Err}
use Rattle.cells.specs.declared.Request.{Request}
use Rattle.memory.specs.Memory.{Performed, perform, no_announcement}
use Rattle.place.specs.declared.Place.TheVariants.{Idle}
use Rattle.place.specs.declared.After.{After}
use Rattle.place.specs.declared.After.TheVariants as afterwards
use Rattle.row.specs.declared.Row.{Row}
use Rattle.place.specs.Place.{announcement_run, place_after, goes_on}
use Rattle.thread.specs.Calls.{access, after}
use Rattle.row.specs.Row.{placed}
use Rattle.answer.specs.declared.CallResult.TheVariants as call_result
use Rattle.answer.specs.declared.Answer.TheVariants.{Started, Future, Ended, More}
use Rattle.answer.specs.Answer.{AnswerOrRefusal}
use Rattle.machine.specs.declared.Told.{Told}
use Rattle.machine.specs.declared.Machine.{Machine}
use Rattle.machine.specs.State.{memory_of, with_memory, row_at, with_row, item_at}
use Rattle.machine.specs.Pairing.{settled, batch_cursor, dequeues_cursor}

-- the request of the announcement that a thread runs
abbrev pub request_of : Machine → Row → Request
request_of m r = (slice_index_or m.announcements (announcement_run r.place) no_announcement).request

-- the access of the thread's next step, made
abbrev pub accessed : Machine → Row → Performed
accessed m r = perform (memory_of m) (access r.place (request_of m r))

-- how the call goes on with what the access found
abbrev pub goes : Machine → Row → Performed → After
goes m r x = after r.place x.found (request_of m r) r.tally.dequeues

-- the machine after a step's access and the thread's move, and how the call goes on
pub record Hop : Type 0 where
  pub machine : Machine
  pub after : After

abbrev pub moved : Machine → ℕ → Row → Performed → After → Hop
moved m i r x a = record { machine = with_row (with_memory m x.memory) i (placed r (place_after a)); after = a }

unfoldable pub hop : Machine → ℕ → Hop
hop m i = moved m i (row_at m i) (accessed m (row_at m i)) (goes m (row_at m i) (accessed m (row_at m i)))

-- the answer after a step: more, or the call's result; a batch's results are paired here
abbrev pub tell : Machine → ℕ → ℕ → After → Told
tell m i steps (afterwards.On p) = record { machine = m; answer = Ok More; steps = steps }
tell m i steps afterwards.Ok = record { machine = m; answer = Ok (Ended call_result.Ok); steps = steps }
tell m i steps afterwards.Empty = record { machine = m; answer = Ok (Ended call_result.Empty); steps = steps }
tell m i steps (afterwards.Item n) = record { machine = m; answer = Ok (Ended (call_result.Item (item_at m n))); steps = steps }
tell m i steps (afterwards.Pair from) = settled m i steps (batch_cursor from (row_at m i).first)
tell m i steps (afterwards.PairDequeues from taken) = settled m i steps (dequeues_cursor from taken)

-- one step of the thread whose row is i
abbrev pub step_of : Machine → ℕ → Told
step_of m i = tell (hop m i).machine i 1 (hop m i).after

abbrev pub is_more : AnswerOrRefusal → Bool
is_more (Ok More) = true
is_more (Ok Started) = false
is_more (Ok (Future f)) = false
is_more (Ok (Ended r)) = false
is_more (Err r) = false

abbrev pub one_more : Told → Told
one_more x = record { machine = x.machine; answer = x.answer; steps = suc x.steps }

-- Run: as Step, up to n steps, stopping when the call ends; it reports the steps it took
unfoldable pub advance : Machine → ℕ → ℕ → Told
advance m i zero = record { machine = m; answer = Ok More; steps = 0 }
advance m i (suc n) = cond (is_more (step_of m i).answer) (one_more (advance (step_of m i).machine i n)) (step_of m i)

-- how the code runs: the accesses first, and what the end of the call tells after them; proofs/Runs.antt shows that this is Run
pub record Ran : Type 0 where
  pub machine : Machine
  pub after : After
  pub steps : ℕ

unfoldable pub hops : ℕ → Machine → ℕ → Ran
hops zero m i = record { machine = m; after = afterwards.On Idle; steps = 0 }
hops (suc n) m i =
    cond (goes_on (hop m i).after)
    (record { machine = (hops n (hop m i).machine i).machine; after = (hops n (hop m i).machine i).after; steps = suc (hops n (hop m i).machine i).steps })
    (record { machine = (hop m i).machine; after = (hop m i).after; steps = 1 })
