-- 01, "Entries": each entry takes the machine and hands back the machine and one answer.
use Rattle.std.specs.Prelude.{ℕ, ◌%◌, cond, ◌==◌, slice_set, Some, None, Ok, Err}
use Rattle.refusal.specs.declared.Refusal.{Refusal}
use Rattle.refusal.specs.declared.Refusal.TheVariants.{NotOwnFuture}
use Rattle.place.specs.declared.Place.TheVariants as place
use Rattle.place.specs.declared.EnqueueStep.TheVariants.{E1}
use Rattle.place.specs.declared.DequeueStep.TheVariants.{D1}
use Rattle.place.specs.declared.BatchStep.TheVariants.{B1}
use Rattle.place.specs.declared.DequeuesStep.TheVariants.{Q1}
use Rattle.row.specs.declared.Row.{Row}
use Rattle.row.specs.Row.{placed, calling, with_enqueue, with_dequeue, request}
use Rattle.answer.specs.declared.Item.{Item}
use Rattle.answer.specs.Answer.{Outcome}
use Rattle.answer.specs.declared.Future.{Future}
use Rattle.answer.specs.declared.Answer.{Answer}
use Rattle.answer.specs.declared.Answer.TheVariants as answer
use Rattle.machine.specs.declared.Reply.{Reply}
use Rattle.answer.specs.declared.Operation.TheVariants as operation
use Rattle.machine.specs.declared.Told.{Told}
use Rattle.machine.specs.declared.Machine.{Machine}
use Rattle.entry.specs.declared.Entry.{Entry}
use Rattle.entry.specs.declared.Entry.TheVariants.{Enqueue, Dequeue, FutureEnqueue, FutureDequeue, Evaluate, Step, Run}
use Rattle.needs.specs.declared.Needs.{Needs}
use Rattle.machine.specs.State.{row_at, with_row, future_at}
use Rattle.next.specs.Next.{next_node, next_future, next_announcement}
use Rattle.machine.specs.HandOut.{hand_out_node, hand_out_future, hand_out_announcement}
use Rattle.needs.specs.Needs.{lacking, enqueue_needs, dequeue_needs, future_enqueue_needs, future_dequeue_needs, evaluate_needs}
use Rattle.refuse.specs.Refusals.{callable, steppable, foreign, call_verdict}
use Rattle.machine.specs.Steps.{advance}
use Rattle.refusal.specs.Verdicts.{Verdict}

-- what an entry told, but for the machine
abbrev pub reply_of : Told → Reply
reply_of x = record { answer = x.answer; steps = x.steps }

-- only the number is returned, and the machine stays unchanged
abbrev pub refusing : Machine → Refusal → Told
refusing m r = record { machine = m; answer = Err r; steps = 0 }

abbrev pub telling : Machine → Answer → Told
telling m a = record { machine = m; answer = Ok a; steps = 0 }

unfoldable pub decided : Verdict → Machine → Told → Told
decided (Ok ok) m accepted = accepted
decided (Err r) m accepted = refusing m r

-- a pending enqueue's node stands behind the one before it, where there is one
unfoldable pub linked_behind : Machine → Row → ℕ → Machine
linked_behind m r n = record {
  ends = m.ends;
  links = cond (r.tally.enqueues == 0) m.links (slice_set m.links (r.last % 512) (Some n));
  announcements = m.announcements;
  items = m.items;
  futures = m.futures;
  rows = m.rows;
  threads = m.threads;
  nodes = m.nodes;
  used = m.used;
}

-- a deferred call: a node where needed, a future, a pending place. i is the thread's number.
unfoldable pub defer_enqueue : Machine → ℕ → Item → Machine
defer_enqueue m i v =
    with_row (hand_out_future (linked_behind (hand_out_node m v) (row_at m i) (next_node m.used)) i operation.Enqueue) i
    (with_enqueue (row_at m i) (next_future m.used) (next_node m.used))

unfoldable pub defer_dequeue : Machine → ℕ → Machine
defer_dequeue m i = with_row (hand_out_future m i operation.Dequeue) i (with_dequeue (row_at m i) (next_future m.used))

-- a batch with an enqueue is handed its announcement
abbrev pub announced : Machine → ℕ → Row → ℕ → Machine
announced m i r f = with_row (hand_out_announcement m (request r)) i (calling r (place.Batch (next_announcement m.used) B1) f)

-- the pending calls are set off as one batch, whose answer will be the result of the future f
unfoldable pub set_off : Machine → ℕ → ℕ → Machine
set_off m i f = cond ((row_at m i).tally.enqueues == 0) (with_row m i (calling (row_at m i) (place.Dequeues Q1) f)) (announced m i (row_at m i) f)

-- with pending calls, Enqueue and Dequeue first add themselves as a deferred call, then act as Evaluate of it
unfoldable pub start_enqueue : Machine → ℕ → Item → Machine
start_enqueue m i v =
    cond ((row_at m i).count == 0)
    (with_row (hand_out_node m v) i (placed (row_at m i) (place.Enqueue (next_node m.used) E1)))
    (set_off (defer_enqueue m i v) i (next_future m.used))

unfoldable pub start_dequeue : Machine → ℕ → Machine
start_dequeue m i =
    cond ((row_at m i).count == 0)
    (with_row m i (placed (row_at m i) (place.Dequeue D1)))
    (set_off (defer_dequeue m i) i (next_future m.used))

-- 1, 2, then 4 to 7
abbrev pub calls : Machine → ℕ → Needs → Told → Told
calls m t n accepted = decided (call_verdict t m.threads (row_at m (t % 8)) m.used m.nodes n) m accepted

-- code 1, Enqueue t v: started
unfoldable pub enqueue : Machine → ℕ → ℕ → Told
enqueue m t v = calls m t (enqueue_needs (row_at m (t % 8))) (telling (start_enqueue m (t % 8) (record { value = v })) answer.Started)

-- code 2, Dequeue t: started
unfoldable pub dequeue : Machine → ℕ → Told
dequeue m t = calls m t (dequeue_needs (row_at m (t % 8))) (telling (start_dequeue m (t % 8)) answer.Started)

-- code 3, FutureEnqueue t v: future number
unfoldable pub future_enqueue : Machine → ℕ → ℕ → Told
future_enqueue m t v = calls m t future_enqueue_needs (telling (defer_enqueue m (t % 8) (record { value = v })) (answer.Future (next_future m.used)))

-- code 4, FutureDequeue t: future number
unfoldable pub future_dequeue : Machine → ℕ → Told
future_dequeue m t = calls m t future_dequeue_needs (telling (defer_dequeue m (t % 8)) (answer.Future (next_future m.used)))

-- code 5, Evaluate t f: the result where f is done, else started
unfoldable pub evaluate_waiting : Machine → ℕ → ℕ → Told
evaluate_waiting m i f =
    decided (lacking (evaluate_needs (row_at m i)) m.used m.nodes (row_at m i).count) m
    (telling (set_off m i f) answer.Started)

unfoldable pub evaluate_own : Machine → ℕ → ℕ → Outcome → Told
evaluate_own m i f None = evaluate_waiting m i f
evaluate_own m i f (Some result) = telling m (answer.Ended result)

unfoldable pub evaluate_known : Machine → ℕ → ℕ → Future → Told
evaluate_known m t f x =
    cond (foreign f x.owner m.used.futures t) (refusing m NotOwnFuture)
    (evaluate_own m (t % 8) (f % 512) x.outcome)

unfoldable pub evaluate : Machine → ℕ → ℕ → Told
evaluate m t f = decided (callable t m.threads (row_at m (t % 8)).place) m (evaluate_known m t f (future_at m f))

-- code 7, Run t n: as Step, up to n steps, stopping when the call ends
unfoldable pub run : Machine → ℕ → ℕ → Told
run m t n = decided (steppable t m.threads (row_at m (t % 8)).place) m (advance m (t % 8) n)

-- code 6, Step t: more, or the call's result
abbrev pub step : Machine → ℕ → Told
step m t = run m t 1

unfoldable pub apply : Machine → Entry → Told
apply m (Enqueue t v) = enqueue m t v
apply m (Dequeue t) = dequeue m t
apply m (FutureEnqueue t v) = future_enqueue m t v
apply m (FutureDequeue t) = future_dequeue m t
apply m (Evaluate t f) = evaluate m t f
apply m (Step t) = step m t
apply m (Run t n) = run m t n

-- how the code goes: one verdict (refuse's `verdict`), then what an accepted entry does, which can't refuse; proofs/Decided.antt shows that this
-- is `apply`. i is the thread's number, o the outcome of the future that Evaluate names.
unfoldable pub asked : Machine → ℕ → ℕ → Outcome → Told
asked m i f None = telling (set_off m i f) answer.Started
asked m i f (Some result) = telling m (answer.Ended result)

unfoldable pub accepted : Machine → ℕ → Entry → Outcome → Told
accepted m i (Enqueue t v) o = telling (start_enqueue m i (record { value = v })) answer.Started
accepted m i (Dequeue t) o = telling (start_dequeue m i) answer.Started
accepted m i (FutureEnqueue t v) o = telling (defer_enqueue m i (record { value = v })) (answer.Future (next_future m.used))
accepted m i (FutureDequeue t) o = telling (defer_dequeue m i) (answer.Future (next_future m.used))
accepted m i (Evaluate t f) o = asked m i (f % 512) o
accepted m i (Step t) o = advance m i 1
accepted m i (Run t n) o = advance m i n
