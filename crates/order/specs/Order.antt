-- The order of effect: 01, "Contents and order of effect", over the events (Events.antt). PlainQueue.antt has what is promised of it.
use Rattle.std.specs.Prelude.{ℕ, suc, Bool, cond, List, [], ◌∷◌, ◌++◌, map, eqb, ltb, get_or, set, replicate, Ok, Err}
use Rattle.std.proofs.Math.Option.{Option, none, some}
use Rattle.tally.specs.Fifo.{Call, enqueue, dequeue, Result, ok, item, empty, left}
use Rattle.tally.specs.Excess.{enqueues}
use Rattle.cells.specs.declared.Head.TheVariants.{Plain}
use Rattle.cells.specs.Ends.{same_head}
use Rattle.memory.specs.Memory.{Memory, link_at}
use Rattle.place.specs.declared.Place.{Place}
use Rattle.place.specs.declared.Place.TheVariants.{Idle, Enqueue, Dequeue, Batch, Dequeues, Running}
use Rattle.place.specs.declared.EnqueueStep.{EnqueueStep}
use Rattle.place.specs.declared.EnqueueStep.TheVariants.{E1, E2, E3, E4, E5}
use Rattle.place.specs.declared.DequeueStep.{DequeueStep}
use Rattle.place.specs.declared.DequeueStep.TheVariants.{D1, D2, D3}
use Rattle.place.specs.declared.DequeuesStep.{DequeuesStep}
use Rattle.place.specs.declared.DequeuesStep.TheVariants.{Q1, Q2, Q3}
use Rattle.place.specs.declared.RunStep.{RunStep}
use Rattle.place.specs.declared.RunStep.TheVariants.{A1, A2, A3, A4, A5, A6, A7, A8}
use Rattle.answer.specs.declared.CallResult.TheVariants as call_result
use Rattle.answer.specs.declared.Answer.TheVariants as answer
use Rattle.entry.specs.declared.Entry.{Entry}
use Rattle.answer.specs.Answer.{AnswerOrRefusal, answered}
use Rattle.next.specs.Next.{next_future}
use Rattle.machine.specs.declared.Machine.{Machine}
use Rattle.machine.specs.State.{row_at, memory_of, future_at}
use Rattle.machine.specs.Steps.{step_of, is_more}
use Rattle.order.specs.Links.{if_none}
use Rattle.order.specs.Events.{Event, EnqueueStarts, DequeueStarts, EnqueueDeferred, DequeueDeferred, BatchSetOff, FutureAsked, StepTaken, kept_beside, events}

-- A call that was started: a single one, which has no future, or a batch's calls in calling order, each with its future. Times are told by the
-- number of events before; began is the time of the event that started it. What is asked is the future whose result the call's end will give.
pub record Called : Type 0 where
  pub thread : ℕ
  pub calls : List (Call ℕ)
  pub futures : List ℕ
  pub asked : Option ℕ
  pub began : ℕ

-- a call that took effect, and the time of its place
pub record Effect : Type 0 where
  pub call : Called
  pub place : ℕ

-- a result that was given: to which thread, for which future where the call has one, and when the call began that it ends. Evaluate of a future that
-- is done ends no call.
pub record Given : Type 0 where
  pub thread : ℕ
  pub future : Option ℕ
  pub began : Option ℕ
  pub result : Result ℕ
  pub time : ℕ

-- what is remembered of a thread: its pending calls with their futures, the call that it is in (or was in last), when it last read at q2
pub record Remembered : Type 0 where
  pub calls : List (Call ℕ)
  pub futures : List ℕ
  pub called : Called
  pub last_read : ℕ

pub record Story : Type 0 where
  pub clock : ℕ
  pub order : List Effect
  pub given : List Given
  pub threads : List Remembered
  -- every call that was started
  pub started : List Called
  -- the call of each announcement, by its number: they are handed out in number order
  pub announced : List Called

abbrev pub no_called : Called
no_called = record { thread = 0; calls = []; futures = []; asked = none; began = 0 }

abbrev pub nothing_remembered : Remembered
nothing_remembered = record { calls = []; futures = []; called = no_called; last_read = 0 }

-- what is remembered of thread i
abbrev pub of : Story → ℕ → Remembered
of s i = get_or s.threads i nothing_remembered

-- THE ORDER. A call takes its place by the steps taken alone: which step, and whether its CAS was taken or its read found none. Nothing in this part
-- looks at what the queue holds, nor at results.
-- A batch of dequeues only is put in at the place of its last q2 read: before what took effect later.
unfoldable pub put_in : Effect → List Effect → List Effect
put_in x [] = x ∷ []
put_in x (y ∷ ys) = cond (ltb x.place y.place) (x ∷ y ∷ ys) (y ∷ put_in x ys)

-- the call that thread i is in takes effect now, behind the others
abbrev pub now_last : Story → ℕ → List Effect
now_last s i = s.order ++ (record { call = (of s i).called; place = s.clock } ∷ [])

-- enqueue: when e2 is taken
abbrev pub enqueue_order : Memory → Story → ℕ → EnqueueStep → List Effect
enqueue_order m s i E1 = s.order
enqueue_order m s i (E2 t) = if_none (link_at m.links t.node) (now_last s i) s.order
enqueue_order m s i (E3 t) = s.order
enqueue_order m s i (E4 t x) = s.order
enqueue_order m s i (E5 t x) = s.order

-- dequeue: when d3 is taken, or at the d2 that finds none
abbrev pub dequeue_order : Memory → Story → ℕ → DequeueStep → List Effect
dequeue_order m s i D1 = s.order
dequeue_order m s i (D2 f) = if_none (link_at m.links f.node) (now_last s i) s.order
dequeue_order m s i (D3 f x) = cond (same_head m.ends.head (Plain f)) (now_last s i) s.order

-- batch of dequeues only: once it has passed q3, or found nothing, at the place of its last q2 read
abbrev pub put_in_at : Story → ℕ → ℕ → List Effect
put_in_at s i time = put_in (record { call = (of s i).called; place = time }) s.order

abbrev pub dequeues_order : Memory → Story → ℕ → DequeuesStep → List Effect
dequeues_order m s i Q1 = s.order
dequeues_order m s i (Q2 w) = if_none (link_at m.links w.at) (cond (eqb w.taken 0) (put_in_at s i s.clock) s.order) s.order
dequeues_order m s i (Q3 w) = cond (same_head m.ends.head (Plain w.front)) (put_in_at s i (of s i).last_read) s.order

-- batch with an enqueue: when a3 is taken, by any thread
abbrev pub run_order : Memory → Story → ℕ → RunStep → List Effect
run_order m s a A1 = s.order
run_order m s a (A2 t) = s.order
run_order m s a (A3 t) =
    if_none (link_at m.links t.node) (s.order ++ (record { call = get_or s.announced a no_called; place = s.clock } ∷ [])) s.order
run_order m s a (A4 t) = s.order
run_order m s a (A5 o) = s.order
run_order m s a (A6 rise x left) = s.order
run_order m s a (A7 rise x) = s.order
run_order m s a (A8 t x) = s.order

-- the order after the step of thread i at its place
abbrev pub step_order : Memory → Story → ℕ → Place → List Effect
step_order m s i Idle = s.order
step_order m s i (Enqueue n x) = enqueue_order m s i x
step_order m s i (Dequeue x) = dequeue_order m s i x
step_order m s i (Batch b x) = s.order
step_order m s i (Dequeues x) = dequeues_order m s i x
step_order m s i (Running a x k) = run_order m s a x

-- THE STORY: what else is remembered, so that an effect can be told.
-- a step at q2 reads
abbrev pub read_at : ℕ → ℕ → DequeuesStep → ℕ
read_at now before Q1 = before
read_at now before (Q2 w) = now
read_at now before (Q3 w) = before

abbrev pub last_read_at : ℕ → ℕ → Place → ℕ
last_read_at now before Idle = before
last_read_at now before (Enqueue n x) = before
last_read_at now before (Dequeue x) = before
last_read_at now before (Batch b x) = before
last_read_at now before (Dequeues x) = read_at now before x
last_read_at now before (Running a x k) = before

-- the result in an answer, where it is one
abbrev pub results_in : AnswerOrRefusal → List (Result ℕ)
results_in (Ok (answer.Ended call_result.Ok)) = ok ∷ []
results_in (Ok (answer.Ended (call_result.Item v))) = item v.value ∷ []
results_in (Ok (answer.Ended call_result.Empty)) = empty ∷ []
results_in (Ok answer.More) = []
results_in (Ok answer.Started) = []
results_in (Ok (answer.Future f)) = []
results_in (Err r) = []

abbrev pub gives : ℕ → Option ℕ → Option ℕ → ℕ → AnswerOrRefusal → List Given
gives i f began now a = map (λ r. record { thread = i; future = f; began = began; result = r; time = now }) (results_in a)

-- with another call begun; with one more call pending; after a step, where nothing is pending once a call has ended
abbrev pub now_in : Remembered → Called → Remembered
now_in x c = record { calls = x.calls; futures = x.futures; called = c; last_read = x.last_read }

abbrev pub also_pending : Remembered → Call ℕ → ℕ → Remembered
also_pending x c f = record { calls = x.calls ++ (c ∷ []); futures = x.futures ++ (f ∷ []); called = x.called; last_read = x.last_read }

abbrev pub stepped_on : Remembered → Bool → ℕ → Remembered
stepped_on x more read = record { calls = cond more x.calls []; futures = cond more x.futures []; called = x.called; last_read = read }

abbrev pub starts : Story → ℕ → Called → Story
starts s i c = record {
  clock = suc s.clock;
  order = s.order;
  given = s.given;
  threads = set s.threads i (now_in (of s i) c);
  started = s.started ++ (c ∷ []);
  announced = s.announced;
}

abbrev pub defers : Story → ℕ → Call ℕ → ℕ → Story
defers s i c f = record {
  clock = suc s.clock;
  order = s.order;
  given = s.given;
  threads = set s.threads i (also_pending (of s i) c f);
  started = s.started;
  announced = s.announced;
}

-- a batch with an enqueue has an announcement
abbrev pub also_announced : Story → Called → Story
also_announced s c = record {
  clock = s.clock;
  order = s.order;
  given = s.given;
  threads = s.threads;
  started = s.started;
  announced = cond (eqb (enqueues c.calls) 0) s.announced (s.announced ++ (c ∷ []));
}

abbrev pub pending_batch : Story → ℕ → ℕ → Called
pending_batch s i f = record { thread = i; calls = (of s i).calls; futures = (of s i).futures; asked = some f; began = s.clock }

abbrev pub single : Story → ℕ → Call ℕ → Called
single s i c = record { thread = i; calls = c ∷ []; futures = []; asked = none; began = s.clock }

abbrev pub step_taken : Machine → Story → ℕ → Story
step_taken m s i = record {
  clock = suc s.clock;
  order = step_order (memory_of m) s i (row_at m i).place;
  given = s.given ++ gives i (of s i).called.asked (some (of s i).called.began) s.clock (step_of m i).answer;
  threads = set s.threads i (stepped_on (of s i) (is_more (step_of m i).answer) (last_read_at s.clock (of s i).last_read (row_at m i).place));
  started = s.started;
  announced = s.announced;
}

abbrev pub asks : Machine → Story → ℕ → ℕ → Story
asks m s i f = record {
  clock = suc s.clock;
  order = s.order;
  given = s.given ++ gives i (some f) none s.clock (Ok (answered (future_at m f).outcome));
  threads = s.threads;
  started = s.started;
  announced = s.announced;
}

abbrev pub happens : Machine → Story → Event → Story
happens m s (EnqueueStarts i v) = starts s i (single s i (enqueue v))
happens m s (DequeueStarts i) = starts s i (single s i dequeue)
happens m s (EnqueueDeferred i v) = defers s i (enqueue v) (next_future m.used)
happens m s (DequeueDeferred i) = defers s i dequeue (next_future m.used)
happens m s (BatchSetOff i f) = also_announced (starts s i (pending_batch s i f)) (pending_batch s i f)
happens m s (FutureAsked i f) = asks m s i f
happens m s (StepTaken i) = step_taken m s i

abbrev pub fresh_story : Story
fresh_story = record { clock = 0; order = []; given = []; threads = replicate 8 nothing_remembered; started = []; announced = [] }

abbrev pub story_of : Machine → List Entry → Story
story_of m es = kept_beside happens m fresh_story (events m es)
