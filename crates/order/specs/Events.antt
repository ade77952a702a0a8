-- What entries do to the machine, one thing after the other. Each step is an event, by Step or by Run; each accepted entry of another kind is
-- one, and an Enqueue or a Dequeue with pending calls is two: it is deferred, then the batch is set off. A refused entry is none. The theorem
-- `events_lead_there` (proofs/Reached.antt) has it that the events of a list of entries leave the machine as the entries do.
use Rattle.std.specs.Prelude.{ℕ, zero, suc, ◌%◌, cond, List, [], ◌∷◌, ◌++◌, eqb, None, Some}
use Rattle.place.specs.declared.Place.TheVariants as place
use Rattle.place.specs.declared.EnqueueStep.TheVariants.{E1}
use Rattle.place.specs.declared.DequeueStep.TheVariants.{D1}
use Rattle.row.specs.Row.{placed}
use Rattle.answer.specs.declared.Future.{Future}
use Rattle.answer.specs.Answer.{Outcome}
use Rattle.entry.specs.declared.Entry.{Entry}
use Rattle.entry.specs.declared.Entry.TheVariants as entry
use Rattle.needs.specs.declared.Needs.{Needs}
use Rattle.next.specs.Next.{next_node, next_future}
use Rattle.needs.specs.Needs.{lacking, enqueue_needs, dequeue_needs, future_enqueue_needs, future_dequeue_needs, evaluate_needs}
use Rattle.refuse.specs.Refusals.{callable, steppable, foreign, call_verdict}
use Rattle.machine.specs.declared.Machine.{Machine}
use Rattle.machine.specs.State.{row_at, with_row, future_at}
use Rattle.machine.specs.HandOut.{hand_out_node}
use Rattle.machine.specs.Steps.{step_of, is_more}
use Rattle.machine.specs.Entries.{defer_enqueue, defer_dequeue, set_off, apply}
use Rattle.refusal.specs.Verdicts.{where_accepted}

-- with the thread that does it, and an item or a future
pub data Event : Type 0 where
  -- a single Enqueue of an item, a single Dequeue
  EnqueueStarts : ℕ → ℕ → Event
  DequeueStarts : ℕ → Event
  -- a call is deferred
  EnqueueDeferred : ℕ → ℕ → Event
  DequeueDeferred : ℕ → Event
  -- the pending calls are set off as a batch, for the result of a future
  BatchSetOff : ℕ → ℕ → Event
  -- the result of a future that is done is given
  FutureAsked : ℕ → ℕ → Event
  StepTaken : ℕ → Event

-- the machine after an event
abbrev pub does : Machine → Event → Machine
does m (EnqueueStarts i v) = with_row (hand_out_node m (record { value = v })) i (placed (row_at m i) (place.Enqueue (next_node m.used) E1))
does m (DequeueStarts i) = with_row m i (placed (row_at m i) (place.Dequeue D1))
does m (EnqueueDeferred i v) = defer_enqueue m i (record { value = v })
does m (DequeueDeferred i) = defer_dequeue m i
does m (BatchSetOff i f) = set_off m i f
does m (FutureAsked i f) = m
does m (StepTaken i) = (step_of m i).machine

unfoldable pub after_events : Machine → List Event → Machine
after_events m [] = m
after_events m (x ∷ xs) = after_events (does m x) xs

-- what is kept beside the machine, event by event; each event meets the machine that those before it left
unfoldable pub kept_beside : {A : Type 0} → (Machine → A → Event → A) → Machine → A → List Event → A
kept_beside f m a [] = a
kept_beside f m a (x ∷ xs) = kept_beside f (does m x) (f m a x) xs

-- the n steps of Run, which stops where its thread's call has ended
unfoldable pub run_events : ℕ → Machine → ℕ → List Event
run_events zero m i = []
run_events (suc n) m i = StepTaken i ∷ cond (is_more (step_of m i).answer) (run_events n (step_of m i).machine i) []

abbrev pub enqueue_events : Machine → ℕ → ℕ → List Event
enqueue_events m i v =
    cond (eqb (row_at m i).count 0) (EnqueueStarts i v ∷ []) (EnqueueDeferred i v ∷ BatchSetOff i (next_future m.used) ∷ [])

abbrev pub dequeue_events : Machine → ℕ → List Event
dequeue_events m i =
    cond (eqb (row_at m i).count 0) (DequeueStarts i ∷ []) (DequeueDeferred i ∷ BatchSetOff i (next_future m.used) ∷ [])

-- Evaluate of an own future: its result where it is done, else its batch
abbrev pub evaluate_own_events : Machine → ℕ → ℕ → Outcome → List Event
evaluate_own_events m i f None =
    where_accepted (lacking (evaluate_needs (row_at m i)) m.used m.nodes (row_at m i).count) (BatchSetOff i f ∷ []) []
evaluate_own_events m i f (Some result) = FutureAsked i f ∷ []

abbrev pub evaluate_events : Machine → ℕ → ℕ → Future → List Event
evaluate_events m t f x = cond (foreign f x.owner m.used.futures t) [] (evaluate_own_events m (t % 8) (f % 512) x.outcome)

abbrev pub call_events : Machine → ℕ → Needs → List Event → List Event
call_events m t n accepted = where_accepted (call_verdict t m.threads (row_at m (t % 8)) m.used m.nodes n) accepted []

abbrev pub step_events : Machine → ℕ → ℕ → List Event
step_events m t n = where_accepted (steppable t m.threads (row_at m (t % 8)).place) (run_events n m (t % 8)) []

-- The remainders make it total: an accepted entry's thread is below 8, and a future that was handed out below 512.
unfoldable pub entry_events : Machine → Entry → List Event
entry_events m (entry.Enqueue t v) = call_events m t (enqueue_needs (row_at m (t % 8))) (enqueue_events m (t % 8) v)
entry_events m (entry.Dequeue t) = call_events m t (dequeue_needs (row_at m (t % 8))) (dequeue_events m (t % 8))
entry_events m (entry.FutureEnqueue t v) = call_events m t future_enqueue_needs (EnqueueDeferred (t % 8) v ∷ [])
entry_events m (entry.FutureDequeue t) = call_events m t future_dequeue_needs (DequeueDeferred (t % 8) ∷ [])
entry_events m (entry.Evaluate t f) =
    where_accepted (callable t m.threads (row_at m (t % 8)).place) (evaluate_events m t f (future_at m f)) []
entry_events m (entry.Step t) = step_events m t 1
entry_events m (entry.Run t n) = step_events m t n

-- of a list of entries, in order
unfoldable pub events : Machine → List Entry → List Event
events m [] = []
events m (e ∷ es) = entry_events m e ++ events (apply m e).machine es
