-- Demand 3, second half: what is promised of the order of effect after any list of entries from a fresh machine: "The calls that took effect, in 01's
-- order, run singly on a plain FIFO list, give the present contents and every result given so far, each between its start and its result, a batch's
-- calls together." Order.antt has the order. A batch's calls are one row of it, so they stand together, in calling order.
use Rattle.std.specs.Prelude.{ℕ, ◌%◌, ◌<◌, ◌≤◌, ◌≡◌, List, [], ◌∷◌, ◌++◌, map, None}
use Rattle.std.proofs.Math.Option.{Option, none, some}
use Rattle.chain.specs.Positions.{At, In}
use Rattle.tally.specs.Fifo.{Result, left, results}
use Rattle.entry.specs.declared.Entry.{Entry}
use Rattle.entry.specs.Operands.{thread_of}
use Rattle.machine.specs.declared.Machine.{Machine}
use Rattle.machine.specs.State.{future_at}
use Rattle.contents.specs.Contents as machine
use Rattle.machine.specs.Entries.{apply}
use Rattle.order.specs.Reached.{after}
use Rattle.order.specs.Events.{after_events, events}
use Rattle.order.specs.Outcomes.{outcome_of}
use Rattle.order.specs.Order.{Effect, Given, Story, of, results_in, story_of}

-- RUN SINGLY. Each call of the order, and each of a batch's calls in turn, on a plain first-in first-out list: its results, and what is left.
pub record Ran : Type 0 where
  pub effect : Effect
  pub results : List (Result ℕ)

unfoldable pub ran : List Effect → List ℕ → List Ran
ran [] q = []
ran (x ∷ xs) q = record { effect = x; results = results x.call.calls q } ∷ ran xs (left x.call.calls q)

unfoldable pub leaves : List Effect → List ℕ → List ℕ
leaves [] q = q
leaves (x ∷ xs) q = leaves xs (left x.call.calls q)

-- THE PROMISES, of a machine m and the story so far.
-- The run's result for the call that g tells of: a single one, or that of a future.
abbrev pub ResultIn : Ran → Given → Option ℕ → Type 0
ResultIn x g none = (x.effect.call.futures ≡ []) × (x.results ≡ g.result ∷ [])
ResultIn x g (some f) = (j : ℕ) × At x.effect.call.futures j f × At x.results j g.result

-- The call stands in the order, no later than its result; where g ended a call, it is the one that began then.
pub record Stands (order : List Effect) (g : Given) : Type 0 where
  pub row : Ran
  pub there : In (ran order []) row
  pub thread : row.effect.call.thread ≡ g.thread
  pub call : (b : ℕ) → g.began ≡ some b → row.effect.call.began ≡ b
  pub before : row.effect.place ≤ g.time
  pub result : ResultIn row g g.future

pub record AsAPlainQueue (m : Machine) (s : Story) : Type 0 where
  -- run singly, the calls leave the present contents
  pub contents : leaves s.order [] ≡ machine.contents m
  -- every result given, and every one that a done future holds, is that of the run
  pub given : (j : ℕ) (g : Given) → At s.given j g → Stands s.order g
  pub done : (f : ℕ) (r : Result ℕ) → f < m.used.futures → (future_at m f).outcome ≡ outcome_of r
      → Stands s.order (record { thread = (future_at m f).owner; future = some f; began = none; result = r; time = s.clock })
  -- a future that is not done is one of its thread's pending calls: the end of a batch leaves none waiting
  pub waiting : (f : ℕ) → f < m.used.futures → (future_at m f).outcome ≡ None → In (of s (future_at m f).owner).futures f
  -- only calls that were started stand there, each no earlier than it began; times rise along the order. So a call whose result was given before another
  -- began stands before it (`stands_before`, proofs/Ordered.antt).
  pub started : (j : ℕ) (x : Effect) → At s.order j x → In s.started x.call
  pub began : (j : ℕ) (x : Effect) → At s.order j x → x.call.began ≤ x.place
  pub past : (j : ℕ) (x : Effect) → At s.order j x → x.place < s.clock
  pub rising : (j k : ℕ) (x y : Effect) → At s.order j x → At s.order k y → j < k → x.place < y.place
  -- no call stands there twice: a thread's call is known by when it began, a deferred one by its future
  pub once : (j k : ℕ) (x y : Effect) → At s.order j x → At s.order k y → x.call.thread ≡ y.call.thread → x.call.began ≡ y.call.began → j ≡ k
  pub once_each : (j k a b f : ℕ) (x y : Effect) → At s.order j x → At s.order k y → At x.call.futures a f → At y.call.futures b f → (j ≡ k) × (a ≡ b)

-- the results among the answers to a list of entries, each with its thread (which is below 8 where the entry is accepted)
unfoldable pub results_told : Machine → List Entry → List (ℕ × Result ℕ)
results_told m [] = []
results_told m (e ∷ es) = map (λ r. (thread_of e % 8, r)) (results_in (apply m e).answer) ++ results_told (apply m e).machine es

-- Of a fresh machine m and a list of entries: its events leave the machine that the entries leave, the story has the results that the entries told, in
-- their order, and the promises hold. proofs/Ordered.antt has the theorem, calls_take_effect_in_order: for every set-up that is accepted and every
-- list of entries, refused ones among them.
pub record InOrder (m : Machine) (es : List Entry) : Type 0 where
  pub reached : after m es ≡ after_events m (events m es)
  pub told : results_told m es ≡ map (λ g. (g.thread, g.result)) (story_of m es).given
  pub queue : AsAPlainQueue (after m es) (story_of m es)
