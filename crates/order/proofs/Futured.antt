-- What holds of futures and results while a machine runs. A future that waits is one of its thread's pending calls; one that is done holds the
-- result that the run of the order gives for its call. A call that took effect and has futures has ended, and they are done, or it is the
-- call that its thread is in.
use Prim.Native.Nat.{ℕ, ◌<◌, ◌≤◌}
use mathlib.Core.Path.{◌≡◌}
use mathlib.Core.List.{List, [], map}
use mathlib.Core.Option.{none, some}
use mathlib.Core.Logic.{◌⊎◌, ◌≢◌}
use lib.ListN.{length, get_or}
use Rattle.std.specs.Prelude.{None}
use Rattle.chain.specs.Positions.{At, In}
use Rattle.tally.specs.Fifo.{Result}
use Rattle.place.specs.declared.Place.TheVariants.{Idle}
use Rattle.place.specs.declared.After.{After}
use Rattle.place.specs.declared.After.TheVariants as afterwards
use Rattle.pairing.specs.declared.Cursor.{Cursor}
use Rattle.machine.specs.declared.Machine.{Machine}
use Rattle.machine.specs.State.{row_at, future_at}
use Rattle.machine.specs.Steps.{hop, step_of}
use Rattle.machine.specs.Pairing.{batch_cursor, dequeues_cursor}
use Rattle.order.specs.PairingReads.{turns_from}
use Rattle.order.specs.Order.{Called, Effect, Given, Story, of, gives}
use Rattle.order.specs.PlainQueue.{Ran, ran, Stands}
use Rattle.order.specs.Outcomes.{outcome_of}
use Rattle.order.proofs.Events.{OwnFuture}
use Rattle.order.proofs.Ghost.{Ghost, pending_of}
use Rattle.order.proofs.Invariant.{NotLinked}
use Rattle.order.proofs.PairingResults.{outcomes}
use Rattle.order.proofs.Orderly.{NotIn, BatchCall}

-- the future f of the j-th pending call of thread t
pub record Held (m : Machine) (t j f : ℕ) : Type 0 where
  pub place : get_or (row_at m t).pending j 0 ≡ f
  pub own : OwnFuture m t f
  pub waits : (future_at m f).outcome ≡ None

pub record PendingFutures (m : Machine) (g : Ghost) (s : Story) (t : ℕ) : Type 0 where
  pub calls : (of s t).calls ≡ pending_of g t
  pub many : length (of s t).futures ≡ length (of s t).calls
  pub held : (j f : ℕ) → At (of s t).futures j f → Held m t j f
  pub rising : (j k e f : ℕ) → At (of s t).futures j e → At (of s t).futures k f → j < k → e < f

-- c is the call that its thread is in
pub record InCall (m : Machine) (s : Story) (c : Called) : Type 0 where
  pub thread : c.thread < 8
  pub is : c ≡ (of s c.thread).called
  pub busy : (row_at m c.thread).place ≢ Idle

-- .. and its futures are those of its pending calls
pub record BatchInCall (m : Machine) (s : Story) (c : Called) : Type 0 where
  pub in_call : InCall m s c
  pub futures : c.futures ≡ (of s c.thread).futures

-- a result for future f, told at a time
abbrev pub future_given : ℕ → ℕ → Result ℕ → ℕ → Given
future_given t f r now = record { thread = t; future = some f; began = none; result = r; time = now }

pub record Futured (m : Machine) (g : Ghost) (s : Story) : Type 0 where
  pub threads : length s.threads ≡ 8
  pub each : (t : ℕ) → t < 8 → PendingFutures m g s t
  pub waiting : (f : ℕ) → f < m.used.futures → (future_at m f).outcome ≡ None → ((future_at m f).owner < 8) × In (of s (future_at m f).owner).futures f
  pub done : (f : ℕ) (r : Result ℕ) → f < m.used.futures → (future_at m f).outcome ≡ outcome_of r → Stands s.order (future_given (future_at m f).owner f r s.clock)
  pub given : (j : ℕ) (x : Given) → At s.given j x → Stands s.order x
  pub rows : (j a f : ℕ) (x : Effect) → At s.order j x → At x.call.futures a f
      → OwnFuture m x.call.thread f × (((future_at m f).outcome ≢ None) ⊎ BatchInCall m s x.call)
  pub once_each : (j k a b f : ℕ) (x y : Effect) → At s.order j x → At s.order k y → At x.call.futures a f → At y.call.futures b f → (j ≡ k) × (a ≡ b)
  -- a batch with an announcement that has not been linked is still going on
  pub going : (a : ℕ) (c : Called) → NotLinked g a → At s.announced a c → BatchInCall m s c

-- What a step of thread i does to the order: nothing, or a call takes effect, its own or that of an announcement; those before are run as before.
pub record TakesEffect (m : Machine) (s : Story) (order' : List Effect) (x : Effect) : Type 0 where
  pub ran : (r : Ran) → In (ran s.order []) r → In (ran order' []) r
  pub others : (j : ℕ) (y : Effect) → At order' j y → ((k : ℕ) × At s.order k y) ⊎ (y ≡ x)
  pub once : (j k : ℕ) (y z : Effect) → At order' j y → At order' k z → y.call.thread ≡ z.call.thread → y.call.began ≡ z.call.began → j ≡ k
  pub in_call : InCall m s x.call
  pub futures : (x.call.futures ≡ []) ⊎ (x.call.futures ≡ (of s x.call.thread).futures)
  pub not_in : NotIn s.order x.call

abbrev pub OrderAfter : Machine → Story → List Effect → Type 0
OrderAfter m s order' = (order' ≡ s.order) ⊎ ((x : Effect) × TakesEffect m s order' x)

-- What the end of a call shows: its batch, where it has an announcement, was linked; a single call's result is the run's; a batch was run with
-- results that its pairing pays.
abbrev pub NoneGoing : Ghost → Story → ℕ → Type 0
NoneGoing g' s i = (a : ℕ) (c : Called) → NotLinked g' a → At s.announced a c → c.thread ≡ i → c.began ≡ (of s i).called.began → ⊥

pub record SingleEnds (m : Machine) (g' : Ghost) (s : Story) (i : ℕ) (order' : List Effect) : Type 0 where
  pub none : NoneGoing g' s i
  pub futures : (of s i).called.futures ≡ []
  pub stands : (j : ℕ) (x : Given) → At (gives i (of s i).called.asked (some (of s i).called.began) s.clock (step_of m i).answer) j x → Stands order' x

pub record BatchEnds (m : Machine) (g' : Ghost) (s : Story) (i : ℕ) (order' : List Effect) (c : Cursor) : Type 0 where
  pub none : NoneGoing g' s i
  pub call : BatchCall s i (row_at m i)
  pub place : ℕ
  pub early : place ≤ s.clock
  pub results : List (Result ℕ)
  pub there : In (ran order' []) (record { effect = record { call = (of s i).called; place = place }; results = results })
  pub paid : outcomes (turns_from (hop m i).machine i c) ≡ map outcome_of results

abbrev pub EndsWith : Machine → Ghost → Story → ℕ → List Effect → After → Type 0
EndsWith m g' s i order' (afterwards.On p) = Unit {0}
EndsWith m g' s i order' afterwards.Ok = SingleEnds m g' s i order'
EndsWith m g' s i order' afterwards.Empty = SingleEnds m g' s i order'
EndsWith m g' s i order' (afterwards.Item x) = SingleEnds m g' s i order'
EndsWith m g' s i order' (afterwards.Pair from) = BatchEnds m g' s i order' (batch_cursor from (row_at (hop m i).machine i).first)
EndsWith m g' s i order' (afterwards.PairDequeues from taken) = BatchEnds m g' s i order' (dequeues_cursor from taken)
