-- A step at any place, and what it leaves of the order in the machine, the record and the story as the step's end leaves them.
use Prim.Native.Nat.{ℕ, ◌<◌}
use mathlib.Core.Path.{◌≡◌, refl, sym, ap, ◌∙◌}
use mathlib.Core.Bool.{false≢true}
use mathlib.Core.List.{[]}
use mathlib.Core.Logic.{◌≢◌}
use native.Mathlib.Omega.{arith}
use lib.ListN.{length}
use Rattle.chain.proofs.Positions.{within}
use Rattle.tally.specs.Excess.{enqueued, dequeues}
use Rattle.tally.specs.declared.Tally.{Tally}
use Rattle.tally.proofs.OneKind.{dequeues_alone}
use Rattle.memory.specs.Memory.{Memory, perform}
use Rattle.place.specs.declared.Place.{Place}
use Rattle.place.specs.declared.Place.TheVariants as place
use Rattle.place.specs.declared.Place.TheVariants.{Idle, Enqueue, Dequeue, Dequeues, Running}
use Rattle.place.specs.declared.After.TheVariants as afterwards
use Rattle.place.specs.declared.DequeuesStep.{DequeuesStep}
use Rattle.place.specs.declared.DequeuesStep.TheVariants.{Q1, Q2, Q3}
use Rattle.place.specs.Place.{idle}
use Rattle.thread.specs.Calls.{access, after}
use Rattle.row.specs.declared.Row.{Row}
use Rattle.machine.specs.declared.Machine.{Machine}
use Rattle.machine.specs.State.{row_at, memory_of, with_memory}
use Rattle.order.specs.Order.{Story, of, step_order, last_read_at}
use Rattle.order.proofs.Ghost.{Ghost, step_ghost}
use Rattle.order.proofs.Shared.{shared_of}
use Rattle.order.proofs.Knows.{KnowsAt}
use Rattle.order.proofs.TailMoves.{quiet}
use Rattle.order.proofs.Steps.{Ok, request, place_step}
use Rattle.order.proofs.Orderly.{Orderly, WaitsDequeues, KnowsOfDequeues, KnowsOf}
use Rattle.order.proofs.Futured.{Futured}
use Rattle.order.proofs.OrderFine.{step_story, OrderFine, Here, quiet_step}
use Rattle.order.proofs.EnqueueEffects.{enqueue_order_lem}
use Rattle.order.proofs.DequeueEffects.{dequeue_order_lem}
use Rattle.order.proofs.DequeuesEffects.{dequeues_order_lem}
use Rattle.order.proofs.RunEffects.{batch_order, run_order_lem}

-- a batch of dequeues waits at each of its places
waits_there : (m : Machine) (g : Ghost) (s : Story) (t : ℕ) (r : Row) (x : DequeuesStep) → KnowsOfDequeues m g s t r x → WaitsDequeues s t r
waits_there m g s t r Q1 w = w
waits_there m g s t r (Q2 l) w = w.0
waits_there m g s t r (Q3 l) w = w.0

module _ (m : Machine) (g : Ghost) (s : Story) (i : ℕ) (lt : i < 8) (ok : Ok m g) (orderly : Orderly m g s) (futured : Futured m g s) where
  abbrev r : Row
  r = row_at m i

  abbrev left : Place → Memory
  left p = (perform (memory_of m) (access p (request (shared_of m) p))).memory

  -- what a step at place p has to show
  abbrev FineAt : Place → Type 0
  FineAt p =
      OrderFine m g s i (row_at m i) (with_memory m (perform (memory_of m) (access p (request (shared_of m) p))).memory) (step_ghost (memory_of m) g p)
      (step_story s i (step_order (memory_of m) s i p) (last_read_at s.clock (of s i).last_read p))
      (after p (perform (memory_of m) (access p (request (shared_of m) p))).found (request (shared_of m) p) (row_at m i).tally.dequeues)

  room : i < length s.threads
  room = omega (arith, futured.threads)

  here : (row_at m i).place ≢ Idle → Here m g s i
  here busy = record { inv = ok.inv; orderly = orderly; room = room; small = lt; busy = busy }

  -- the pending calls are as many as the row's dequeues, where none is an enqueue; and one at least is asked for
  counted : enqueued (of s i).calls ≡ [] → (row_at m i).tally.dequeues ≡ length (of s i).calls
  counted e =
      let calls = (futured.each i lt).calls in
      ap (λ (t : Tally). t.dequeues) (ok.knows i lt).tallied.tally ∙ ap dequeues (sym calls) ∙ (dequeues_alone (of s i).calls e).0

  some_call : WaitsDequeues s i (row_at m i) → 0 < length (of s i).calls
  some_call w = omega (arith, within (of s i).futures w.1.asks.0 w.1.asks.1, (futured.each i lt).many)

  place_order : (p : Place) → (row_at m i).place ≡ p → KnowsAt (shared_of m) g i (row_at m i) p → KnowsOf m g s i (row_at m i) p → FineAt p
  unfolding perform
  place_order Idle e k w = quiet_step m g s ok.inv orderly i room _ g ok.inv quiet refl refl refl (λ a p l. l) refl (of s i).last_read r (afterwards.On Idle) tt
  place_order (Enqueue n x) e k w =
      let f = place_step (shared_of m) g ok.inv i r (Enqueue n x) k in
      enqueue_order_lem m g s i r (here (λ q. false≢true (ap idle (sym e ∙ q)))) n x w f.inv f.grows
  place_order (Dequeue x) e k w =
      let f = place_step (shared_of m) g ok.inv i r (Dequeue x) k in
      dequeue_order_lem m g s i r (here (λ q. false≢true (ap idle (sym e ∙ q)))) x k.0 w f.inv f.grows
  place_order (place.Batch b x) e k w =
      let f = place_step (shared_of m) g ok.inv i r (place.Batch b x) k in
      batch_order m g s i r (here (λ q. false≢true (ap idle (sym e ∙ q)))) b x k.0 w f.inv f.grows
  place_order (Dequeues x) e k w =
      let f = place_step (shared_of m) g ok.inv i r (Dequeues x) k in
      let waits = waits_there m g s i r x w in
      dequeues_order_lem m g s i r (here (λ q. false≢true (ap idle (sym e ∙ q)))) (counted waits.2) x (some_call waits) k.0 w f.inv f.grows
  place_order (Running a x k') e k w =
      let f = place_step (shared_of m) g ok.inv i r (Running a x k') k in
      run_order_lem m g s i r (here (λ q. false≢true (ap idle (sym e ∙ q)))) a k' k.0 k.1 w futured.going x k.2 f.inv f.grows

  pub step_order_lem : KnowsOf m g s i (row_at m i) (row_at m i).place → FineAt (row_at m i).place
  step_order_lem w = place_order (row_at m i).place refl (ok.knows i lt).place w
