-- No remainder, wrap or cut-off subtraction that makes the code total is ever met: the nodes that steps name are in the chain or were handed out
-- to their thread, the counts are positions in the chain, which has no more than 512 nodes, and a batch is of at most 32 calls.
use Prim.Native.Nat.{ℕ, ◌-◌, ◌<◌}
use mathlib.Core.Path.{ap}
use native.Mathlib.Omega.{arith}
use Rattle.chain.specs.Positions.{At, In}
use Rattle.chain.proofs.Positions.{within, element}
use Rattle.tally.specs.declared.Tally.{Tally}
use Rattle.tally.proofs.Counts.{enqueues_are_calls, dequeues_are_calls, excess_le_dequeues}
use Rattle.place.specs.declared.Place.{Place}
use Rattle.place.specs.declared.Place.TheVariants.{Idle, Enqueue, Dequeue, Batch, Dequeues, Running}
use Rattle.place.specs.declared.EnqueueStep.{EnqueueStep}
use Rattle.place.specs.declared.EnqueueStep.TheVariants.{E1, E2, E3, E4, E5}
use Rattle.place.specs.declared.DequeueStep.{DequeueStep}
use Rattle.place.specs.declared.DequeueStep.TheVariants.{D1, D2, D3}
use Rattle.place.specs.declared.BatchStep.TheVariants.{B1, B2}
use Rattle.place.specs.declared.DequeuesStep.{DequeuesStep}
use Rattle.place.specs.declared.DequeuesStep.TheVariants.{Q1, Q2, Q3}
use Rattle.place.specs.declared.RunStep.{RunStep}
use Rattle.place.specs.declared.RunStep.TheVariants.{A1, A2, A3, A4, A5, A6, A7, A8}
use Rattle.row.specs.declared.Row.{Row}
use Rattle.machine.specs.declared.Machine.{Machine}
use Rattle.machine.specs.State.{row_at}
use Rattle.order.proofs.Ghost.{Ghost, pending_of}
use Rattle.order.specs.Fits.{NodeFits, Rises, EnqueueFits, DequeueFits, DequeuesFits, RunFits, PlaceFits, RowFits, Fits}
use Rattle.order.proofs.Shared.{Shared, shared_of}
use Rattle.order.proofs.Ends.{position_small, node_small, installed_small}
use Rattle.order.proofs.Knows.{Single, NotAnnounced, request_of, KnowsEnqueue, KnowsDequeue, KnowsDequeues, KnowsRun, KnowsAt}
use Rattle.order.proofs.RunReads.{the_batch}
use Rattle.order.proofs.Steps.{Ok}
use Rattle.order.proofs.Flags.{Flags}

module _ (m : Machine) (g : Ghost) (ok : Ok m g) where
  abbrev s : Shared
  s = shared_of m

  in_chain_fits : (k n : ℕ) → At g.chain k n → NodeFits n
  in_chain_fits k n p = node_small s g ok.inv k n p

  rises_by_one : (k n : ℕ) → At g.chain k n → Rises k 1
  rises_by_one k n p = omega (arith, position_small s g ok.inv k n p)

  single_fits : (t n : ℕ) → Single s g t n → NodeFits n
  single_fits t n w = omega (arith, within g.node_owners n w.mine.owner, ok.inv.chain.owned, ok.inv.chain.room)

  enqueue_fits : (t n : ℕ) (x : EnqueueStep) → KnowsEnqueue s g t n x → EnqueueFits n x
  enqueue_fits t n E1 w = single_fits t n w
  enqueue_fits t n (E2 l) w = (single_fits t n w.0, in_chain_fits _ _ w.1.is)
  enqueue_fits t n (E3 l) w = (in_chain_fits _ _ w.1, rises_by_one _ _ w.0.is)
  enqueue_fits t n (E4 l x) w = (single_fits t n w.0, in_chain_fits _ _ w.2)
  enqueue_fits t n (E5 l x) w = (single_fits t n w.0, in_chain_fits _ _ w.2, rises_by_one _ _ w.1.is)

  dequeue_fits : (x : DequeueStep) → KnowsDequeue g x → DequeueFits x
  dequeue_fits D1 w = tt
  dequeue_fits (D2 f) w = in_chain_fits _ _ w
  dequeue_fits (D3 f x) w = (in_chain_fits _ _ w.1, rises_by_one _ _ w.0)

  dequeues_fits : (x : DequeuesStep) → KnowsDequeues g x → DequeuesFits x
  dequeues_fits Q1 w = tt
  dequeues_fits (Q2 v) w = (in_chain_fits _ _ w.1, omega (arith, position_small s g ok.inv _ _ w.1))
  dequeues_fits (Q3 v) w = (in_chain_fits _ _ w.1, omega (arith, position_small s g ok.inv _ _ w.1))

  announced_fits : (t b : ℕ) → NotAnnounced s g t b → b < 64
  announced_fits t b w = omega (arith, within g.batches b w.is, ok.inv.batches.counted, ok.inv.batches.room)

  run_fits : (t a : ℕ) (r : Row) → In g.installed a → (x : RunStep) → KnowsRun s g a x → RunFits (request_of s a) x
  run_fits t a r there A1 w = tt
  run_fits t a r there (A2 l) w = tt
  run_fits t a r there (A3 l) w =
      let b = the_batch s g ok.inv t r a there in
      (in_chain_fits _ _ w.0.is, omega (arith, ok.inv.batches.in_use a 0 _ b.0 b.1 (ok.inv.batches.asks a b.0 b.1).first_is, ok.inv.chain.room))
  run_fits t a r there (A4 l) w = tt
  run_fits t a r there (A5 o) w =
      let b = the_batch s g ok.inv t r a there in
      let tally = (ok.inv.batches.asks a b.0 b.1).tally in
      let linked = (ok.inv.linked.old_tails a o w there).0 in
      let shape = ok.inv.linked.shape a linked.step o.count.0 linked.is linked.from in (
        in_chain_fits _ _ shape.last_at,
        record {
          rises = omega (arith, position_small s g ok.inv _ _ shape.last_at);
          size = shape.old_head_before;
          successful = omega (arith, ap (λ (y : Tally). y.excess) tally, ap (λ (y : Tally). y.dequeues) tally, excess_le_dequeues b.0.calls);
        },
      )
  run_fits t a r there (A6 rise x left) w = (in_chain_fits _ _ w.2, w.3)
  run_fits t a r there (A7 rise x) w = (in_chain_fits _ _ w.1, omega (arith, position_small s g ok.inv _ _ w.1, w.2))
  run_fits t a r there (A8 l x) w = (in_chain_fits _ _ w.1, rises_by_one _ _ w.0.is)

  place_fits : (t : ℕ) (r : Row) (p : Place) → KnowsAt s g t r p → PlaceFits m r p
  place_fits t r Idle w = λ some.
      let last = element w.nodes (r.tally.enqueues - 1) (omega (arith, w.many)) in
      let is = w.last_is (r.tally.enqueues - 1) last.0 (omega (arith, w.many)) last.1 in
      let mine = w.private.mine (r.tally.enqueues - 1) last.0 last.1 in
      omega (arith, is, within g.node_owners last.0 mine.owner, ok.inv.chain.owned, ok.inv.chain.room)
  place_fits t r (Enqueue n x) w = enqueue_fits t n x w.0
  place_fits t r (Dequeue x) w = dequeue_fits x w.0
  place_fits t r (Batch b B1) w = announced_fits t b w.0
  place_fits t r (Batch b (B2 f)) w = announced_fits t b w.0.0
  place_fits t r (Dequeues x) w = dequeues_fits x w.0
  place_fits t r (Running a x k) w = (installed_small s g ok.inv a w.0, run_fits t a r w.0 x w.2)

  row_fits : Flags m g → (t : ℕ) → t < 8 → RowFits (row_at m t)
  row_fits flags t lt =
      let w = (ok.knows t lt).tallied in
      record {
        count = omega (arith, w.count, w.few);
        enqueues = omega (arith, ap (λ (y : Tally). y.enqueues) w.tally, enqueues_are_calls (pending_of g t), w.few);
        dequeues = omega (arith, ap (λ (y : Tally). y.dequeues) w.tally, dequeues_are_calls (pending_of g t), w.few);
        futures = λ j h. let c = element (pending_of g t) j (omega (arith, w.count)) in omega (arith, (flags.each t lt).handed_out j c.0 c.1, flags.room);
        asked = flags.asked t lt;
      }

  pub fits : Flags m g → Fits m
  fits flags = record {
    places = λ t lt. place_fits t (row_at m t) (row_at m t).place (ok.knows t lt).place;
    rows = row_fits flags;
    threads = ok.threads;
    nodes = ok.inv.chain.room;
    futures = flags.room;
    announcements = ok.inv.batches.room;
  }
