-- The end of a call gives what the run of the order gives: a single call its result, a batch's futures theirs. Pairing starts where the batch was run:
-- at the old head with the nodes up to where it was linked, or at the head that was read with the nodes that were found.
use Prim.Native.Nat.{ℕ, suc, ◌+◌, ◌-◌, ◌%◌, ◌<◌, ◌≤◌}
use mathlib.Core.Path.{◌≡◌, refl, sym, ap, ◌∙◌, subst}
use mathlib.Core.List.{List, [], ◌∷◌, map}
use mathlib.Core.Option.{Option, some}
use native.Mathlib.Omega.{arith}
use lib.ListN.{length, take, drop}
use Rattle.chain.specs.Positions.{at, At, In}
use Rattle.chain.proofs.Positions.{some_injective, the_only_one}
use Rattle.tally.specs.Fifo.{Result, ok, item, empty, results}
use Rattle.tally.specs.Excess.{enqueued, enqueues}
use Rattle.tally.specs.declared.Tally.{Tally}
use Rattle.chain.specs.Chain.{Chain}
use Rattle.cells.specs.Links.{Link}
use Rattle.memory.specs.Memory.{Memory, announcement_at}
use Rattle.place.specs.declared.After.{After}
use Rattle.place.specs.declared.After.TheVariants as afterwards
use Rattle.place.specs.Place.{place_after}
use Rattle.row.specs.declared.Row.{Row}
use Rattle.row.specs.Row.{placed}
use Rattle.answer.specs.declared.Item.{Item}
use Rattle.pairing.specs.declared.Cursor.{Cursor}
use Rattle.machine.specs.declared.Machine.{Machine}
use Rattle.machine.specs.State.{row_at, memory_of, with_memory}
use Rattle.machine.specs.Steps.{hop, tell, step_of}
use Rattle.order.specs.Promises.{request_in}
use Rattle.order.specs.Outcomes.{outcome_of}
use Rattle.machine.specs.Pairing.{batch_cursor, dequeues_cursor}
use Rattle.order.specs.PairingReads.{turns, turns_from}
use Rattle.order.specs.Order.{Called, Effect, Given, Story, of, results_in}
use Rattle.order.specs.PlainQueue.{ResultIn, Stands}
use Rattle.order.proofs.Ghost.{Ghost, Batch, pending_of, step_ghost}
use Rattle.order.proofs.Shared.{shared_of, next}
use Rattle.order.proofs.Invariant.{Inv, Shape}
use Rattle.order.proofs.Reached.{Holds}
use Rattle.order.proofs.Flags.{flagged_here}
use Rattle.order.proofs.PairingCounts.{Flagged}
use Rattle.order.proofs.RowPut.{row_moved}
use Rattle.order.proofs.PairingResults.{value_of, outcomes, batch_results, dequeues_results}
use Rattle.order.proofs.Orderly.{items_of, map_part, found, BatchCall, Orderly}
use Rattle.order.proofs.Futured.{Futured, SingleEnds, BatchEnds, EndsWith}
use Rattle.order.proofs.OrderFine.{SingleEnded, BatchRan, DequeuesRan, KnowsOfAfter}

-- a single call
module _ (m : Machine) (g' : Ghost) (s : Story) (i : ℕ) (order' : List Effect) where
  abbrev told_as : Result ℕ → Given
  told_as r = record { thread = i; future = (of s i).called.asked; began = some (of s i).called.began; result = r; time = s.clock }

  single_result : (r : Result ℕ) → SingleEnded s i order' r → Stands order' (told_as r)
  single_result r w = record {
    row = record { effect = record { call = (of s i).called; place = w.place }; results = r ∷ [] };
    there = w.there;
    thread = w.thread;
    call = λ b e. some_injective e;
    before = w.early;
    result = subst (ResultIn (record { effect = record { call = (of s i).called; place = w.place }; results = r ∷ [] }) (told_as r)) (sym w.asked) (w.futures, refl);
  }

  single_ends : (r : Result ℕ) → SingleEnded s i order' r → results_in (step_of m i).answer ≡ r ∷ [] → SingleEnds m g' s i order'
  single_ends r w e = record {
    none = λ a d n p t b. w.not_announced a d p t b;
    futures = w.futures;
    stands = λ j x p.
        let only : x ≡ told_as r = the_only_one (told_as r) x j (ap (λ (l : List (Result ℕ)). at (map told_as l) j) (sym e) ∙ p) in
        subst (Stands order') (sym only) (single_result r w);
  }

-- a batch. Its calls are the thread's pending ones, and the step leaves its row as it was but for the place.
module _ (m : Machine) (g : Ghost) (s : Story) (i : ℕ) (lt : i < 8) (holds : Holds m g) (orderly : Orderly m g s) (futured : Futured m g s) where
  abbrev m₁ : Machine
  m₁ = (hop m i).machine

  abbrev g₁ : Ghost
  g₁ = step_ghost (memory_of m) g (row_at m i).place

  abbrev r : Row
  r = row_at m i

  abbrev c : Called
  c = (of s i).called

  module _ (call : BatchCall s i (row_at m i)) where
    calls_are : (of s i).called.calls ≡ pending_of g i
    calls_are = call.calls ∙ (futured.each i lt).calls

    count_is : (row_at m i).count % 33 ≡ length (of s i).called.calls
    count_is = omega (arith, (holds.ok.knows i lt).tallied.count, (holds.ok.knows i lt).tallied.few, ap length calls_are)

    flagged : Flagged (row_at m i).pending m.futures (of s i).called.calls
    flagged = subst (Flagged (row_at m i).pending m.futures) (sym calls_are) (flagged_here m g holds.ok holds.flags i lt)

    -- the turns, by the row of before
    turns_are : (cursor : Row → Cursor)
        → turns_from (hop m i).machine i (cursor (row_at (hop m i).machine i))
        ≡ turns (length (of s i).called.calls) (hop m i).machine.links m.items (row_at m i).last (row_at m i).pending 0 m.futures (cursor (placed (row_at m i) (place_after (hop m i).after)))
    unfolding hop
    turns_are cursor =
        ap (λ (x : Row). turns (x.count % 33) (hop m i).machine.links m.items x.last x.pending 0 m.futures (cursor x)) (row_moved m i holds.ok.rows lt)
        ∙ ap (λ (n : ℕ). turns n (hop m i).machine.links m.items (row_at m i).last (row_at m i).pending 0 m.futures (cursor (placed (row_at m i) (place_after (hop m i).after)))) count_is

  module _ (x : Memory) (links : (hop m i).machine.links ≡ x.links) (inv : Inv (shared_of (with_memory m x)) (step_ghost (memory_of m) g (row_at m i).place)) (s₁ : Story) (g' : Ghost)
      (same : g'.by ≡ (step_ghost (memory_of m) g (row_at m i).place).by) (batches_kept : (step_ghost (memory_of m) g (row_at m i).place).batches ≡ g.batches) (clock : s₁.clock ≤ suc s.clock) where
    abbrev m₀ : Machine
    m₀ = with_memory m x

    chain_is : Chain (next (hop m i).machine.links) g₁.chain
    chain_is = subst (λ (l : List Link). Chain (next l) g₁.chain) (sym links) inv.chain.chain

    module _ (from : ℕ) (w : BatchRan m₀ g₁ s s₁ i (row_at m i) from) where
      abbrev a : ℕ
      a = w.announcement

      abbrev p : ℕ
      p = w.position

      abbrev h : ℕ
      h = (request_in m₀ w.announcement).old_head.count.0

      installed : In g₁.installed w.announcement
      installed = inv.head.linked_installed w.announcement _ w.linked.is

      shape : Shape g₁ (announcement_at m₀.announcements w.announcement) w.linked.step w.position
      shape = inv.linked.shape w.announcement w.linked.step w.position w.linked.is w.linked.from

      as_many : (request_in m₀ w.announcement).tally.enqueues ≡ enqueues (of s i).called.calls
      as_many =
          let b = inv.head.has_batch w.announcement installed in
          ap (λ (t : Tally). t.enqueues) (inv.batches.asks w.announcement b.0 b.1).tally ∙ ap enqueues (sym (kept_calls b.0 b.1))
        where
          kept_calls : (b : Batch) → At g₁.batches w.announcement b → (of s i).called.calls ≡ b.calls
          kept_calls b q = orderly.announced.calls w.announcement b (of s i).called (subst (λ (l : List Batch). At l w.announcement b) batches_kept q) w.call.0

      batch_paid : outcomes (turns_from (hop m i).machine i (batch_cursor from (row_at (hop m i).machine i).first)) ≡ map outcome_of (results (of s i).called.calls (found m₀ g₁ w.announcement w.position))
      batch_paid =
          ap outcomes (turns_are w.call.1 (λ x. batch_cursor from x.first))
          ∙ batch_results (hop m i).machine.links g₁.chain chain_is m.items (row_at m i).last (row_at m i).pending (of s i).called.calls m.futures from (row_at m i).first h p
          (flagged w.call.1)
          (inv.head.old_head_at w.announcement installed ∙ ap some (sym w.from_is))
          shape.old_head_before (shape.first_at ∙ ap some w.first)
          (subst (λ (n : ℕ). At g₁.chain (p + n) (row_at m i).last) as_many (shape.last_at ∙ ap some w.last))
          (sym (map_part (value_of m.items) (suc p) (enqueues c.calls) g₁.chain ∙ w.run.items))
          ∙ ap (λ (q : List ℕ). map outcome_of (results c.calls q)) (map_part (value_of m.items) (suc h) (p - h) g₁.chain)

      batch_ends : BatchEnds m g' s i s₁.order (batch_cursor from (row_at (hop m i).machine i).first)
      batch_ends = record {
        none = λ b d n q t e.
            let here : b ≡ w.announcement = orderly.announced.apart b w.announcement d c q w.call.0 (t ∙ sym w.call.1.thread) e in
            n (suc w.linked.step) (subst (λ (l : List (Option ℕ)). At l (suc w.linked.step) (some b)) (sym same) (w.linked.is ∙ ap (λ (n : ℕ). some (some n)) (sym here)));
        call = w.call.1;
        place = w.run.place;
        early = early_enough;
        results = results c.calls (found m₀ g₁ w.announcement w.position);
        there = w.run.there;
        paid = batch_paid;
      }
        where
          early_enough : w.run.place ≤ s.clock
          early_enough = omega (arith, w.run.early, clock)

    module _ (from taken : ℕ) (w : DequeuesRan m₀ g₁ s s₁ i (row_at m i) from taken) where
      dequeues_paid : outcomes (turns_from (hop m i).machine i (dequeues_cursor from taken)) ≡ map outcome_of (results (of s i).called.calls (take taken (drop (suc w.position) (items_of m₀ g₁))))
      dequeues_paid =
          ap outcomes (turns_are w.call.1 (λ x. dequeues_cursor from taken))
          ∙ dequeues_results (hop m i).machine.links g₁.chain chain_is m.items (row_at m i).last (row_at m i).pending (of s i).called.calls m.futures from w.position taken
          (ap enqueued w.call.1.calls ∙ w.call.2) w.from_is w.enough
          ∙ ap (λ (q : List ℕ). map outcome_of (results c.calls q)) (map_part (value_of m.items) (suc w.position) taken g₁.chain)

      dequeues_end : BatchEnds m g' s i s₁.order (dequeues_cursor from taken)
      dequeues_end = record {
        none = λ b d n q t e. w.call.0.not_announced b d q t e;
        call = w.call.1;
        place = w.place;
        early = w.early;
        results = results c.calls (take taken (drop (suc w.position) (items_of m₀ g₁)));
        there = w.there;
        paid = dequeues_paid;
      }

    items_kept : (hop m i).machine.items ≡ m.items
    unfolding hop
    items_kept = refl

    -- what the step's end shows of the futures, from what it knows of the order
    pub ends_with : (a : After) → (hop m i).after ≡ a → KnowsOfAfter m₀ g₁ s s₁ i (row_at m i) a → EndsWith m g' s i s₁.order a
    ends_with (afterwards.On p) e k = tt
    ends_with afterwards.Ok e k = single_ends m g' s i s₁.order ok k (ap (λ (y : After). results_in (tell (hop m i).machine i 1 y).answer) e)
    ends_with afterwards.Empty e k = single_ends m g' s i s₁.order empty k (ap (λ (y : After). results_in (tell (hop m i).machine i 1 y).answer) e)
    ends_with (afterwards.Item n) e k =
        single_ends m g' s i s₁.order (item (value_of m.items n)) k
        (ap (λ (y : After). results_in (tell (hop m i).machine i 1 y).answer) e ∙ ap (λ (l : List Item). item (value_of l n) ∷ []) items_kept)
    ends_with (afterwards.Pair from) e k = batch_ends from k
    ends_with (afterwards.PairDequeues from taken) e k = dequeues_end from taken k
