-- Batch of dequeues only. If it finds nothing at its first read, the queue is empty and it takes effect there. Else it takes effect when q3 is taken,
-- at the place of its last read: the head has not moved since it was read, so what took effect after that read only enqueued; and at that read the
-- nodes found were all there were, or all that the batch needs.
use Rattle.std.specs.Prelude.{None, Some}
use Prim.Native.Nat.{ℕ, suc, ◌+◌, ◌-◌, ◌<◌, ◌≤◌}
use mathlib.Core.Path.{◌≡◌, refl, sym, ap, ◌∙◌, subst}
use mathlib.Core.Bool.{Bool, true, false, cond}
use mathlib.Core.List.{List, [], ◌∷◌, ◌++◌, append-nil}
use mathlib.Core.Logic.{◌⊎◌, inl, inr, ⊎_elim, ◌≢◌}
use native.Mathlib.Omega.{arith}
use lib.Dec.{eqb, ltb}
use lib.ListN.{length, take, drop, length-drop, length-map}
use lib.Seq.{drop-drop}
use borrow.Author.Tests.{eqb-true, eqb-false, ltb-true, ltb-false}
use Rattle.chain.specs.Positions.{at, At, In}
use Rattle.chain.proofs.Positions.{none_is_not_some, within}
use Rattle.chain.proofs.Following.{none_is_the_last}
use Rattle.tally.specs.Fifo.{Call, Result, results, successful}
use Rattle.tally.specs.Excess.{enqueued}
use Rattle.tally.proofs.OneKind.{successful_dequeues, results_dequeues}
use Rattle.cells.specs.declared.Head.{Head}
use Rattle.cells.specs.declared.Head.TheVariants.{Plain, Announced}
use Rattle.cells.specs.Links.{Link}
use Rattle.cells.specs.Ends.{past_front, same_head}
use Rattle.memory.specs.Memory.{link_at, with_head, head_cas, perform}
use Rattle.found.specs.Found.{taken_in}
use Rattle.place.specs.declared.Walk.{Walk}
use Rattle.place.specs.declared.DequeuesStep.{DequeuesStep}
use Rattle.place.specs.declared.DequeuesStep.TheVariants.{Q1, Q2, Q3}
use Rattle.place.specs.declared.After.{After}
use Rattle.place.specs.declared.After.TheVariants as afterwards
use Rattle.thread.specs.Dequeues.{dequeues_access, dequeues_after, dequeues_at, after_q1, after_q2, after_q3, one_further}
use Rattle.row.specs.declared.Row.{Row}
use Rattle.machine.specs.declared.Machine.{Machine}
use Rattle.machine.specs.State.{memory_of, with_memory}
use Rattle.order.specs.Links.{led, if_none}
use Rattle.order.specs.Order.{Called, Effect, Story, Remembered, of, put_in, put_in_at, read_at, dequeues_order, stepped_on}
use Rattle.order.specs.PlainQueue.{ran, leaves}
use Rattle.order.proofs.Ghost.{Ghost}
use Rattle.order.proofs.Shared.{shared_of, in_memory}
use Rattle.order.proofs.Invariant.{Inv}
use Rattle.order.proofs.Ends.{position_small, goes_up}
use Rattle.order.proofs.SameEnds.{same_head_is_plain}
use Rattle.order.proofs.Grows.{Grows}
use Rattle.order.proofs.TailMoves.{quiet}
use Rattle.order.proofs.Knows.{Walks, KnowsDequeues}
use Rattle.order.proofs.EnqueueSteps.{found_behind}
use Rattle.order.proofs.AbstractHead.{head_position, position_of_plain}
use Rattle.order.proofs.PairingResults.{value_of}
use Rattle.order.proofs.Ran.{enqueued_in, leaves_is, enqueued_then, enqueued_put_in, taken_put_in, put_in_ran, put_in_is}
use Rattle.order.proofs.Orderly.{items_of, Orderly, WaitsDequeues, Window, KnowsQ3, KnowsOfDequeues}
use Rattle.order.proofs.OrderKept.{part_stays}
use Rattle.order.proofs.OrderStays.{dequeues_stay}
use Rattle.order.proofs.OrderFine.{step_story, KnowsOfAfter, OrderFine, of_own, of_other, quiet_step, Here, only_reads}
use Rattle.order.proofs.OrderEffects.{Effects, Between, AtTheEnd, effect_orderly, effect_onward, takes_effect, not_of_another, last_ran, own_call, own_futures, own_apart, takes_effect_now}
use Rattle.order.proofs.DequeueEffects.{empty_behind}

module _ (m : Machine) (g : Ghost) (s : Story) (i : ℕ) (r : Row) (here : Here m g s i) (counted : r.tally.dequeues ≡ length (of s i).calls) where
  abbrev c : Called
  c = (of s i).called

  abbrev m₀ : Machine
  m₀ = with_memory m (memory_of m)

  -- a read at q2: only the time of the last read changes
  abbrev reread : Story
  reread = step_story s i s.order s.clock

  own : of reread i ≡ stepped_on (of s i) true s.clock
  own = of_own s i s.order s.clock here.room

  still_waits : WaitsDequeues s i r → WaitsDequeues reread i r
  still_waits w =
      let called : (of reread i).called ≡ (of s i).called = ap (λ (x : Remembered). x.called) own in (
        record {
          thread = ap (λ (x : Called). x.thread) called ∙ w.0.thread;
          began = omega (arith, ap (λ (x : Called). x.began) called, w.0.began);
          not_in = subst (λ (x : Called). (j : ℕ) (y : Effect) → At s.order j y → y.call.thread ≡ x.thread → y.call.began ≡ x.began → ⊥) (sym called) w.0.not_in;
          not_announced = λ a d p t b. w.0.not_announced a d p t (b ∙ ap (λ (x : Called). x.began) called);
        },
        record {
          thread = ap (λ (x : Called). x.thread) called ∙ w.1.thread;
          calls = ap (λ (x : Called). x.calls) called ∙ w.1.calls ∙ sym (ap (λ (x : Remembered). x.calls) own);
          futures = ap (λ (x : Called). x.futures) called ∙ w.1.futures ∙ sym (ap (λ (x : Remembered). x.futures) own);
          asked = ap (λ (x : Called). x.asked) called ∙ w.1.asked;
          asks = subst (λ (l : List ℕ). In l r.future) (sym (ap (λ (x : Remembered). x.futures) own)) w.1.asks;
        },
        ap enqueued (ap (λ (x : Remembered). x.calls) own) ∙ w.2,
      )

  same_calls : length (of reread i).calls ≡ length (of s i).calls
  same_calls = ap (λ (x : Remembered). length x.calls) own

  reads_again : (a : After) → KnowsOfAfter m₀ g s reread i r a → OrderFine m g s i r m₀ g reread a
  reads_again a k = quiet_step m g s here.inv here.orderly i here.room m₀ g here.inv quiet refl refl refl (λ b p l. l) refl s.clock r a k

  -- what a last read tells: all that took effect so far is old
  module _ (w : Walk) (waits : WaitsDequeues s i r) (seen : w.front.count.0 ≤ head_position m g) (found : 0 < w.taken) (few : w.taken ≤ length (of s i).calls)
      (node : ℕ) (there : At g.chain (w.front.count.0 + w.taken) node)
      (stop : (w.taken ≡ length (of s i).calls) ⊎ (length g.chain ≡ suc (w.front.count.0 + w.taken))) where
    all_items : suc (length (enqueued_in s.order)) ≡ length g.chain
    all_items =
        omega (arith, ap length here.orderly.chain, length-drop 1 (items_of m g), length-map g.chain (value_of m.items), within g.chain 0 here.inv.chain.first)

    window : head_position m g ≡ w.front.count.0 → Window reread i w.front.count.0 w.taken
    unfolding at
    window e = record {
      old = s.order;
      new = [];
      order = sym (append-nil s.order);
      before = λ j x p. omega (arith, here.orderly.rows.past j x p, ap (λ (y : Remembered). y.last_read) own);
      since = λ j x p. absurd (none_is_not_some refl p);
      only = λ j x p. absurd (none_is_not_some refl p);
      taken = here.orderly.head ∙ e;
      enough = omega (arith, all_items, within g.chain _ there);
      stop = ⊎_elim {C = (w.taken ≡ length (of reread i).calls) ⊎ (length (enqueued_in s.order) ≡ w.front.count.0 + w.taken)} (λ q. inl (q ∙ sym same_calls)) (λ q. inr (omega (arith, all_items))) stop;
    }

    last_read_lem : KnowsOfDequeues m₀ g reread i r (Q3 w)
    last_read_lem = (
      still_waits waits,
      record {
        seen = seen;
        found = found;
        few = omega (arith, few, same_calls);
        read = omega (arith, waits.0.began, ap (λ (y : Remembered). y.called.began) own, ap (λ (y : Remembered). y.last_read) own);
        recent = omega (arith, ap (λ (y : Remembered). y.last_read) own);
        window = window;
      },
    )

  -- q2 that finds a node
  module _ (w : Walk) (waits : WaitsDequeues s i r) (walks : Walks g w) (seen : w.front.count.0 ≤ head_position m g) (few : w.taken < length (of s i).calls) where
    q2_found : (x : ℕ) → link_at m.links w.at ≡ Some x → (n : ℕ) → n ≡ suc w.taken → (b : Bool) → ltb n r.tally.dequeues ≡ b
        → OrderFine m g s i r m₀ g reread (cond b (dequeues_at (Q2 (record { front = w.front; at = x; taken = n }))) (dequeues_at (Q3 (record { front = w.front; at = x; taken = n }))))
    q2_found x e n is true q =
        reads_again (dequeues_at (Q2 (record { front = w.front; at = x; taken = n })))
        (still_waits waits, seen, omega (arith, ltb-true n r.tally.dequeues q, counted, same_calls))
    q2_found x e n is false q =
        let next = found_behind (shared_of m) g here.inv i r (w.front.count.0 + w.taken) w.at x walks.1 e in
        reads_again (dequeues_at (Q3 (record { front = w.front; at = x; taken = n })))
        (last_read_lem (record { front = w.front; at = x; taken = n }) waits seen (omega arith) (omega arith) x
        (subst (λ (k : ℕ). At g.chain k x) (let z : suc (w.front.count.0 + w.taken) ≡ w.front.count.0 + n = omega arith in z) next)
        (inl (omega (arith, ltb-false n r.tally.dequeues q, counted))))

    -- q2 that finds none: at the first read the queue is empty
    module _ (none : link_at m.links w.at ≡ None) where
      chain_ends : length g.chain ≡ suc (w.front.count.0 + w.taken)
      chain_ends = omega (arith, none_is_the_last here.inv.chain.chain _ _ walks.1 (ap led none), within g.chain _ walks.1)

      q2_stops : w.taken ≢ 0 → OrderFine m g s i r m₀ g reread (dequeues_at (Q3 w))
      q2_stops ne = reads_again (dequeues_at (Q3 w)) (last_read_lem w waits seen (omega arith) (omega arith) w.at walks.1 (inr chain_ends))

      nothing_there : w.taken ≡ 0 → leaves s.order [] ≡ []
      nothing_there z = empty_behind m g s here.inv here.orderly (w.front.count.0 + w.taken) w.at walks.1 (ap led none) (omega arith)

      empty_takes : w.taken ≡ 0 → (cs : List (Call ℕ)) → enqueued cs ≡ [] → successful (results cs (leaves s.order [])) ≡ 0
      empty_takes z cs alone =
          successful_dequeues cs (leaves s.order []) 0 alone (inr (ap length (nothing_there z))) (omega arith) (omega arith)

      -- it stands behind all others
      last_place : put_in_at s i s.clock ≡ s.order ++ (record { call = (of s i).called; place = s.clock } ∷ [])
      unfolding at
      last_place =
          ap (put_in _) (sym (append-nil s.order))
          ∙ put_in_is s.order [] _ (λ j y p. omega (arith, here.orderly.rows.past j y p)) (λ j y p. absurd (none_is_not_some refl p))

      abbrev s' : Story
      s' = step_story s i (s.order ++ (record { call = (of s i).called; place = s.clock } ∷ [])) s.clock

      alone : enqueued (of s i).called.calls ≡ []
      alone = ap enqueued waits.1.calls ∙ waits.2

      at_the_end : w.taken ≡ 0 → AtTheEnd m g s m₀ g (of s i).called []
      at_the_end z = record {
        effects = record { inv = here.inv; orderly = here.orderly; grows = quiet; items = refl; batches = refl; fresh = waits.0.not_in };
        chain = sym (append-nil g.chain);
        enqueues = sym alone;
        head = omega (arith, empty_takes z (of s i).called.calls alone);
        began = omega (arith, waits.0.began);
      }

      found_nothing : w.taken ≡ 0 → OrderFine m g s i r m₀ g s' (afterwards.PairDequeues w.front.node 0)
      found_nothing z =
          takes_effect_now m g s i r here waits.0 (inr waits.1.futures) (at_the_end z) s.clock (λ b p l. l) (afterwards.PairDequeues w.front.node 0)
          (record {
            call = waits;
            position = w.front.count.0;
            from_is = walks.0;
            enough = omega (arith, within g.chain _ walks.0);
            place = s.clock;
            early = omega arith;
            there = subst (λ (q : List ℕ). In (ran s'.order []) (record { effect = record { call = c; place = s.clock }; results = results c.calls q })) (nothing_there z) (last_ran (at_the_end z));
          })

      q2_none : (b : Bool) → eqb w.taken 0 ≡ b
          → OrderFine m g s i r m₀ g (step_story s i (cond b (put_in_at s i s.clock) s.order) s.clock) (cond b (afterwards.PairDequeues w.front.node 0) (dequeues_at (Q3 w)))
      q2_none true e =
          subst (λ (l : List Effect). OrderFine m g s i r m₀ g (step_story s i l s.clock) (afterwards.PairDequeues w.front.node 0)) (sym last_place) (found_nothing (eqb-true w.taken 0 e))
      q2_none false e = q2_stops (eqb-false w.taken 0 e)

    q2_order : (v : Link) → link_at m.links w.at ≡ v
        → OrderFine m g s i r m₀ g (step_story s i (if_none v (cond (eqb w.taken 0) (put_in_at s i s.clock) s.order) s.order) s.clock) (after_q2 w v r.tally.dequeues)
    q2_order None e = q2_none e (eqb w.taken 0) refl
    q2_order (Some x) e =
        q2_found x e _ (omega (arith, position_small (shared_of m) g here.inv _ _ walks.1)) (ltb (one_further w x).taken r.tally.dequeues) refl

  -- q3, taken
  module _ (w : Walk) (walks : Walks g w) (waits : WaitsDequeues s i r) (k : KnowsQ3 m g s i w) where
    abbrev h : ℕ
    h = w.front.count.0

    abbrev read : ℕ
    read = (of s i).last_read

    abbrev m' : Machine
    m' = with_memory m (with_head (memory_of m) (Plain (past_front w.front w.at w.taken)))

    module _ (e : same_head m.ends.head (Plain w.front) ≡ true)
        (inv' : Inv (in_memory (shared_of m) (with_head (memory_of m) (Plain (past_front w.front w.at w.taken)))) g)
        (grows : Grows (shared_of m) g (in_memory (shared_of m) (with_head (memory_of m) (Plain (past_front w.front w.at w.taken)))) g) where
      was : head_position m g ≡ h
      was = position_of_plain m g here.inv w.front (same_head_is_plain _ w.front e)

      seen_then : Window s i h w.taken
      seen_then = k.window was

      x : Effect
      x = record { call = (of s i).called; place = (of s i).last_read }

      moved : head_position m' g ≡ h + w.taken
      moved =
          position_of_plain m' g inv' (past_front w.front w.at w.taken) refl
          ∙ goes_up (shared_of m) g here.inv h w.taken (omega (arith, position_small (shared_of m) g here.inv _ _ walks.1))

      no_enqueue : enqueued (of s i).called.calls ≡ []
      no_enqueue = ap enqueued waits.1.calls ∙ waits.2

      many : length (of s i).called.calls ≡ length (of s i).calls
      many = ap length waits.1.calls

      -- what there was at its last read
      there_was : leaves seen_then.old [] ≡ drop h (enqueued_in seen_then.old)
      there_was = leaves_is seen_then.old [] ∙ ap (λ (n : ℕ). drop n (enqueued_in seen_then.old)) seen_then.taken

      many_there : length (leaves seen_then.old []) ≡ length (enqueued_in seen_then.old) - h
      many_there = ap length there_was ∙ length-drop h (enqueued_in seen_then.old)

      stop : (w.taken ≡ length (of s i).called.calls) ⊎ (length (leaves seen_then.old []) ≡ w.taken)
      stop = ⊎_elim {C = (w.taken ≡ length (of s i).called.calls) ⊎ (length (leaves seen_then.old []) ≡ w.taken)} (λ q. inl (q ∙ sym many)) (λ q. inr (omega (arith, many_there))) seen_then.stop

      takes : successful (results (of s i).called.calls (leaves seen_then.old [])) ≡ w.taken
      takes = successful_dequeues (of s i).called.calls (leaves seen_then.old []) w.taken no_enqueue stop (omega (arith, many_there, seen_then.enough)) (omega (arith, k.few, many))

      -- .. of which those that it took are in the chain behind the head
      taken_are : take w.taken (leaves seen_then.old []) ≡ take w.taken (drop (suc h) (items_of m g))
      taken_are =
          ap (take w.taken) there_was
          ∙ sym (part_stays h w.taken (enqueued_in seen_then.old) (enqueued_in seen_then.new) seen_then.enough)
          ∙ ap (λ (l : List ℕ). take w.taken (drop h l)) (sym (enqueued_then seen_then.old seen_then.new) ∙ ap enqueued_in (sym seen_then.order) ∙ here.orderly.chain)
          ∙ ap (take w.taken) (drop-drop h 1 (items_of m g) ∙ ap (λ (n : ℕ). drop n (items_of m g)) (let z : 1 + h ≡ suc h = omega arith in z))

      abbrev order' : List Effect
      order' = seen_then.old ++ (x ∷ seen_then.new)

      put_there : put_in_at s i (of s i).last_read ≡ order'
      unfolding x
      put_there = ap (put_in x) seen_then.order ∙ put_in_is seen_then.old seen_then.new x (λ j y p. omega (arith, seen_then.before j y p)) seen_then.since

      effects : Effects m g s m' g (of s i).called
      effects = record { inv = here.inv; orderly = here.orderly; grows = grows; items = refl; batches = refl; fresh = waits.0.not_in }

      between : Between s (of s i).called (of s i).last_read seen_then.old seen_then.new
      between = record { order = seen_then.order; only = seen_then.only; began = k.read; past = omega (arith, k.recent); before = seen_then.before; since = seen_then.since }

      q3_orderly : Orderly m' g (step_story s i order' read)
      unfolding x
      q3_orderly =
          effect_orderly effects i read between [] (sym (append-nil (items_of m g)))
          (enqueued_put_in seen_then.old seen_then.new x seen_then.only no_enqueue ∙ ap enqueued_in (sym seen_then.order) ∙ here.orderly.chain)
          (taken_put_in seen_then.old seen_then.new x seen_then.only ∙ omega (arith, seen_then.taken, takes, moved))
          (λ a p d l q. inl l) (own_apart m g s i r here waits.0 (inr waits.1.futures) g)

      q3_taken : OrderFine m g s i r m' g (step_story s i order' read) (afterwards.PairDequeues w.front.node w.taken)
      unfolding x
      q3_taken = record {
        orderly = q3_orderly;
        onward = λ u ne. effect_onward effects i read between (omega (arith, was, moved)) (λ q some. absurd (omega (arith, was, moved, k.found)))
            u (of_other s i order' read u ne) (not_of_another s c i waits.0.thread u ne);
        effect = inr (_, takes_effect effects i read between (own_call m g s i r here waits.0 (inr waits.1.futures)) (own_futures m g s i r here waits.0 (inr waits.1.futures)));
        knows = record {
          call = waits;
          position = h;
          from_is = walks.0;
          enough = within g.chain _ walks.1;
          place = read;
          early = omega (arith, k.recent);
          there = subst (λ (rs : List (Result ℕ)). In (ran order' []) (record { effect = x; results = rs }))
              (sym (results_dequeues (of s i).called.calls (leaves seen_then.old []) w.taken no_enqueue stop) ∙ ap (results (of s i).called.calls) taken_are)
              (put_in_ran seen_then.old seen_then.new x seen_then.only);
        };
      }

    q3_order : (b : Bool) → same_head m.ends.head (Plain w.front) ≡ b
        → Inv (in_memory (shared_of m) (head_cas (memory_of m) (Plain (past_front w.front w.at w.taken)) b).memory) g
        → Grows (shared_of m) g (in_memory (shared_of m) (head_cas (memory_of m) (Plain (past_front w.front w.at w.taken)) b).memory) g
        → OrderFine m g s i r (with_memory m (head_cas (memory_of m) (Plain (past_front w.front w.at w.taken)) b).memory) g
        (step_story s i (cond b (put_in_at s i (of s i).last_read) s.order) (of s i).last_read) (after_q3 w (taken_in (head_cas (memory_of m) (Plain (past_front w.front w.at w.taken)) b).found))
    q3_order true e inv' grows =
        subst (λ (l : List Effect). OrderFine m g s i r m' g (step_story s i l read) (afterwards.PairDequeues w.front.node w.taken)) (sym (put_there e inv' grows)) (q3_taken e inv' grows)
    q3_order false e inv' grows = only_reads m g s i r here _ (λ on. dequeues_stay m g s here.inv _ g _ i on r waits)

  -- q1
  q1_order : WaitsDequeues s i r → 0 < length (of s i).calls → (y : Head) → m.ends.head ≡ y → OrderFine m g s i r m₀ g (step_story s i s.order (of s i).last_read) (after_q1 y)
  q1_order waits some (Plain f) e =
      only_reads m g s i r here _
      (λ on. (dequeues_stay m g s here.inv _ g _ i on r waits, omega (arith, position_of_plain m g here.inv f e), omega (arith, ap (λ (x : Remembered). length x.calls) on.remembered)))
  q1_order waits some (Announced a) e = only_reads m g s i r here _ (λ on. dequeues_stay m g s here.inv _ g _ i on r waits)

  pub dequeues_order_lem : (x : DequeuesStep) → 0 < length (of s i).calls → KnowsDequeues g x → KnowsOfDequeues m g s i r x
      → Inv (in_memory (shared_of m) (perform (memory_of m) (dequeues_access x)).memory) g → Grows (shared_of m) g (in_memory (shared_of m) (perform (memory_of m) (dequeues_access x)).memory) g
      → OrderFine m g s i r (with_memory m (perform (memory_of m) (dequeues_access x)).memory) g
      (step_story s i (dequeues_order (memory_of m) s i x) (read_at s.clock (of s i).last_read x)) (dequeues_after x (perform (memory_of m) (dequeues_access x)).found r.tally.dequeues)
  unfolding perform dequeues_access dequeues_after
  dequeues_order_lem Q1 some q w inv' grows = q1_order w some m.ends.head refl
  dequeues_order_lem (Q2 l) some q w inv' grows = q2_order l w.0 q w.1 w.2 (link_at m.links l.at) refl
  dequeues_order_lem (Q3 l) some q w inv' grows = q3_order l q w.0 w.1 (same_head m.ends.head (Plain l.front)) refl inv' grows
