-- Dequeue: it takes effect at the d2 that finds none, on an empty queue, or when d3 is taken, with the oldest item.
use Rattle.std.specs.Prelude.{None, Some}
use Prim.Native.Nat.{ℕ, suc, ◌+◌, ◌≤◌}
use mathlib.Core.Path.{◌≡◌, refl, sym, ap, ap₂, ◌∙◌, subst}
use mathlib.Core.Bool.{Bool, true, false, cond}
use mathlib.Core.List.{List, [], ◌∷◌, append-nil}
use mathlib.Core.Option.{none}
use mathlib.Core.Logic.{inl}
use native.Mathlib.Omega.{arith}
use lib.ListN.{drop, drop_of_length-le, length-map}
use Rattle.chain.specs.Positions.{At, In}
use Rattle.chain.proofs.Positions.{drop_from, at_map}
use Rattle.chain.proofs.Following.{none_is_the_last}
use Rattle.tally.specs.Fifo.{Call, dequeue, Result, item, empty, result, results, successful}
use Rattle.tally.specs.Excess.{enqueued}
use Rattle.cells.specs.declared.Head.{Head}
use Rattle.cells.specs.declared.Head.TheVariants.{Plain, Announced}
use Rattle.cells.specs.declared.Front.{Front}
use Rattle.cells.specs.Links.{Link}
use Rattle.cells.specs.Ends.{past_front, same_head}
use Rattle.memory.specs.Memory.{link_at, with_head, head_cas, perform}
use Rattle.found.specs.Found.{taken_in}
use Rattle.place.specs.declared.DequeueStep.{DequeueStep}
use Rattle.place.specs.declared.DequeueStep.TheVariants.{D1, D2, D3}
use Rattle.place.specs.declared.After.{After}
use Rattle.place.specs.declared.After.TheVariants as afterwards
use Rattle.thread.specs.Dequeue.{dequeue_access, dequeue_after, after_d1, after_d2, after_d3}
use Rattle.row.specs.declared.Row.{Row}
use Rattle.machine.specs.declared.Machine.{Machine}
use Rattle.machine.specs.State.{memory_of, with_memory}
use Rattle.order.specs.Links.{led, next, if_none}
use Rattle.order.specs.Order.{Called, Story, of, now_last, dequeue_order}
use Rattle.order.specs.PlainQueue.{ran, leaves}
use Rattle.order.proofs.Ghost.{Ghost}
use Rattle.order.proofs.Shared.{shared_of, in_memory}
use Rattle.order.proofs.Invariant.{Inv, FrontAt}
use Rattle.order.proofs.Ends.{position_small}
use Rattle.order.proofs.SameEnds.{same_head_is_plain}
use Rattle.order.proofs.Grows.{Grows}
use Rattle.order.proofs.TailMoves.{quiet}
use Rattle.order.proofs.Knows.{KnowsDequeue}
use Rattle.order.proofs.AbstractHead.{head_position, position_of_plain}
use Rattle.order.proofs.PairingResults.{value_of}
use Rattle.order.proofs.Orderly.{items_of, Orderly, WaitsSingle, KnowsOfDequeue, queue_is}
use Rattle.order.proofs.OrderStays.{waits_single_stay, seen_stays}
use Rattle.order.proofs.OrderFine.{step_story, SingleEnded, KnowsOfAfter, OrderFine, Here, only_reads}
use Rattle.order.proofs.OrderEffects.{AtTheEnd, last_ran, takes_effect_now}

-- a head at or behind the abstract head whose link is none: the queue is empty
pub empty_behind : (m : Machine) (g : Ghost) (s : Story) → Inv (shared_of m) g → Orderly m g s → (k n : ℕ) → At g.chain k n → next m.links n ≡ none → k ≤ head_position m g → leaves s.order [] ≡ []
empty_behind m g s inv h k n p free le =
    queue_is m g s h ∙ drop_of_length-le (items_of m g) {i = suc (head_position m g)} (omega (arith, none_is_the_last inv.chain.chain k n p free, length-map g.chain (value_of m.items)))

-- a node of the chain: the items from it on
pub items_from : (m : Machine) (g : Ghost) (k n : ℕ) → At g.chain k n → drop k (items_of m g) ≡ value_of m.items n ∷ drop (suc k) (items_of m g)
items_from m g k n p = drop_from (items_of m g) k (value_of m.items n) (at_map (value_of m.items) g.chain k p)

module _ (m : Machine) (g : Ghost) (s : Story) (i : ℕ) (r : Row) (here : Here m g s i) where
  abbrev c : Called
  c = (of s i).called

  abbrev read : ℕ
  read = (of s i).last_read

  -- it takes effect: nothing is linked, and the head moves by as many as it takes
  module _ (waits : WaitsSingle s i dequeue) (m' : Machine) (grows : Grows (shared_of m) g (shared_of m') g) (items : m'.items ≡ m.items)
      (head : head_position m' g ≡ head_position m g + successful (results (of s i).called.calls (leaves s.order []))) (a : After) (res : Result ℕ)
      (gives : results (of s i).called.calls (leaves s.order []) ≡ res ∷ []) where
    nothing_enqueued : [] ≡ enqueued (of s i).called.calls
    unfolding enqueued
    nothing_enqueued = sym (ap enqueued waits.1.calls)

    at_the_end : AtTheEnd m g s m' g (of s i).called []
    at_the_end = record {
      effects = record { inv = here.inv; orderly = here.orderly; grows = grows; items = items; batches = refl; fresh = waits.0.not_in };
      chain = sym (append-nil g.chain);
      enqueues = nothing_enqueued;
      head = head;
      began = omega (arith, waits.0.began);
    }

    ended : SingleEnded s i (now_last s i) res
    ended = record {
      thread = waits.0.thread;
      futures = waits.1.futures;
      asked = waits.1.asked;
      not_announced = waits.0.not_announced;
      place = s.clock;
      early = omega arith;
      there = subst (λ (rs : List (Result ℕ)). In (ran (now_last s i) []) (record { effect = record { call = c; place = s.clock }; results = rs })) gives (last_ran at_the_end);
    }

    takes : KnowsOfAfter m' g s (step_story s i (now_last s i) read) i r a → OrderFine m g s i r m' g (step_story s i (now_last s i) read) a
    takes = takes_effect_now m g s i r here waits.0 (inl waits.1.futures) at_the_end read (λ b p w. w) a

  -- d2 that finds none
  module _ (f : Front) (at : FrontAt g f) (waits : WaitsSingle s i dequeue) (seen : f.count.0 ≤ head_position m g) where
    d2_none : link_at m.links f.node ≡ None → OrderFine m g s i r (with_memory m (memory_of m)) g (step_story s i (now_last s i) read) afterwards.Empty
    unfolding results result successful
    d2_none e =
        let free : leaves s.order [] ≡ [] = empty_behind m g s here.inv here.orderly f.count.0 f.node at (ap led e) seen in
        let gives : results (of s i).called.calls (leaves s.order []) ≡ empty ∷ [] = ap₂ (λ (cs : List (Call ℕ)) (q : List ℕ). results cs q) waits.1.calls free in
        takes waits (with_memory m (memory_of m)) quiet refl (omega (arith, ap successful gives)) afterwards.Empty empty gives
        (ended waits (with_memory m (memory_of m)) quiet refl (omega (arith, ap successful gives)) afterwards.Empty empty gives)

    d2_order : (v : Link) → link_at m.links f.node ≡ v → OrderFine m g s i r (with_memory m (memory_of m)) g (step_story s i (if_none v (now_last s i) s.order) read) (after_d2 f v)
    d2_order None e = d2_none e
    d2_order (Some x) e = only_reads m g s i r here _ (λ on. (waits_single_stay m g s here.inv _ g _ i on _ waits, seen_stays m g s here.inv _ g _ i on _ seen))

  -- d3, taken: the head moves to the node read
  module _ (f : Front) (x : ℕ) (at : FrontAt g f) (behind : At g.chain (suc f.count.0) x) (waits : WaitsSingle s i dequeue) (seen : f.count.0 ≤ head_position m g) where
    d3_taken : same_head m.ends.head (Plain f) ≡ true
        → Inv (in_memory (shared_of m) (with_head (memory_of m) (Plain (past_front f x 1)))) g → Grows (shared_of m) g (in_memory (shared_of m) (with_head (memory_of m) (Plain (past_front f x 1)))) g
        → OrderFine m g s i r (with_memory m (with_head (memory_of m) (Plain (past_front f x 1)))) g (step_story s i (now_last s i) read) (afterwards.Item x)
    unfolding results result successful
    d3_taken e inv' grows =
        let m' = with_memory m (with_head (memory_of m) (Plain (past_front f x 1))) in
        let was : head_position m g ≡ f.count.0 = position_of_plain m g here.inv f (same_head_is_plain _ f e) in
        let first : leaves s.order [] ≡ value_of m.items x ∷ drop (suc (suc f.count.0)) (items_of m g) =
        queue_is m g s here.orderly ∙ ap (λ (k : ℕ). drop (suc k) (items_of m g)) was ∙ items_from m g (suc f.count.0) x behind in
        let gives : results (of s i).called.calls (leaves s.order []) ≡ item (value_of m.items x) ∷ [] = ap₂ (λ (cs : List (Call ℕ)) (q : List ℕ). results cs q) waits.1.calls first in
        let moved : head_position m' g ≡ head_position m g + successful (results (of s i).called.calls (leaves s.order [])) =
        omega (arith, was, ap successful gives, position_of_plain m' g inv' (past_front f x 1) refl, position_small (shared_of m) g here.inv _ _ at) in
        takes waits m' grows refl moved (afterwards.Item x) (item (value_of m.items x)) gives (ended waits m' grows refl moved (afterwards.Item x) (item (value_of m.items x)) gives)

    d3_order : (b : Bool) → same_head m.ends.head (Plain f) ≡ b
        → Inv (in_memory (shared_of m) (head_cas (memory_of m) (Plain (past_front f x 1)) b).memory) g → Grows (shared_of m) g (in_memory (shared_of m) (head_cas (memory_of m) (Plain (past_front f x 1)) b).memory) g
        → OrderFine m g s i r (with_memory m (head_cas (memory_of m) (Plain (past_front f x 1)) b).memory) g (step_story s i (cond b (now_last s i) s.order) read)
        (after_d3 x (taken_in (head_cas (memory_of m) (Plain (past_front f x 1)) b).found))
    d3_order true e inv' grows = d3_taken e inv' grows
    d3_order false e inv' grows = only_reads m g s i r here _ (λ on. waits_single_stay m g s here.inv _ g _ i on _ waits)

  -- d1: the head is plain, and then it is the abstract head
  d1_order : WaitsSingle s i dequeue → (y : Head) → m.ends.head ≡ y → OrderFine m g s i r (with_memory m (memory_of m)) g (step_story s i s.order read) (after_d1 y)
  d1_order waits (Plain f) e =
      only_reads m g s i r here _ (λ on. (waits_single_stay m g s here.inv _ g _ i on _ waits, omega (arith, position_of_plain m g here.inv f e)))
  d1_order waits (Announced a) e = only_reads m g s i r here _ (λ on. waits_single_stay m g s here.inv _ g _ i on _ waits)

  pub dequeue_order_lem : (x : DequeueStep) → KnowsDequeue g x → KnowsOfDequeue m g s i x
      → Inv (in_memory (shared_of m) (perform (memory_of m) (dequeue_access x)).memory) g → Grows (shared_of m) g (in_memory (shared_of m) (perform (memory_of m) (dequeue_access x)).memory) g
      → OrderFine m g s i r (with_memory m (perform (memory_of m) (dequeue_access x)).memory) g (step_story s i (dequeue_order (memory_of m) s i x) read)
      (dequeue_after x (perform (memory_of m) (dequeue_access x)).found)
  unfolding perform dequeue_access dequeue_after
  dequeue_order_lem D1 k w inv' grows = d1_order w m.ends.head refl
  dequeue_order_lem (D2 f) k w inv' grows = d2_order f k w.0 w.1 (link_at m.links f.node) refl
  dequeue_order_lem (D3 f x) k w inv' grows = d3_order f x k.0 k.1 w.0 w.1 (same_head m.ends.head (Plain f)) refl inv' grows
