-- Enqueue: it takes effect when e2 is taken, and is run there on whatever the queue holds; e3 ends it with ok.
use Rattle.std.specs.Prelude.{None, Some}
use Prim.Native.Nat.{ℕ, suc, ◌+◌}
use mathlib.Core.Path.{◌≡◌, refl, sym, ap, ◌∙◌, subst}
use mathlib.Core.List.{List, [], ◌∷◌}
use mathlib.Core.Option.{none, some}
use mathlib.Core.Logic.{inl, ⊎_elim}
use native.Mathlib.Omega.{arith}
use Rattle.chain.specs.Positions.{At, In}
use Rattle.chain.proofs.Positions.{none_is_not_some, within, at_left, there_or_at_the_end}
use Rattle.tally.specs.Fifo.{Call, enqueue, Result, ok, result, results, successful}
use Rattle.tally.specs.Excess.{enqueued}
use Rattle.cells.specs.declared.Head.{Head}
use Rattle.cells.specs.declared.Head.TheVariants.{Plain, Announced}
use Rattle.cells.specs.declared.Tail.{Tail}
use Rattle.cells.specs.Links.{Link}
use Rattle.cells.specs.Ends.{past_tail, same_tail}
use Rattle.memory.specs.Memory.{Memory, link_at, with_link, link_cas, perform}
use Rattle.found.specs.Found.{link_in}
use Rattle.place.specs.declared.EnqueueStep.{EnqueueStep}
use Rattle.place.specs.declared.EnqueueStep.TheVariants.{E1, E2, E3, E4, E5}
use Rattle.place.specs.declared.After.TheVariants as afterwards
use Rattle.thread.specs.Enqueue.{enqueue_access, enqueue_after, after_e2, after_e4, enqueue_at}
use Rattle.row.specs.declared.Row.{Row}
use Rattle.machine.specs.declared.Machine.{Machine}
use Rattle.machine.specs.State.{memory_of, with_memory}
use Rattle.order.specs.Links.{if_none}
use Rattle.order.specs.Order.{Called, Story, Remembered, of, now_last, enqueue_order}
use Rattle.order.specs.PlainQueue.{ran, leaves}
use Rattle.order.proofs.Ghost.{Ghost, joins, enqueue_ghost}
use Rattle.order.proofs.Shared.{shared_of, in_memory}
use Rattle.order.proofs.Invariant.{Inv, InvEnds, Linked, NotLinked}
use Rattle.order.proofs.Grows.{Grows}
use Rattle.order.proofs.AbstractHead.{head_position}
use Rattle.order.proofs.HeadPositions.{position_stays}
use Rattle.order.proofs.PairingResults.{value_of}
use Rattle.order.proofs.Orderly.{WaitsSingle, Enqueued, KnowsOfEnqueue, Onward}
use Rattle.order.proofs.OrderStays.{waits_single_stay}
use Rattle.order.proofs.OrderFine.{step_story, SingleEnded, OrderFine, of_own, Here, moves_the_tail, only_reads}
use Rattle.order.proofs.OrderEffects.{AtTheEnd, last_ran, takes_effect_now}

-- a single node linked behind the tail links no batch
module _ (g : Ghost) (ends : InvEnds g) (l : Tail) (nodes : List ℕ) where
  pub no_batch_lem : (a p : ℕ) → Linked (joins g l nodes none) a p → Linked g a p
  no_batch_lem a p w = ⊎_elim {C = Linked g a p} old (λ e. absurd (none_is_not_some {x = a} refl (sym e.1))) (there_or_at_the_end g.by none (suc w.step) w.is)
    where
      old : At g.by (suc w.step) (some a) → Linked g a p
      old q = record { step = w.step; is = q; from = sym (at_left g.ends _ w.step (omega (arith, within g.by _ q, ends.same_length))) ∙ w.from }

  pub still_not_linked : (a : ℕ) → NotLinked g a → NotLinked (joins g l nodes none) a
  still_not_linked a n j w = ⊎_elim {C = ⊥} (n j) (λ e. none_is_not_some {x = a} refl (sym e.1)) (there_or_at_the_end g.by none j w)

module _ (m : Machine) (g : Ghost) (s : Story) (i : ℕ) (r : Row) (here : Here m g s i) (n : ℕ) where
  abbrev c : Called
  c = (of s i).called

  abbrev read : ℕ
  read = (of s i).last_read

  abbrev v : ℕ
  v = value_of m.items n

  -- e2, taken: the node is linked, the abstract head stays
  module _ (l : Tail) (waits : WaitsSingle s i (enqueue (value_of m.items n)))
      (inv' : Inv (in_memory (shared_of m) (with_link (memory_of m) l.node (Some n))) (joins g l (n ∷ []) none))
      (grows : Grows (shared_of m) g (in_memory (shared_of m) (with_link (memory_of m) l.node (Some n))) (joins g l (n ∷ []) none)) where
    abbrev m' : Machine
    m' = with_memory m (with_link (memory_of m) l.node (Some n))

    abbrev g' : Ghost
    g' = joins g l (n ∷ []) none

    abbrev s' : Story
    s' = step_story s i (now_last s i) (of s i).last_read

    own_item : v ∷ [] ≡ enqueued (of s i).called.calls
    unfolding enqueued
    own_item = sym (ap enqueued waits.1.calls)

    takes_nothing : (q : List ℕ) → successful (results (of s i).called.calls q) ≡ 0
    unfolding successful results result
    takes_nothing q = ap (λ (cs : List (Call ℕ)). successful (results cs q)) waits.1.calls

    gives_ok : (q : List ℕ) → results (of s i).called.calls q ≡ ok ∷ []
    unfolding results result
    gives_ok q = ap (λ (cs : List (Call ℕ)). results cs q) waits.1.calls

    head_stays : head_position m' g' ≡ head_position m g + successful (results (of s i).called.calls (leaves s.order []))
    head_stays = omega (arith, position_stays m m' g g' here.inv inv' grows refl (still_not_linked g here.inv.ends l (n ∷ [])), takes_nothing (leaves s.order []))

    own : of s' i ≡ of s i
    own = of_own s i (now_last s i) read here.room

    at_the_end : AtTheEnd m g s m' g' (of s i).called (n ∷ [])
    at_the_end = record {
      effects = record { inv = here.inv; orderly = here.orderly; grows = grows; items = refl; batches = refl; fresh = waits.0.not_in };
      chain = refl;
      enqueues = own_item;
      head = head_stays;
      began = omega (arith, waits.0.began);
    }

    there : In (ran (now_last s i) []) (record { effect = record { call = (of s' i).called; place = s.clock }; results = ok ∷ [] })
    there =
        subst (λ (x : Remembered). In (ran (now_last s i) []) (record { effect = record { call = x.called; place = s.clock }; results = ok ∷ [] })) (sym own)
        (subst (λ (rs : List (Result ℕ)). In (ran (now_last s i) []) (record { effect = record { call = c; place = s.clock }; results = rs })) (gives_ok (leaves s.order [])) (last_ran at_the_end))

    e2_taken : OrderFine m g s i r m' g' s' (enqueue_at n (E3 l))
    e2_taken =
        takes_effect_now m g s i r here waits.0 (inl waits.1.futures) at_the_end read (no_batch_lem g here.inv.ends l (n ∷ [])) (enqueue_at n (E3 l))
        (record {
          thread = ap (λ (x : Remembered). x.called.thread) own ∙ waits.0.thread;
          futures = ap (λ (x : Remembered). x.called.futures) own ∙ waits.1.futures;
          asked = ap (λ (x : Remembered). x.called.asked) own ∙ waits.1.asked;
          not_announced = λ a d q t b. waits.0.not_announced a d q t (b ∙ ap (λ (x : Remembered). x.called.began) own);
          place = s.clock;
          early = omega arith;
          there = there;
        })

  -- the other steps
  waiting_on : (x : Memory) → WaitsSingle s i (enqueue v) → Onward m g s (with_memory m x) g (step_story s i s.order read) i
      → WaitsSingle (step_story s i s.order read) i (enqueue v)
  waiting_on x w on = waits_single_stay m g s here.inv (with_memory m x) g (step_story s i s.order read) i on _ w

  e2_order : (l : Tail) (x : Link) → WaitsSingle s i (enqueue v)
      → Inv (in_memory (shared_of m) (link_cas (memory_of m) l.node n x).memory) (if_none x (joins g l (n ∷ []) none) g)
      → Grows (shared_of m) g (in_memory (shared_of m) (link_cas (memory_of m) l.node n x).memory) (if_none x (joins g l (n ∷ []) none) g)
      → OrderFine m g s i r (with_memory m (link_cas (memory_of m) l.node n x).memory) (if_none x (joins g l (n ∷ []) none) g)
      (step_story s i (if_none x (now_last s i) s.order) read) (after_e2 n l (link_in (link_cas (memory_of m) l.node n x).found))
  e2_order l None w inv' grows = e2_taken l w inv' grows
  e2_order l (Some y) w inv' grows = only_reads m g s i r here _ (waiting_on (memory_of m) w)

  e4_order : (l : Tail) (x : ℕ) → WaitsSingle s i (enqueue v) → (y : Head) → OrderFine m g s i r (with_memory m (memory_of m)) g (step_story s i s.order read) (after_e4 n l x y)
  e4_order l x w (Plain f) = only_reads m g s i r here _ (waiting_on (memory_of m) w)
  e4_order l x w (Announced a) = only_reads m g s i r here _ (waiting_on (memory_of m) w)

  ended : Enqueued s i → SingleEnded s i s.order ok
  ended w = record { thread = w.thread; futures = w.futures; asked = w.asked; not_announced = w.not_announced; place = w.place; early = omega (arith, w.early); there = w.there }

  pub enqueue_order_lem : (x : EnqueueStep) → KnowsOfEnqueue m s i n x
      → Inv (in_memory (shared_of m) (perform (memory_of m) (enqueue_access n x)).memory) (enqueue_ghost (memory_of m) g n x)
      → Grows (shared_of m) g (in_memory (shared_of m) (perform (memory_of m) (enqueue_access n x)).memory) (enqueue_ghost (memory_of m) g n x)
      → OrderFine m g s i r (with_memory m (perform (memory_of m) (enqueue_access n x)).memory) (enqueue_ghost (memory_of m) g n x)
      (step_story s i (enqueue_order (memory_of m) s i x) read) (enqueue_after n x (perform (memory_of m) (enqueue_access n x)).found)
  unfolding perform enqueue_access enqueue_after
  enqueue_order_lem E1 w inv' grows = only_reads m g s i r here _ (waiting_on (memory_of m) w)
  enqueue_order_lem (E2 l) w inv' grows = e2_order l (link_at m.links l.node) w inv' grows
  enqueue_order_lem (E3 l) w inv' grows = moves_the_tail m g s i r here (past_tail l n 1) (same_tail m.ends.tail l) afterwards.Ok inv' grows (λ on. ended w)
  enqueue_order_lem (E4 l x) w inv' grows = e4_order l x w m.ends.head
  enqueue_order_lem (E5 l x) w inv' grows = moves_the_tail m g s i r here (past_tail l x 1) (same_tail m.ends.tail l) (enqueue_at n E1) inv' grows (waiting_on _ w)
