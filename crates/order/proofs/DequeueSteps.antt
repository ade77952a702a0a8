-- Dequeue, d1 to d3, and a batch of dequeues only, q1 to q3: they read along the chain and move the head to a node of it.
use Rattle.std.specs.Prelude.{None, Some}
use Prim.Native.Nat.{ℕ, suc, ◌+◌}
use mathlib.Core.Path.{◌≡◌, refl, sym, subst}
use mathlib.Core.Bool.{Bool, true, false}
use native.Mathlib.Omega.{arith}
use lib.Dec.{eqb, ltb}
use borrow.Author.Tests.{eqb-true}
use Rattle.chain.specs.Positions.{At}
use Rattle.chain.proofs.Positions.{within}
use Rattle.refusal.proofs.Tests.{either_way}
use Rattle.cells.specs.declared.Front.{Front}
use Rattle.cells.specs.declared.Head.{Head}
use Rattle.cells.specs.declared.Head.TheVariants.{Plain, Announced}
use Rattle.cells.specs.Links.{Link}
use Rattle.found.specs.declared.Found.TheVariants as found
use Rattle.cells.specs.Ends.{up, past_front, same_head}
use Rattle.memory.specs.Memory.{link_at, perform}
use Rattle.place.specs.declared.DequeueStep.{DequeueStep}
use Rattle.place.specs.declared.DequeueStep.TheVariants.{D1, D2, D3}
use Rattle.place.specs.declared.Walk.{Walk}
use Rattle.place.specs.declared.DequeuesStep.{DequeuesStep}
use Rattle.place.specs.declared.DequeuesStep.TheVariants.{Q1, Q2, Q3}
use Rattle.thread.specs.Dequeue.{dequeue_access, dequeue_after, after_d1, after_d2, after_d3}
use Rattle.thread.specs.Dequeues.{dequeues_access, dequeues_after, after_q1, after_q2, after_q3, one_further}
use Rattle.row.specs.declared.Row.{Row}
use Rattle.order.proofs.Ghost.{Ghost}
use Rattle.order.proofs.Shared.{Shared, head_if}
use Rattle.order.proofs.Invariant.{FrontAt, Inv}
use Rattle.order.proofs.Ends.{position_small}
use Rattle.order.proofs.Knows.{KnowsDequeue, Walks, KnowsDequeues, Alone}
use Rattle.order.proofs.EnqueueSteps.{found_behind}
use Rattle.order.proofs.Fine.{Fine, memory_in, KnowsAfter, Taken, reads_only, head_by}

module _ (s : Shared) (g : Ghost) (i : Inv s g) (t : ℕ) (r : Row) where
  -- a head past its front by as many nodes as there are to the node
  pub front_past : (f : Front) (x by : ℕ) → At g.chain (f.count.0 + by) x → FrontAt g (past_front f x by)
  front_past f x by p =
      let small = position_small s g i (f.count.0 + by) x p in
      let here : f.count.0 + by ≡ up f.count.0 by = omega arith in
      subst (λ (k : ℕ). At g.chain k x) here p

  -- the single dequeue
  after_d1_lem : Alone g t → (h : Head) → s.head ≡ h → KnowsAfter s g t r (after_d1 h)
  after_d1_lem alone (Plain f) e = (i.head.head_at f e, alone)
  after_d1_lem alone (Announced a) e = (i.head.there_installed a e, alone, tt)

  after_d2_lem : (f : Front) → FrontAt g f → Alone g t → (v : Link) → link_at s.links f.node ≡ v → KnowsAfter s g t r (after_d2 f v)
  after_d2_lem f is alone None e = alone
  after_d2_lem f is alone (Some x) e = ((is, found_behind s g i t r f.count.0 f.node x is e), alone)

  after_d3_lem : (f : Front) (x : ℕ) → At g.chain (suc f.count.0) x → Alone g t → (b : Bool) → KnowsAfter (head_if b s (Plain (past_front f x 1))) g t r (after_d3 x b)
  after_d3_lem f x p alone true = (alone, (suc f.count.0, p))
  after_d3_lem f x p alone false = (tt, alone)

  pub dequeue_step : (x : DequeueStep) → KnowsDequeue g x → Alone g t
      → Fine s g t r (perform (memory_in s) (dequeue_access x)) g (dequeue_after x (perform (memory_in s) (dequeue_access x)).found)
  unfolding perform dequeue_access dequeue_after
  dequeue_step D1 k alone = reads_only s g i t r (found.Head s.head) (after_d1 s.head) (after_d1_lem alone s.head refl)
  dequeue_step (D2 f) k alone =
      reads_only s g i t r (found.Link (link_at s.links f.node)) (after_d2 f (link_at s.links f.node)) (after_d2_lem f k alone (link_at s.links f.node) refl)
  dequeue_step (D3 f x) k alone =
      let one : suc f.count.0 ≡ f.count.0 + 1 = omega arith in
      head_by s g i t r f (past_front f x 1) (front_past f x 1 (subst (λ (n : ℕ). At g.chain n x) one k.1)) (after_d3 x) (after_d3_lem f x k.1 alone) (same_head s.head (Plain f)) refl

  -- a batch of dequeues: the walk
  from_the_front : (f : Front) → FrontAt g f → Walks g (record { front = f; at = f.node; taken = 0 })
  from_the_front f is = let here : f.count.0 ≡ f.count.0 + 0 = omega arith in (is, subst (λ (n : ℕ). At g.chain n f.node) here is)

  after_q1_lem : r.tally.enqueues ≡ 0 → (h : Head) → s.head ≡ h → KnowsAfter s g t r (after_q1 h)
  after_q1_lem only (Plain f) e = (from_the_front f (i.head.head_at f e), only)
  after_q1_lem only (Announced a) e = (i.head.there_installed a e, only, tt)

  -- as many nodes behind the front as the walk has taken
  taken : (w : Walk) → Walks g w → r.tally.enqueues ≡ 0 → (n : ℕ) → n ≡ w.taken → Taken g r w.front.node n
  taken w k only n e = record { front = w.front; is = k.0; from_is = refl; enough = omega (arith, within g.chain (w.front.count.0 + w.taken) k.1); dequeues_only = only }

  one_further_on : (w : Walk) (x : ℕ) → Walks g w → link_at s.links w.at ≡ Some x → Walks g (one_further w x)
  one_further_on w x k e =
      let p = found_behind s g i t r (w.front.count.0 + w.taken) w.at x k.1 e in
      let small = position_small s g i (suc (w.front.count.0 + w.taken)) x p in
      let here : suc (w.front.count.0 + w.taken) ≡ w.front.count.0 + up w.taken 1 = omega arith in
      (k.0, subst (λ (n : ℕ). At g.chain n x) here p)

  after_q2_lem : (w : Walk) → Walks g w → r.tally.enqueues ≡ 0 → (v : Link) → link_at s.links w.at ≡ v → KnowsAfter s g t r (after_q2 w v r.tally.dequeues)
  after_q2_lem w k only None e = either_way (KnowsAfter s g t r) (eqb w.taken 0) (λ q. taken w k only 0 (sym (eqb-true w.taken 0 q))) (λ q. (k, only))
  after_q2_lem w k only (Some x) e = either_way (KnowsAfter s g t r) (ltb (one_further w x).taken r.tally.dequeues) (λ q. (on, only)) (λ q. (on, only))
    where
      on : Walks g (one_further w x)
      on = one_further_on w x k e

  after_q3_lem : (w : Walk) → Walks g w → r.tally.enqueues ≡ 0 → (x : Front) (b : Bool) → KnowsAfter (head_if b s (Plain x)) g t r (after_q3 w b)
  after_q3_lem w k only x true = taken w k only w.taken refl
  after_q3_lem w k only x false = (tt, only)

  pub dequeues_step : (x : DequeuesStep) → KnowsDequeues g x → r.tally.enqueues ≡ 0
      → Fine s g t r (perform (memory_in s) (dequeues_access x)) g (dequeues_after x (perform (memory_in s) (dequeues_access x)).found r.tally.dequeues)
  unfolding perform dequeues_access dequeues_after
  dequeues_step Q1 k only = reads_only s g i t r (found.Head s.head) (after_q1 s.head) (after_q1_lem only s.head refl)
  dequeues_step (Q2 w) k only =
      reads_only s g i t r (found.Link (link_at s.links w.at)) (after_q2 w (link_at s.links w.at) r.tally.dequeues)
      (after_q2_lem w k only (link_at s.links w.at) refl)
  dequeues_step (Q3 w) k only =
      let to = past_front w.front w.at w.taken in
      head_by s g i t r w.front to (front_past w.front w.at w.taken k.1) (after_q3 w) (after_q3_lem w k only to) (same_head s.head (Plain w.front)) refl
