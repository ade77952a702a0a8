-- How the invariant of the order is kept over a change of machine, record and story: by parts, so that a step has to show what it changes only.
use Prim.Native.Nat.{ℕ, suc, ◌+◌, ◌-◌, ◌<◌, ◌≤◌}
use mathlib.Core.Path.{◌≡◌, sym, ap, ◌∙◌, subst}
use mathlib.Core.List.{List, [], ◌++◌, map, append-nil}
use mathlib.Core.Logic.{◌⊎◌, inl, ⊎_elim}
use native.Mathlib.Omega.{arith}
use lib.ListN.{length, take, drop, length-map, length-drop}
use lib.Seq.{take-append-le, drop-append-le}
use Rattle.chain.specs.Positions.{At, In}
use Rattle.chain.proofs.Positions.{within}
use Rattle.tally.specs.Fifo.{results}
use Rattle.tally.specs.Excess.{enqueues}
use Rattle.tally.specs.declared.Tally.{Tally}
use Rattle.cells.specs.declared.Request.{Request}
use Rattle.machine.specs.declared.Machine.{Machine}
use Rattle.order.specs.Promises.{request_in}
use Rattle.order.specs.Order.{Called, Effect, Story, of}
use Rattle.order.specs.PlainQueue.{Ran, ran}
use Rattle.order.proofs.Ghost.{Ghost, Batch}
use Rattle.order.proofs.Shared.{shared_of}
use Rattle.order.proofs.Invariant.{Inv, Linked, NotLinked}
use Rattle.order.proofs.Grows.{Grows}
use Rattle.order.proofs.AbstractHead.{head_position}
use Rattle.order.proofs.PairingResults.{value_of}
use Rattle.order.proofs.Ran.{enqueued_in, taken_in}
use Rattle.order.proofs.Orderly.{items_of, NotIn, Rows, Announced, found, RunOn, Orderly, Onward}
use Rattle.order.proofs.Placed.{rows_later}

-- a part of a list stays where the list grows at its end
pub part_stays : (k n : ℕ) (l more : List ℕ) → k + n ≤ length l → take n (drop k (l ++ more)) ≡ take n (drop k l)
part_stays k n l more h =
    ap (take n) (drop-append-le k l more (omega arith)) ∙ take-append-le n (drop k l) more (omega (arith, length-drop k l))

-- what a change leaves alone: the items of the chain up to now, those of the batches, the announcements, and the calls that took effect
pub record Leaves (m : Machine) (g : Ghost) (s : Story) (m' : Machine) (g' : Ghost) (s' : Story) : Type 0 where
  pub grows : Grows (shared_of m) g (shared_of m') g'
  pub more : List ℕ
  pub items : items_of m' g' ≡ items_of m g ++ more
  pub batch_items : (a : ℕ) (b : Batch) → At g.batches a b → map (value_of m'.items) b.nodes ≡ map (value_of m.items) b.nodes
  pub clock : s.clock ≤ s'.clock
  pub ran : (r : Ran) → In (ran s.order []) r → In (ran s'.order []) r

module _ (m : Machine) (g : Ghost) (s : Story) (i : Inv (shared_of m) g) (h : Orderly m g s) (m' : Machine) (g' : Ghost) (s' : Story) (leaves : Leaves m g s m' g' s') where
  -- a linked batch was run on what it was run on
  module _ (a p : ℕ) (l : Linked g a p) where
    shape_fits : ((request_in m a).old_head.count.0 ≤ p) × (p + (request_in m a).tally.enqueues < length (items_of m g))
    shape_fits =
        let f = i.linked.shape a l.step p l.is l.from in
        (f.old_head_before, omega (arith, within g.chain _ f.last_at, length-map g.chain (value_of m.items)))

    installed : In g.installed a
    installed = i.head.linked_installed a (suc l.step) l.is

    found_stays : found m' g' a p ≡ found m g a p
    found_stays =
        ap (λ (k : Request). take (p - k.old_head.count.0) (drop (suc k.old_head.count.0) (items_of m' g'))) (leaves.grows.request a installed)
        ∙ ap (λ (v : List ℕ). take (p - (request_in m a).old_head.count.0) (drop (suc (request_in m a).old_head.count.0) v)) leaves.items
        ∙ part_stays (suc (request_in m a).old_head.count.0) (p - (request_in m a).old_head.count.0) (items_of m g) leaves.more (omega (arith, shape_fits))

    -- the batch's enqueues are as many as its announcement has
    enqueues_are : (c : Called) → At s.announced a c → enqueues c.calls ≡ (request_in m a).tally.enqueues
    enqueues_are c p =
        let b = i.head.has_batch a installed in
        ap enqueues (h.announced.calls a b.0 c b.1 p) ∙ sym (ap (λ (t : Tally). t.enqueues) (i.batches.asks a b.0 b.1).tally)

    pub run_stays : (c : Called) → At s.announced a c → RunOn m g s a p c → RunOn m' g' s' a p c
    run_stays c at r = record {
      items = ap (λ (v : List ℕ). take (enqueues c.calls) (drop (suc p) v)) leaves.items ∙ part_stays (suc p) (enqueues c.calls) (items_of m g) leaves.more (omega (arith, shape_fits, enqueues_are c at)) ∙ r.items;
      place = r.place;
      early = omega (arith, r.early, leaves.clock);
      there = subst (λ (q : List ℕ). In (ran s'.order []) (record { effect = record { call = c; place = r.place }; results = results c.calls q })) (sym found_stays) (leaves.ran _ r.there);
    }

  -- the announcements are the same
  module _ (batches : g'.batches ≡ g.batches) (same : s'.announced ≡ s.announced) where
    there : (a : ℕ) (c : Called) → At s'.announced a c → At s.announced a c
    there a c p = subst (λ (l : List Called). At l a c) same p

    there_too : (a : ℕ) (b : Batch) → At g'.batches a b → At g.batches a b
    there_too a b p = subst (λ (l : List Batch). At l a b) batches p

    announced_same : Announced m' g' s'
    announced_same = let w = h.announced in record {
      many = ap length same ∙ w.many ∙ sym (ap length batches);
      calls = λ a b c p q. w.calls a b c (there_too a b p) (there a c q);
      items = λ a b p. w.items a b (there_too a b p) ∙ sym (leaves.batch_items a b (there_too a b p));
      early = λ a c p. omega (arith, w.early a c (there a c p), leaves.clock);
      apart = λ a b c d p q. w.apart a b c d (there a c p) (there b d q);
    }

    -- what is left to show: the items and the head, the rows, and of batches that are linked now or not yet
    pub kept : enqueued_in s'.order ≡ drop 1 (items_of m' g') → taken_in s'.order [] ≡ head_position m' g' → Rows s'.order s'.clock
        → ((a p : ℕ) (c : Called) → Linked g' a p → At s.announced a c → Linked g a p ⊎ RunOn m' g' s' a p c)
        → ((a : ℕ) (c : Called) → NotLinked g' a → At s.announced a c → NotIn s'.order c) → Orderly m' g' s'
    kept chain head rows linked unlinked = record {
      chain = chain;
      head = head;
      rows = rows;
      announced = announced_same;
      linked = λ a p c l q. ⊎_elim {C = RunOn m' g' s' a p c} (λ w. run_stays a p w c (there a c q) (h.linked a p c w (there a c q))) (λ w. w) (linked a p c l (there a c q));
      unlinked = λ a c n q. unlinked a c n (there a c q);
    }

    -- where nothing takes effect and nothing is linked
    pub kept_quiet : s'.order ≡ s.order → items_of m' g' ≡ items_of m g → head_position m' g' ≡ head_position m g → ((a p : ℕ) → Linked g' a p → Linked g a p) → Orderly m' g' s'
    kept_quiet order items head linked =
        kept (ap enqueued_in order ∙ h.chain ∙ ap (drop 1) (sym items)) (ap (λ (l : List Effect). taken_in l []) order ∙ h.head ∙ sym head)
        (subst (λ (l : List Effect). Rows l s'.clock) (sym order) (rows_later s.order _ _ leaves.clock h.rows))
        (λ a p c l q. inl (linked a p l))
        (λ a c n q. subst (λ (l : List Effect). NotIn l c) (sym order) (h.unlinked a c (λ j w. n j (leaves.grows.by j _ w)) q))

  -- what others rely on, where nothing takes effect
  pub onward_quiet : (u : ℕ) → of s' u ≡ of s u → s'.order ≡ s.order → head_position m' g' ≡ head_position m g
      → ((n : ℕ) → n < m.used.nodes → value_of m'.items n ≡ value_of m.items n)
      → ((a : ℕ) (c : Called) → At s.announced a c → At s'.announced a c) → ((a : ℕ) (c : Called) → At s'.announced a c → c.thread ≡ u → At s.announced a c)
      → Onward m g s m' g' s' u
  onward_quiet u remembered order head values announced own = record {
    remembered = remembered;
    clock = leaves.clock;
    ran = leaves.ran;
    front = omega (arith, head);
    values = values;
    announced = announced;
    announced_own = own;
    not_in = λ c e apart n. subst (λ (l : List Effect). NotIn l c) (sym order) n;
    only = λ e some. ([], order ∙ sym (append-nil s.order), (λ j x p. absurd (omega (arith, within [] j p))), λ j x p. absurd (omega (arith, within [] j p)));
  }
