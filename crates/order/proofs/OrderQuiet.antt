-- Events by which nothing takes effect: nothing is linked and the head stays. So the items of the chain and the abstract head are as before, what
-- the other threads know of the order stays, and a call that starts has not taken effect, for all that did began before it.
use Prim.Native.Nat.{ℕ, ◌<◌, ◌≤◌}
use mathlib.Core.Path.{◌≡◌, sym, ap, ◌∙◌, subst}
use mathlib.Core.List.{List, [], map, append-nil}
use mathlib.Core.Option.{Option}
use mathlib.Core.Logic.{◌⊎◌, inl, ⊎_elim, ◌≢◌}
use native.Mathlib.Omega.{arith}
use native.Mathlib.Decide.{ℕ_discrete}
use lib.ListN.{length, set}
use lib.Seq.{get_or-set_same}
use Rattle.chain.specs.Positions.{at, At, In}
use Rattle.row.specs.declared.Row.{Row}
use Rattle.machine.specs.declared.Machine.{Machine}
use Rattle.machine.specs.State.{row_at}
use Rattle.order.specs.Order.{Called, Effect, Remembered, Story, of, starts, nothing_remembered, now_in}
use Rattle.order.specs.PlainQueue.{ran}
use Rattle.order.proofs.Events.{Free}
use Rattle.order.proofs.Ghost.{Ghost}
use Rattle.order.proofs.Shared.{shared_of}
use Rattle.order.proofs.Invariant.{Inv, Linked}
use Rattle.order.proofs.Grows.{Grows}
use Rattle.order.proofs.Steps.{Ok}
use Rattle.order.proofs.Reached.{Holds}
use Rattle.order.proofs.AbstractHead.{head_position}
use Rattle.order.proofs.HeadPositions.{position_stays}
use Rattle.order.proofs.PairingResults.{value_of}
use Rattle.order.proofs.Orderly.{items_of, NotIn, Orderly, Waits, KnowsOf, Onward}
use Rattle.order.proofs.OrderStays.{knows_of_stays}
use Rattle.order.proofs.OrderKept.{Leaves, kept_quiet, onward_quiet}
use Rattle.order.proofs.Futured.{Futured}
use Rattle.order.proofs.FuturesKept.{Puts, row_here, row_elsewhere, remembered_elsewhere}
use Rattle.order.proofs.FuturesEntries.{puts}
use Rattle.order.proofs.PendingItems.{KeepsItems, same_items}

-- what the threads know
abbrev pub KnowsAll : Machine → Ghost → Story → Type 0
KnowsAll m g s = (t : ℕ) → t < 8 → KnowsOf m g s t (row_at m t) (row_at m t).place

-- what an event has to show
abbrev pub OrderKnown : Machine → Ghost → Story → Type 0
OrderKnown m g s = Orderly m g s × KnowsAll m g s

-- nothing is linked, the head stays, and nothing takes effect
pub record Quiet (m : Machine) (g : Ghost) (s : Story) (m' : Machine) (g' : Ghost) (s' : Story) : Type 0 where
  pub inv : Inv (shared_of m') g'
  pub grows : Grows (shared_of m) g (shared_of m') g'
  pub head : m'.ends.head ≡ m.ends.head
  pub chain : g'.chain ≡ g.chain
  pub ends : g'.ends ≡ g.ends
  pub by : g'.by ≡ g.by
  pub items : KeepsItems m m'
  pub order : s'.order ≡ s.order
  pub clock : s.clock ≤ s'.clock

module _ (m : Machine) (g : Ghost) (s : Story) (holds : Holds m g) (h : Orderly m g s) (m' : Machine) (g' : Ghost) (s' : Story) (q : Quiet m g s m' g' s') where
  was_by : (j : ℕ) (x : Option ℕ) → At g'.by j x → At g.by j x
  was_by j x p = ap (λ (l : List (Option ℕ)). at l j) (sym q.by) ∙ p

  pub was_linked : (a p : ℕ) → Linked g' a p → Linked g a p
  was_linked a p l = record { step = l.step; is = was_by _ _ l.is; from = ap (λ (k : List ℕ). at k l.step) (sym q.ends) ∙ l.from }

  pub position : head_position m' g' ≡ head_position m g
  position = position_stays m m' g g' holds.ok.inv q.inv q.grows q.head (λ a n j p. n j (was_by j _ p))

  items_kept : items_of m' g' ≡ items_of m g
  items_kept = ap (map (value_of m'.items)) q.chain ∙ same_items m m' q.items g.chain holds.ok.inv.chain.in_use

  pub leaves : Leaves m g s m' g' s'
  leaves = record {
    grows = q.grows;
    more = [];
    items = items_kept ∙ sym (append-nil (items_of m g));
    batch_items = λ a b p. same_items m m' q.items b.nodes (λ k n w. holds.ok.inv.batches.in_use a k n b p w);
    clock = q.clock;
    ran = λ r w. subst (λ (l : List Effect). In (ran l []) r) (sym q.order) w;
  }

  -- what the other threads know stays
  pub all_know : KnowsAll m g s → (i : ℕ) (row : Row) (r : Remembered) → Puts m s i m' s' row r → ((a : ℕ) (c : Called) → At s.announced a c → At s'.announced a c)
      → ((a : ℕ) (c : Called) → At s'.announced a c → At s.announced a c ⊎ (c.thread ≡ i)) → KnowsOf m' g' s' i row row.place → KnowsAll m' g' s'
  all_know knows i row r p more others mine t lt = elim (ℕ_discrete t i) [ yes e ↦ subst (λ (u : ℕ). Here u) (sym e) here | no ne ↦ elsewhere ne ]
    where
      Here : ℕ → Type 0
      Here u = KnowsOf m' g' s' u (row_at m' u) (row_at m' u).place

      here : Here i
      here = subst (λ (x : Row). KnowsOf m' g' s' i x x.place) (sym (row_here p)) mine

      onward : t ≢ i → Onward m g s m' g' s' t
      onward ne =
          onward_quiet m g s holds.ok.inv h m' g' s' leaves t (remembered_elsewhere p t ne) q.order position q.items more
          (λ a c w e. ⊎_elim {C = At s.announced a c} (λ old. old) (λ own. absurd (ne (sym e ∙ own))) (others a c w))

      elsewhere : t ≢ i → Here t
      elsewhere ne =
          subst (λ (x : Row). KnowsOf m' g' s' t x x.place) (sym (row_elsewhere p t ne))
          (knows_of_stays m g s holds.ok.inv m' g' s' t (onward ne) (row_at m t) (row_at m t).place (holds.ok.knows t lt).place (knows t lt))

  -- where no announcement is handed out
  nothing_announced : KnowsAll m g s → (i : ℕ) (row : Row) (r : Remembered) → Puts m s i m' s' row r → g'.batches ≡ g.batches → s'.announced ≡ s.announced
      → KnowsOf m' g' s' i row row.place → OrderKnown m' g' s'
  nothing_announced knows i row r p batches announced mine = (
    kept_quiet m g s holds.ok.inv h m' g' s' leaves batches announced q.order items_kept position was_linked,
    all_know knows i row r p (λ a c w. subst (λ (l : List Called). At l a c) (sym announced) w) (λ a c w. inl (subst (λ (l : List Called). At l a c) announced w)) mine,
  )

-- what is remembered of thread i when its call c starts
pub remembered_is : (s : Story) (i : ℕ) (c : Called) → i < length s.threads → of (starts s i c) i ≡ now_in (of s i) c
remembered_is s i c lt = get_or-set_same s.threads i (now_in (of s i) c) nothing_remembered lt

-- a call that starts now has not taken effect, and is none of an announcement
module _ (m : Machine) (g : Ghost) (s : Story) (h : Orderly m g s) (c : Called) (now : c.began ≡ s.clock) where
  pub not_in_yet : NotIn s.order c
  not_in_yet j x p t b = omega (arith, h.rows.began j x p, h.rows.past j x p)

  pub waits : (i : ℕ) → i < length s.threads → c.thread ≡ i → Waits (starts s i c) i
  waits i lt thread =
      let is = ap (λ (r : Remembered). r.called) (remembered_is s i c lt) in
      record {
        thread = ap (λ (d : Called). d.thread) is ∙ thread;
        began = omega (arith, ap (λ (d : Called). d.began) is);
        not_in = subst (NotIn s.order) (sym is) not_in_yet;
        not_announced = λ a d p t b. omega (arith, h.announced.early a d p, ap (λ (e : Called). e.began) is);
      }

-- what thread i does, which was idle
module _ (m : Machine) (g : Ghost) (s : Story) (holds : Holds m g) (h : Orderly m g s) (futured : Futured m g s) (knows : KnowsAll m g s) (i : ℕ) (free : Free m i) where
  -- an event that hands out no announcement
  pub quietly : (m' : Machine) (g' : Ghost) (s' : Story) (row : Row) (r : Remembered) → Ok m' g' → Grows (shared_of m) g (shared_of m') g' → KeepsItems m m'
      → m'.rows ≡ set m.rows i row → s'.threads ≡ set s.threads i r → m'.ends.head ≡ m.ends.head → g'.chain ≡ g.chain → g'.ends ≡ g.ends → g'.by ≡ g.by
      → g'.batches ≡ g.batches → s'.order ≡ s.order → s'.announced ≡ s.announced → s.clock ≤ s'.clock → KnowsOf m' g' s' i row row.place → OrderKnown m' g' s'
  quietly m' g' s' row r ok grows items put thread head chain ends by batches order announced clock mine =
      nothing_announced m g s holds h m' g' s'
      (record { inv = ok.inv; grows = grows; head = head; chain = chain; ends = ends; by = by; items = items; order = order; clock = clock })
      knows i row r (puts m g s holds futured i free m' s' row r put thread) batches announced mine
