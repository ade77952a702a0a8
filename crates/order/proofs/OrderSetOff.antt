-- The pending calls are set off as a batch. One with an enqueue has the next announcement: its calls are the announcement's, and the items that they
-- enqueue are in its nodes. It is not linked, for what is linked has been handed out before.
use Prim.Native.Nat.{ℕ, suc, ◌<◌}
use mathlib.Core.Path.{◌≡◌, refl, sym, ap, ◌∙◌, subst}
use mathlib.Core.Bool.{Bool, true, false, cond}
use mathlib.Core.List.{List, [], ◌∷◌, ◌++◌, map}
use mathlib.Core.Option.{some}
use mathlib.Core.Logic.{◌⊎◌, inl, inr, ⊎_elim, ◌≢◌}
use native.Mathlib.Omega.{arith}
use lib.ListN.{length, set}
use borrow.Author.Tests.{eq-eqb, ne_eqb}
use Rattle.chain.specs.Positions.{at, At, In}
use Rattle.chain.proofs.Positions.{within, stays, at_the_end, length-one_more, there_or_at_the_end, empty_without_length}
use Rattle.tally.specs.Excess.{enqueued, enqueues}
use Rattle.tally.specs.declared.Tally.{Tally}
use Rattle.place.specs.declared.Place.{Place}
use Rattle.place.specs.declared.Place.TheVariants as place
use Rattle.place.specs.declared.BatchStep.TheVariants.{B1}
use Rattle.place.specs.declared.DequeuesStep.TheVariants.{Q1}
use Rattle.row.specs.declared.Row.{Row}
use Rattle.row.specs.Row.{calling, request}
use Rattle.next.specs.Next.{next_announcement}
use Rattle.machine.specs.declared.Machine.{Machine}
use Rattle.machine.specs.State.{row_at, with_row}
use Rattle.machine.specs.HandOut.{hand_out_announcement}
use Rattle.order.specs.Events.{BatchSetOff, does}
use Rattle.order.specs.Order.{Called, Remembered, Story, of, starts, pending_batch, happens, now_in}
use Rattle.order.proofs.Events.{RoomToSetOff}
use Rattle.order.proofs.Ghost as ghost
use Rattle.order.proofs.Ghost.{Ghost, Batch, pending_of, announces, ghost_does}
use Rattle.order.proofs.Invariant.{Linked, NotLinked}
use Rattle.order.proofs.TailMoves.{quiet}
use Rattle.order.proofs.HandedOut.{announcement_number}
use Rattle.order.proofs.SettingOff.{set_off_either, announced_grows}
use Rattle.order.proofs.Steps.{Ok}
use Rattle.order.proofs.EventsKeep.{event_keeps}
use Rattle.order.proofs.Reached.{Holds}
use Rattle.order.proofs.PairingResults.{value_of}
use Rattle.order.proofs.Orderly.{NotIn, Announced, RunOn, Orderly, BatchCall}
use Rattle.order.proofs.Placed.{rows_later}
use Rattle.order.proofs.OrderKept.{run_stays}
use Rattle.order.proofs.Futured.{Futured}
use Rattle.order.proofs.FuturesEntries.{puts}
use Rattle.order.proofs.OrderQuiet.{KnowsAll, OrderKnown, Quiet, was_linked, position, leaves, all_know, remembered_is, not_in_yet, waits, quietly}
use Rattle.order.proofs.PendingItems.{PendingItems}

module _ (m : Machine) (g : Ghost) (s : Story) (holds : Holds m g) (h : Orderly m g s) (futured : Futured m g s) (items : PendingItems m g) (knows : KnowsAll m g s)
    (i f : ℕ) (finds : RoomToSetOff m i f) where
  abbrev batch : Called
  batch = pending_batch s i f

  small : i < 8
  small = finds.free.small

  calls_are : (of s i).calls ≡ pending_of g i
  calls_are = (futured.each i small).calls

  as_many : (row_at m i).tally.enqueues ≡ enqueues (of s i).calls
  as_many = ap (λ (t : Tally). t.enqueues) (holds.ok.knows i small).tallied.tally ∙ ap enqueues (sym calls_are)

  -- the future is one of the pending ones
  asks_own : In (of s i).futures f
  asks_own = subst (λ (t : ℕ). In (of s t).futures f) finds.own.owner (futured.waiting f finds.own.handed_out finds.waits).1

  -- with its announcement, or without one
  abbrev story_if : Bool → Story
  story_if b = record {
    clock = suc s.clock;
    order = s.order;
    given = s.given;
    threads = set s.threads i (now_in (of s i) batch);
    started = s.started ++ (batch ∷ []);
    announced = cond b s.announced (s.announced ++ (batch ∷ []));
  }

  room : i < length s.threads
  room = omega (arith, futured.threads, small)

  remembered : of (starts s i batch) i ≡ now_in (of s i) batch
  remembered = remembered_is s i batch room

  batch_call : (b : Bool) (p : Place) → BatchCall (story_if b) i (calling (row_at m i) p f)
  batch_call b p = record {
    thread = ap (λ (r : Remembered). r.called.thread) remembered;
    calls = ap (λ (r : Remembered). r.called.calls) remembered ∙ sym (ap (λ (r : Remembered). r.calls) remembered);
    futures = ap (λ (r : Remembered). r.called.futures) remembered ∙ sym (ap (λ (r : Remembered). r.futures) remembered);
    asked = ap (λ (r : Remembered). r.called.asked) remembered;
    asks = subst (λ (l : List ℕ). In l f) (sym (ap (λ (r : Remembered). r.futures) remembered)) asks_own;
  }

  -- one of dequeues only
  none_enqueued : (row_at m i).tally.enqueues ≡ 0 → enqueued (of (story_if true) i).calls ≡ []
  none_enqueued e = empty_without_length _ (ap (λ (r : Remembered). enqueues r.calls) remembered ∙ sym as_many ∙ e)

  abbrev dequeues_row : Row
  dequeues_row = calling (row_at m i) (place.Dequeues Q1) f

  dequeues_off : (row_at m i).tally.enqueues ≡ 0 → Ok (with_row m i dequeues_row) g → OrderKnown (with_row m i dequeues_row) g (story_if true)
  dequeues_off e ok =
      quietly m g s holds h futured knows i finds.free (with_row m i dequeues_row) g (story_if true) dequeues_row (now_in (of s i) batch) ok quiet
      (λ n lt. refl) refl refl refl refl refl refl refl refl refl (omega arith)
      (waits m g s h batch refl i room refl, batch_call true (place.Dequeues Q1), none_enqueued e)

  -- one with an enqueue
  module _ (some-enqueue : (row_at m i).tally.enqueues ≢ 0) where
    abbrev row : Row
    row = calling (row_at m i) (place.Batch (next_announcement m.used) B1) f

    abbrev m' : Machine
    m' = with_row (hand_out_announcement m (request (row_at m i))) i row

    abbrev pending : Batch
    pending = ghost.pending_batch m g i

    abbrev g' : Ghost
    g' = announces g i pending

    abbrev s' : Story
    s' = story_if false

    left : m.used.announcements < 64
    left = finds.announcement some-enqueue

    -- an announcement of before, or the new one
    abbrev CalledAt : ℕ → Called → Type 0
    CalledAt a c = At s.announced a c ⊎ ((a ≡ length s.announced) × (c ≡ batch))

    abbrev BatchAt : ℕ → Batch → Type 0
    BatchAt a b = At g.batches a b ⊎ ((a ≡ length g.batches) × (b ≡ pending))

    called_at : (a : ℕ) (c : Called) → At s'.announced a c → CalledAt a c
    called_at a c p = there_or_at_the_end s.announced batch a p

    batch_at : (a : ℕ) (b : Batch) → At g'.batches a b → BatchAt a b
    batch_at a b p = there_or_at_the_end g.batches pending a p

    began_now : (c : Called) → c ≡ batch → c.began ≡ s.clock
    began_now c e = ap (λ (d : Called). d.began) e

    calls_same : (a : ℕ) (b : Batch) (c : Called) → BatchAt a b → CalledAt a c → c.calls ≡ b.calls
    calls_same a b c (inl p) (inl q) = h.announced.calls a b c p q
    calls_same a b c (inl p) (inr q) = absurd (omega (arith, within g.batches a p, q.0, h.announced.many))
    calls_same a b c (inr p) (inl q) = absurd (omega (arith, within s.announced a q, p.0, h.announced.many))
    calls_same a b c (inr p) (inr q) = ap (λ (d : Called). d.calls) q.1 ∙ calls_are ∙ sym (ap (λ (x : Batch). x.calls) p.1)

    items_same : (a : ℕ) (b : Batch) → BatchAt a b → enqueued b.calls ≡ map (value_of m.items) b.nodes
    items_same a b (inl p) = h.announced.items a b p
    items_same a b (inr p) = subst (λ (x : Batch). enqueued x.calls ≡ map (value_of m.items) x.nodes) (sym p.1) (items.each i small finds.free.idle)

    early : (a : ℕ) (c : Called) → CalledAt a c → c.began < suc s.clock
    early a c (inl p) = omega (arith, h.announced.early a c p)
    early a c (inr p) = omega (arith, began_now c p.1)

    apart : (a b : ℕ) (c d : Called) → CalledAt a c → CalledAt b d → c.thread ≡ d.thread → c.began ≡ d.began → a ≡ b
    apart a b c d (inl p) (inl q) t e = h.announced.apart a b c d p q t e
    apart a b c d (inl p) (inr q) t e = absurd (omega (arith, h.announced.early a c p, began_now d q.1))
    apart a b c d (inr p) (inl q) t e = absurd (omega (arith, h.announced.early b d q, began_now c p.1))
    apart a b c d (inr p) (inr q) t e = p.0 ∙ sym q.0

    one_more_announced : Announced m' g' s'
    one_more_announced = record {
      many = length-one_more s.announced batch ∙ ap suc h.announced.many ∙ sym (length-one_more g.batches pending);
      calls = λ a b c p q. calls_same a b c (batch_at a b p) (called_at a c q);
      items = λ a b p. items_same a b (batch_at a b p);
      early = λ a c p. early a c (called_at a c p);
      apart = λ a b c d p q. apart a b c d (called_at a c p) (called_at b d q);
    }

    -- it stands at its number
    number : next_announcement m.used ≡ length s.announced
    number = announcement_number m.used left ∙ holds.ok.inv.batches.counted ∙ sym h.announced.many

    own : At s'.announced (next_announcement m.used) (of s' i).called
    own = ap (at s'.announced) number ∙ at_the_end s.announced batch ∙ ap some (sym (ap (λ (r : Remembered). r.called) remembered))

    module _ (ok : Ok m' g') where
      nothing_linked : Quiet m g s m' g' s'
      nothing_linked = record {
        inv = ok.inv;
        grows = announced_grows m g holds.ok i small finds.free.idle f some-enqueue left;
        head = refl;
        chain = refl;
        ends = refl;
        by = refl;
        items = λ n lt. refl;
        order = refl;
        clock = omega arith;
      }

      -- one that is linked has a batch, so it is not the new one
      linked_run : (a p : ℕ) (c : Called) → Linked g a p → CalledAt a c → RunOn m' g' s' a p c
      linked_run a p c l (inl q) = run_stays m g s holds.ok.inv h m' g' s' (leaves m g s holds h m' g' s' nothing_linked) a p l c q (h.linked a p c l q)
      linked_run a p c l (inr q) =
          let b = holds.ok.inv.head.has_batch a (holds.ok.inv.head.linked_installed a _ l.is) in
          absurd (omega (arith, within g.batches a b.1, q.0, h.announced.many))

      not_in : (a : ℕ) (c : Called) → NotLinked g a → CalledAt a c → NotIn s.order c
      not_in a c n (inl q) = h.unlinked a c n q
      not_in a c n (inr q) = not_in_yet m g s h c (began_now c q.1)

      announced_orderly : Orderly m' g' s'
      announced_orderly = record {
        chain = h.chain;
        head = h.head ∙ sym (position m g s holds h m' g' s' nothing_linked);
        rows = rows_later s.order _ _ (omega arith) h.rows;
        announced = one_more_announced;
        linked = λ a p c l q. linked_run a p c (was_linked m g s holds h m' g' s' nothing_linked a p l) (called_at a c q);
        unlinked = λ a c n q. not_in a c n (called_at a c q);
      }

      announced_off : OrderKnown m' g' s'
      announced_off = (
        announced_orderly,
        all_know m g s holds h m' g' s' nothing_linked knows i row (now_in (of s i) batch) (puts m g s holds futured i finds.free m' s' row (now_in (of s i) batch) refl refl)
            (λ a c p. stays s.announced (batch ∷ []) a p) (λ a c p. ⊎_elim inl (λ w. inr (ap (λ (d : Called). d.thread) w.1)) (called_at a c p))
            (own, batch_call false (place.Batch (next_announcement m.used) B1)),
      )

  pub batch_set_off : OrderKnown (does m (BatchSetOff i f)) (ghost_does m g (BatchSetOff i f)) (happens m s (BatchSetOff i f))
  batch_set_off =
      set_off_either (λ (m' : Machine) (g' : Ghost). Ok m' g' → OrderKnown m' g' (happens m s (BatchSetOff i f))) m g i f
      (λ e ok. subst (λ (b : Bool). OrderKnown (with_row m i dequeues_row) g (story_if b)) (sym (eq-eqb _ 0 (sym as_many ∙ e))) (dequeues_off e ok))
      (λ ne ok. subst (λ (b : Bool). OrderKnown (m' ne) (g' ne) (story_if b)) (sym (ne_eqb _ 0 (λ q. ne (as_many ∙ q)))) (announced_off ne ok))
      (event_keeps m g holds.ok (BatchSetOff i f) finds)
