-- The events other than steps keep the invariant of the order, and what each thread knows of it: they link nothing and leave the head. A deferred
-- call and a question leave their thread idle; a call that starts waits.
use Prim.Native.Nat.{ℕ, ◌<◌}
use mathlib.Core.Path.{◌≡◌, refl, sym, ap, ◌∙◌, subst}
use native.Mathlib.Omega.{arith}
use lib.ListN.{length, get_or-replicate}
use lib.Seq.{set-get_or}
use Rattle.chain.specs.Positions.{at}
use Rattle.chain.proofs.Positions.{none_is_not_some}
use Rattle.tally.specs.Fifo.{Call, enqueue, dequeue}
use Rattle.place.specs.declared.Place.TheVariants as place
use Rattle.place.specs.declared.EnqueueStep.TheVariants.{E1}
use Rattle.place.specs.declared.DequeueStep.TheVariants.{D1}
use Rattle.row.specs.declared.Row.{Row}
use Rattle.row.specs.Row.{placed, with_enqueue, with_dequeue, fresh_row, no_row}
use Rattle.next.specs.Next.{next_node, next_future}
use Rattle.machine.specs.declared.Machine.{Machine}
use Rattle.machine.specs.State.{row_at, fresh_machine}
use Rattle.machine.specs.Entries.{linked_behind, defer_enqueue, defer_dequeue}
use Rattle.order.specs.Events.{Event, EnqueueStarts, DequeueStarts, EnqueueDeferred, DequeueDeferred, BatchSetOff, FutureAsked, StepTaken, does}
use Rattle.order.specs.Order.{Called, Remembered, Story, of, starts, single, happens, fresh_story, nothing_remembered}
use Rattle.order.proofs.Events.{Free, Finds}
use Rattle.order.proofs.Ghost.{Ghost, owns, ghost_does, fresh_ghost}
use Rattle.order.proofs.Shared.{Shared, shared_of}
use Rattle.order.proofs.Grows.{Grows}
use Rattle.order.proofs.TailMoves.{quiet}
use Rattle.order.proofs.HandingOutNodes.{new_node_grows}
use Rattle.order.proofs.HandedOut.{node_handed_out_lem}
use Rattle.order.proofs.Deferring.{deferred_grows}
use Rattle.order.proofs.Deferred.{defer_enqueue_grows}
use Rattle.order.proofs.EventsKeep.{event_keeps}
use Rattle.order.proofs.Reached.{Holds}
use Rattle.order.proofs.Ran.{enqueued_in, taken_in}
use Rattle.order.proofs.Orderly.{Orderly, WaitsSingle, KnowsOf}
use Rattle.order.proofs.Futured.{Futured}
use Rattle.order.proofs.OrderQuiet.{KnowsAll, OrderKnown, remembered_is, waits, quietly}
use Rattle.order.proofs.OrderSetOff.{batch_set_off}
use Rattle.order.proofs.PendingItems.{PendingItems, keeps_items, new_item}

module _ (m : Machine) (g : Ghost) (s : Story) (holds : Holds m g) (h : Orderly m g s) (futured : Futured m g s) (knows : KnowsAll m g s) (i : ℕ) (free : Free m i) where
  -- a single call that starts
  waits_single : (x : Call ℕ) → WaitsSingle (starts s i (single s i x)) i x
  waits_single x =
      let room : i < length s.threads = omega (arith, futured.threads, free.small) in
      let is = ap (λ (r : Remembered). r.called) (remembered_is s i (single s i x) room) in
      (waits m g s h (single s i x) refl i room refl, record { calls = ap (λ (d : Called). d.calls) is; futures = ap (λ (d : Called). d.futures) is; asked = ap (λ (d : Called). d.asked) is })

  -- its thread is idle still
  idle_knows : (m' : Machine) (g' : Ghost) (s' : Story) (row : Row) → row.place ≡ (row_at m i).place → KnowsOf m' g' s' i row row.place
  idle_knows m' g' s' row same = subst (KnowsOf m' g' s' i row) (sym (same ∙ free.idle)) tt

  abbrev KeptBy : Event → Type 0
  KeptBy x = OrderKnown (does m x) (ghost_does m g x) (happens m s x)

  enqueue_starts : (v : ℕ) → length m.items ≡ 512 → Finds m (EnqueueStarts i v) → KeptBy (EnqueueStarts i v)
  enqueue_starts v room finds =
      quietly m g s holds h futured knows i free _ _ _ (placed (row_at m i) (place.Enqueue (next_node m.used) E1)) _ (event_keeps m g holds.ok (EnqueueStarts i v) finds)
      (subst (λ (x : Shared). Grows (shared_of m) g x (owns g i)) (sym (node_handed_out_lem m (record { value = v }) small)) (new_node_grows (shared_of m) g holds.ok.inv i small))
      (keeps_items m (record { value = v }) small) refl refl refl refl refl refl refl refl refl (omega arith)
      (subst (λ (x : ℕ). WaitsSingle (starts s i (single s i (enqueue v))) i (enqueue x)) (sym (new_item m (record { value = v }) small room)) (waits_single (enqueue v)))
    where
      small : m.used.nodes < 512
      small = omega (arith, holds.ok.sized, finds.2)

  dequeue_starts : Finds m (DequeueStarts i) → KeptBy (DequeueStarts i)
  dequeue_starts finds =
      quietly m g s holds h futured knows i free _ _ _ (placed (row_at m i) (place.Dequeue D1)) _ (event_keeps m g holds.ok (DequeueStarts i) finds) quiet
      (λ n lt. refl) refl refl refl refl refl refl refl refl refl (omega arith) (waits_single dequeue)

  enqueue_deferred : (v : ℕ) → Finds m (EnqueueDeferred i v) → KeptBy (EnqueueDeferred i v)
  unfolding defer_enqueue linked_behind
  enqueue_deferred v finds =
      quietly m g s holds h futured knows i free _ _ _ row _ (event_keeps m g holds.ok (EnqueueDeferred i v) finds)
      (defer_enqueue_grows m g holds.ok i free.small free.idle (record { value = v }) finds.1 finds.0.place)
      (keeps_items m (record { value = v }) (omega (arith, holds.ok.sized, finds.1))) refl refl refl refl refl refl refl refl refl (omega arith) (idle_knows (does m (EnqueueDeferred i v)) (ghost_does m g (EnqueueDeferred i v)) _ row refl)
    where
      row : Row
      row = with_enqueue (row_at m i) (next_future m.used) (next_node m.used)

  dequeue_deferred : Finds m (DequeueDeferred i) → KeptBy (DequeueDeferred i)
  unfolding defer_dequeue
  dequeue_deferred finds =
      quietly m g s holds h futured knows i free _ _ _ row _ (event_keeps m g holds.ok (DequeueDeferred i) finds) (deferred_grows (shared_of m) g i _)
      (λ n lt. refl) refl refl refl refl refl refl refl refl refl (omega arith) (idle_knows (does m (DequeueDeferred i)) (ghost_does m g (DequeueDeferred i)) _ row refl)
    where
      row : Row
      row = with_dequeue (row_at m i) (next_future m.used)

  future_asked : (f : ℕ) → KeptBy (FutureAsked i f)
  future_asked f =
      quietly m g s holds h futured knows i free m g _ (row_at m i) (of s i) holds.ok quiet (λ n lt. refl) (sym (set-get_or m.rows i no_row)) (sym (set-get_or s.threads i nothing_remembered))
      refl refl refl refl refl refl refl (omega arith) (idle_knows m g _ (row_at m i) refl)

-- every event, where steps do
module _ (m : Machine) (g : Ghost) (s : Story) (holds : Holds m g) (h : Orderly m g s) (futured : Futured m g s) (items : PendingItems m g) (knows : KnowsAll m g s) where
  pub event_orderly : ((i : ℕ) → i < 8 → OrderKnown (does m (StepTaken i)) (ghost_does m g (StepTaken i)) (happens m s (StepTaken i))) → (x : Event) → Finds m x
      → Orderly (does m x) (ghost_does m g x) (happens m s x) × KnowsAll (does m x) (ghost_does m g x) (happens m s x)
  event_orderly step (EnqueueStarts i v) finds = enqueue_starts m g s holds h futured knows i finds.0 v items.room finds
  event_orderly step (DequeueStarts i) finds = dequeue_starts m g s holds h futured knows i finds.0 finds
  event_orderly step (EnqueueDeferred i v) finds = enqueue_deferred m g s holds h futured knows i finds.0.free v finds
  event_orderly step (DequeueDeferred i) finds = dequeue_deferred m g s holds h futured knows i finds.free finds
  event_orderly step (BatchSetOff i f) finds = batch_set_off m g s holds h futured items knows i f finds
  event_orderly step (FutureAsked i f) finds = future_asked m g s holds h futured knows i finds.free f
  event_orderly step (StepTaken i) finds = step i finds

-- on a fresh machine nothing has taken effect, and every thread is idle
pub fresh_orderly : (threads nodes : ℕ) → Orderly (fresh_machine threads nodes) fresh_ghost fresh_story
unfolding at enqueued_in taken_in
fresh_orderly threads nodes = record {
  chain = refl;
  head = refl;
  rows = record {
    began = λ j x p. absurd (none_is_not_some refl p);
    past = λ j x p. absurd (none_is_not_some refl p);
    rising = λ j k x y p. absurd (none_is_not_some refl p);
    once = λ j k x y p. absurd (none_is_not_some refl p);
  };
  announced = record {
    many = refl;
    calls = λ a b c p. absurd (none_is_not_some refl p);
    items = λ a b p. absurd (none_is_not_some refl p);
    early = λ a c p. absurd (none_is_not_some refl p);
    apart = λ a b c d p. absurd (none_is_not_some refl p);
  };
  linked = λ a p c l q. absurd (none_is_not_some refl q);
  unlinked = λ a c n q. absurd (none_is_not_some refl q);
}

pub fresh_knows_all : (threads nodes : ℕ) → KnowsAll (fresh_machine threads nodes) fresh_ghost fresh_story
fresh_knows_all threads nodes t lt =
    subst (λ (r : Row). KnowsOf (fresh_machine threads nodes) fresh_ghost fresh_story t r r.place) (sym (get_or-replicate 8 t fresh_row no_row lt)) tt
