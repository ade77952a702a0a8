-- Every event leaves the futures of the pending calls flagged as the calls are.
use Prim.Native.Nat.{ℕ, ◌%◌, ◌<◌}
use mathlib.Core.Path.{◌≡◌, refl, sym, ap, ◌∙◌, subst}
use mathlib.Core.List.{List, []}
use native.Mathlib.Omega.{arith}
use lib.ListN.{length, length-set, length-replicate, get_or-replicate}
use lib.Seq.{get_or-set_same, get_or-set_other}
use Rattle.std.specs.Prelude.{None}
use Rattle.chain.specs.Positions.{At}
use Rattle.chain.proofs.Positions.{within}
use Rattle.tally.specs.Fifo.{Call, enqueue, dequeue}
use Rattle.place.specs.declared.Place.TheVariants as place
use Rattle.place.specs.declared.EnqueueStep.TheVariants.{E1}
use Rattle.place.specs.declared.DequeueStep.TheVariants.{D1}
use Rattle.place.specs.declared.BatchStep.TheVariants.{B1}
use Rattle.place.specs.declared.DequeuesStep.TheVariants.{Q1}
use Rattle.place.specs.declared.After.{After}
use Rattle.place.specs.declared.After.TheVariants as afterwards
use Rattle.place.specs.Place.{place_after}
use Rattle.row.specs.declared.Row.{Row}
use Rattle.row.specs.Row.{placed, calling, cleared, with_enqueue, with_dequeue, fresh_row, no_row}
use Rattle.answer.specs.declared.Item.{Item}
use Rattle.answer.specs.declared.Operation.TheVariants as operation
use Rattle.answer.specs.declared.Operation.{Operation}
use Rattle.pairing.specs.declared.Cursor.{Cursor}
use Rattle.next.specs.Next.{next_node, next_future, next_announcement}
use Rattle.machine.specs.declared.Machine.{Machine}
use Rattle.machine.specs.State.{row_at, memory_of, no_future, fresh_machine}
use Rattle.machine.specs.Pairing.{pairing, settled}
use Rattle.machine.specs.Steps.{hop, tell, step_of}
use Rattle.machine.specs.Entries.{linked_behind, defer_enqueue, defer_dequeue, set_off}
use Rattle.order.specs.Events.{Event, EnqueueStarts, DequeueStarts, EnqueueDeferred, DequeueDeferred, BatchSetOff, FutureAsked, StepTaken, does}
use Rattle.order.proofs.Events.{Finds}
use Rattle.order.proofs.Ghost.{Ghost, pending_of, step_ghost, end_ghost, defers, set_off_ghost, defer_enqueue_ghost, defer_dequeue_ghost, step_of_ghost, ghost_does, fresh_ghost}
use Rattle.order.proofs.Steps.{Ok, pending_kept}
use Rattle.order.proofs.SettingOff.{set_off_either}
use Rattle.order.proofs.PairingWrites.{pair_keeps}
use Rattle.order.proofs.Flags.{Flags, Carries, put_flags, row_moves, deferred}

-- a step
module _ (m : Machine) (g : Ghost) (ok : Ok m g) (h : Flags m g) (i : ℕ) (lt : i < 8) where
  abbrev g₁ : Ghost
  g₁ = step_ghost (memory_of m) g (row_at m i).place

  abbrev m₁ : Machine
  m₁ = (hop m i).machine

  moved_flags : Flags m₁ g₁
  unfolding hop
  moved_flags = row_moves m g ok h i lt m₁ g₁ (placed (row_at m i) (place_after (hop m i).after)) refl refl (h.asked i lt) refl refl (pending_kept (memory_of m) g (row_at m i).place)

  rows_kept : length m₁.rows ≡ 8
  unfolding hop
  rows_kept = length-set m.rows i _ ∙ ok.rows

  -- the end of a batch: its futures are paid, and its thread has nothing pending
  batch_flags : (c : Cursor) → Flags (settled m₁ i 1 c).machine (defers g₁ i [])
  unfolding settled pairing
  batch_flags c =
      put_flags m₁ g₁ moved_flags rows_kept i lt _ _ (cleared (row_at m₁ i)) refl (λ u ne. get_or-set_other g₁.pending i u [] [] ne) paid
      (record {
        places = (moved_flags.each i lt).places;
        handed_out = λ j x p. absurd (nothing j x p);
        flagged = λ j x p. absurd (nothing j x p);
      })
      (moved_flags.asked i lt)
    where
      room : i < length g₁.pending
      room = omega (arith, ap length (pending_kept (memory_of m) g (row_at m i).place), ok.pendings)

      nothing : (j : ℕ) (x : Call ℕ) → At (pending_of (defers g₁ i []) i) j x → ⊥
      nothing j x p = omega (arith, within _ j p, ap length (get_or-set_same g₁.pending i [] [] room))

      paid : Carries m₁.futures m₁.used.futures (settled m₁ i 1 c).machine.futures m₁.used.futures
      paid =
          let kept = pair_keeps m₁.links m₁.items (row_at m₁ i).last (row_at m₁ i).pending ((row_at m₁ i).count % 33) 0 m₁.futures c in
          record { more = omega arith; same = λ k p. ap (λ (x : ℕ × Operation). x.1) (kept.0 (k % 512)); long = kept.1; room = λ p. p }

  step_flags : Flags (step_of m i).machine (step_of_ghost m g i)
  step_flags = ended (hop m i).after
    where
      ended : (a : After) → Flags (tell m₁ i 1 a).machine (end_ghost g₁ i a)
      ended (afterwards.On p) = moved_flags
      ended afterwards.Ok = moved_flags
      ended afterwards.Empty = moved_flags
      ended (afterwards.Item x) = moved_flags
      ended (afterwards.Pair x) = batch_flags _
      ended (afterwards.PairDequeues x n) = batch_flags _

-- calls that start and are deferred
module _ (m : Machine) (g : Ghost) (ok : Ok m g) (h : Flags m g) (i : ℕ) (lt : i < 8) where
  deferred_enqueue_flags : (v : Item) → m.used.futures < 512 → (row_at m i).count < 32 → Flags (defer_enqueue m i v) (defer_enqueue_ghost g i v.value)
  unfolding defer_enqueue linked_behind
  deferred_enqueue_flags v left few =
      deferred m g ok h i lt (enqueue v.value) (record { owner = i; operation = operation.Enqueue; outcome = None }) refl left few _ _
      (with_enqueue (row_at m i) (next_future m.used) (next_node m.used)) refl refl refl refl refl refl

  deferred_dequeue_flags : m.used.futures < 512 → (row_at m i).count < 32 → Flags (defer_dequeue m i) (defer_dequeue_ghost g i)
  unfolding defer_dequeue
  deferred_dequeue_flags left few =
      deferred m g ok h i lt dequeue (record { owner = i; operation = operation.Dequeue; outcome = None }) refl left few _ _
      (with_dequeue (row_at m i) (next_future m.used)) refl refl refl refl refl refl

  set_off_flags : (f : ℕ) → f < 512 → Flags (set_off m i f) (set_off_ghost m g i)
  set_off_flags f small =
      set_off_either Flags m g i f
      (λ e. row_moves m g ok h i lt _ _ (calling (row_at m i) (place.Dequeues Q1) f) refl refl small refl refl refl)
      (λ ne. row_moves m g ok h i lt _ _ (calling (row_at m i) (place.Batch (next_announcement m.used) B1) f) refl refl small refl refl refl)

module _ (m : Machine) (g : Ghost) (ok : Ok m g) (h : Flags m g) where
  pub event_flags : (x : Event) → Finds m x → Flags (does m x) (ghost_does m g x)
  event_flags (EnqueueStarts i v) finds =
      row_moves m g ok h i finds.0.small _ _ (placed (row_at m i) (place.Enqueue (next_node m.used) E1)) refl refl (h.asked i finds.0.small) refl refl refl
  event_flags (DequeueStarts i) finds = row_moves m g ok h i finds.0.small _ _ (placed (row_at m i) (place.Dequeue D1)) refl refl (h.asked i finds.0.small) refl refl refl
  event_flags (EnqueueDeferred i v) finds = deferred_enqueue_flags m g ok h i finds.0.free.small (record { value = v }) finds.0.future finds.0.place
  event_flags (DequeueDeferred i) finds = deferred_dequeue_flags m g ok h i finds.free.small finds.future finds.place
  event_flags (BatchSetOff i f) finds = set_off_flags m g ok h i finds.free.small f (omega (arith, finds.own.handed_out, h.room))
  event_flags (FutureAsked i f) finds = h
  event_flags (StepTaken i) finds = step_flags m g ok h i finds

-- a fresh machine has nothing pending
pub fresh_flags : (threads nodes : ℕ) → Flags (fresh_machine threads nodes) fresh_ghost
fresh_flags threads nodes = record {
  each = λ t lt. record {
    places = ap (λ (r : Row). length r.pending) (get_or-replicate 8 t fresh_row no_row lt) ∙ length-replicate {A = ℕ} 32 0;
    handed_out = λ j c p. absurd (nothing t lt j c p);
    flagged = λ j c p. absurd (nothing t lt j c p);
  };
  asked = λ t lt. subst (λ (r : Row). r.future < 512) (sym (get_or-replicate 8 t fresh_row no_row lt)) (omega arith);
  futures = length-replicate 512 no_future;
  room = omega arith;
}
  where
    nothing : (t : ℕ) → t < 8 → (j : ℕ) (c : Call ℕ) → At (pending_of fresh_ghost t) j c → ⊥
    nothing t lt j c p = omega (arith, within _ j p, ap length (get_or-replicate {A = List (Call ℕ)} 8 t [] [] lt))
