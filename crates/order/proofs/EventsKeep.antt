-- Every event keeps the invariant, where it finds what it needs.
use Prim.Native.Nat.{ℕ, ◌<◌}
use mathlib.Core.Path.{◌≡◌, refl, sym, ◌∙◌, subst}
use native.Mathlib.Omega.{arith}
use Rattle.chain.proofs.Positions.{empty_without_length}
use Rattle.place.specs.declared.Place.{Place}
use Rattle.place.specs.declared.Place.TheVariants as place
use Rattle.place.specs.declared.EnqueueStep.TheVariants.{E1}
use Rattle.place.specs.declared.DequeueStep.TheVariants.{D1}
use Rattle.row.specs.Row.{placed}
use Rattle.answer.specs.declared.Item.{Item}
use Rattle.next.specs.Next.{next_node}
use Rattle.machine.specs.declared.Machine.{Machine}
use Rattle.machine.specs.State.{row_at, with_row}
use Rattle.machine.specs.HandOut.{hand_out_node}
use Rattle.order.specs.Events.{Event, EnqueueStarts, DequeueStarts, EnqueueDeferred, DequeueDeferred, BatchSetOff, FutureAsked, StepTaken, does}
use Rattle.order.proofs.Events.{Finds}
use Rattle.order.proofs.Ghost.{Ghost, pending_of, owns, ghost_does}
use Rattle.order.proofs.Shared.{shared_of}
use Rattle.order.proofs.Knows.{Single, Tallied, Alone}
use Rattle.order.proofs.TailMoves.{quiet, spared}
use Rattle.order.proofs.HandingOutNodes.{node_handed_out, new_node_inv, new_node_grows, new_node_spares, new_node_single}
use Rattle.order.proofs.HandedOut.{node_number, node_handed_out_lem}
use Rattle.order.proofs.Steps.{Ok, put_back, put_back_as}
use Rattle.order.proofs.MachineSteps.{step_keeps}
use Rattle.order.proofs.Deferred.{defer_enqueue_keeps, defer_dequeue_keeps}
use Rattle.order.proofs.SettingOff.{set_off_keeps}

module _ (m : Machine) (g : Ghost) (ok : Ok m g) (i : ℕ) (lt : i < 8) where
  alone : (row_at m i).count ≡ 0 → Alone g i
  alone e = empty_without_length (pending_of g i) (sym (ok.knows i lt).tallied.count ∙ e)

  tallied : (p : Place) → Tallied g i (placed (row_at m i) p)
  tallied p = let w = (ok.knows i lt).tallied in record { tally = w.tally; count = w.count; few = w.few }

  -- Enqueue with nothing pending
  single_enqueue : (v : Item) → (row_at m i).count ≡ 0 → m.used.nodes < m.nodes
      → Ok (with_row (hand_out_node m v) i (placed (row_at m i) (place.Enqueue (next_node m.used) E1))) (owns g i)
  single_enqueue v none left =
      put_back_as m g ok i lt _ (owns g i) (node_handed_out (shared_of m)) (node_handed_out_lem m v small) (placed (row_at m i) (place.Enqueue (next_node m.used) E1)) refl refl refl refl
      (new_node_inv (shared_of m) g ok.inv i small) (new_node_grows (shared_of m) g ok.inv i small) (λ u ne. new_node_spares (shared_of m) g ok.inv i small u)
      (record {
        tallied = let w = (ok.knows i lt).tallied in record { tally = w.tally; count = w.count; few = w.few };
        place = (subst (Single (node_handed_out (shared_of m)) (owns g i) i) (sym (node_number m.used small)) (new_node_single (shared_of m) g ok.inv i small), alone none);
      })
    where
      small : m.used.nodes < 512
      small = omega (arith, ok.sized)

  -- Dequeue with nothing pending
  single_dequeue : (row_at m i).count ≡ 0 → Ok (with_row m i (placed (row_at m i) (place.Dequeue D1))) g
  single_dequeue none =
      put_back m g ok i lt _ g (placed (row_at m i) (place.Dequeue D1)) refl refl refl refl ok.inv quiet (λ u ne. spared)
      (record { tallied = tallied (place.Dequeue D1); place = (tt, alone none) })

pub event_keeps : (m : Machine) (g : Ghost) → Ok m g → (x : Event) → Finds m x → Ok (does m x) (ghost_does m g x)
event_keeps m g ok (EnqueueStarts i v) finds = single_enqueue m g ok i finds.0.small (record { value = v }) finds.1 finds.2
event_keeps m g ok (DequeueStarts i) finds = single_dequeue m g ok i finds.0.small finds.1
event_keeps m g ok (EnqueueDeferred i v) finds = defer_enqueue_keeps m g ok i finds.0.free.small finds.0.free.idle (record { value = v }) finds.1 finds.0.place
event_keeps m g ok (DequeueDeferred i) finds = defer_dequeue_keeps m g ok i finds.free.small finds.free.idle finds.place
event_keeps m g ok (BatchSetOff i f) finds = set_off_keeps m g ok i finds.free.small finds.free.idle f finds.announcement
event_keeps m g ok (FutureAsked i f) finds = ok
event_keeps m g ok (StepTaken i) finds = step_keeps m g ok i finds
