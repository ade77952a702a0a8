-- The pending calls are set off as a batch: one of dequeues only begins at q1, one with an enqueue is handed its announcement and begins at b1.
use Prim.Native.Nat.{ℕ, suc, ◌<◌}
use mathlib.Core.Path.{◌≡◌, refl, sym, ap, ◌∙◌, subst}
use mathlib.Core.Bool.{Bool, true, false, cond}
use mathlib.Core.List.{List}
use mathlib.Core.Option.{some}
use mathlib.Core.Logic.{◌≢◌}
use native.Mathlib.Omega.{arith}
use lib.Dec.{eqb}
use lib.ListN.{length}
use borrow.Author.Tests.{eqb-true, eqb-false}
use Rattle.chain.specs.Positions.{At}
use Rattle.chain.proofs.Positions.{element}
use Rattle.cells.specs.declared.Request.{Request}
use Rattle.place.specs.declared.Place.{Place}
use Rattle.place.specs.declared.Place.TheVariants as place
use Rattle.place.specs.declared.Place.TheVariants.{Idle}
use Rattle.place.specs.declared.BatchStep.TheVariants.{B1}
use Rattle.place.specs.declared.DequeuesStep.TheVariants.{Q1}
use Rattle.row.specs.declared.Row.{Row}
use Rattle.row.specs.Row.{calling, request}
use Rattle.next.specs.Next.{next_announcement}
use Rattle.machine.specs.declared.Machine.{Machine}
use Rattle.machine.specs.State.{row_at, with_row}
use Rattle.machine.specs.HandOut.{hand_out_announcement}
use Rattle.machine.specs.Entries.{set_off}
use Rattle.order.proofs.Ghost.{Ghost, Batch, announces, pending_nodes, pending_batch, set_off_ghost}
use Rattle.order.proofs.Shared.{Shared, shared_of}
use Rattle.order.proofs.Invariant.{Asks}
use Rattle.order.proofs.Knows.{Private, Pending, Tallied, NotAnnounced, Own}
use Rattle.order.proofs.Grows.{Grows}
use Rattle.order.proofs.TailMoves.{quiet, spared}
use Rattle.order.proofs.HandingOutAnnouncements.{asking, announcement_handed_out, new_request, new_announcement_inv, new_announcement_grows, new_announcement_spares, new_batch_lem, new_not_announced}
use Rattle.order.proofs.HandedOut.{announcement_number, announcement_handed_out_lem}
use Rattle.order.proofs.Steps.{Ok, put_back, put_back_as}
use Rattle.order.proofs.Deferred.{nodes_are_pending, pending_here}

-- what holds after both ways of setting off
pub set_off_either : (P : Machine → Ghost → Type 0) (m : Machine) (g : Ghost) (i f : ℕ)
    → ((row_at m i).tally.enqueues ≡ 0 → P (with_row m i (calling (row_at m i) (place.Dequeues Q1) f)) g)
    → ((row_at m i).tally.enqueues ≢ 0
    → P (with_row (hand_out_announcement m (request (row_at m i))) i (calling (row_at m i) (place.Batch (next_announcement m.used) B1) f)) (announces g i (pending_batch m g i)))
    → P (set_off m i f) (set_off_ghost m g i)
unfolding set_off
set_off_either P m g i f dequeues announced = by (eqb (row_at m i).tally.enqueues 0) refl
  where
    by : (b : Bool) → eqb (row_at m i).tally.enqueues 0 ≡ b
        → P (cond b (with_row m i (calling (row_at m i) (place.Dequeues Q1) f)) (with_row (hand_out_announcement m (request (row_at m i))) i (calling (row_at m i) (place.Batch (next_announcement m.used) B1) f)))
        (cond b g (announces g i (pending_batch m g i)))
    by true e = dequeues (eqb-true _ 0 e)
    by false e = announced (eqb-false _ 0 e)

module _ (m : Machine) (g : Ghost) (ok : Ok m g) (i : ℕ) (lt : i < 8) (idle : (row_at m i).place ≡ Idle) (f : ℕ) where
  h : Pending (shared_of m) g i (row_at m i)
  h = pending_here m g ok i lt idle

  nodes_are : pending_nodes m.links (row_at m i) ≡ h.nodes
  nodes_are = nodes_are_pending (shared_of m) g i (row_at m i) h

  tallied : (p : Place) → Tallied g i (calling (row_at m i) p f)
  tallied p = let w = (ok.knows i lt).tallied in record { tally = w.tally; count = w.count; few = w.few }

  dequeues_off : (row_at m i).tally.enqueues ≡ 0 → Ok (with_row m i (calling (row_at m i) (place.Dequeues Q1) f)) g
  dequeues_off e =
      put_back m g ok i lt _ g (calling (row_at m i) (place.Dequeues Q1) f) refl refl refl refl ok.inv quiet (λ u ne. spared)
      (record { tallied = tallied (place.Dequeues Q1); place = (tt, e) })

  -- a batch with an enqueue
  module _ (some-enqueue : (row_at m i).tally.enqueues ≢ 0) (left : m.used.announcements < 64) where
    first : At h.nodes 0 (row_at m i).first
    first =
        let x = element h.nodes 0 (omega (arith, h.many)) in
        x.1 ∙ ap some (h.first_is x.0 x.1)

    last : (k : ℕ) → suc k ≡ (row_at m i).tally.enqueues → At h.nodes k (row_at m i).last
    last k e =
        let x = element h.nodes k (omega (arith, h.many)) in
        x.1 ∙ ap some (h.last_is k x.0 (omega (arith, h.many)) x.1)

    abbrev batch : Batch
    batch = pending_batch m g i

    asks : Asks (asking (request (row_at m i))) batch
    asks = record {
      first_is = subst (λ (l : List ℕ). At l 0 (row_at m i).first) (sym nodes_are) first;
      last_is = λ k e. subst (λ (l : List ℕ). At l k (row_at m i).last) (sym nodes_are) (last k e);
      many = ap length nodes_are ∙ h.many;
      tally = (ok.knows i lt).tallied.tally;
    }

    private : Private (shared_of m) g i batch.nodes
    private = subst (Private (shared_of m) g i) (sym nodes_are) h.private

    abbrev k : Request
    k = request (row_at m i)

    number : next_announcement m.used ≡ m.used.announcements
    number = announcement_number m.used left

    abbrev row : Row
    row = calling (row_at m i) (place.Batch (next_announcement m.used) B1) f

    abbrev g' : Ghost
    g' = announces g i batch

    abbrev s' : Shared
    s' = announcement_handed_out (shared_of m) k

    own : Own s' g' i m.used.announcements row
    own =
        let is = new_request (shared_of m) g ok.inv i k batch asks private left in
        record {
          first = ap (λ (x : Request). x.first) is;
          last = ap (λ (x : Request). x.last) is;
          batch = batch;
          is = new_batch_lem (shared_of m) g ok.inv i k batch asks private left;
          calls = refl;
        }

    begins : NotAnnounced s' g' i (next_announcement m.used) × Own s' g' i (next_announcement m.used) row
    begins = subst (λ (b : ℕ). NotAnnounced s' g' i b × Own s' g' i b row) (sym number) (new_not_announced (shared_of m) g ok.inv i k batch asks private left, own)

    -- what others rely on
    pub announced_grows : Grows (shared_of m) g (shared_of (with_row (hand_out_announcement m k) i row)) g'
    announced_grows =
        subst (λ (x : Shared). Grows (shared_of m) g x g') (sym (announcement_handed_out_lem m k left)) (new_announcement_grows (shared_of m) g ok.inv i k batch asks private left)

    announced_off : Ok (with_row (hand_out_announcement m k) i row) g'
    announced_off =
        put_back_as m g ok i lt _ g' s' (announcement_handed_out_lem m k left) row refl refl refl refl
        (new_announcement_inv (shared_of m) g ok.inv i k batch asks private left)
        (new_announcement_grows (shared_of m) g ok.inv i k batch asks private left)
        (λ u ne. new_announcement_spares (shared_of m) g ok.inv i k batch asks private left u)
        (record { tallied = let w = (ok.knows i lt).tallied in record { tally = w.tally; count = w.count; few = w.few }; place = begins })

  pub set_off_keeps : ((row_at m i).tally.enqueues ≢ 0 → m.used.announcements < 64) → Ok (set_off m i f) (set_off_ghost m g i)
  set_off_keeps left = set_off_either Ok m g i f dequeues_off (λ ne. announced_off ne (left ne))
