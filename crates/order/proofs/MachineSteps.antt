-- A step of the machine, with what the end of a call tells, keeps the invariant.
use Prim.Native.Nat.{ℕ, ◌<◌}
use mathlib.Core.Path.{◌≡◌, refl, sym, ap, ◌∙◌, subst}
use mathlib.Core.List.{List, []}
use mathlib.Core.Logic.{◌≢◌}
use native.Mathlib.Omega.{arith}
use lib.ListN.{length, get_or, set, length-set}
use Rattle.tally.specs.Fifo.{Call}
use Rattle.tally.specs.Tally.{tally_of}
use Rattle.tally.proofs.Counts.{tally_of_none}
use Rattle.place.specs.declared.Place.{Place}
use Rattle.place.specs.declared.Place.TheVariants.{Idle}
use Rattle.place.specs.declared.After.{After}
use Rattle.place.specs.declared.After.TheVariants as afterwards
use Rattle.place.specs.Place.{place_after}
use Rattle.row.specs.Row.{placed, cleared}
use Rattle.pairing.specs.declared.Cursor.{Cursor}
use Rattle.machine.specs.declared.Machine.{Machine}
use Rattle.machine.specs.State.{row_at, memory_of}
use Rattle.machine.specs.Pairing.{pairing, settled}
use Rattle.machine.specs.Steps.{accessed, hop, tell, step_of}
use Rattle.order.proofs.RowPut.{rows_moved, rows_cleared}
use Rattle.order.proofs.Ghost.{Ghost, pending_of, step_ghost, defers, end_ghost}
use Rattle.order.proofs.Shared.{shared_of}
use Rattle.order.proofs.Invariant.{Inv}
use Rattle.order.proofs.Knows.{Tallied, Alone}
use Rattle.order.proofs.Grows.{Grows, Spares}
use Rattle.order.proofs.Fine.{Fine, KnowsAfter}
use Rattle.order.proofs.Deferring.{deferred_inv, deferred_grows, deferred_spares, deferred_pending}
use Rattle.order.proofs.Together.{grows_then_grows, spares_then_spares}
use Rattle.order.proofs.Steps.{Ok, place_step, pending_kept, put_back, nothing_private, alone_tally, same_place}

module _ (m : Machine) (g : Ghost) (ok : Ok m g) (i : ℕ) (lt : i < 8) where
  -- the ghost after the step's access
  abbrev g₁ : Ghost
  g₁ = step_ghost (memory_of m) g (row_at m i).place

  abbrev m₁ : Machine
  m₁ = (hop m i).machine

  pendings_kept : g₁.pending ≡ g.pending
  pendings_kept = pending_kept (memory_of m) g (row_at m i).place

  pub still_tallied : (p : Place) → Tallied g₁ i (placed (row_at m i) p)
  still_tallied p =
      let h = (ok.knows i lt).tallied in
      let same : pending_of g₁ i ≡ pending_of g i = ap (λ (l : List (List (Call ℕ))). get_or l i []) pendings_kept in
      record { tally = h.tally ∙ sym (ap tally_of same); count = h.count ∙ sym (ap length same); few = omega (arith, h.few, ap length same) }

  -- what the step shows
  pub step_fine : Fine (shared_of m) g i (row_at m i) (accessed m (row_at m i)) g₁ (hop m i).after
  unfolding hop
  step_fine = place_step (shared_of m) g ok.inv i (row_at m i) (row_at m i).place (ok.knows i lt).place

  length_kept : length g₁.pending ≡ length g.pending
  length_kept = ap length pendings_kept

  inv₁ : Inv (shared_of m₁) g₁
  unfolding hop
  inv₁ = step_fine.inv

  pub grows₁ : Grows (shared_of m) g (shared_of m₁) g₁
  unfolding hop
  grows₁ = step_fine.grows

  pub spares₁ : (u : ℕ) → u ≢ i → Spares (shared_of m) g (shared_of m₁) g₁ u
  unfolding hop
  spares₁ = step_fine.spares

  pub knows₁ : (a : After) → (hop m i).after ≡ a → KnowsAfter (shared_of m₁) g₁ i (row_at m i) a
  unfolding hop
  knows₁ a e = subst (KnowsAfter (shared_of m₁) g₁ i (row_at m i)) e step_fine.knows

  nodes_kept : m₁.nodes ≡ m.nodes
  unfolding hop
  nodes_kept = refl

  threads_kept : m₁.threads ≡ m.threads
  unfolding hop
  threads_kept = refl

  -- a step that goes on, or ends a single call
  goes_on : (p : Place) → (hop m i).after ≡ afterwards.On p → Ok m₁ g₁
  goes_on p e =
      put_back m g ok i lt m₁ g₁ (placed (row_at m i) p) (rows_moved m i (afterwards.On p) e) nodes_kept threads_kept length_kept inv₁ grows₁ spares₁
      (record { tallied = still_tallied p; place = same_place (shared_of m₁) g₁ i (row_at m i) (placed (row_at m i) p) refl refl refl p (knows₁ (afterwards.On p) e) })

  single_ends : (a : After) → (hop m i).after ≡ a → place_after a ≡ Idle → Alone g₁ i → Ok m₁ g₁
  single_ends a e q alone =
      put_back m g ok i lt m₁ g₁ (placed (row_at m i) Idle) (rows_moved m i a e ∙ ap (λ (p : Place). set m.rows i (placed (row_at m i) p)) q) nodes_kept threads_kept length_kept inv₁ grows₁ spares₁
      (record { tallied = still_tallied Idle; place = nothing_private (shared_of m₁) g₁ i (placed (row_at m i) Idle) (alone_tally g₁ i (placed (row_at m i) Idle) (still_tallied Idle) alone) })

  -- the end of a batch: its results are paired, and its pending calls are cleared
  abbrev g₂ : Ghost
  g₂ = defers g₁ i []

  room : i < length g₁.pending
  room = omega (arith, length_kept, ok.pendings)

  batch_ends : (c : Cursor) → Ok (settled m₁ i 1 c).machine g₂
  unfolding settled pairing
  batch_ends c =
      put_back m g ok i lt (settled m₁ i 1 c).machine g₂ (cleared (row_at m₁ i)) (rows_cleared m i 1 c)
      nodes_kept threads_kept (length-set g₁.pending i [] ∙ length_kept)
      (deferred_inv (shared_of m₁) g₁ i [] inv₁)
      (grows_then_grows grows₁ (deferred_grows (shared_of m₁) g₁ i []))
      (λ u ne. spares_then_spares (spares₁ u ne) (deferred_spares (shared_of m₁) g₁ i [] u ne))
      (record { tallied = cleared_tally; place = nothing_private (shared_of m₁) g₂ i (cleared (row_at m₁ i)) refl })
    where
      none : pending_of g₂ i ≡ []
      none = deferred_pending (shared_of m₁) g₁ i [] room

      cleared_tally : Tallied g₂ i (cleared (row_at m₁ i))
      cleared_tally = record { tally = sym (ap tally_of none ∙ tally_of_none ℕ); count = sym (ap length none); few = omega (arith, ap length none) }

  -- a step of the machine
  pub step_keeps : Ok (step_of m i).machine (end_ghost g₁ i (hop m i).after)
  step_keeps = by (hop m i).after refl
    where
      by : (a : After) → (hop m i).after ≡ a → Ok (tell m₁ i 1 a).machine (end_ghost g₁ i a)
      by (afterwards.On p) e = goes_on p e
      by afterwards.Ok e = single_ends afterwards.Ok e refl (knows₁ afterwards.Ok e)
      by afterwards.Empty e = single_ends afterwards.Empty e refl (knows₁ afterwards.Empty e)
      by (afterwards.Item x) e = single_ends (afterwards.Item x) e refl (knows₁ (afterwards.Item x) e).0
      by (afterwards.Pair x) e = batch_ends _
      by (afterwards.PairDequeues x n) e = batch_ends _
