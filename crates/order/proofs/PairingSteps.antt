-- The step that ends a batch's call pairs its results without leaving the chain, provided that no more enqueues are paid than the row's tally has.
use Prim.Native.Nat.{ℕ, ◌<◌, ◌≤◌}
use mathlib.Core.Path.{◌≡◌, refl, sym, ap, subst}
use mathlib.Core.List.{List, []}
use native.Mathlib.Omega.{arith}
use Rattle.chain.specs.Positions.{at}
use Rattle.chain.proofs.Positions.{none_is_not_some}
use Rattle.tally.specs.declared.Tally.{Tally}
use Rattle.cells.specs.Links.{Link}
use Rattle.place.specs.declared.After.{After}
use Rattle.place.specs.declared.After.TheVariants as afterwards
use Rattle.row.specs.declared.Row.{Row}
use Rattle.machine.specs.declared.Machine.{Machine}
use Rattle.machine.specs.State.{row_at, memory_of}
use Rattle.machine.specs.Steps.{hop}
use Rattle.order.proofs.Ghost.{Ghost, step_ghost}
use Rattle.machine.specs.Pairing.{batch_cursor}
use Rattle.order.specs.PairingReads.{AllStayOn, turns_from, turns_after}
use Rattle.order.proofs.Shared.{shared_of}
use Rattle.order.proofs.Invariant.{Inv}
use Rattle.order.proofs.Knows.{Tallied}
use Rattle.order.proofs.Fine.{KnowsAfter}
use Rattle.order.proofs.RowPut.{row_moved}
use Rattle.order.proofs.Steps.{Ok}
use Rattle.order.proofs.MachineSteps.{step_fine, still_tallied}
use Rattle.order.proofs.PairingWalks.{enqueues_among, run_batch_stays_on, taken_stay_on, own_tally}

no_turns : (links : List Link) (chain : List ℕ) → AllStayOn links chain []
unfolding at
no_turns links chain j x h = absurd (none_is_not_some refl h)

-- a thread that knows what a step's end leaves it with; r is its row, but for the place
module _ (m : Machine) (g : Ghost) (inv : Inv (shared_of m) g) (i : ℕ) (r : Row) (first : (row_at m i).first ≡ r.first) (tallied : Tallied g i r) where
  known_end_stays_on : (a : After) → KnowsAfter (shared_of m) g i r a → enqueues_among (turns_after m i a) ≤ r.tally.enqueues
      → AllStayOn m.links g.chain (turns_after m i a)
  known_end_stays_on (afterwards.On p) k few = no_turns m.links g.chain
  known_end_stays_on afterwards.Ok k few = no_turns m.links g.chain
  known_end_stays_on afterwards.Empty k few = no_turns m.links g.chain
  known_end_stays_on (afterwards.Item x) k few = no_turns m.links g.chain
  known_end_stays_on (afterwards.Pair from) k few = subst stays (sym first) from_row few
    where
      stays : ℕ → Type 0
      stays n = enqueues_among (turns_from m i (batch_cursor from n)) ≤ r.tally.enqueues → AllStayOn m.links g.chain (turns_from m i (batch_cursor from n))

      from_row : stays r.first
      from_row f =
          let same = own_tally (shared_of m) g inv i k.announcement r k.own tallied in
          run_batch_stays_on (shared_of m) g inv _ m.items _ _ 0 m.futures k (omega (arith, f, ap (λ (x : Tally). x.enqueues) same))
  known_end_stays_on (afterwards.PairDequeues from taken) k few = taken_stay_on (shared_of m) g inv _ m.items _ _ 0 m.futures taken k

module _ (m : Machine) (g : Ghost) (ok : Ok m g) (i : ℕ) (lt : i < 8) where
  abbrev g₁ : Ghost
  g₁ = step_ghost (memory_of m) g (row_at m i).place

  -- the turns of the step's end, if it pairs
  pub pairing_stays_on : enqueues_among (turns_after (hop m i).machine i (hop m i).after) ≤ (row_at m i).tally.enqueues
      → AllStayOn (hop m i).machine.links g₁.chain (turns_after (hop m i).machine i (hop m i).after)
  unfolding hop
  pairing_stays_on few =
      let fine = step_fine m g ok i lt in
      known_end_stays_on (hop m i).machine g₁ fine.inv i (row_at m i) (ap (λ (r : Row). r.first) (row_moved m i ok.rows lt))
      (still_tallied m g ok i lt (row_at m i).place) (hop m i).after fine.knows few
