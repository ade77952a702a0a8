-- The positions at which link steps end rise, and no position is as large as the count of nodes: so no count ever wraps.
use Prim.Native.Nat.{ℕ, ◌+◌, ◌^◌, ◌<◌, ◌≤◌}
use mathlib.Core.Path.{◌≡◌}
use native.Mathlib.Omega.{arith}
use native.Mathlib.Decide.{ℕ_discrete, dec_lt}
use lib.ListN.{length}
use Rattle.chain.specs.Positions.{At, In}
use Rattle.chain.proofs.Positions.{one_element, within}
use Rattle.chain.proofs.Pigeons.{at_most}
use Rattle.cells.specs.Ends.{up}
use Rattle.order.proofs.Ghost.{Ghost}
use Rattle.order.proofs.Shared.{Shared}
use Rattle.order.proofs.Invariant.{Linked, InvEnds, Inv}

module _ (g : Ghost) (e : InvEnds g) where
  pub ends_in_order : (i j p q : ℕ) → At g.ends i p → At g.ends j q → i ≤ j → p ≤ q
  ends_in_order i j p q a b h =
      elim (ℕ_discrete i j) [ yes f ↦ (let z = one_element g.ends i j a b f in omega arith) | no ne ↦ (let z = e.rising i j p q a b (omega arith) in omega arith) ]

  pub steps_in_order : (i j p q : ℕ) → At g.ends i p → At g.ends j q → p ≤ q → i ≤ j
  steps_in_order i j p q a b h = elim (dec_lt j i) [ yes f ↦ (let z = e.rising j i q p b a f in omega arith) | no ne ↦ omega arith ]

  pub one_step_a_position : (i j p q : ℕ) → At g.ends i p → At g.ends j q → p ≡ q → i ≡ j
  one_step_a_position i j p q a b h =
      let x = steps_in_order i j p q a b (omega arith) in
      let y = steps_in_order j i q p b a (omega arith) in
      omega arith

  pub linked_in_one_place : {a p q : ℕ} → Linked g a p → Linked g a q → p ≡ q
  linked_in_one_place h k = one_element g.ends h.step k.step h.from k.from (let z = e.linked_once _ _ _ h.is k.is in omega arith)

module _ (s : Shared) (g : Ghost) (i : Inv s g) where
  -- the chain has no more nodes than were handed out
  pub chain_fits : length g.chain ≤ 512
  chain_fits = omega (arith, at_most s.nodes g.chain i.chain.chain.once i.chain.in_use, i.chain.room)

  pub position_small : (k n : ℕ) → At g.chain k n → k < 512
  position_small k n p = omega (arith, within g.chain k p, chain_fits)

  pub node_small : (k n : ℕ) → At g.chain k n → n < 512
  node_small k n p = omega (arith, i.chain.in_use k n p, i.chain.room)

  -- a count goes up without wrapping where it stays a position
  pub goes_up : (k by : ℕ) → k + by < 2 ^ 32 → up k by ≡ k + by
  goes_up k by h = omega arith

  pub installed_small : (a : ℕ) → In g.installed a → a < 64
  installed_small a h = let b = i.head.has_batch a h in omega (arith, within g.batches a b.1, i.batches.counted, i.batches.room)
