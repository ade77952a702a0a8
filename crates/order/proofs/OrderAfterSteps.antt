-- Every step keeps the invariant of the order and what the threads know of it, to the step's end.
use Prim.Native.Nat.{ℕ, ◌<◌}
use mathlib.Core.Path.{◌≡◌, refl, sym, ap, ◌∙◌, subst}
use mathlib.Core.Bool.{Bool}
use mathlib.Core.List.{List, [], append-nil}
use mathlib.Core.Logic.{◌≢◌}
use native.Mathlib.Omega.{arith}
use native.Mathlib.Decide.{ℕ_discrete}
use lib.ListN.{set}
use Rattle.chain.specs.Positions.{at}
use Rattle.chain.proofs.Positions.{none_is_not_some}
use Rattle.memory.specs.Memory.{Memory, perform}
use Rattle.place.specs.declared.Place.{Place}
use Rattle.place.specs.declared.Place.TheVariants.{Idle}
use Rattle.place.specs.declared.After.{After}
use Rattle.place.specs.declared.After.TheVariants as afterwards
use Rattle.thread.specs.Calls.{access}
use Rattle.row.specs.declared.Row.{Row}
use Rattle.row.specs.Row.{placed, cleared}
use Rattle.machine.specs.declared.Machine.{Machine}
use Rattle.machine.specs.State.{row_at, memory_of, with_memory}
use Rattle.machine.specs.Pairing.{pairing, settled}
use Rattle.machine.specs.Steps.{accessed, hop, tell, step_of, is_more}
use Rattle.order.specs.Order.{Effect, Remembered, Story, of, step_order, last_read_at, step_taken, stepped_on}
use Rattle.order.proofs.RowPut.{rows_moved, rows_cleared}
use Rattle.order.proofs.Ghost.{Ghost, step_ghost, end_ghost, step_of_ghost}
use Rattle.order.proofs.Shared.{shared_of}
use Rattle.order.proofs.Fine.{Fine, KnowsAfter}
use Rattle.order.proofs.Steps.{request, batches_kept}
use Rattle.order.proofs.MachineSteps.{step_fine}
use Rattle.order.proofs.Reached.{Holds}
use Rattle.order.proofs.Orderly.{Orderly, KnowsOf, Onward}
use Rattle.order.proofs.OrderStays.{knows_of_stays}
use Rattle.order.proofs.Futured.{Futured, OrderAfter}
use Rattle.order.proofs.FuturesKept.{Puts, row_here, row_elsewhere, remembered_here, remembered_elsewhere}
use Rattle.order.proofs.FuturesSteps.{step_futured}
use Rattle.order.proofs.OrderQuiet.{KnowsAll}
use Rattle.order.proofs.OrderFine.{step_story, KnowsOfAfter, OrderFine, of_own}
use Rattle.order.proofs.OrderSteps.{step_order_lem}
use Rattle.order.proofs.OrderBeside.{orderly_beside, onward_beside, knows_of_row}
use Rattle.order.proofs.OrderEnds.{ends_with}

-- what a thread may rely on where nothing happens
onward_still : (m : Machine) (g : Ghost) (s : Story) (u : ℕ) → Onward m g s m g s u
unfolding at
onward_still m g s u = record {
  remembered = refl;
  clock = omega arith;
  ran = λ r p. p;
  front = omega arith;
  values = λ n q. refl;
  announced = λ a c p. p;
  announced_own = λ a c p e. p;
  not_in = λ c e apart n. n;
  only = λ e some. ([], sym (append-nil s.order), (λ j x p. absurd (none_is_not_some refl p)), λ j x p. absurd (none_is_not_some refl p));
}

module _ (m : Machine) (g : Ghost) (s : Story) (holds : Holds m g) (orderly : Orderly m g s) (futured : Futured m g s) (i : ℕ) (lt : i < 8)
    (knows : KnowsAll m g s) where
  abbrev p : Place
  p = (row_at m i).place

  abbrev x : Memory
  x = (perform (memory_of m) (access (row_at m i).place (request (shared_of m) (row_at m i).place))).memory

  abbrev m₀ : Machine
  m₀ = with_memory m x

  abbrev m₁ : Machine
  m₁ = (hop m i).machine

  abbrev g₁ : Ghost
  g₁ = step_ghost (memory_of m) g (row_at m i).place

  abbrev order' : List Effect
  order' = step_order (memory_of m) s i (row_at m i).place

  abbrev s₁ : Story
  s₁ = step_story s i order' (last_read_at s.clock (of s i).last_read (row_at m i).place)

  abbrev s₂ : Story
  s₂ = step_taken m s i

  fine : OrderFine m g s i (row_at m i) m₀ g₁ s₁ (hop m i).after
  unfolding hop
  fine = step_order_lem m g s i lt holds.ok orderly futured (knows i lt)

  chain_fine : Fine (shared_of m) g i (row_at m i) (accessed m (row_at m i)) g₁ (hop m i).after
  chain_fine = step_fine m g holds.ok i lt

  -- the order does not see what the step's end does
  told_orderly : (a : After) → (hop m i).after ≡ a → Orderly (tell m₁ i 1 a).machine (end_ghost g₁ i a) s₂
  unfolding hop settled pairing
  told_orderly (afterwards.On q) e = orderly_beside m₀ g₁ s₁ _ _ _ _ _ fine.orderly
  told_orderly afterwards.Ok e = orderly_beside m₀ g₁ s₁ _ _ _ _ _ fine.orderly
  told_orderly afterwards.Empty e = orderly_beside m₀ g₁ s₁ _ _ _ _ _ fine.orderly
  told_orderly (afterwards.Item n) e = orderly_beside m₀ g₁ s₁ _ _ _ _ _ fine.orderly
  told_orderly (afterwards.Pair from) e = orderly_beside m₀ g₁ s₁ _ _ _ _ _ fine.orderly
  told_orderly (afterwards.PairDequeues from taken) e = orderly_beside m₀ g₁ s₁ _ _ _ _ _ fine.orderly

  told_onward : (m' : Machine) (g' : Ghost) (s' : Story) (u : ℕ) → Onward m' g' s' m₀ g₁ s₁ u → of s₂ u ≡ of s' u → (a : After) → Onward m' g' s' (tell m₁ i 1 a).machine (end_ghost g₁ i a) s₂ u
  unfolding hop settled pairing
  told_onward m' g' s' u on same (afterwards.On q) = onward_beside m₀ g₁ s₁ _ _ _ _ _ m' g' s' u on same
  told_onward m' g' s' u on same afterwards.Ok = onward_beside m₀ g₁ s₁ _ _ _ _ _ m' g' s' u on same
  told_onward m' g' s' u on same afterwards.Empty = onward_beside m₀ g₁ s₁ _ _ _ _ _ m' g' s' u on same
  told_onward m' g' s' u on same (afterwards.Item n) = onward_beside m₀ g₁ s₁ _ _ _ _ _ m' g' s' u on same
  told_onward m' g' s' u on same (afterwards.Pair from) = onward_beside m₀ g₁ s₁ _ _ _ _ _ m' g' s' u on same
  told_onward m' g' s' u on same (afterwards.PairDequeues from taken) = onward_beside m₀ g₁ s₁ _ _ _ _ _ m' g' s' u on same

  -- the row, and what is remembered, after it
  abbrev row_after : After → Row
  row_after (afterwards.On q) = placed (row_at m i) q
  row_after afterwards.Ok = placed (row_at m i) Idle
  row_after afterwards.Empty = placed (row_at m i) Idle
  row_after (afterwards.Item n) = placed (row_at m i) Idle
  row_after (afterwards.Pair from) = cleared (row_at m₁ i)
  row_after (afterwards.PairDequeues from taken) = cleared (row_at m₁ i)

  abbrev remembers : Bool → Remembered
  remembers more = stepped_on (of s i) more (last_read_at s.clock (of s i).last_read (row_at m i).place)

  row_put : (a : After) → (hop m i).after ≡ a → (tell m₁ i 1 a).machine.rows ≡ set m.rows i (row_after a)
  row_put (afterwards.On q) e = rows_moved m i (afterwards.On q) e
  row_put afterwards.Ok e = rows_moved m i afterwards.Ok e
  row_put afterwards.Empty e = rows_moved m i afterwards.Empty e
  row_put (afterwards.Item n) e = rows_moved m i (afterwards.Item n) e
  row_put (afterwards.Pair from) e = rows_cleared m i 1 _
  row_put (afterwards.PairDequeues from taken) e = rows_cleared m i 1 _

  puts : (a : After) → (hop m i).after ≡ a → Puts m s i (tell m₁ i 1 a).machine s₂ (row_after a) (remembers (is_more (step_of m i).answer))
  puts a e = record { small = lt; rows = holds.ok.rows; threads = futured.threads; put_row = row_put a e; put_thread = refl }

  -- another thread
  other_knows : (a : After) → (hop m i).after ≡ a → (u : ℕ) → u < 8 → u ≢ i
      → KnowsOf (tell m₁ i 1 a).machine (end_ghost g₁ i a) s₂ u (row_at (tell m₁ i 1 a).machine u) (row_at (tell m₁ i 1 a).machine u).place
  other_knows a e u small ne =
      subst (λ (y : Row). KnowsOf (tell m₁ i 1 a).machine (end_ghost g₁ i a) s₂ u y y.place) (sym (row_elsewhere (puts a e) u ne))
      (knows_of_stays m g s holds.ok.inv (tell m₁ i 1 a).machine (end_ghost g₁ i a) s₂ u (told_onward m g s u (fine.onward u ne) (remembered_elsewhere (puts a e) u ne) a)
      (row_at m u) (row_at m u).place (holds.ok.knows u small).place (knows u small))

  -- the thread itself goes on
  goes_on : (q : Place) → (hop m i).after ≡ afterwards.On q → KnowsOf m₁ g₁ s₂ i (placed (row_at m i) q) q
  goes_on q e =
      let same : of s₂ i ≡ of s₁ i =
      remembered_here (puts (afterwards.On q) e) ∙ ap (λ (y : After). remembers (is_more (tell m₁ i 1 y).answer)) e ∙ sym (of_own s i order' _ (omega (arith, futured.threads))) in
      knows_of_row m₁ g₁ s₂ i (row_at m i) (placed (row_at m i) q) refl q
      (knows_of_stays m₀ g₁ s₁ chain_fine.inv m₁ g₁ s₂ i (told_onward m₀ g₁ s₁ i (onward_still m₀ g₁ s₁ i) same (afterwards.On q)) (row_at m i) q
      (subst (KnowsAfter (shared_of m₀) g₁ i (row_at m i)) e chain_fine.knows) (subst (KnowsOfAfter m₀ g₁ s s₁ i (row_at m i)) e fine.knows))

  abbrev Own : (a : After) → Row → Type 0
  Own a y = KnowsOf (tell m₁ i 1 a).machine (end_ghost g₁ i a) s₂ i y y.place

  own_knows : (a : After) → (hop m i).after ≡ a → Own a (row_at (tell m₁ i 1 a).machine i)
  own_knows (afterwards.On q) e = subst (Own (afterwards.On q)) (sym (row_here (puts (afterwards.On q) e))) (goes_on q e)
  own_knows afterwards.Ok e = subst (Own afterwards.Ok) (sym (row_here (puts afterwards.Ok e))) tt
  own_knows afterwards.Empty e = subst (Own afterwards.Empty) (sym (row_here (puts afterwards.Empty e))) tt
  own_knows (afterwards.Item n) e = subst (Own (afterwards.Item n)) (sym (row_here (puts (afterwards.Item n) e))) tt
  own_knows (afterwards.Pair from) e = subst (Own (afterwards.Pair from)) (sym (row_here (puts (afterwards.Pair from) e))) tt
  own_knows (afterwards.PairDequeues from taken) e = subst (Own (afterwards.PairDequeues from taken)) (sym (row_here (puts (afterwards.PairDequeues from taken) e))) tt

  pub step_effect : OrderAfter m s (step_order (memory_of m) s i (row_at m i).place)
  step_effect = fine.effect

  pub step_orderly : Orderly (step_of m i).machine (step_of_ghost m g i) (step_taken m s i)
  step_orderly = told_orderly (hop m i).after refl

  pub step_knows : KnowsAll (step_of m i).machine (step_of_ghost m g i) (step_taken m s i)
  step_knows t small =
      elim (ℕ_discrete t i) [
        | yes e ↦ subst (λ (u : ℕ). KnowsOf (step_of m i).machine (step_of_ghost m g i) s₂ u (row_at (step_of m i).machine u) (row_at (step_of m i).machine u).place) (sym e) (own_knows (hop m i).after refl)
        | no ne ↦ other_knows (hop m i).after refl t small ne
      ]

  -- the step's end does not link
  links_same : (a : After) → (end_ghost g₁ i a).by ≡ g₁.by
  links_same (afterwards.On q) = refl
  links_same afterwards.Ok = refl
  links_same afterwards.Empty = refl
  links_same (afterwards.Item n) = refl
  links_same (afterwards.Pair from) = refl
  links_same (afterwards.PairDequeues from taken) = refl

  memory_left : m₁.links ≡ x.links
  unfolding hop
  memory_left = refl

  pub step_futures : Futured (step_of m i).machine (step_of_ghost m g i) (step_taken m s i)
  step_futures =
      step_futured m g s holds futured i lt fine.effect
      (ends_with m g s i lt holds orderly futured x memory_left chain_fine.inv s₁ (step_of_ghost m g i) (links_same (hop m i).after) (batches_kept (memory_of m) g (row_at m i).place) (omega arith) (hop m i).after refl fine.knows)
