-- The abstract head's position, over a change: it stays where the head stays and nothing in it is linked; it moves where d3 or q3 moves a plain head,
-- and where the batch of the announcement in the head is linked. Putting an announcement into the head, or the new head in its place, leaves it.
use Prim.Native.Nat.{ℕ}
use mathlib.Core.Path.{◌≡◌, refl, sym, ap, ◌∙◌}
use mathlib.Core.Logic.{⊎_elim}
use Rattle.cells.specs.declared.Head.{Head}
use Rattle.cells.specs.declared.Head.TheVariants.{Plain, Announced}
use Rattle.cells.specs.declared.Request.{Request}
use Rattle.machine.specs.declared.Machine.{Machine}
use Rattle.order.proofs.Ghost.{Ghost}
use Rattle.order.proofs.Shared.{shared_of}
use Rattle.order.proofs.Invariant.{Inv, NotLinked}
use Rattle.order.proofs.Knows.{goal_from}
use Rattle.order.proofs.Grows.{Grows, linked_stays}
use Rattle.order.proofs.RunReads.{linked_or_not}
use Rattle.order.proofs.AbstractHead.{head_position, linked_somewhere, position_of_plain, position_until_linked, position_once_linked}

module _ (m m' : Machine) (g g' : Ghost) (i : Inv (shared_of m) g) (i' : Inv (shared_of m') g') (grows : Grows (shared_of m) g (shared_of m') g') where
  pub position_stays : m'.ends.head ≡ m.ends.head → ((a : ℕ) → NotLinked g a → NotLinked g' a) → head_position m' g' ≡ head_position m g
  position_stays same unlinked = by m.ends.head refl
    where
      by : (h : Head) → m.ends.head ≡ h → head_position m' g' ≡ head_position m g
      by (Plain f) e = position_of_plain m' g' i' f (same ∙ e) ∙ sym (position_of_plain m g i f e)
      by (Announced a) e =
          let request = grows.request a (i.head.there_installed a e) in
          ⊎_elim {C = head_position m' g' ≡ head_position m g}
          (λ w. let l = linked_somewhere g i.ends a w.0 w.1 in
          position_once_linked m' g' i' a l.0 (same ∙ e) (linked_stays grows l.1) ∙ ap (λ (k : Request). goal_from k l.0) request ∙ sym (position_once_linked m g i a l.0 e l.1))
          (λ n. position_until_linked m' g' i' a (same ∙ e) (unlinked a n) ∙ ap (λ (k : Request). k.old_head.count.0) request ∙ sym (position_until_linked m g i a e n))
          (linked_or_not g.by a)
