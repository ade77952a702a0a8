-- Batch with an enqueue, b1 and b2: b2 lays the own announcement over the head that was read and, where the head is still that, installs it.
use Prim.Native.Nat.{ℕ}
use mathlib.Core.Path.{◌≡◌, refl}
use mathlib.Core.Bool.{Bool, true, false, cond}
use Rattle.cells.specs.declared.Front.{Front}
use Rattle.cells.specs.declared.Head.{Head}
use Rattle.cells.specs.declared.Head.TheVariants.{Plain, Announced}
use Rattle.found.specs.declared.Found.TheVariants as found
use Rattle.cells.specs.Ends.{same_head}
use Rattle.memory.specs.Memory.{Memory, announcement_at, laid_over, with_announcement, head_cas, perform}
use Rattle.found.specs.Found.{taken_in}
use Rattle.place.specs.declared.BatchStep.{BatchStep}
use Rattle.place.specs.declared.BatchStep.TheVariants.{B1, B2}
use Rattle.thread.specs.Batch.{batch_access, batch_after, after_b1, after_b2}
use Rattle.row.specs.declared.Row.{Row}
use Rattle.order.proofs.Ghost.{Ghost, installs, batch_ghost}
use Rattle.order.proofs.Shared.{Shared}
use Rattle.order.proofs.Invariant.{Inv}
use Rattle.order.proofs.SameEnds.{same_head_is_plain}
use Rattle.order.proofs.Knows.{NotAnnounced, KnowsBatch, Own}
use Rattle.order.proofs.Announcing.{laid_inv, laid_grows, laid_spares, laid_not_announced, laid_own, now_installed, taken_inv, taken_grows, taken_spares, taken_own}
use Rattle.order.proofs.Fine.{Fine, memory_in, KnowsAfter, reads_only}

module _ (s : Shared) (g : Ghost) (i : Inv s g) (t : ℕ) (r : Row) where
  after_b1_lem : (b : ℕ) → NotAnnounced s g t b → Own s g t b r → (h : Head) → s.head ≡ h → KnowsAfter s g t r (after_b1 b h)
  after_b1_lem b k own (Plain f) e = ((k, i.head.head_at f e), own)
  after_b1_lem b k own (Announced a) e = (i.head.there_installed a e, (k, own), tt)

  abbrev laid_memory : ℕ → Front → Memory
  laid_memory b f = with_announcement (memory_in s) b (laid_over (announcement_at s.announcements b) f)

  at_b2 : (b : ℕ) (f : Front) → NotAnnounced s g t b → Own s g t b r → (x : Bool) → same_head s.head (Plain f) ≡ x
      → Fine s g t r (head_cas (laid_memory b f) (Announced b) x) (cond x (installs g b) g) (after_b2 b (taken_in (head_cas (laid_memory b f) (Announced b) x).found))
  at_b2 b f k own true e =
      let was = same_head_is_plain s.head f e in
      record {
        inv = taken_inv s g i t b k f was;
        grows = taken_grows s g i t b k f was;
        spares = taken_spares s g i t b k f was;
        knows = (now_installed s g i t b k f, taken_own s g i t b k f was own, tt);
      }
  at_b2 b f k own false e = record {
    inv = laid_inv s g i t b k f;
    grows = laid_grows s g i t b k f;
    spares = laid_spares s g i t b k f;
    knows = (laid_not_announced s g i t b k f, laid_own s g i t b k f own);
  }

  pub batch_step : (b : ℕ) (x : BatchStep) → KnowsBatch s g t b x → Own s g t b r
      → Fine s g t r (perform (memory_in s) (batch_access b x)) (batch_ghost (memory_in s) g b x) (batch_after b x (perform (memory_in s) (batch_access b x)).found)
  unfolding perform batch_access batch_after
  batch_step b B1 k own = reads_only s g i t r (found.Head s.head) (after_b1 b s.head) (after_b1_lem b k own s.head refl)
  batch_step b (B2 f) k own = at_b2 b f k.0 own (same_head s.head (Plain f)) refl
