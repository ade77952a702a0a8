-- What a step has to show: that the invariant holds after it, what the others may rely on, and what its own thread knows then.
use Prim.Native.Nat.{ℕ, suc, ◌+◌, ◌<◌}
use mathlib.Core.Path.{◌≡◌}
use mathlib.Core.Bool.{Bool, true, false}
use mathlib.Core.Logic.{◌≢◌}
use lib.ListN.{length}
use Rattle.chain.specs.Positions.{At, In}
use Rattle.cells.specs.declared.Tail.{Tail}
use Rattle.cells.specs.declared.Front.{Front}
use Rattle.cells.specs.declared.Head.TheVariants.{Plain}
use Rattle.found.specs.declared.Found.{Found}
use Rattle.found.specs.declared.Found.TheVariants as found
use Rattle.cells.specs.Ends.{past_tail, same_tail, same_head}
use Rattle.memory.specs.Memory.{Memory, Performed, reads, tail_cas, head_cas}
use Rattle.found.specs.Found.{taken_in}
use Rattle.place.specs.declared.After.{After}
use Rattle.place.specs.declared.After.TheVariants as afterwards
use Rattle.row.specs.declared.Row.{Row}
use Rattle.order.proofs.Ghost.{Ghost}
use Rattle.order.proofs.Shared.{Shared, in_memory, tail_if, head_if}
use Rattle.order.proofs.Invariant.{FrontAt, Inv}
use Rattle.order.proofs.Knows.{OneFurther, Past, request_of, Own, Alone, KnowsAt}
use Rattle.order.proofs.Grows.{Grows, Spares}
use Rattle.order.proofs.TailMoves.{quiet, spared, tail_cas_spares, one_further_inv, one_further_grows}
use Rattle.order.proofs.HeadMoves.{head_cas_inv, head_cas_grows, head_cas_spares}

abbrev pub memory_in : Shared → Memory
memory_in s = record { ends = record { head = s.head; tail = s.tail }; links = s.links; announcements = s.announcements }

-- a batch with an enqueue has been run to its a7
pub record RunToItsEnd (s : Shared) (g : Ghost) (t : ℕ) (r : Row) (from : ℕ) : Type 0 where
  pub announcement : ℕ
  pub installed : In g.installed announcement
  pub own : Own s g t announcement r
  pub past : Past s g announcement
  pub from_is : from ≡ (request_of s announcement).old_head.node

-- a batch of dequeues has taken `taken` nodes behind the node `from`, or found none
pub record Taken (g : Ghost) (r : Row) (from taken : ℕ) : Type 0 where
  pub front : Front
  pub is : FrontAt g front
  pub from_is : from ≡ front.node
  pub enough : front.count.0 + taken < length g.chain
  pub dequeues_only : r.tally.enqueues ≡ 0

-- what a thread knows when its step goes on, or ends its call
abbrev pub KnowsAfter : Shared → Ghost → ℕ → Row → After → Type 0
KnowsAfter s g t r (afterwards.On p) = KnowsAt s g t r p
KnowsAfter s g t r afterwards.Ok = Alone g t
KnowsAfter s g t r afterwards.Empty = Alone g t
KnowsAfter s g t r (afterwards.Item x) = Alone g t × In g.chain x
KnowsAfter s g t r (afterwards.Pair from) = RunToItsEnd s g t r from
KnowsAfter s g t r (afterwards.PairDequeues from taken) = Taken g r from taken

-- thread t, with row r, has made an access and goes on; g' is the ghost after it
pub record Fine (s : Shared) (g : Ghost) (t : ℕ) (r : Row) (x : Performed) (g' : Ghost) (a : After) : Type 0 where
  pub inv : Inv (in_memory s x.memory) g'
  pub grows : Grows s g (in_memory s x.memory) g'
  pub spares : (u : ℕ) → u ≢ t → Spares s g (in_memory s x.memory) g' u
  pub knows : KnowsAfter (in_memory s x.memory) g' t r a

module _ (s : Shared) (g : Ghost) (i : Inv s g) (t : ℕ) (r : Row) where
  -- a step that only reads
  pub reads_only : (y : Found) (a : After) → KnowsAfter s g t r a → Fine s g t r (reads (memory_in s) y) g a
  reads_only y a k = record { inv = i; grows = quiet; spares = λ u ne. spared; knows = k }

  -- a CAS of the tail by one node
  pub tail_by_one : (l : Tail) (x : ℕ) → At g.chain (suc l.count.0) x → OneFurther s g l → (a : After)
      → ((b : Bool) → same_tail s.tail l ≡ b → KnowsAfter (tail_if b s (past_tail l x 1)) g t r a)
      → (b : Bool) → same_tail s.tail l ≡ b → Fine s g t r (tail_cas (memory_in s) (past_tail l x 1) b) g a
  tail_by_one l x p o a k true e = record {
    inv = one_further_inv i l x p true e o;
    grows = one_further_grows i l x p true e;
    spares = λ u ne. tail_cas_spares s g (past_tail l x 1) true u;
    knows = k true e;
  }
  tail_by_one l x p o a k false e = reads_only (found.Taken false) a (k false e)

  -- a CAS of the head from a plain one
  pub head_by : (f x : Front) → FrontAt g x → (after : Bool → After) → ((b : Bool) → KnowsAfter (head_if b s (Plain x)) g t r (after b))
      → (b : Bool) → same_head s.head (Plain f) ≡ b
      → Fine s g t r (head_cas (memory_in s) (Plain x) b) g (after (taken_in (head_cas (memory_in s) (Plain x) b).found))
  head_by f x is after k true e = record {
    inv = head_cas_inv i x is f true e;
    grows = head_cas_grows s g (Plain x) true;
    spares = λ u ne. head_cas_spares s g (Plain x) true u;
    knows = k true;
  }
  head_by f x is after k false e = reads_only (found.Taken false) (after false) (k false)
