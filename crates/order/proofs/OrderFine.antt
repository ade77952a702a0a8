-- What a step has to show of the order, and the steps by which nothing takes effect.
use Prim.Native.Nat.{ℕ, suc, ◌+◌, ◌<◌, ◌≤◌}
use mathlib.Core.Path.{◌≡◌, refl, sym, ap, ap₂, ◌∙◌}
use mathlib.Core.Bool.{Bool, true, false}
use mathlib.Core.List.{List, [], ◌∷◌, map, append-nil}
use mathlib.Core.Option.{none}
use mathlib.Core.Logic.{inl, ◌≢◌}
use native.Mathlib.Omega.{arith}
use lib.ListN.{length, set, take, drop}
use lib.Seq.{get_or-set_same, get_or-set_other}
use Rattle.chain.specs.Positions.{At, In}
use Rattle.tally.specs.Fifo.{Result, ok, item, empty, results}
use Rattle.cells.specs.declared.Tail.{Tail}
use Rattle.memory.specs.Memory.{Memory, tail_cas}
use Rattle.place.specs.declared.Place.TheVariants.{Idle}
use Rattle.place.specs.declared.After.{After}
use Rattle.place.specs.declared.After.TheVariants as afterwards
use Rattle.row.specs.declared.Row.{Row}
use Rattle.answer.specs.declared.Item.{Item}
use Rattle.machine.specs.declared.Machine.{Machine}
use Rattle.machine.specs.State.{row_at, memory_of, with_memory}
use Rattle.order.specs.Promises.{request_in}
use Rattle.order.specs.Order.{Called, Effect, Story, nothing_remembered, of, stepped_on}
use Rattle.order.specs.PlainQueue.{ran}
use Rattle.order.proofs.Ghost.{Ghost}
use Rattle.order.proofs.Shared.{shared_of, in_memory}
use Rattle.order.proofs.Invariant.{Inv, Linked}
use Rattle.order.proofs.Grows.{Grows}
use Rattle.order.proofs.TailMoves.{quiet}
use Rattle.order.proofs.AbstractHead.{head_position}
use Rattle.order.proofs.HeadPositions.{position_stays}
use Rattle.order.proofs.PairingResults.{value_of}
use Rattle.order.proofs.Orderly.{items_of, RunOn, Orderly, Announces, WaitsDequeues, KnowsOf, Onward}
use Rattle.order.proofs.OrderKept.{Leaves, kept_quiet, onward_quiet}
use Rattle.order.proofs.Futured.{OrderAfter}

-- the story after a step of thread i, but for what its end clears and gives
abbrev pub step_story : Story → ℕ → List Effect → ℕ → Story
step_story s i order read = record {
  clock = suc s.clock;
  order = order;
  given = s.given;
  threads = set s.threads i (stepped_on (of s i) true read);
  started = s.started;
  announced = s.announced;
}

-- a single call has ended, with a result that is the run's
pub record SingleEnded (s : Story) (i : ℕ) (order' : List Effect) (r : Result ℕ) : Type 0 where
  pub thread : (of s i).called.thread ≡ i
  pub futures : (of s i).called.futures ≡ []
  pub asked : (of s i).called.asked ≡ none
  pub not_announced : (a : ℕ) (c : Called) → At s.announced a c → c.thread ≡ i → c.began ≡ (of s i).called.began → ⊥
  pub place : ℕ
  pub early : place ≤ s.clock
  pub there : In (ran order' []) (record { effect = record { call = (of s i).called; place = place }; results = r ∷ [] })

-- a batch with an enqueue has ended: it was linked behind position p, and is paired from its old head
pub record BatchRan (m' : Machine) (g' : Ghost) (s s' : Story) (i : ℕ) (r : Row) (from : ℕ) : Type 0 where
  pub announcement : ℕ
  pub call : Announces s i announcement r
  pub position : ℕ
  pub linked : Linked g' announcement position
  pub run : RunOn m' g' s' announcement position (of s i).called
  pub from_is : from ≡ (request_in m' announcement).old_head.node
  pub first : (request_in m' announcement).first ≡ r.first
  pub last : (request_in m' announcement).last ≡ r.last

-- a batch of dequeues has ended: it was run on the nodes that it took behind position h
pub record DequeuesRan (m' : Machine) (g' : Ghost) (s s' : Story) (i : ℕ) (r : Row) (from taken : ℕ) : Type 0 where
  pub call : WaitsDequeues s i r
  pub position : ℕ
  pub from_is : At g'.chain position from
  pub enough : position + taken < length g'.chain
  pub place : ℕ
  pub early : place ≤ s.clock
  pub there : In (ran s'.order []) (record { effect = record { call = (of s i).called; place = place }; results = results (of s i).called.calls (take taken (drop (suc position) (items_of m' g'))) })

abbrev pub KnowsOfAfter : Machine → Ghost → Story → Story → ℕ → Row → After → Type 0
KnowsOfAfter m' g' s s' i r (afterwards.On p) = KnowsOf m' g' s' i r p
KnowsOfAfter m' g' s s' i r afterwards.Ok = SingleEnded s i s'.order ok
KnowsOfAfter m' g' s s' i r afterwards.Empty = SingleEnded s i s'.order empty
KnowsOfAfter m' g' s s' i r (afterwards.Item x) = SingleEnded s i s'.order (item (value_of m'.items x))
KnowsOfAfter m' g' s s' i r (afterwards.Pair from) = BatchRan m' g' s s' i r from
KnowsOfAfter m' g' s s' i r (afterwards.PairDequeues from taken) = DequeuesRan m' g' s s' i r from taken

pub record OrderFine (m : Machine) (g : Ghost) (s : Story) (i : ℕ) (r : Row) (m' : Machine) (g' : Ghost) (s' : Story) (a : After) : Type 0 where
  pub orderly : Orderly m' g' s'
  pub onward : (u : ℕ) → u ≢ i → Onward m g s m' g' s' u
  pub effect : OrderAfter m s s'.order
  pub knows : KnowsOfAfter m' g' s s' i r a

-- what is remembered of threads
module _ (s : Story) (i : ℕ) (order : List Effect) (read : ℕ) where
  pub of_other : (u : ℕ) → u ≢ i → of (step_story s i order read) u ≡ of s u
  of_other u ne = get_or-set_other s.threads i u _ nothing_remembered ne

  pub of_own : i < length s.threads → of (step_story s i order read) i ≡ stepped_on (of s i) true read
  of_own lt = get_or-set_same s.threads i _ nothing_remembered lt

-- A step by which nothing takes effect and the abstract head stays.
module _ (m : Machine) (g : Ghost) (s : Story) (inv : Inv (shared_of m) g) (h : Orderly m g s) (i : ℕ) (lt : i < length s.threads)
    (m' : Machine) (g' : Ghost) (inv' : Inv (shared_of m') g') (grows : Grows (shared_of m) g (shared_of m') g')
    (items : m'.items ≡ m.items) (chain : g'.chain ≡ g.chain) (batches : g'.batches ≡ g.batches)
    (linked : (a p : ℕ) → Linked g' a p → Linked g a p) (position : head_position m' g' ≡ head_position m g) (read : ℕ) where
  abbrev s' : Story
  s' = step_story s i s.order read

  same_items : items_of m' g' ≡ items_of m g
  same_items = ap₂ (λ (f : List Item) (c : List ℕ). map (value_of f) c) items chain

  pub quiet_leaves : Leaves m g s m' g' s'
  quiet_leaves = record {
    grows = grows;
    more = [];
    items = same_items ∙ sym (append-nil (items_of m g));
    batch_items = λ a b p. ap (λ (f : List Item). map (value_of f) b.nodes) items;
    clock = omega arith;
    ran = λ r p. p;
  }

  pub quiet_orderly : Orderly m' g' s'
  quiet_orderly = kept_quiet m g s inv h m' g' s' quiet_leaves batches refl refl same_items position linked

  onward_as : (u : ℕ) → of s' u ≡ of s u → Onward m g s m' g' s' u
  onward_as u remembered =
      onward_quiet m g s inv h m' g' s' quiet_leaves u remembered refl position (λ n q. ap (λ (f : List Item). value_of f n) items) (λ a c p. p) (λ a c p e. p)

  -- the thread itself may rely on it too, unless it has read at q2
  pub quiet_own : read ≡ (of s i).last_read → Onward m g s m' g' s' i
  quiet_own e = onward_as i (of_own s i s.order read lt ∙ ap (stepped_on (of s i) true) e)

  pub quiet_step : (r : Row) (a : After) → KnowsOfAfter m' g' s s' i r a → OrderFine m g s i r m' g' s' a
  quiet_step r a k = record { orderly = quiet_orderly; onward = λ u ne. onward_as u (of_other s i s.order read u ne); effect = inl refl; knows = k }

-- where a thread takes its step
pub record Here (m : Machine) (g : Ghost) (s : Story) (i : ℕ) : Type 0 where
  pub inv : Inv (shared_of m) g
  pub orderly : Orderly m g s
  pub room : i < length s.threads
  pub small : i < 8
  pub busy : (row_at m i).place ≢ Idle

-- the record is the same, and so is the head
module _ (m : Machine) (g : Ghost) (s : Story) (i : ℕ) (r : Row) (here : Here m g s i) where
  module _ (x : Memory) (inv' : Inv (in_memory (shared_of m) x) g) (grows : Grows (shared_of m) g (in_memory (shared_of m) x) g) (head : x.ends.head ≡ m.ends.head) where
    position_kept : head_position (with_memory m x) g ≡ head_position m g
    position_kept = position_stays m (with_memory m x) g g here.inv inv' grows head (λ a n. n)

    pub quietly : (a : After)
        → (Onward m g s (with_memory m x) g (step_story s i s.order (of s i).last_read) i → KnowsOfAfter (with_memory m x) g s (step_story s i s.order (of s i).last_read) i r a)
        → OrderFine m g s i r (with_memory m x) g (step_story s i s.order (of s i).last_read) a
    quietly a k =
        quiet_step m g s here.inv here.orderly i here.room (with_memory m x) g inv' grows refl refl refl (λ b p l. l) position_kept (of s i).last_read r a
        (k (quiet_own m g s here.inv here.orderly i here.room (with_memory m x) g inv' grows refl refl refl (λ b p l. l) position_kept (of s i).last_read refl))

  -- a step that only reads
  pub only_reads : (a : After)
      → (Onward m g s (with_memory m (memory_of m)) g (step_story s i s.order (of s i).last_read) i → KnowsOfAfter (with_memory m (memory_of m)) g s (step_story s i s.order (of s i).last_read) i r a)
      → OrderFine m g s i r (with_memory m (memory_of m)) g (step_story s i s.order (of s i).last_read) a
  only_reads = quietly (memory_of m) here.inv quiet refl

  -- a CAS of the tail
  pub moves_the_tail : (to : Tail) (b : Bool) (a : After)
      → Inv (in_memory (shared_of m) (tail_cas (memory_of m) to b).memory) g → Grows (shared_of m) g (in_memory (shared_of m) (tail_cas (memory_of m) to b).memory) g
      → (Onward m g s (with_memory m (tail_cas (memory_of m) to b).memory) g (step_story s i s.order (of s i).last_read) i
      → KnowsOfAfter (with_memory m (tail_cas (memory_of m) to b).memory) g s (step_story s i s.order (of s i).last_read) i r a)
      → OrderFine m g s i r (with_memory m (tail_cas (memory_of m) to b).memory) g (step_story s i s.order (of s i).last_read) a
  moves_the_tail to true a inv' grows k = quietly _ inv' grows refl a k
  moves_the_tail to false a inv' grows k = quietly _ inv' grows refl a k
