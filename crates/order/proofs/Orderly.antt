-- What holds of the order of effect while a machine runs. The items enqueued in the order are those of the chain behind the dummy, and as many of
-- them were taken as the abstract head's position says. So running the order leaves the contents, whatever the order is.
use Prim.Native.Nat.{ℕ, zero, suc, ◌+◌, ◌-◌, ◌<◌, ◌≤◌}
use mathlib.Core.Path.{◌≡◌, refl, sym, ap, ◌∙◌}
use mathlib.Core.List.{List, [], ◌∷◌, ◌++◌, map}
use mathlib.Core.Option.{none, some}
use mathlib.Core.Logic.{◌⊎◌}
use native.Mathlib.Omega.{arith}
use lib.ListN.{length, drop, take}
use lib.Seq.{drop-drop}
use Rattle.chain.specs.Positions.{At, In}
use Rattle.tally.specs.Fifo.{Call, enqueue, dequeue, ok, results}
use Rattle.tally.specs.Excess.{enqueued, enqueues}
use Rattle.place.specs.declared.Place.{Place}
use Rattle.place.specs.declared.Place.TheVariants.{Idle, Enqueue, Dequeue, Batch, Dequeues, Running}
use Rattle.place.specs.declared.Resume.{Resume}
use Rattle.place.specs.declared.Resume.TheVariants as resume
use Rattle.place.specs.declared.EnqueueStep.{EnqueueStep}
use Rattle.place.specs.declared.EnqueueStep.TheVariants.{E1, E2, E3, E4, E5}
use Rattle.place.specs.declared.DequeueStep.{DequeueStep}
use Rattle.place.specs.declared.DequeueStep.TheVariants.{D1, D2, D3}
use Rattle.place.specs.declared.Walk.{Walk}
use Rattle.place.specs.declared.DequeuesStep.{DequeuesStep}
use Rattle.place.specs.declared.DequeuesStep.TheVariants.{Q1, Q2, Q3}
use Rattle.row.specs.declared.Row.{Row}
use Rattle.machine.specs.declared.Machine.{Machine}
use Rattle.contents.specs.Contents.{contents}
use Rattle.order.specs.Promises.{request_in}
use Rattle.order.specs.Order.{Called, Effect, Story, of}
use Rattle.order.specs.PlainQueue.{Ran, ran, leaves}
use Rattle.order.proofs.Ghost.{Ghost, Batch as GhostBatch}
use Rattle.order.proofs.Shared.{shared_of}
use Rattle.order.proofs.Invariant.{Inv, Linked, NotLinked}
use Rattle.order.proofs.AbstractHead.{head_position, contents_are_the_items_behind}
use Rattle.order.proofs.PairingResults.{value_of}
use Rattle.order.proofs.Ran.{enqueued_in, taken_in, leaves_is, OnlyEnqueues}

-- the items of the chain's nodes
abbrev pub items_of : Machine → Ghost → List ℕ
items_of m g = map (value_of m.items) g.chain

-- no call of that thread that began at that time stands in the order
abbrev pub NotIn : List Effect → Called → Type 0
NotIn order c = (j : ℕ) (x : Effect) → At order j x → x.call.thread ≡ c.thread → x.call.began ≡ c.began → ⊥

-- calls stand at rising times, none twice, and none before it began
pub record Rows (order : List Effect) (clock : ℕ) : Type 0 where
  pub began : (j : ℕ) (x : Effect) → At order j x → x.call.began ≤ x.place
  pub past : (j : ℕ) (x : Effect) → At order j x → x.place < clock
  pub rising : (j k : ℕ) (x y : Effect) → At order j x → At order k y → j < k → x.place < y.place
  pub once : (j k : ℕ) (x y : Effect) → At order j x → At order k y → x.call.thread ≡ y.call.thread → x.call.began ≡ y.call.began → j ≡ k

-- the calls of the announcements are those of their batches, whose nodes have the items
pub record Announced (m : Machine) (g : Ghost) (s : Story) : Type 0 where
  pub many : length s.announced ≡ length g.batches
  pub calls : (a : ℕ) (b : GhostBatch) (c : Called) → At g.batches a b → At s.announced a c → c.calls ≡ b.calls
  pub items : (a : ℕ) (b : GhostBatch) → At g.batches a b → enqueued b.calls ≡ map (value_of m.items) b.nodes
  pub early : (a : ℕ) (c : Called) → At s.announced a c → c.began < s.clock
  pub apart : (a b : ℕ) (c d : Called) → At s.announced a c → At s.announced b d → c.thread ≡ d.thread → c.began ≡ d.began → a ≡ b

-- the items that an announcement found between its old head and the position where its batch was linked
abbrev pub found : Machine → Ghost → ℕ → ℕ → List ℕ
found m g a p = let h = (request_in m a).old_head.count.0 in take (p - h) (drop (suc h) (items_of m g))

-- a linked batch was run on them, and its items stand in the chain behind that position
pub record RunOn (m : Machine) (g : Ghost) (s : Story) (a p : ℕ) (c : Called) : Type 0 where
  pub items : take (enqueues c.calls) (drop (suc p) (items_of m g)) ≡ enqueued c.calls
  pub place : ℕ
  pub early : place < s.clock
  pub there : In (ran s.order []) (record { effect = record { call = c; place = place }; results = results c.calls (found m g a p) })

pub record Orderly (m : Machine) (g : Ghost) (s : Story) : Type 0 where
  pub chain : enqueued_in s.order ≡ drop 1 (items_of m g)
  pub head : taken_in s.order [] ≡ head_position m g
  pub rows : Rows s.order s.clock
  pub announced : Announced m g s
  pub linked : (a p : ℕ) (c : Called) → Linked g a p → At s.announced a c → RunOn m g s a p c
  pub unlinked : (a : ℕ) (c : Called) → NotLinked g a → At s.announced a c → NotIn s.order c

-- running the order leaves the contents
pub map-drop : (f : ℕ → ℕ) (k : ℕ) (l : List ℕ) → map f (drop k l) ≡ drop k (map f l)
map-drop f zero l = refl
map-drop f (suc k) [] = refl
map-drop f (suc k) (x ∷ l) = map-drop f k l

pub map_part : (f : ℕ → ℕ) (k n : ℕ) (l : List ℕ) → map f (take n (drop k l)) ≡ take n (drop k (map f l))
map_part f k n l = map-take n (drop k l) ∙ ap (take n) (map-drop f k l)
  where
    map-take : (n : ℕ) (l : List ℕ) → map f (take n l) ≡ take n (map f l)
    map-take zero l = refl
    map-take (suc n) [] = refl
    map-take (suc n) (x ∷ l) = ap (λ (r : List ℕ). f x ∷ r) (map-take n l)

module _ (m : Machine) (g : Ghost) (s : Story) (h : Orderly m g s) where
  pub queue_is : leaves s.order [] ≡ drop (suc (head_position m g)) (items_of m g)
  queue_is =
      leaves_is s.order []
      ∙ ap (λ (k : ℕ). drop k (enqueued_in s.order)) h.head
      ∙ ap (drop (head_position m g)) h.chain
      ∙ drop-drop (head_position m g) 1 (items_of m g)
      ∙ ap (λ (k : ℕ). drop k (items_of m g)) (let z : 1 + head_position m g ≡ suc (head_position m g) = omega arith in z)

  pub contents_are_left : Inv (shared_of m) g → leaves s.order [] ≡ contents m
  contents_are_left i = queue_is ∙ sym (map-drop _ (suc (head_position m g)) g.chain) ∙ sym (contents_are_the_items_behind m g i)

-- WHAT A THREAD KNOWS of the order.
-- the call that it is in has not taken effect, and is not one of an announcement
pub record Waits (s : Story) (t : ℕ) : Type 0 where
  pub thread : (of s t).called.thread ≡ t
  pub began : (of s t).called.began < s.clock
  pub not_in : NotIn s.order (of s t).called
  pub not_announced : (a : ℕ) (c : Called) → At s.announced a c → c.thread ≡ t → c.began ≡ (of s t).called.began → ⊥

-- it is a single call
pub record SingleCall (s : Story) (t : ℕ) (c : Call ℕ) : Type 0 where
  pub calls : (of s t).called.calls ≡ c ∷ []
  pub futures : (of s t).called.futures ≡ []
  pub asked : (of s t).called.asked ≡ none

abbrev pub WaitsSingle : Story → ℕ → Call ℕ → Type 0
WaitsSingle s t c = Waits s t × SingleCall s t c

-- it is an enqueue that has taken effect
pub record Enqueued (s : Story) (t : ℕ) : Type 0 where
  pub thread : (of s t).called.thread ≡ t
  pub futures : (of s t).called.futures ≡ []
  pub asked : (of s t).called.asked ≡ none
  pub not_announced : (a : ℕ) (c : Called) → At s.announced a c → c.thread ≡ t → c.began ≡ (of s t).called.began → ⊥
  pub place : ℕ
  pub early : place < s.clock
  pub there : In (ran s.order []) (record { effect = record { call = (of s t).called; place = place }; results = ok ∷ [] })

-- it is the batch of the pending calls, for the result of one of them
pub record BatchCall (s : Story) (t : ℕ) (r : Row) : Type 0 where
  pub thread : (of s t).called.thread ≡ t
  pub calls : (of s t).called.calls ≡ (of s t).calls
  pub futures : (of s t).called.futures ≡ (of s t).futures
  pub asked : (of s t).called.asked ≡ some r.future
  pub asks : In (of s t).futures r.future

-- with announcement b
abbrev pub Announces : Story → ℕ → ℕ → Row → Type 0
Announces s t b r = At s.announced b (of s t).called × BatchCall s t r

-- .. of dequeues only
abbrev pub WaitsDequeues : Story → ℕ → Row → Type 0
WaitsDequeues s t r = Waits s t × BatchCall s t r × (enqueued (of s t).calls ≡ [])

-- A batch of dequeues that found k nodes behind a head that has not moved since: what took effect since its last read only enqueues, and at that
-- read there were k items, or at least k where it needs no more.
pub record Window (s : Story) (t h k : ℕ) : Type 0 where
  pub old : List Effect
  pub new : List Effect
  pub order : s.order ≡ old ++ new
  pub before : (j : ℕ) (x : Effect) → At old j x → x.place < (of s t).last_read
  pub since : (j : ℕ) (x : Effect) → At new j x → (of s t).last_read < x.place
  pub only : OnlyEnqueues new
  pub taken : taken_in old [] ≡ h
  pub enough : h + k ≤ length (enqueued_in old)
  pub stop : (k ≡ length (of s t).calls) ⊎ (length (enqueued_in old) ≡ h + k)

pub record KnowsQ3 (m : Machine) (g : Ghost) (s : Story) (t : ℕ) (w : Walk) : Type 0 where
  pub seen : w.front.count.0 ≤ head_position m g
  pub found : 0 < w.taken
  pub few : w.taken ≤ length (of s t).calls
  pub read : (of s t).called.began ≤ (of s t).last_read
  pub recent : (of s t).last_read < s.clock
  pub window : head_position m g ≡ w.front.count.0 → Window s t w.front.count.0 w.taken

abbrev pub KnowsOfEnqueue : Machine → Story → ℕ → ℕ → EnqueueStep → Type 0
KnowsOfEnqueue m s t n E1 = WaitsSingle s t (enqueue (value_of m.items n))
KnowsOfEnqueue m s t n (E2 l) = WaitsSingle s t (enqueue (value_of m.items n))
KnowsOfEnqueue m s t n (E3 l) = Enqueued s t
KnowsOfEnqueue m s t n (E4 l x) = WaitsSingle s t (enqueue (value_of m.items n))
KnowsOfEnqueue m s t n (E5 l x) = WaitsSingle s t (enqueue (value_of m.items n))

abbrev pub KnowsOfDequeue : Machine → Ghost → Story → ℕ → DequeueStep → Type 0
KnowsOfDequeue m g s t D1 = WaitsSingle s t dequeue
KnowsOfDequeue m g s t (D2 f) = WaitsSingle s t dequeue × (f.count.0 ≤ head_position m g)
KnowsOfDequeue m g s t (D3 f x) = WaitsSingle s t dequeue × (f.count.0 ≤ head_position m g)

abbrev pub KnowsOfDequeues : Machine → Ghost → Story → ℕ → Row → DequeuesStep → Type 0
KnowsOfDequeues m g s t r Q1 = WaitsDequeues s t r
KnowsOfDequeues m g s t r (Q2 w) = WaitsDequeues s t r × (w.front.count.0 ≤ head_position m g) × (w.taken < length (of s t).calls)
KnowsOfDequeues m g s t r (Q3 w) = WaitsDequeues s t r × KnowsQ3 m g s t w

abbrev pub KnowsOfResume : Machine → Story → ℕ → ℕ → Row → Resume → Type 0
KnowsOfResume m s t a r (resume.Enqueue n) = WaitsSingle s t (enqueue (value_of m.items n))
KnowsOfResume m s t a r resume.Dequeue = WaitsSingle s t dequeue
KnowsOfResume m s t a r (resume.Batch b) = Announces s t b r
KnowsOfResume m s t a r resume.Dequeues = WaitsDequeues s t r
KnowsOfResume m s t a r resume.Own = Announces s t a r

abbrev pub KnowsOf : Machine → Ghost → Story → ℕ → Row → Place → Type 0
KnowsOf m g s t r Idle = Unit {0}
KnowsOf m g s t r (Enqueue n x) = KnowsOfEnqueue m s t n x
KnowsOf m g s t r (Dequeue x) = KnowsOfDequeue m g s t x
KnowsOf m g s t r (Batch b x) = Announces s t b r
KnowsOf m g s t r (Dequeues x) = KnowsOfDequeues m g s t r x
KnowsOf m g s t r (Running a x k) = KnowsOfResume m s t a r k

-- WHAT A THREAD RELIES ON of the others: calls that took effect stay and are run as before; the abstract head does not go back, and while it stays
-- where it is with items behind it, the others only enqueue.
pub record Onward (m : Machine) (g : Ghost) (s : Story) (m' : Machine) (g' : Ghost) (s' : Story) (u : ℕ) : Type 0 where
  pub remembered : of s' u ≡ of s u
  pub clock : s.clock ≤ s'.clock
  pub ran : (r : Ran) → In (ran s.order []) r → In (ran s'.order []) r
  pub front : head_position m g ≤ head_position m' g'
  pub values : (n : ℕ) → n < m.used.nodes → value_of m'.items n ≡ value_of m.items n
  pub announced : (a : ℕ) (c : Called) → At s.announced a c → At s'.announced a c
  pub announced_own : (a : ℕ) (c : Called) → At s'.announced a c → c.thread ≡ u → At s.announced a c
  -- a call of its own that has not taken effect still has not, unless it is one of an announcement
  pub not_in : (c : Called) → c.thread ≡ u → ((a : ℕ) (d : Called) → At s.announced a d → d.thread ≡ u → d.began ≡ c.began → ⊥) → NotIn s.order c → NotIn s'.order c
  pub only : head_position m' g' ≡ head_position m g → suc (head_position m g) < length g.chain
      → (more : List Effect) × (s'.order ≡ s.order ++ more) × OnlyEnqueues more × ((j : ℕ) (x : Effect) → At more j x → s.clock ≤ x.place)
