-- What a thread knows, by its place: of its own nodes and announcement, which nobody else touches, and of what it has read, which stays true.
use Rattle.std.specs.Prelude.{None, Some}
use Prim.Native.Nat.{ℕ, suc, ◌+◌, ◌-◌, ◌<◌, ◌≤◌}
use mathlib.Core.Path.{◌≡◌}
use mathlib.Core.List.{List, []}
use mathlib.Core.Option.{none}
use mathlib.Core.Logic.{◌⊎◌}
use lib.ListN.{length}
use Rattle.chain.specs.Positions.{At, In}
use Rattle.chain.specs.Chain.{Chain}
use Rattle.tally.specs.Tally.{tally_of, successful_on}
use Rattle.cells.specs.declared.Tail.{Tail}
use Rattle.cells.specs.declared.Request.{Request}
use Rattle.memory.specs.Memory.{announcement_at}
use Rattle.place.specs.declared.Place.{Place}
use Rattle.place.specs.declared.Place.TheVariants.{Idle, Enqueue, Dequeue, Batch, Dequeues, Running}
use Rattle.place.specs.declared.Resume.{Resume}
use Rattle.place.specs.declared.Resume.TheVariants as resume
use Rattle.place.specs.declared.EnqueueStep.{EnqueueStep}
use Rattle.place.specs.declared.EnqueueStep.TheVariants.{E1, E2, E3, E4, E5}
use Rattle.place.specs.declared.DequeueStep.{DequeueStep}
use Rattle.place.specs.declared.DequeueStep.TheVariants.{D1, D2, D3}
use Rattle.place.specs.declared.BatchStep.{BatchStep}
use Rattle.place.specs.declared.BatchStep.TheVariants.{B1, B2}
use Rattle.place.specs.declared.Walk.{Walk}
use Rattle.place.specs.declared.DequeuesStep.{DequeuesStep}
use Rattle.place.specs.declared.DequeuesStep.TheVariants.{Q1, Q2, Q3}
use Rattle.place.specs.declared.RunStep.{RunStep}
use Rattle.place.specs.declared.RunStep.TheVariants.{A1, A2, A3, A4, A5, A6, A7, A8}
use Rattle.running.specs.Running.{size_at}
use Rattle.row.specs.declared.Row.{Row}
use Rattle.order.proofs.Ghost as ghost
use Rattle.order.proofs.Ghost.{Ghost, pending_of}
use Rattle.order.proofs.Shared.{Shared, next}
use Rattle.order.proofs.Invariant.{TailAt, FrontAt, Linked}

-- node n was handed out to thread t; it is in no chain, and in no batch that was installed
pub record Mine (g : Ghost) (t n : ℕ) : Type 0 where
  pub owner : At g.node_owners n t
  pub not_in_chain : In g.chain n → ⊥
  pub not_in_batch : (a : ℕ) (b : ghost.Batch) → In g.installed a → At g.batches a b → In b.nodes n → ⊥

-- .. and its link is none: the node of an Enqueue before its e2 is taken
pub record Single (s : Shared) (g : Ghost) (t n : ℕ) : Type 0 where
  pub mine : Mine g t n
  pub no_link : next s.links n ≡ none

-- nodes of a pending list: a chain of the thread's own
pub record Private (s : Shared) (g : Ghost) (t : ℕ) (l : List ℕ) : Type 0 where
  pub mine : (k n : ℕ) → At l k n → Mine g t n
  pub chain : Chain (next s.links) l

-- announcement b was handed out to thread t and is not installed
pub record MineToo (g : Ghost) (t b : ℕ) : Type 0 where
  pub owner : At g.announcement_owners b t
  pub not_installed : In g.installed b → ⊥

pub record NotAnnounced (s : Shared) (g : Ghost) (t b : ℕ) : Type 0 where
  pub mine : MineToo g t b
  pub unset : (announcement_at s.announcements b).old_tail ≡ None
  pub batch : ghost.Batch
  pub is : At g.batches b batch
  pub private : Private s g t batch.nodes

-- a tail that was read: it ended a link step, and the tail has not gone back since
pub record TailRead (s : Shared) (g : Ghost) (t : Tail) : Type 0 where
  pub is : TailAt g t
  pub step : ℕ
  pub ends : At g.ends step t.count.0
  pub old : t.count.0 ≤ s.tail.count.0

-- the link step behind position p was a single enqueue's
pub record SingleBehind (g : Ghost) (p : ℕ) : Type 0 where
  pub step : ℕ
  pub from : At g.ends step p
  pub is : At g.by (suc step) none
  pub to : At g.ends (suc step) (suc p)

-- moving the tail from t by one node goes over one link step, or will not be taken
abbrev pub OneFurther : Shared → Ghost → Tail → Type 0
OneFurther s g t = SingleBehind g t.count.0 ⊎ (t.count.0 < s.tail.count.0)

-- the old tail is o, and the tail is past it
pub record Past (s : Shared) (g : Ghost) (a : ℕ) : Type 0 where
  pub old : Tail
  pub is : (announcement_at s.announcements a).old_tail ≡ Some old
  pub past : old.count.0 < s.tail.count.0

-- the successful dequeues, and the position of the head that a7 will set, for a batch linked behind position p; and for an old tail o
abbrev pub goal_from : Request → ℕ → ℕ
goal_from k p = k.old_head.count.0 + successful_on k.tally (p - k.old_head.count.0)

abbrev pub rises_by : Request → Tail → ℕ
rises_by k o = successful_on k.tally (size_at k o)

abbrev pub goal : Request → Tail → ℕ
goal k o = goal_from k o.count.0

abbrev pub request_of : Shared → ℕ → Request
request_of s a = (announcement_at s.announcements a).request

-- a run of announcement a
abbrev pub KnowsRun : Shared → Ghost → ℕ → RunStep → Type 0
KnowsRun s g a A1 = Unit {0}
KnowsRun s g a (A2 t) = TailRead s g t × ((p : ℕ) → Linked g a p → (announcement_at s.announcements a).old_tail ≡ None → t.count.0 ≤ p)
KnowsRun s g a (A3 t) = TailRead s g t × ((p : ℕ) → Linked g a p → t.count.0 ≤ p)
KnowsRun s g a (A4 t) = Linked g a t.count.0 × TailAt g t
KnowsRun s g a (A5 o) = (announcement_at s.announcements a).old_tail ≡ Some o
KnowsRun s g a (A6 rise x left) = (p : Past s g a) × (i : ℕ) × At g.chain i x × (0 < left) × (i + left ≡ goal (request_of s a) p.old) × (rise ≡ rises_by (request_of s a) p.old)
KnowsRun s g a (A7 rise x) = (p : Past s g a) × At g.chain (goal (request_of s a) p.old) x × (rise ≡ rises_by (request_of s a) p.old)
KnowsRun s g a (A8 t x) = TailRead s g t × At g.chain (suc t.count.0) x × OneFurther s g t

-- the nodes of a thread's pending enqueues, as its row has them
pub record Pending (s : Shared) (g : Ghost) (t : ℕ) (r : Row) : Type 0 where
  pub nodes : List ℕ
  pub private : Private s g t nodes
  pub many : length nodes ≡ r.tally.enqueues
  pub first_is : (n : ℕ) → At nodes 0 n → n ≡ r.first
  pub last_is : (k n : ℕ) → suc k ≡ length nodes → At nodes k n → n ≡ r.last

-- a row's tally is that of the thread's pending calls, which are not more than 32
pub record Tallied (g : Ghost) (t : ℕ) (r : Row) : Type 0 where
  pub tally : r.tally ≡ tally_of (pending_of g t)
  pub count : r.count ≡ length (pending_of g t)
  pub few : length (pending_of g t) ≤ 32

-- the announcement asks for what the row has pending
pub record Own (s : Shared) (g : Ghost) (t b : ℕ) (r : Row) : Type 0 where
  pub first : (request_of s b).first ≡ r.first
  pub last : (request_of s b).last ≡ r.last
  pub batch : ghost.Batch
  pub is : At g.batches b batch
  pub calls : batch.calls ≡ pending_of g t

-- nothing is pending: a single call
abbrev pub Alone : Ghost → ℕ → Type 0
Alone g t = pending_of g t ≡ []

abbrev pub KnowsEnqueue : Shared → Ghost → ℕ → ℕ → EnqueueStep → Type 0
KnowsEnqueue s g t n E1 = Single s g t n
KnowsEnqueue s g t n (E2 l) = Single s g t n × TailRead s g l
KnowsEnqueue s g t n (E3 l) = TailRead s g l × At g.chain (suc l.count.0) n × SingleBehind g l.count.0
KnowsEnqueue s g t n (E4 l x) = Single s g t n × TailRead s g l × At g.chain (suc l.count.0) x
KnowsEnqueue s g t n (E5 l x) = Single s g t n × TailRead s g l × At g.chain (suc l.count.0) x × OneFurther s g l

abbrev pub KnowsDequeue : Ghost → DequeueStep → Type 0
KnowsDequeue g D1 = Unit {0}
KnowsDequeue g (D2 f) = FrontAt g f
KnowsDequeue g (D3 f x) = FrontAt g f × At g.chain (suc f.count.0) x

abbrev pub KnowsBatch : Shared → Ghost → ℕ → ℕ → BatchStep → Type 0
KnowsBatch s g t b B1 = NotAnnounced s g t b
KnowsBatch s g t b (B2 f) = NotAnnounced s g t b × FrontAt g f

-- the walk of a batch of dequeues: it is as many nodes past its front as it has taken
abbrev pub Walks : Ghost → Walk → Type 0
Walks g w = FrontAt g w.front × At g.chain (w.front.count.0 + w.taken) w.at

abbrev pub KnowsDequeues : Ghost → DequeuesStep → Type 0
KnowsDequeues g Q1 = Unit {0}
KnowsDequeues g (Q2 w) = Walks g w
KnowsDequeues g (Q3 w) = Walks g w

-- the call that a run goes back to
abbrev pub KnowsResume : Shared → Ghost → ℕ → ℕ → Row → Resume → Type 0
KnowsResume s g t a r (resume.Enqueue n) = Single s g t n × Alone g t
KnowsResume s g t a r resume.Dequeue = Alone g t
KnowsResume s g t a r (resume.Batch b) = NotAnnounced s g t b × Own s g t b r
KnowsResume s g t a r resume.Dequeues = r.tally.enqueues ≡ 0
KnowsResume s g t a r resume.Own = Own s g t a r

abbrev pub KnowsAt : Shared → Ghost → ℕ → Row → Place → Type 0
KnowsAt s g t r Idle = Pending s g t r
KnowsAt s g t r (Enqueue n x) = KnowsEnqueue s g t n x × Alone g t
KnowsAt s g t r (Dequeue x) = KnowsDequeue g x × Alone g t
KnowsAt s g t r (Batch b x) = KnowsBatch s g t b x × Own s g t b r
KnowsAt s g t r (Dequeues x) = KnowsDequeues g x × (r.tally.enqueues ≡ 0)
KnowsAt s g t r (Running a x k) = In g.installed a × KnowsResume s g t a r k × KnowsRun s g a x

pub record Knows (s : Shared) (g : Ghost) (t : ℕ) (r : Row) : Type 0 where
  pub tallied : Tallied g t r
  pub place : KnowsAt s g t r r.place
