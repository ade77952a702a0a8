-- Demand 3, first half: what is promised of the queue after any list of entries from a fresh machine (a refused entry changes nothing):
-- "the linked nodes form one chain from the first dummy, no loop, each node once; the tail is at the last node or one link step behind;
-- no walk runs off the end." proofs/Promises.antt has the theorem, the_queue_is_a_queue.
use Rattle.std.specs.Prelude.{ℕ, suc, ◌<◌, ◌≤◌, ◌≡◌, true, List, [], ◌∷◌, ◌++◌, ◌⊎◌, length, None, Some}
use Rattle.std.proofs.Math.Option.{some}
use Rattle.chain.specs.Positions.{At, In, Once}
use Rattle.chain.specs.Chain.{following}
use Rattle.cells.specs.Links.{Link}
use Rattle.cells.specs.declared.Tail.{Tail}
use Rattle.cells.specs.declared.Head.TheVariants.{Announced}
use Rattle.cells.specs.declared.Request.{Request}
use Rattle.memory.specs.Memory.{Memory, link_at, announcement_at}
use Rattle.place.specs.declared.Place.{Place}
use Rattle.place.specs.declared.Place.TheVariants.{Idle, Enqueue, Dequeue, Batch, Dequeues, Running}
use Rattle.place.specs.declared.Resume.{Resume}
use Rattle.place.specs.declared.EnqueueStep.{EnqueueStep}
use Rattle.place.specs.declared.EnqueueStep.TheVariants.{E1, E2, E3, E4, E5}
use Rattle.place.specs.declared.DequeuesStep.{DequeuesStep}
use Rattle.place.specs.declared.DequeuesStep.TheVariants.{Q1, Q2, Q3}
use Rattle.place.specs.declared.RunStep.{RunStep}
use Rattle.place.specs.declared.RunStep.TheVariants.{A1, A2, A3, A4, A5, A6, A7, A8}
use Rattle.running.specs.Running.{walk_to}
use Rattle.entry.specs.declared.Entry.{Entry}
use Rattle.machine.specs.declared.Machine.{Machine}
use Rattle.machine.specs.State.{row_at, memory_of}
use Rattle.machine.specs.Steps.{hop}
use Rattle.contents.specs.Contents.{walked, leads_to, abstract_head, chain_after, front_of}
use Rattle.order.specs.Links.{next, nodes_from, if_none}
use Rattle.order.specs.Events.{Event, EnqueueStarts, DequeueStarts, EnqueueDeferred, DequeueDeferred, BatchSetOff, FutureAsked, StepTaken, kept_beside, events}
use Rattle.order.specs.Fits.{Fits}
use Rattle.order.specs.PairingReads.{AllStayOn, turns_after}

-- LINK STEPS. A link step is an e2 or an a3 that is taken. It is told by the nodes that it links: e2 the node of its call, a3 the nodes of its
-- batch, as many as the batch has enqueues, from the first along the links.
abbrev pub batch_nodes : Memory → Request → List ℕ
batch_nodes m k = nodes_from m.links k.first k.tally.enqueues

abbrev pub enqueue_links : Memory → ℕ → EnqueueStep → List (List ℕ)
enqueue_links m n E1 = []
enqueue_links m n (E2 t) = if_none (link_at m.links t.node) ((n ∷ []) ∷ []) []
enqueue_links m n (E3 t) = []
enqueue_links m n (E4 t x) = []
enqueue_links m n (E5 t x) = []

abbrev pub run_links : Memory → ℕ → RunStep → List (List ℕ)
run_links m a A1 = []
run_links m a (A2 t) = []
run_links m a (A3 t) = if_none (link_at m.links t.node) (batch_nodes m (announcement_at m.announcements a).request ∷ []) []
run_links m a (A4 t) = []
run_links m a (A5 o) = []
run_links m a (A6 rise x left) = []
run_links m a (A7 rise x) = []
run_links m a (A8 t x) = []

-- the link step, if it is one, of a thread that is at a place
abbrev pub step_links : Memory → Place → List (List ℕ)
step_links m Idle = []
step_links m (Enqueue n x) = enqueue_links m n x
step_links m (Dequeue x) = []
step_links m (Batch b x) = []
step_links m (Dequeues x) = []
step_links m (Running a x k) = run_links m a x

-- of an event: only a step can be a link step
abbrev pub event_links : Machine → Event → List (List ℕ)
event_links m (EnqueueStarts i v) = []
event_links m (DequeueStarts i) = []
event_links m (EnqueueDeferred i v) = []
event_links m (DequeueDeferred i) = []
event_links m (BatchSetOff i f) = []
event_links m (FutureAsked i f) = []
event_links m (StepTaken i) = step_links (memory_of m) (row_at m i).place

-- with those taken before it
abbrev pub also_links : Machine → List (List ℕ) → Event → List (List ℕ)
also_links m steps x = steps ++ event_links m x

-- the link steps of a list of entries, in the order in which they were taken
abbrev pub link_steps : Machine → List Entry → List (List ℕ)
link_steps m es = kept_beside also_links m [] (events m es)

unfoldable pub together : List (List ℕ) → List ℕ
together [] = []
together (l ∷ steps) = l ++ together steps

-- the linked nodes: the first dummy, and behind it those of the link steps
abbrev pub linked : List (List ℕ) → List ℕ
linked steps = 0 ∷ together steps

-- THE PROMISES, of a machine m and the link steps taken so far.
-- Following the links from node 0, however far one goes, visits exactly the linked nodes, each once, and ends at one whose link is none.
-- Each is one that was handed out; the dummy counts as such.
pub record OneChain (m : Machine) (steps : List (List ℕ)) : Type 0 where
  pub visited : (n : ℕ) → length (linked steps) ≤ n → following (next m.links) n (some 0) ≡ linked steps
  pub once : Once (linked steps)
  pub handed_out : (k n : ℕ) → At (linked steps) k n → n < m.used.nodes
  pub last_link : (k n : ℕ) → At (linked steps) k n → length (linked steps) ≡ suc k → link_at m.links n ≡ None

-- n is the last of a list
abbrev pub LastOf : List ℕ → ℕ → Type 0
LastOf c n = (k : ℕ) × At c k n × (length c ≡ suc k)

-- The tail is at the last node, or it is where it was the last before the last link step.
pub record OneBehind (tail : ℕ) (steps : List (List ℕ)) : Type 0 where
  pub before : List (List ℕ)
  pub last : List ℕ
  pub all : steps ≡ before ++ (last ∷ [])
  pub there : LastOf (linked before) tail

abbrev pub TailNear : Machine → List (List ℕ) → Type 0
TailNear m steps = LastOf (linked steps) m.ends.tail.node ⊎ OneBehind m.ends.tail.node steps

abbrev pub request_in : Machine → ℕ → Request
request_in m a = (announcement_at m.announcements a).request

pub record HeadsLinked (m : Machine) (steps : List (List ℕ)) : Type 0 where
  pub head : In (linked steps) (front_of m.ends.head m.announcements).node
  pub abstract : In (linked steps) (abstract_head m)

-- Walks. The node that a6 or q2 reads the link of is linked; a6 never meets a missing link. (At q2 a missing link ends the walk.)
abbrev pub RunReadsOn : Machine → List ℕ → RunStep → Type 0
RunReadsOn m c A1 = Unit {0}
RunReadsOn m c (A2 t) = Unit {0}
RunReadsOn m c (A3 t) = Unit {0}
RunReadsOn m c (A4 t) = Unit {0}
RunReadsOn m c (A5 o) = Unit {0}
RunReadsOn m c (A6 rise x left) = In c x × ((y : ℕ) × (link_at m.links x ≡ Some y))
RunReadsOn m c (A7 rise x) = Unit {0}
RunReadsOn m c (A8 t x) = Unit {0}

abbrev pub DequeuesReadOn : List ℕ → DequeuesStep → Type 0
DequeuesReadOn c Q1 = Unit {0}
DequeuesReadOn c (Q2 w) = In c w.at
DequeuesReadOn c (Q3 w) = Unit {0}

abbrev pub ReadsOn : Machine → List ℕ → Place → Type 0
ReadsOn m c Idle = Unit {0}
ReadsOn m c (Enqueue n x) = Unit {0}
ReadsOn m c (Dequeue x) = Unit {0}
ReadsOn m c (Batch b x) = Unit {0}
ReadsOn m c (Dequeues x) = DequeuesReadOn c x
ReadsOn m c (Running a x k) = RunReadsOn m c x

-- every link that a walk reads leads on
abbrev pub EveryLinkLeadsOn : List Link → RunStep → Type 0
EveryLinkLeadsOn links A1 = Unit {0}
EveryLinkLeadsOn links (A2 t) = Unit {0}
EveryLinkLeadsOn links (A3 t) = Unit {0}
EveryLinkLeadsOn links (A4 t) = Unit {0}
EveryLinkLeadsOn links (A5 o) = Unit {0}
EveryLinkLeadsOn links (A6 s x left) = (n : ℕ) → n < left → (y : ℕ) × (link_at links (walked links x n) ≡ Some y)
EveryLinkLeadsOn links (A7 s x) = Unit {0}
EveryLinkLeadsOn links (A8 t x) = Unit {0}

-- Whatever step is next, the turns of the pairing at its end stay on the linked nodes, with those of the step itself (PairingReads.antt says
-- what a turn reads, and that it goes on where a link is there). No link is missing on the walk to the abstract head: from an old tail that is
-- set, or, while it is unset, from a tail whose link leads to the batch. The walk of the contents is over linked nodes and ends by itself.
pub record WalksStayOn (m : Machine) (steps : List (List ℕ)) : Type 0 where
  pub reads : (t : ℕ) → t < 8 → ReadsOn m (linked steps) (row_at m t).place
  pub pairing : (t : ℕ) → t < 8
      → AllStayOn (hop m t).machine.links (linked (steps ++ step_links (memory_of m) (row_at m t).place)) (turns_after (hop m t).machine t (hop m t).after)
  pub head_walk : (a : ℕ) (o : Tail) → m.ends.head ≡ Announced a → (announcement_at m.announcements a).old_tail ≡ Some o → EveryLinkLeadsOn m.links (walk_to (request_in m a) o)
  pub head_walk_from_tail : (a : ℕ) → m.ends.head ≡ Announced a → leads_to (link_at m.links m.ends.tail.node) (request_in m a).first ≡ true
      → EveryLinkLeadsOn m.links (walk_to (request_in m a) m.ends.tail)
  pub contents : (j n : ℕ) → At (chain_after 512 m.links (abstract_head m)) j n → In (linked steps) n
  pub not_cut : length (chain_after 512 m.links (abstract_head m)) < 512

-- One a3 links all nodes of its batch: as many as it has enqueues.
abbrev pub BatchesWhole : Machine → Type 0
BatchesWhole m = (t a : ℕ) (l : Tail) (k : Resume) → t < 8 → (row_at m t).place ≡ Running a (A3 l) k → link_at m.links l.node ≡ None
    → length (batch_nodes (memory_of m) (request_in m a)) ≡ (request_in m a).tally.enqueues

-- No remainder, wrap or cut-off subtraction that makes the code total is ever met: Fits.antt.
pub record Queue (m : Machine) (steps : List (List ℕ)) : Type 0 where
  pub chain : OneChain m steps
  pub tail : TailNear m steps
  pub heads : HeadsLinked m steps
  pub walks : WalksStayOn m steps
  pub batches : BatchesWhole m
  pub fits : Fits m
