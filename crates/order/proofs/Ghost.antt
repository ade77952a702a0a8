-- What stands beside the machine in the proof: what has been linked, by whom, and what each thread has been handed out and has deferred.
-- It is computed from the events and none looks at it.
use Prim.Native.Nat.{ℕ, ◌+◌}
use mathlib.Core.List.{List, [], ◌∷◌, ◌++◌}
use mathlib.Core.Bool.{cond}
use mathlib.Core.Option.{Option, none, some}
use lib.ListN.{length, get_or, set, replicate}
use lib.Dec.{eqb}
use Rattle.tally.specs.Fifo.{Call, enqueue, dequeue}
use Rattle.cells.specs.declared.Tail.{Tail}
use Rattle.cells.specs.declared.Head.TheVariants.{Plain}
use Rattle.cells.specs.Links.{Link}
use Rattle.cells.specs.Ends.{same_head}
use Rattle.memory.specs.Memory.{Memory, link_at}
use Rattle.place.specs.declared.Place.{Place}
use Rattle.place.specs.declared.Place.TheVariants as place
use Rattle.place.specs.declared.Place.TheVariants.{Idle, Enqueue, Dequeue, Dequeues, Running}
use Rattle.place.specs.declared.After.{After}
use Rattle.place.specs.declared.After.TheVariants as afterwards
use Rattle.place.specs.declared.EnqueueStep.{EnqueueStep}
use Rattle.place.specs.declared.EnqueueStep.TheVariants.{E1, E2, E3, E4, E5}
use Rattle.place.specs.declared.BatchStep.{BatchStep}
use Rattle.place.specs.declared.BatchStep.TheVariants.{B1, B2}
use Rattle.place.specs.declared.RunStep.{RunStep}
use Rattle.place.specs.declared.RunStep.TheVariants.{A1, A2, A3, A4, A5, A6, A7, A8}
use Rattle.row.specs.declared.Row.{Row}
use Rattle.machine.specs.declared.Machine.{Machine}
use Rattle.machine.specs.State.{row_at, memory_of}
use Rattle.machine.specs.Steps.{hop}
use Rattle.order.specs.Links.{if_none, nodes_from}
use Rattle.order.specs.Events.{Event, EnqueueStarts, DequeueStarts, EnqueueDeferred, DequeueDeferred, BatchSetOff, FutureAsked, StepTaken}

-- the nodes of a batch with an enqueue, and its calls in calling order
pub record Batch : Type 0 where
  pub nodes : List ℕ
  pub calls : List (Call ℕ)

pub record Ghost : Type 0 where
  -- the linked nodes, from the first dummy on
  pub chain : List ℕ
  -- link step j: the position at which it ended, and the announcement whose batch it was, none for a single enqueue. Step 0 is the dummy.
  pub ends : List ℕ
  pub by : List (Option ℕ)
  -- the announcements that have been in the head
  pub installed : List ℕ
  -- the thread that each node and each announcement was handed out to
  pub node_owners : List ℕ
  pub announcement_owners : List ℕ
  -- the batch of each announcement handed out
  pub batches : List Batch
  -- the pending calls of each thread, in calling order
  pub pending : List (List (Call ℕ))

abbrev pub pending_of : Ghost → ℕ → List (Call ℕ)
pending_of g t = get_or g.pending t []

-- nodes are linked behind the tail t that was read: by a single enqueue, or as the batch of an announcement
abbrev pub joins : Ghost → Tail → List ℕ → Option ℕ → Ghost
joins g t l who = record {
  chain = g.chain ++ l;
  ends = g.ends ++ ((t.count.0 + length l) ∷ []);
  by = g.by ++ (who ∷ []);
  installed = g.installed;
  node_owners = g.node_owners;
  announcement_owners = g.announcement_owners;
  batches = g.batches;
  pending = g.pending;
}

-- announcement b is put into the head
abbrev pub installs : Ghost → ℕ → Ghost
installs g b = record {
  chain = g.chain;
  ends = g.ends;
  by = g.by;
  installed = g.installed ++ (b ∷ []);
  node_owners = g.node_owners;
  announcement_owners = g.announcement_owners;
  batches = g.batches;
  pending = g.pending;
}

abbrev pub no_batch : Batch
no_batch = record { nodes = []; calls = [] }

abbrev pub batch_of : Ghost → ℕ → Batch
batch_of g a = get_or g.batches a no_batch

-- what a step adds: a taken e2 or a3 links, a taken b2 installs; the other steps add nothing
abbrev pub enqueue_ghost : Memory → Ghost → ℕ → EnqueueStep → Ghost
enqueue_ghost m g n E1 = g
enqueue_ghost m g n (E2 t) = if_none (link_at m.links t.node) (joins g t (n ∷ []) none) g
enqueue_ghost m g n (E3 t) = g
enqueue_ghost m g n (E4 t x) = g
enqueue_ghost m g n (E5 t x) = g

abbrev pub batch_ghost : Memory → Ghost → ℕ → BatchStep → Ghost
batch_ghost m g b B1 = g
batch_ghost m g b (B2 f) = cond (same_head m.ends.head (Plain f)) (installs g b) g

abbrev pub run_ghost : Memory → Ghost → ℕ → RunStep → Ghost
run_ghost m g a A1 = g
run_ghost m g a (A2 t) = g
run_ghost m g a (A3 t) = if_none (link_at m.links t.node) (joins g t (batch_of g a).nodes (some a)) g
run_ghost m g a (A4 t) = g
run_ghost m g a (A5 o) = g
run_ghost m g a (A6 s x left) = g
run_ghost m g a (A7 s x) = g
run_ghost m g a (A8 t x) = g

abbrev pub step_ghost : Memory → Ghost → Place → Ghost
step_ghost m g Idle = g
step_ghost m g (Enqueue n x) = enqueue_ghost m g n x
step_ghost m g (Dequeue x) = g
step_ghost m g (place.Batch b x) = batch_ghost m g b x
step_ghost m g (Dequeues x) = g
step_ghost m g (Running a x k) = run_ghost m g a x

-- the step that ends a batch clears the thread's pending calls
abbrev pub defers : Ghost → ℕ → List (Call ℕ) → Ghost
defers g t cs = record {
  chain = g.chain;
  ends = g.ends;
  by = g.by;
  installed = g.installed;
  node_owners = g.node_owners;
  announcement_owners = g.announcement_owners;
  batches = g.batches;
  pending = set g.pending t cs;
}

abbrev pub end_ghost : Ghost → ℕ → After → Ghost
end_ghost g t (afterwards.On p) = g
end_ghost g t afterwards.Ok = g
end_ghost g t afterwards.Empty = g
end_ghost g t (afterwards.Item x) = g
end_ghost g t (afterwards.Pair x) = defers g t []
end_ghost g t (afterwards.PairDequeues x s) = defers g t []

-- what the other events add. A node is handed out to thread t; an announcement is, for a batch.
abbrev pub owns : Ghost → ℕ → Ghost
owns g t = record {
  chain = g.chain;
  ends = g.ends;
  by = g.by;
  installed = g.installed;
  node_owners = g.node_owners ++ (t ∷ []);
  announcement_owners = g.announcement_owners;
  batches = g.batches;
  pending = g.pending;
}

abbrev pub announces : Ghost → ℕ → Batch → Ghost
announces g t b = record {
  chain = g.chain;
  ends = g.ends;
  by = g.by;
  installed = g.installed;
  node_owners = g.node_owners;
  announcement_owners = g.announcement_owners ++ (t ∷ []);
  batches = g.batches ++ (b ∷ []);
  pending = g.pending;
}

-- a call is deferred; an enqueue has a node
abbrev pub defer_enqueue_ghost : Ghost → ℕ → ℕ → Ghost
defer_enqueue_ghost g t v = defers (owns g t) t (pending_of g t ++ (enqueue v ∷ []))

abbrev pub defer_dequeue_ghost : Ghost → ℕ → Ghost
defer_dequeue_ghost g t = defers g t (pending_of g t ++ (dequeue ∷ []))

-- the nodes of a row's pending enqueues
abbrev pub pending_nodes : List Link → Row → List ℕ
pending_nodes links r = nodes_from links r.first r.tally.enqueues

-- the pending calls are set off as a batch; one with an enqueue has an announcement
abbrev pub pending_batch : Machine → Ghost → ℕ → Batch
pending_batch m g t = record { nodes = pending_nodes m.links (row_at m t); calls = pending_of g t }

abbrev pub set_off_ghost : Machine → Ghost → ℕ → Ghost
set_off_ghost m g t = cond (eqb (row_at m t).tally.enqueues 0) g (announces g t (pending_batch m g t))

-- a step of the thread whose row is i
abbrev pub step_of_ghost : Machine → Ghost → ℕ → Ghost
step_of_ghost m g i = end_ghost (step_ghost (memory_of m) g (row_at m i).place) i (hop m i).after

abbrev pub ghost_does : Machine → Ghost → Event → Ghost
ghost_does m g (EnqueueStarts i v) = owns g i
ghost_does m g (DequeueStarts i) = g
ghost_does m g (EnqueueDeferred i v) = defer_enqueue_ghost g i v
ghost_does m g (DequeueDeferred i) = defer_dequeue_ghost g i
ghost_does m g (BatchSetOff i f) = set_off_ghost m g i
ghost_does m g (FutureAsked i f) = g
ghost_does m g (StepTaken i) = step_of_ghost m g i

-- a fresh machine has the dummy in its chain, which nobody linked
abbrev pub fresh_ghost : Ghost
fresh_ghost = record {
  chain = 0 ∷ [];
  ends = 0 ∷ [];
  by = none ∷ [];
  installed = [];
  node_owners = 0 ∷ [];
  announcement_owners = [];
  batches = [];
  pending = replicate 8 [];
}
