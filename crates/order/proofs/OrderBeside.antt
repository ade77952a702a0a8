-- The order does not look at rows and futures, nor at pending calls and results given: it is the same where only those differ.
use Prim.Native.Nat.{ℕ}
use mathlib.Core.Path.{◌≡◌, refl, sym, ap, ◌∙◌, subst}
use mathlib.Core.List.{List}
use mathlib.Core.Option.{some}
use mathlib.Core.Logic.{inl, inr}
use native.Mathlib.Omega.{arith}
use Rattle.chain.specs.Positions.{In}
use Rattle.tally.specs.Fifo.{Call}
use Rattle.cells.specs.declared.Head.{Head}
use Rattle.cells.specs.declared.Head.TheVariants as head
use Rattle.cells.specs.declared.Request.{Request}
use Rattle.memory.specs.Memory.{announcement_at}
use Rattle.place.specs.declared.Place.{Place}
use Rattle.place.specs.declared.Place.TheVariants as place
use Rattle.place.specs.declared.Place.TheVariants.{Idle, Enqueue, Dequeue, Dequeues, Running}
use Rattle.place.specs.declared.Resume.{Resume}
use Rattle.place.specs.declared.Resume.TheVariants as resume
use Rattle.place.specs.declared.DequeuesStep.{DequeuesStep}
use Rattle.place.specs.declared.DequeuesStep.TheVariants.{Q1, Q2, Q3}
use Rattle.row.specs.declared.Row.{Row}
use Rattle.answer.specs.declared.Future.{Future}
use Rattle.machine.specs.declared.Machine.{Machine}
use Rattle.order.specs.Order.{Called, Given, Remembered, Story, of}
use Rattle.order.proofs.Ghost.{Ghost}
use Rattle.order.proofs.RunReads.{linked_or_not}
use Rattle.order.proofs.AbstractHead.{LinkedOrNot, position_if, position_of, head_position}
use Rattle.order.proofs.Orderly.{RunOn, Orderly, BatchCall, WaitsDequeues, KnowsOfDequeues, KnowsOfResume, KnowsOf, Onward}

abbrev pub machine_with : Machine → List Row → List Future → Machine
machine_with m rows futures = record {
  ends = m.ends;
  links = m.links;
  announcements = m.announcements;
  items = m.items;
  futures = futures;
  rows = rows;
  threads = m.threads;
  nodes = m.nodes;
  used = m.used;
}

abbrev pub ghost_with : Ghost → List (List (Call ℕ)) → Ghost
ghost_with g pending = record {
  chain = g.chain;
  ends = g.ends;
  by = g.by;
  installed = g.installed;
  node_owners = g.node_owners;
  announcement_owners = g.announcement_owners;
  batches = g.batches;
  pending = pending;
}

abbrev pub story_with : Story → List Given → List Remembered → Story
story_with s given threads = record { clock = s.clock; order = s.order; given = given; threads = threads; started = s.started; announced = s.announced }

module _ (m : Machine) (g : Ghost) (s : Story) (rows : List Row) (futures : List Future) (pending : List (List (Call ℕ))) (given : List Given) (threads : List Remembered) where
  abbrev m' : Machine
  m' = machine_with m rows futures

  abbrev g' : Ghost
  g' = ghost_with g pending

  abbrev s' : Story
  s' = story_with s given threads

  position_beside : head_position m' g' ≡ head_position m g
  position_beside = by_head m.ends.head
    where
      by_link : (k : Request) (a : ℕ) (w : LinkedOrNot g a) → position_if k g' a w ≡ position_if k g a w
      by_link k a (inl w) = refl
      by_link k a (inr w) = refl

      by_head : (h : Head) → position_of m.announcements g' h ≡ position_of m.announcements g h
      by_head (head.Plain f) = refl
      by_head (head.Announced a) = by_link (announcement_at m.announcements a).request a (linked_or_not g.by a)

  run_beside : {a p : ℕ} {c : Called} → RunOn m g s a p c → RunOn m' g' s' a p c
  run_beside r = record { items = r.items; place = r.place; early = r.early; there = r.there }

  pub orderly_beside : Orderly m g s → Orderly m' g' s'
  orderly_beside h = record {
    chain = h.chain;
    head = h.head ∙ sym position_beside;
    rows = h.rows;
    announced = let w = h.announced in record { many = w.many; calls = w.calls; items = w.items; early = w.early; apart = w.apart };
    linked = λ a p c l q. run_beside (h.linked a p c (record { step = l.step; is = l.is; from = l.from }) q);
    unlinked = h.unlinked;
  }

  pub onward_beside : (m₀ : Machine) (g₀ : Ghost) (s₀ : Story) (u : ℕ) → Onward m₀ g₀ s₀ m g s u → of s' u ≡ of s₀ u → Onward m₀ g₀ s₀ m' g' s' u
  onward_beside m₀ g₀ s₀ u on same = record {
    remembered = same;
    clock = on.clock;
    ran = on.ran;
    front = omega (arith, on.front, position_beside);
    values = on.values;
    announced = on.announced;
    announced_own = on.announced_own;
    not_in = on.not_in;
    only = λ e some. on.only (sym position_beside ∙ e) some;
  }

-- nor does what a thread knows look at more of its row than which future is asked for
module _ (m : Machine) (g : Ghost) (s : Story) (t : ℕ) (r r' : Row) (same : r'.future ≡ r.future) where
  batch_row : BatchCall s t r → BatchCall s t r'
  batch_row h = record { thread = h.thread; calls = h.calls; futures = h.futures; asked = h.asked ∙ ap some (sym same); asks = subst (In (of s t).futures) (sym same) h.asks }

  dequeues_row_lem : WaitsDequeues s t r → WaitsDequeues s t r'
  dequeues_row_lem h = (h.0, batch_row h.1, h.2)

  walk_row : (x : DequeuesStep) → KnowsOfDequeues m g s t r x → KnowsOfDequeues m g s t r' x
  walk_row Q1 h = dequeues_row_lem h
  walk_row (Q2 w) h = (dequeues_row_lem h.0, h.1, h.2)
  walk_row (Q3 w) h = (dequeues_row_lem h.0, h.1)

  resume_row : (a : ℕ) (x : Resume) → KnowsOfResume m s t a r x → KnowsOfResume m s t a r' x
  resume_row a (resume.Enqueue n) h = h
  resume_row a resume.Dequeue h = h
  resume_row a (resume.Batch b) h = (h.0, batch_row h.1)
  resume_row a resume.Dequeues h = dequeues_row_lem h
  resume_row a resume.Own h = (h.0, batch_row h.1)

  pub knows_of_row : (p : Place) → KnowsOf m g s t r p → KnowsOf m g s t r' p
  knows_of_row Idle h = h
  knows_of_row (Enqueue n x) h = h
  knows_of_row (Dequeue x) h = h
  knows_of_row (place.Batch b x) h = (h.0, batch_row h.1)
  knows_of_row (Dequeues x) h = walk_row x h
  knows_of_row (Running a x k) h = resume_row a k h
