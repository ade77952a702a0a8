-- The access of a thread's next step, and how it goes on; by the four kinds of call of 01, "Steps", and running an announcement.
use Rattle.std.specs.Prelude.{ℕ}
use Rattle.cells.specs.declared.Request.{Request}
use Rattle.found.specs.declared.Found.{Found}
use Rattle.access.specs.declared.Access.{Access}
use Rattle.access.specs.declared.Access.TheVariants.{ReadHead}
use Rattle.place.specs.declared.Place.{Place}
use Rattle.place.specs.declared.Place.TheVariants.{Idle, Enqueue, Dequeue, Batch, Dequeues, Running}
use Rattle.place.specs.declared.After.{After}
use Rattle.place.specs.declared.After.TheVariants as afterwards
use Rattle.running.specs.Running.{run_access, run_after}
use Rattle.thread.specs.Enqueue.{enqueue_access, enqueue_after}
use Rattle.thread.specs.Dequeue.{dequeue_access, dequeue_after}
use Rattle.thread.specs.Batch.{batch_access, batch_after}
use Rattle.thread.specs.Dequeues.{dequeues_access, dequeues_after}

-- an idle thread takes no step; its access has no meaning
abbrev pub access : Place → Request → Access
access Idle k = ReadHead
access (Enqueue n s) k = enqueue_access n s
access (Dequeue s) k = dequeue_access s
access (Batch own s) k = batch_access own s
access (Dequeues s) k = dequeues_access s
access (Running a s r) k = run_access a k s

-- with what was found; pending is the count of pending dequeues
abbrev pub after : Place → Found → Request → ℕ → After
after Idle y k pending = afterwards.On Idle
after (Enqueue n s) y k pending = enqueue_after n s y
after (Dequeue s) y k pending = dequeue_after s y
after (Batch own s) y k pending = batch_after own s y
after (Dequeues s) y k pending = dequeues_after s y pending
after (Running a s r) y k pending = run_after a k r s y
