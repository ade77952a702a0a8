-- 01, "Steps", Running an announcement; listing 5 (lines 39 to 72). The announcement is a, its request k.
-- A read of line 45 or 49 is no step of its own: a set next link never changes, so it is what the CAS of line 44 found.
use Rattle.std.specs.Prelude.{ℕ, ◌-◌, cond, eqb, ltb, leb, None, Some}
use Rattle.tally.specs.Tally.{successful_on}
use Rattle.cells.specs.declared.Tail.{Tail}
use Rattle.cells.specs.declared.Head.TheVariants.{Announced}
use Rattle.cells.specs.Links.{Link, OldTail}
use Rattle.cells.specs.declared.Request.{Request}
use Rattle.access.specs.declared.Access.{Access}
use Rattle.access.specs.declared.Access.TheVariants.{ReadTail, ReadLink, ReadOldTail, CasLink, CasTail, CasHead, WriteOldTail}
use Rattle.found.specs.declared.Found.{Found}
use Rattle.cells.specs.Ends.{past_tail, past_front}
use Rattle.found.specs.Found.{tail_in, link_in, old_tail_in}
use Rattle.place.specs.declared.Place.TheVariants as place
use Rattle.place.specs.declared.Resume.{Resume}
use Rattle.place.specs.declared.Resume.TheVariants as resume
use Rattle.place.specs.declared.After.{After}
use Rattle.place.specs.declared.After.TheVariants as after
use Rattle.place.specs.declared.EnqueueStep.TheVariants.{E1}
use Rattle.place.specs.declared.DequeueStep.TheVariants.{D1}
use Rattle.place.specs.declared.BatchStep.TheVariants.{B1}
use Rattle.place.specs.declared.DequeuesStep.TheVariants.{Q1}
use Rattle.place.specs.declared.RunStep.{RunStep}
use Rattle.place.specs.declared.RunStep.TheVariants.{A1, A2, A3, A4, A5, A6, A7, A8}

-- a1 read tail. a2 read its old tail. a3 CAS its first node onto the next link of the tail read at a1. a4 write its old tail.
-- a5 CAS tail from old tail to its last node, count + its enqueues. a6 read next. a7 CAS head from this announcement to the new head.
-- a8 CAS tail to the node found, count + 1.
unfoldable pub run_access : ℕ → Request → RunStep → Access
run_access a k A1 = ReadTail
run_access a k (A2 t) = ReadOldTail a
run_access a k (A3 t) = CasLink t.node k.first
run_access a k (A4 t) = WriteOldTail a t
run_access a k (A5 o) = CasTail o (past_tail o k.last k.tally.enqueues)
run_access a k (A6 s x left) = ReadLink x
run_access a k (A7 s x) = CasHead (Announced a) (past_front k.old_head x s)
run_access a k (A8 t x) = CasTail t (past_tail t x 1)

-- a2 set: a5
abbrev pub after_a2 : Tail → OldTail → RunStep
after_a2 t None = A3 t
after_a2 t (Some o) = A5 o

-- a3 taken, or the found node is its first: a4; else a8
abbrev pub after_a3 : Tail → Link → ℕ → RunStep
after_a3 t None first = A4 t
after_a3 t (Some x) first = cond (eqb x first) (A4 t) (A8 t x)

-- size z = old tail's count − old head's count
abbrev pub size_at : Request → Tail → ℕ
size_at k o = o.count.0 - k.old_head.count.0

-- s = 0: the old head goes back, no walk. z > s > 0: walk s from the old head. Otherwise walk s − z from the old tail.
abbrev pub walk_by : Request → Tail → ℕ → ℕ → RunStep
walk_by k o z s =
    cond (eqb s 0) (A7 s k.old_head.node)
    (cond (ltb s z) (A6 s k.old_head.node s)
    (cond (eqb s z) (A7 s o.node)
    (A6 s o.node (s - z))))

abbrev pub walk_to : Request → Tail → RunStep
walk_to k o = walk_by k o (size_at k o) (successful_on k.tally (size_at k o))

-- a6 once per node walked
abbrev pub after_a6 : ℕ → ℕ → ℕ → Link → RunStep
after_a6 s x left None = A7 s x
after_a6 s x left (Some y) = cond (leb left 1) (A7 s y) (A6 s y (left - 1))

-- back to the call that met the announcement; the own one ends the call
abbrev pub back : Request → Resume → After
back k (resume.Enqueue n) = after.On (place.Enqueue n E1)
back k resume.Dequeue = after.On (place.Dequeue D1)
back k (resume.Batch own) = after.On (place.Batch own B1)
back k resume.Dequeues = after.On (place.Dequeues Q1)
back k resume.Own = after.Pair k.old_head.node

abbrev pub running_at : ℕ → Resume → RunStep → After
running_at a r s = after.On (place.Running a s r)

unfoldable pub run_after : ℕ → Request → Resume → RunStep → Found → After
run_after a k r A1 y = running_at a r (A2 (tail_in y))
run_after a k r (A2 t) y = running_at a r (after_a2 t (old_tail_in y))
run_after a k r (A3 t) y = running_at a r (after_a3 t (link_in y) k.first)
run_after a k r (A4 t) y = running_at a r (A5 t)
run_after a k r (A5 o) y = running_at a r (walk_to k o)
run_after a k r (A6 s x left) y = running_at a r (after_a6 s x left (link_in y))
run_after a k r (A7 s x) y = back k r
run_after a k r (A8 t x) y = running_at a r A1
