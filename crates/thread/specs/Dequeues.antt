-- 01, "Steps", Batch of dequeues only; listing 7 (lines 94 to 107) with listing 3.
use Rattle.std.specs.Prelude.{ℕ, Bool, true, false, cond, ◌==◌, nat_lt, None, Some}
use Rattle.cells.specs.declared.Head.{Head}
use Rattle.cells.specs.declared.Head.TheVariants.{Plain, Announced}
use Rattle.cells.specs.Links.{Link}
use Rattle.access.specs.declared.Access.{Access}
use Rattle.access.specs.declared.Access.TheVariants.{ReadHead, ReadLink, CasHead}
use Rattle.found.specs.declared.Found.{Found}
use Rattle.cells.specs.Ends.{up, past_front}
use Rattle.found.specs.Found.{head_in, link_in, taken_in}
use Rattle.place.specs.declared.Place.TheVariants as place
use Rattle.place.specs.declared.Resume.TheVariants as resume
use Rattle.place.specs.declared.After.{After}
use Rattle.place.specs.declared.After.TheVariants as after
use Rattle.place.specs.declared.Walk.{Walk}
use Rattle.place.specs.declared.DequeuesStep.{DequeuesStep}
use Rattle.place.specs.declared.DequeuesStep.TheVariants.{Q1, Q2, Q3}
use Rattle.place.specs.declared.RunStep.TheVariants.{A1}

-- q1 read head. q2 read next. q3 CAS head past the s nodes found, count + s.
unfoldable pub dequeues_access : DequeuesStep → Access
dequeues_access Q1 = ReadHead
dequeues_access (Q2 w) = ReadLink w.at
dequeues_access (Q3 w) = CasHead (Plain w.front) (past_front w.front w.at w.taken)

abbrev pub dequeues_at : DequeuesStep → After
dequeues_at s = after.On (place.Dequeues s)

-- q1 an announcement: run it, then q1
abbrev pub after_q1 : Head → After
after_q1 (Plain f) = dequeues_at (Q2 (record { front = f; at = f.node; taken = 0 }))
after_q1 (Announced a) = after.On (place.Running a A1 resume.Dequeues)

-- q2 stopping at none: no node found ends the call
abbrev pub stopped : Walk → After
stopped w = cond (w.taken == 0) (after.PairDequeues w.front.node 0) (dequeues_at (Q3 w))

abbrev pub one_further : Walk → ℕ → Walk
one_further w x = record { front = w.front; at = x; taken = up w.taken 1 }

-- q2 once per pending dequeue
abbrev pub goes_to : Walk → ℕ → After
goes_to w pending = cond (nat_lt w.taken pending) (dequeues_at (Q2 w)) (dequeues_at (Q3 w))

abbrev pub after_q2 : Walk → Link → ℕ → After
after_q2 w None pending = stopped w
after_q2 w (Some x) pending = goes_to (one_further w x) pending

-- q3 taken: ends, else q1
abbrev pub after_q3 : Walk → Bool → After
after_q3 w true = after.PairDequeues w.front.node w.taken
after_q3 w false = dequeues_at Q1

unfoldable pub dequeues_after : DequeuesStep → Found → ℕ → After
dequeues_after Q1 y pending = after_q1 (head_in y)
dequeues_after (Q2 w) y pending = after_q2 w (link_in y) pending
dequeues_after (Q3 w) y pending = after_q3 w (taken_in y)
