-- A step that does not end the call leaves the thread in it: no step of a call leads to idle but its last.
use Rattle.std.specs.Prelude.{None, Some}
use Prim.Native.Nat.{ℕ, ◌≤◌}
use mathlib.Core.Path.{◌≡◌, refl, sym, ap, ◌∙◌}
use mathlib.Core.Bool.{Bool, true, false, true≢false, false≢true}
use mathlib.Core.List.{List}
use native.Mathlib.Omega.{arith}
use native.Mathlib.Decide.{dec_lt}
use lib.Dec.{eqb, ltb}
use lib.ListN.{length, get_or, set, get_or-eq_default}
use lib.Seq.{get_or-set_same}
use Rattle.refusal.proofs.Tests.{either_way}
use Rattle.cells.specs.declared.Front.{Front}
use Rattle.cells.specs.declared.Tail.{Tail}
use Rattle.cells.specs.declared.Head.{Head}
use Rattle.cells.specs.declared.Head.TheVariants.{Plain, Announced}
use Rattle.cells.specs.Links.{Link}
use Rattle.cells.specs.declared.Request.{Request}
use Rattle.found.specs.declared.Found.{Found}
use Rattle.found.specs.Found.{head_in, link_in, taken_in}
use Rattle.place.specs.declared.Place.{Place}
use Rattle.place.specs.declared.Place.TheVariants.{Idle, Enqueue, Dequeue, Batch, Dequeues, Running}
use Rattle.place.specs.declared.Resume.{Resume}
use Rattle.place.specs.declared.Resume.TheVariants as resume
use Rattle.place.specs.declared.After.{After}
use Rattle.place.specs.declared.After.TheVariants as afterwards
use Rattle.place.specs.declared.EnqueueStep.{EnqueueStep}
use Rattle.place.specs.declared.EnqueueStep.TheVariants.{E1, E2, E3, E4, E5}
use Rattle.place.specs.declared.DequeueStep.{DequeueStep}
use Rattle.place.specs.declared.DequeueStep.TheVariants.{D1, D2, D3}
use Rattle.place.specs.declared.BatchStep.{BatchStep}
use Rattle.place.specs.declared.BatchStep.TheVariants.{B1, B2}
use Rattle.place.specs.declared.Walk.{Walk}
use Rattle.place.specs.declared.DequeuesStep.{DequeuesStep}
use Rattle.place.specs.declared.DequeuesStep.TheVariants.{Q1, Q2, Q3}
use Rattle.place.specs.declared.RunStep.{RunStep}
use Rattle.place.specs.declared.RunStep.TheVariants.{A1, A2, A3, A4, A5, A6, A7, A8}
use Rattle.thread.specs.Enqueue.{enqueue_after, after_e2, after_e4}
use Rattle.thread.specs.Dequeue.{dequeue_after, after_d1, after_d2, after_d3}
use Rattle.thread.specs.Batch.{batch_after, after_b1, after_b2}
use Rattle.thread.specs.Dequeues.{dequeues_after, after_q1, after_q2, after_q3, one_further}
use Rattle.running.specs.Running.{run_after, back}
use Rattle.place.specs.Place.{idle, place_after, goes_on}
use Rattle.thread.specs.Calls.{after}
use Rattle.row.specs.declared.Row.{Row}
use Rattle.row.specs.Row.{no_row}
use Rattle.machine.specs.declared.Machine.{Machine}
use Rattle.machine.specs.State.{row_at}
use Rattle.machine.specs.Steps.{hop}

-- the call has ended, or the thread is in it
abbrev pub InCall : After → Type 0
InCall (afterwards.On p) = idle p ≡ false
InCall afterwards.Ok = Unit {0}
InCall afterwards.Empty = Unit {0}
InCall (afterwards.Item x) = Unit {0}
InCall (afterwards.Pair x) = Unit {0}
InCall (afterwards.PairDequeues x s) = Unit {0}

e2 : (n : ℕ) (t : Tail) (l : Link) → InCall (after_e2 n t l)
e2 n t None = refl
e2 n t (Some x) = refl

e4 : (n : ℕ) (t : Tail) (x : ℕ) (h : Head) → InCall (after_e4 n t x h)
e4 n t x (Plain f) = refl
e4 n t x (Announced a) = refl

enqueue_in_call : (n : ℕ) (s : EnqueueStep) (y : Found) → InCall (enqueue_after n s y)
unfolding enqueue_after
enqueue_in_call n E1 y = refl
enqueue_in_call n (E2 t) y = e2 n t (link_in y)
enqueue_in_call n (E3 t) y = tt
enqueue_in_call n (E4 t x) y = e4 n t x (head_in y)
enqueue_in_call n (E5 t x) y = refl

d1 : (h : Head) → InCall (after_d1 h)
d1 (Plain f) = refl
d1 (Announced a) = refl

d2 : (f : Front) (l : Link) → InCall (after_d2 f l)
d2 f None = tt
d2 f (Some x) = refl

d3 : (x : ℕ) (b : Bool) → InCall (after_d3 x b)
d3 x true = tt
d3 x false = refl

dequeue_in_call : (s : DequeueStep) (y : Found) → InCall (dequeue_after s y)
unfolding dequeue_after
dequeue_in_call D1 y = d1 (head_in y)
dequeue_in_call (D2 f) y = d2 f (link_in y)
dequeue_in_call (D3 f x) y = d3 x (taken_in y)

b1 : (own : ℕ) (h : Head) → InCall (after_b1 own h)
b1 own (Plain f) = refl
b1 own (Announced a) = refl

b2 : (own : ℕ) (b : Bool) → InCall (after_b2 own b)
b2 own true = refl
b2 own false = refl

batch_in_call : (own : ℕ) (s : BatchStep) (y : Found) → InCall (batch_after own s y)
unfolding batch_after
batch_in_call own B1 y = b1 own (head_in y)
batch_in_call own (B2 f) y = b2 own (taken_in y)

q1 : (h : Head) → InCall (after_q1 h)
q1 (Plain f) = refl
q1 (Announced a) = refl

q2 : (w : Walk) (l : Link) (d : ℕ) → InCall (after_q2 w l d)
q2 w None d = either_way InCall (eqb w.taken 0) (λ e. tt) (λ e. refl)
q2 w (Some x) d = either_way InCall (ltb (one_further w x).taken d) (λ e. refl) (λ e. refl)

q3 : (w : Walk) (b : Bool) → InCall (after_q3 w b)
q3 w true = tt
q3 w false = refl

dequeues_in_call : (s : DequeuesStep) (y : Found) (d : ℕ) → InCall (dequeues_after s y d)
unfolding dequeues_after
dequeues_in_call Q1 y d = q1 (head_in y)
dequeues_in_call (Q2 w) y d = q2 w (link_in y) d
dequeues_in_call (Q3 w) y d = q3 w (taken_in y)

back_in_call : (k : Request) (r : Resume) → InCall (back k r)
back_in_call k (resume.Enqueue n) = refl
back_in_call k resume.Dequeue = refl
back_in_call k (resume.Batch own) = refl
back_in_call k resume.Dequeues = refl
back_in_call k resume.Own = tt

run_in_call : (a : ℕ) (k : Request) (r : Resume) (s : RunStep) (y : Found) → InCall (run_after a k r s y)
unfolding run_after
run_in_call a k r A1 y = refl
run_in_call a k r (A2 t) y = refl
run_in_call a k r (A3 t) y = refl
run_in_call a k r (A4 t) y = refl
run_in_call a k r (A5 o) y = refl
run_in_call a k r (A6 s x left) y = refl
run_in_call a k r (A7 s x) y = back_in_call k r
run_in_call a k r (A8 t x) y = refl

pub after_in_call : (p : Place) (y : Found) (k : Request) (d : ℕ) → idle p ≡ false → InCall (after p y k d)
after_in_call Idle y k d e = absurd (true≢false e)
after_in_call (Enqueue n s) y k d e = enqueue_in_call n s y
after_in_call (Dequeue s) y k d e = dequeue_in_call s y
after_in_call (Batch own s) y k d e = batch_in_call own s y
after_in_call (Dequeues s) y k d e = dequeues_in_call s y d
after_in_call (Running a s r) y k d e = run_in_call a k r s y

-- the place of a thread that was in a call, after a step that goes on
moved_in_call : (rows : List Row) (i : ℕ) (r : Row) → idle (get_or rows i no_row).place ≡ false → idle r.place ≡ false → idle (get_or (set rows i r) i no_row).place ≡ false
moved_in_call rows i r e d = elim (dec_lt i (length rows)) [
  | yes h ↦ ap (λ (x : Row). idle x.place) (get_or-set_same rows i r no_row h) ∙ d
  | no h ↦ absurd (true≢false (sym (ap (λ (x : Row). idle x.place) (get_or-eq_default rows no_row (let z : length rows ≤ i = omega arith in z))) ∙ e))
]

goes_on_in_call : (a : After) → goes_on a ≡ true → InCall a → idle (place_after a) ≡ false
goes_on_in_call (afterwards.On p) e h = h
goes_on_in_call afterwards.Ok e h = absurd (false≢true e)
goes_on_in_call afterwards.Empty e h = absurd (false≢true e)
goes_on_in_call (afterwards.Item x) e h = absurd (false≢true e)
goes_on_in_call (afterwards.Pair x) e h = absurd (false≢true e)
goes_on_in_call (afterwards.PairDequeues x s) e h = absurd (false≢true e)

pub hop_in_call : (m : Machine) (i : ℕ) → idle (row_at m i).place ≡ false → goes_on (hop m i).after ≡ true → idle (row_at (hop m i).machine i).place ≡ false
unfolding hop
hop_in_call m i e g = moved_in_call m.rows i _ e (goes_on_in_call (hop m i).after g (after_in_call (row_at m i).place _ _ _ e))
