-- Demand 1 (docs/MAP.md): a refusal changes nothing in the machine, whatever the entry and the machine. An entry is decided before anything is done,
-- and what is done after that never answers with a refusal.
use Prim.Native.Nat.{ℕ, zero, suc, ◌%◌}
use mathlib.Core.Path.{◌≡◌, refl, sym, ap, ◌∙◌}
use mathlib.Core.Bool.{Bool, true, false, false≢true, cond}
use Rattle.std.specs.Prelude.{None, Some, Ok, Err}
use Rattle.refusal.specs.declared.Refusal.{Refusal}
use Rattle.refusal.specs.declared.Refusal.TheVariants.{NotOwnFuture}
use Rattle.answer.specs.Answer.{Outcome, AnswerOrRefusal}
use Rattle.answer.specs.declared.Future.{Future}
use Rattle.answer.specs.declared.Answer.TheVariants.{Started, Ended}
use Rattle.answer.specs.declared.Answer.TheVariants as answer
use Rattle.refuse.specs.Refusals.{foreign}
use Rattle.next.specs.Next.{next_future}
use Rattle.place.specs.declared.After.{After}
use Rattle.place.specs.declared.After.TheVariants as afterwards
use Rattle.machine.specs.declared.Machine.{Machine}
use Rattle.machine.specs.declared.Told.{Told}
use Rattle.entry.specs.declared.Entry.{Entry}
use Rattle.entry.specs.declared.Entry.TheVariants.{Enqueue, Dequeue, FutureEnqueue, FutureDequeue, Evaluate, Step, Run}
use Rattle.machine.specs.State.{future_at}
use Rattle.machine.specs.Pairing.{settled}
use Rattle.machine.specs.Steps.{hop, tell, step_of, is_more, one_more, advance}
use Rattle.machine.specs.Entries.{refusing, telling, decided, start_enqueue, start_dequeue, defer_enqueue, defer_dequeue, set_off, evaluate_waiting, evaluate_own, evaluate_known, enqueue, dequeue, future_enqueue, future_dequeue, evaluate, run, apply}
use Rattle.refusal.specs.Verdicts.{Verdict}

abbrev is_refused : AnswerOrRefusal → Bool
is_refused (Ok a) = false
is_refused (Err r) = true

-- what an entry tells, where a refusal means that nothing changed
Honest : Machine → Told → Type 0
Honest m x = (r : Refusal) → x.answer ≡ Err r → (x.machine ≡ m) × (x.steps ≡ 0)

refusing_honest : (m : Machine) (r : Refusal) → Honest m (refusing m r)
unfolding Honest
refusing_honest m r s e = (refl, refl)

accepted_honest : (m : Machine) (x : Told) → is_refused x.answer ≡ false → Honest m x
unfolding Honest
accepted_honest m x n r e = absurd (false≢true (sym n ∙ ap is_refused e))

decided_honest : (m : Machine) (v : Verdict) (x : Told) → Honest m x → Honest m (decided v m x)
unfolding decided
decided_honest m (Ok ok) x h = h
decided_honest m (Err r) x h = refusing_honest m r

-- a result is no refusal
told_accepted : (m : Machine) (i k : ℕ) (a : After) → is_refused (tell m i k a).answer ≡ false
unfolding settled
told_accepted m i k (afterwards.On p) = refl
told_accepted m i k afterwards.Ok = refl
told_accepted m i k afterwards.Empty = refl
told_accepted m i k (afterwards.Item n) = refl
told_accepted m i k (afterwards.Pair from) = refl
told_accepted m i k (afterwards.PairDequeues from taken) = refl

either_accepted : (b : Bool) (x y : Told) → is_refused x.answer ≡ false → is_refused y.answer ≡ false → is_refused (cond b x y).answer ≡ false
either_accepted true x y f g = f
either_accepted false x y f g = g

-- nor is what Run answers
advance_accepted : (n : ℕ) (m : Machine) (i : ℕ) → is_refused (advance m i n).answer ≡ false
unfolding advance
advance_accepted zero m i = refl
advance_accepted (suc n) m i =
    either_accepted (is_more (step_of m i).answer) (one_more (advance (step_of m i).machine i n)) (step_of m i)
    (advance_accepted n (step_of m i).machine i)
    (told_accepted (hop m i).machine i 1 (hop m i).after)

own_honest : (m : Machine) (i f : ℕ) (o : Outcome) → Honest m (evaluate_own m i f o)
unfolding evaluate_own evaluate_waiting
own_honest m i f None = decided_honest m _ _ (accepted_honest m (telling (set_off m i f) Started) refl)
own_honest m i f (Some result) = accepted_honest m (telling m (Ended result)) refl

known_honest : (m : Machine) (t f : ℕ) (x : Future) → Honest m (evaluate_known m t f x)
unfolding evaluate_known
known_honest m t f x = go (foreign f x.owner m.used.futures t)
  where
    go : (b : Bool) → Honest m (cond b (refusing m NotOwnFuture) (evaluate_own m (t % 8) (f % 512) x.outcome))
    go true = refusing_honest m NotOwnFuture
    go false = own_honest m (t % 8) (f % 512) x.outcome

run_honest : (m : Machine) (t n : ℕ) → Honest m (run m t n)
unfolding run
run_honest m t n = decided_honest m _ _ (accepted_honest m (advance m (t % 8) n) (advance_accepted n m (t % 8)))

entry_honest : (m : Machine) (e : Entry) → Honest m (apply m e)
unfolding apply enqueue dequeue future_enqueue future_dequeue evaluate
entry_honest m (Enqueue t v) = decided_honest m _ _ (accepted_honest m (telling (start_enqueue m (t % 8) (record { value = v })) Started) refl)
entry_honest m (Dequeue t) = decided_honest m _ _ (accepted_honest m (telling (start_dequeue m (t % 8)) Started) refl)
entry_honest m (FutureEnqueue t v) = decided_honest m _ _ (accepted_honest m (telling (defer_enqueue m (t % 8) (record { value = v })) (answer.Future (next_future m.used))) refl)
entry_honest m (FutureDequeue t) = decided_honest m _ _ (accepted_honest m (telling (defer_dequeue m (t % 8)) (answer.Future (next_future m.used))) refl)
entry_honest m (Evaluate t f) = decided_honest m _ _ (known_honest m t f (future_at m f))
entry_honest m (Step t) = run_honest m t 1
entry_honest m (Run t n) = run_honest m t n

pub refusal_changes_nothing : (m : Machine) (e : Entry) (r : Refusal) → (apply m e).answer ≡ Err r → ((apply m e).machine ≡ m) × ((apply m e).steps ≡ 0)
unfolding Honest
refusal_changes_nothing m e r h = entry_honest m e r h
