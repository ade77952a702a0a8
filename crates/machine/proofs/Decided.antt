-- One verdict decides an entry: `apply` is the refusal that refuse's `verdict` gives, or what the accepted entry does. The entries' definitions test
-- one after the other and start in between; a test that accepts changes nothing, so the first that refuses can be found before.
use Rattle.std.specs.Prelude.{None, Some}
use Rattle.std.proofs.Common.{◌≡◌, ℕ, ◌%◌, Bool, true, false, cond, refl, ap, ◌∙◌}
use Rattle.refusal.specs.declared.Refusal.{Refusal}
use Rattle.refusal.specs.declared.Refusal.TheVariants.{NotOwnFuture}
use Rattle.answer.specs.Answer.{Outcome}
use Rattle.answer.specs.declared.Future.{Future}
use Rattle.entry.specs.declared.Entry.{Entry}
use Rattle.entry.specs.declared.Entry.TheVariants.{Enqueue, Dequeue, FutureEnqueue, FutureDequeue, Evaluate, Step, Run}
use Rattle.entry.specs.Operands.{thread_of, future_of}
use Rattle.needs.specs.Needs.{lacking, evaluate_needs}
use Rattle.refuse.specs.Refusals.{first, callable, foreign, waiting_verdict, own_verdict, verdict}
use Rattle.machine.specs.declared.Machine.{Machine}
use Rattle.machine.specs.declared.Told.{Told}
use Rattle.machine.specs.State.{row_at, future_at}
use Rattle.machine.specs.Entries.{refusing, decided, enqueue, dequeue, future_enqueue, future_dequeue, evaluate_waiting, evaluate_own, evaluate_known, evaluate, run, apply, asked, accepted}
use Rattle.refusal.specs.Verdicts.{Verdict}
use Rattle.std.specs.Prelude.{Err, Ok}

two_tests : (v w : Verdict) (m : Machine) (x : Told) → decided v m (decided w m x) ≡ decided (first v w) m x
unfolding decided
two_tests (Ok ok) w m x = refl
two_tests (Err r) w m x = refl

test_before : (b : Bool) (r : Refusal) (w : Verdict) (m : Machine) (x : Told) → cond b (refusing m r) (decided w m x) ≡ decided (cond b (Err r) w) m x
unfolding decided
test_before true r w m x = refl
test_before false r w m x = refl

-- what the batch of a thread's pending calls lacks
abbrev lacking_at : Machine → ℕ → Verdict
lacking_at m i = lacking (evaluate_needs (row_at m i)) m.used m.nodes (row_at m i).count

-- Evaluate of an own future tests what its batch needs only where it waits
own_decided : (m : Machine) (i f : ℕ) (o : Outcome) → evaluate_own m i f o ≡ decided (waiting_verdict o (lacking_at m i)) m (asked m i f o)
unfolding evaluate_own evaluate_waiting decided asked
own_decided m i f None = refl
own_decided m i f (Some result) = refl

known_decided : (m : Machine) (t f : ℕ) (x : Future) → evaluate_known m t f x ≡ decided (own_verdict t f m.used.futures x (lacking_at m (t % 8))) m (asked m (t % 8) (f % 512) x.outcome)
unfolding evaluate_known
known_decided m t f x =
    let other : Bool = foreign f x.owner m.used.futures t in
    ap (cond other (refusing m NotOwnFuture)) (own_decided m (t % 8) (f % 512) x.outcome)
    ∙ test_before other NotOwnFuture (waiting_verdict x.outcome (lacking_at m (t % 8))) m (asked m (t % 8) (f % 512) x.outcome)

abbrev verdict_on : Machine → Entry → ℕ → ℕ → Verdict
verdict_on m e t f = verdict e m.threads m.nodes m.used (row_at m t) (future_at m f)

pub entry_decided : (m : Machine) (e : Entry) → apply m e ≡ decided (verdict_on m e (thread_of e % 8) (future_of e)) m (accepted m (thread_of e % 8) e (future_at m (future_of e)).outcome)
unfolding apply enqueue dequeue future_enqueue future_dequeue evaluate run verdict accepted
entry_decided m (Enqueue t v) = refl
entry_decided m (Dequeue t) = refl
entry_decided m (FutureEnqueue t v) = refl
entry_decided m (FutureDequeue t) = refl
entry_decided m (Evaluate t f) =
    let here : Verdict = callable t m.threads (row_at m (t % 8)).place in
    let x : Future = future_at m f in
    ap (decided here m) (known_decided m t f x)
    ∙ two_tests here (own_verdict t f m.used.futures x (lacking_at m (t % 8))) m (asked m (t % 8) (f % 512) x.outcome)
entry_decided m (Step t) = refl
entry_decided m (Run t n) = refl
