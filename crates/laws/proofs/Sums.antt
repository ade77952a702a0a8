-- The entry Run: of n and then of k it is Run of n + k, where the first did not end the call. What `run_of_sum` says of an accepted Run
-- holds of the entry, since a thread whose call has not ended is still in it.
use Prim.Native.Nat.{ℕ, ◌+◌, ◌%◌}
use mathlib.Core.Path.{◌≡◌, refl, sym, ap, ap₂, ◌∙◌}
use mathlib.Core.Bool.{Bool, true, false, false≢true, cond}
use native.Mathlib.Omega.{arith}
use lib.Dec.{leb}
use Rattle.refusal.specs.declared.Refusal.TheVariants.{NoSuchThread, NotInCall}
use Rattle.std.specs.Prelude.{Ok, Err}
use Rattle.answer.specs.declared.Answer.TheVariants.{More}
use Rattle.refuse.specs.Refusals.{steppable}
use Rattle.place.specs.declared.Place.{Place}
use Rattle.place.specs.declared.After.{After}
use Rattle.place.specs.declared.After.TheVariants as afterwards
use Rattle.place.specs.Place.{idle, goes_on}
use Rattle.machine.specs.declared.Machine.{Machine}
use Rattle.machine.specs.State.{row_at}
use Rattle.machine.specs.Pairing.{settled, batch_cursor, dequeues_cursor}
use Rattle.pairing.specs.declared.Cursor.{Cursor}
use Rattle.machine.specs.Steps.{hop, tell, step_of, is_more, advance}
use Rattle.machine.specs.Entries.{decided, run}
use Rattle.laws.proofs.InCall.{hop_in_call}
use Rattle.laws.proofs.StepChanges.{step_changes}
use Rattle.laws.specs.Counted.{more_steps}
use Rattle.laws.proofs.Runs.{run_induction, run_of_sum}
use Rattle.refusal.specs.Verdicts.{Verdict, accepted}

-- the end of a batch's call is never answered with more
pub settled_is_no_more : (m : Machine) (i k : ℕ) (c : Cursor) → is_more (settled m i k c).answer ≡ false
unfolding settled
settled_is_no_more m i k c = refl

-- a step that answers more goes on, and leaves the machine of its hop
goes_on_lem : (m : Machine) (i : ℕ) (a : After) → is_more (tell m i 1 a).answer ≡ true → (goes_on a ≡ true) × ((tell m i 1 a).machine ≡ m)
goes_on_lem m i (afterwards.On p) e = (refl, refl)
goes_on_lem m i afterwards.Ok e = absurd (false≢true e)
goes_on_lem m i afterwards.Empty e = absurd (false≢true e)
goes_on_lem m i (afterwards.Item n) e = absurd (false≢true e)
goes_on_lem m i (afterwards.Pair from) e = absurd (false≢true (sym (settled_is_no_more m i 1 (batch_cursor from (row_at m i).first)) ∙ e))
goes_on_lem m i (afterwards.PairDequeues from taken) e = absurd (false≢true (sym (settled_is_no_more m i 1 (dequeues_cursor from taken)) ∙ e))

-- so a thread in a call is in it after every Run that answers more, and the thread count is as it was
still_in_call : (i n : ℕ) (m : Machine) → idle (row_at m i).place ≡ false → (advance m i n).answer ≡ Ok More → (idle (row_at (advance m i n).machine i).place ≡ false) × ((advance m i n).machine.threads ≡ m.threads)
still_in_call i =
    run_induction (λ n m x. idle (row_at m i).place ≡ false → x.answer ≡ Ok More → (idle (row_at x.machine i).place ≡ false) × (x.machine.threads ≡ m.threads)) i
    (λ m b e. (b, refl))
    (λ n m x t d h b e.
    let g = goes_on_lem (hop m i).machine i (hop m i).after t in
    let in_call_lem : idle (row_at (step_of m i).machine i).place ≡ false = ap (λ (y : Machine). idle (row_at y i).place) g.1 ∙ hop_in_call m i b g.0 in
    let rest = h in_call_lem e in
    (rest.0, rest.1 ∙ (step_changes m i).threads))
    (λ n m f b e. absurd (false≢true (sym f ∙ ap is_more e)))

accepted_means : (t threads : ℕ) (p : Place) → steppable t threads p ≡ accepted → (leb threads t ≡ false) × (idle p ≡ false)
accepted_means t threads p = go (leb threads t) (idle p)
  where
    go : (a b : Bool) → cond a (Err NoSuchThread) (cond b (Err NotInCall) accepted) ≡ accepted → (a ≡ false) × (b ≡ false)
    go true b e = absurd (let z : ◌≡◌ {A = ℕ} 0 1 = cc in omega arith)
    go false true e = absurd (let z : ◌≡◌ {A = ℕ} 0 1 = cc in omega arith)
    go false false e = (refl, refl)

accepted_where : (t threads : ℕ) (p : Place) → leb threads t ≡ false → idle p ≡ false → steppable t threads p ≡ accepted
accepted_where t threads p e d = ap₂ (λ (a b : Bool). cond a (Err NoSuchThread) (cond b (Err NotInCall) accepted)) e d

pub run_then_run : (m : Machine) (t n k : ℕ) → (run m t n).answer ≡ Ok More → run m t (n + k) ≡ more_steps (run m t n).steps (run (run m t n).machine t k)
unfolding run decided
run_then_run m t n k = go (steppable t m.threads (row_at m (t % 8)).place) refl
  where
    go : (v : Verdict) → steppable t m.threads (row_at m (t % 8)).place ≡ v → (decided v m (advance m (t % 8) n)).answer ≡ Ok More
        → decided v m (advance m (t % 8) (n + k)) ≡ more_steps (decided v m (advance m (t % 8) n)).steps (run (decided v m (advance m (t % 8) n)).machine t k)
    go (Err r) d e = absurd (let z : ◌≡◌ {A = ℕ} 0 1 = cc in omega arith)
    go (Ok ok) d e =
        let here = accepted_means t m.threads (row_at m (t % 8)).place d in
        let there = still_in_call (t % 8) n m here.1 e in
        let last : Machine = (advance m (t % 8) n).machine in
        let again : steppable t last.threads (row_at last (t % 8)).place ≡ accepted = accepted_where t last.threads (row_at last (t % 8)).place (ap (λ (x : ℕ). leb x t) there.1 ∙ here.0) there.0 in
        run_of_sum k (t % 8) n m e ∙ ap (λ (v : Verdict). more_steps (advance m (t % 8) n).steps (decided v last (advance last (t % 8) k))) (sym again)
