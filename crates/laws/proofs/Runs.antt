-- Run and Step: Step is Run with 1; Run of n and then of k is Run of n + k where the first did not end the call; and the count that Run reports
-- is that of the steps taken.
use Prim.Native.Nat.{ℕ, zero, suc, ◌+◌, ◌≤◌}
use mathlib.Core.Path.{◌≡◌, refl, sym, ap, ◌∙◌, subst}
use mathlib.Core.Logic.{◌⊎◌, inl, inr}
use mathlib.Core.Bool.{Bool, true, false, true≢false}
use native.Mathlib.Omega.{arith}
use Rattle.std.specs.Prelude.{Ok}
use Rattle.answer.specs.Answer.{AnswerOrRefusal}
use Rattle.answer.specs.declared.Answer.TheVariants.{More}
use Rattle.machine.specs.declared.Machine.{Machine}
use Rattle.machine.specs.declared.Told.{Told}
use Rattle.entry.specs.declared.Entry.TheVariants.{Step, Run}
use Rattle.machine.specs.Steps.{hop, tell, step_of, is_more, one_more, advance}
use Rattle.machine.specs.Pairing.{settled}
use Rattle.machine.specs.Entries.{apply}
use Rattle.laws.specs.Counted.{after_steps, more_steps}
use Rattle.place.specs.declared.After.{After}
use Rattle.place.specs.declared.After.TheVariants as afterwards

pub step_is_run_of_one : (m : Machine) (t : ℕ) → apply m (Step t) ≡ apply m (Run t 1)
unfolding apply
step_is_run_of_one m t = refl

told_path : (x : Told) (j k : ℕ) → j ≡ k → ◌≡◌ {A = Told} (record { machine = x.machine; answer = x.answer; steps = j }) (record { machine = x.machine; answer = x.answer; steps = k })
told_path x j k e = λ i. record { machine = x.machine; answer = x.answer; steps = e i }

-- a turn of Run, by whether the step ended the call
on : (m : Machine) (i n : ℕ) → is_more (step_of m i).answer ≡ true → advance m i (suc n) ≡ one_more (advance (step_of m i).machine i n)
unfolding advance
on m i n e = rw e

ended : (m : Machine) (i n : ℕ) → is_more (step_of m i).answer ≡ false → advance m i (suc n) ≡ step_of m i
unfolding advance
ended m i n e = rw e

-- what was answered is more, or is not
more_or_not : (a : AnswerOrRefusal) → (is_more a ≡ true) ⊎ (is_more a ≡ false)
more_or_not a = bool (is_more a)
  where
    bool : (b : Bool) → (b ≡ true) ⊎ (b ≡ false)
    bool true = inl refl
    bool false = inr refl

none : (m : Machine) (i : ℕ) → advance m i 0 ≡ record { machine = m; answer = Ok More; steps = 0 }
unfolding advance
none m i = refl

step_counts_one : (m : Machine) (i k : ℕ) (a : After) → (tell m i k a).steps ≡ k
unfolding settled
step_counts_one m i k (afterwards.On p) = refl
step_counts_one m i k afterwards.Ok = refl
step_counts_one m i k afterwards.Empty = refl
step_counts_one m i k (afterwards.Item n) = refl
step_counts_one m i k (afterwards.Pair from) = refl
step_counts_one m i k (afterwards.PairDequeues from taken) = refl

-- to show something of every Run: of none, of one whose first step goes on, and of one whose first step ends the call
pub run_induction : (P : ℕ → Machine → Told → Type 0) (i : ℕ)
    → ((m : Machine) → P 0 m (record { machine = m; answer = Ok More; steps = 0 }))
    → ((n : ℕ) (m : Machine) (x : Told) → is_more (step_of m i).answer ≡ true → x ≡ advance (step_of m i).machine i n → P n (step_of m i).machine x → P (suc n) m (one_more x))
    → ((n : ℕ) (m : Machine) → is_more (step_of m i).answer ≡ false → P (suc n) m (step_of m i))
    → (n : ℕ) (m : Machine) → P n m (advance m i n)
run_induction P i p0 p1 p2 zero m = subst (P 0 m) (sym (none m i)) (p0 m)
run_induction P i p0 p1 p2 (suc n) m =
    turn (run_induction P i p0 p1 p2 n (step_of m i).machine) (more_or_not (step_of m i).answer)
  where
    turn : P n (step_of m i).machine (advance (step_of m i).machine i n) → (is_more (step_of m i).answer ≡ true) ⊎ (is_more (step_of m i).answer ≡ false) → P (suc n) m (advance m i (suc n))
    turn h (inl t) = subst (P (suc n) m) (sym (on m i n t)) (p1 n m _ t refl h)
    turn h (inr f) = subst (P (suc n) m) (sym (ended m i n f)) (p2 n m f)

-- Run of n and then of k
pub run_of_sum : (k i n : ℕ) (m : Machine) → (advance m i n).answer ≡ Ok More → advance m i (n + k) ≡ more_steps (advance m i n).steps (advance (advance m i n).machine i k)
run_of_sum k i =
    run_induction (λ n m x. x.answer ≡ Ok More → advance m i (n + k) ≡ more_steps x.steps (advance x.machine i k)) i
    (λ m e.
    let all : 0 + k ≡ k = omega arith in
    ap (advance m i) all ∙ told_path (advance m i k) (advance m i k).steps (0 + (advance m i k).steps) (omega arith))
    (λ n m x t d h e.
    let one : suc n + k ≡ suc (n + k) = omega arith in
    let rest : Told = advance x.machine i k in
    ap (advance m i) one
    ∙ (on m i (n + k) t
    ∙ (ap one_more (h e) ∙ told_path rest (suc (x.steps + rest.steps)) (suc x.steps + rest.steps) (omega arith))))
    (λ n m f e. absurd (true≢false (sym (ap is_more e) ∙ f)))

-- the machine that Run hands back is the one to which as many steps lead as it reports
pub run_counts_steps : (i n : ℕ) (m : Machine) → (advance m i n).machine ≡ after_steps (advance m i n).steps m i
unfolding after_steps
run_counts_steps i =
    run_induction (λ n m x. x.machine ≡ after_steps x.steps m i) i
    (λ m. refl)
    (λ n m x t d h. h)
    (λ n m f. ap (λ (j : ℕ). after_steps j m i) (sym (step_counts_one (hop m i).machine i 1 (hop m i).after)))

-- it takes no more than it may, and all that it may where it answers more
pub run_within_budget : (i n : ℕ) (m : Machine) → (advance m i n).steps ≤ n
run_within_budget i =
    run_induction (λ n m x. x.steps ≤ n) i
    (λ m. omega arith)
    (λ n m x t d h. omega arith)
    (λ n m f. omega (arith, step_counts_one (hop m i).machine i 1 (hop m i).after))

pub more_means_all_taken : (i n : ℕ) (m : Machine) → (advance m i n).answer ≡ Ok More → (advance m i n).steps ≡ n
more_means_all_taken i =
    run_induction (λ n m x. x.answer ≡ Ok More → x.steps ≡ n) i
    (λ m e. refl)
    (λ n m x t d h e. ap suc (h e))
    (λ n m f e. absurd (true≢false (sym (ap is_more e) ∙ f)))
