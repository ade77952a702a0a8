-- A future waits or holds a result, and the answer for one that is done tells that result.
use Prim.Native.Nat.{ℕ}
use mathlib.Core.Path.{◌≡◌, refl, sym, ap, ◌∙◌, subst}
use mathlib.Core.List.{List, [], ◌∷◌, map}
use mathlib.Core.Option.{Option}
use mathlib.Core.Logic.{◌⊎◌, inl, inr, ◌≢◌}
use native.Mathlib.Omega.{arith}
use Rattle.std.specs.Prelude.{None, Some}
use Rattle.chain.specs.Positions.{At}
use Rattle.chain.proofs.Positions.{the_only_one}
use Rattle.tally.specs.Fifo.{Result, ok, item, empty}
use Rattle.answer.specs.Answer.{Outcome, answered}
use Rattle.answer.specs.declared.CallResult.TheVariants as call_result
use Rattle.std.specs.Prelude.{Ok}
use Rattle.order.specs.Order.{Given, results_in, gives}
use Rattle.order.specs.Outcomes.{outcome_of}

pub waits_or_done : (o : Outcome) → (o ≡ None) ⊎ ((r : Result ℕ) × (o ≡ outcome_of r))
waits_or_done None = inl refl
waits_or_done (Some call_result.Ok) = inr (ok, refl)
waits_or_done (Some (call_result.Item v)) = inr (item v.value, refl)
waits_or_done (Some call_result.Empty) = inr (empty, refl)

pub result_waits_not : (r : Result ℕ) → outcome_of r ≢ None
result_waits_not ok e = let z : ◌≡◌ {A = ℕ} 0 1 = cc in omega arith
result_waits_not (item v) e = let z : ◌≡◌ {A = ℕ} 0 1 = cc in omega arith
result_waits_not empty e = let z : ◌≡◌ {A = ℕ} 0 1 = cc in omega arith

told : (r : Result ℕ) → results_in (Ok (answered (outcome_of r))) ≡ r ∷ []
told ok = refl
told (item v) = refl
told empty = refl

pub one_result : (r s : Result ℕ) → outcome_of r ≡ outcome_of s → r ≡ s
one_result r s e = let both : r ∷ [] ≡ s ∷ [] = sym (told r) ∙ ap (λ (o : Outcome). results_in (Ok (answered o))) e ∙ told s in cc both

-- what the answer gives is that result alone
pub given_alone : (i : ℕ) (f began : Option ℕ) (now : ℕ) (o : Outcome) (r : Result ℕ) → o ≡ outcome_of r → (j : ℕ) (x : Given) → At (gives i f began now (Ok (answered o))) j x
    → x ≡ record { thread = i; future = f; began = began; result = r; time = now }
given_alone i f began now o r e j x p =
    the_only_one _ x j
    (subst (λ (rs : List (Result ℕ)). At (map (λ (q : Result ℕ). record { thread = i; future = f; began = began; result = q; time = now }) rs) j x)
    (ap (λ (y : Outcome). results_in (Ok (answered y))) e ∙ told r) p)
