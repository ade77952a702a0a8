-- Run, as the code does it: the accesses one after the other, and the end of the call told after them, is the fold of steps.
-- And what a turn of the code's loop does to the steps that are still to come.
use Rattle.std.proofs.Common.{◌≡◌, ℕ, zero, suc, ◌+◌, ◌-◌, ◌<◌, ◌≤◌, true, false, cond, sym, refl, ap, ◌∙◌, arith}
use Rattle.place.specs.declared.Place.TheVariants.{Idle}
use Rattle.place.specs.declared.After.{After}
use Rattle.place.specs.declared.After.TheVariants as afterwards
use Rattle.place.specs.Place.{goes_on}
use Rattle.machine.specs.declared.Machine.{Machine}
use Rattle.machine.specs.declared.Told.{Told}
use Rattle.machine.specs.Pairing.{settled}
use Rattle.machine.specs.Steps.{Ran, hop, hops, tell, is_more, one_more, advance}

told_one_more : (m : Machine) (i k : ℕ) (a : After) → tell m i (suc k) a ≡ one_more (tell m i k a)
unfolding settled
told_one_more m i k (afterwards.On p) = refl
told_one_more m i k afterwards.Ok = refl
told_one_more m i k afterwards.Empty = refl
told_one_more m i k (afterwards.Item n) = refl
told_one_more m i k (afterwards.Pair from) = refl
told_one_more m i k (afterwards.PairDequeues from taken) = refl

abbrev told_of : ℕ → Ran → Told
told_of i r = tell r.machine i r.steps r.after

-- one step of the fold, by how the hop goes on; `fold` is the rest of it, from the machine that the step leaves
first_step : (m : Machine) (i : ℕ) (a : After) (rest : Ran) (fold : Machine → Told) → fold m ≡ told_of i rest
    → cond (is_more (tell m i 1 a).answer) (one_more (fold (tell m i 1 a).machine)) (tell m i 1 a)
    ≡ told_of i (cond (goes_on a) (record { machine = rest.machine; after = rest.after; steps = suc rest.steps }) (record { machine = m; after = a; steps = 1 }))
unfolding settled
first_step m i (afterwards.On p) rest fold e = ap one_more e ∙ sym (told_one_more rest.machine i rest.steps rest.after)
first_step m i afterwards.Ok rest fold e = refl
first_step m i afterwards.Empty rest fold e = refl
first_step m i (afterwards.Item n) rest fold e = refl
first_step m i (afterwards.Pair from) rest fold e = refl
first_step m i (afterwards.PairDequeues from taken) rest fold e = refl

pub advance_is_told : (n : ℕ) (m : Machine) (i : ℕ) → advance m i n ≡ told_of i (hops n m i)
unfolding advance hops
advance_is_told zero m i = refl
advance_is_told (suc n) m i = first_step (hop m i).machine i (hop m i).after (hops n (hop m i).machine i) (λ k. advance k i n) (advance_is_told n (hop m i).machine i)

-- k steps taken before
abbrev pub plus : ℕ → Ran → Ran
plus k r = record { machine = r.machine; after = r.after; steps = k + r.steps }

hops_on : (n : ℕ) (m : Machine) (i : ℕ) → goes_on (hop m i).after ≡ true → hops (suc n) m i ≡ plus 1 (hops n (hop m i).machine i)
unfolding hops
hops_on n m i e = rw e (λ j. record { machine = (hops n (hop m i).machine i).machine; after = (hops n (hop m i).machine i).after; steps = (let z : suc (hops n (hop m i).machine i).steps ≡ 1 + (hops n (hop m i).machine i).steps = omega arith in z) j })

hops_end : (n : ℕ) (m : Machine) (i : ℕ) → goes_on (hop m i).after ≡ false → hops (suc n) m i ≡ record { machine = (hop m i).machine; after = (hop m i).after; steps = 1 }
unfolding hops
hops_end n m i e = rw e

steps_path : (r : Ran) (j k : ℕ) → j ≡ k → ◌≡◌ {A = Ran} (record { machine = r.machine; after = r.after; steps = j }) (record { machine = r.machine; after = r.after; steps = k })
steps_path r j k e = λ x. record { machine = r.machine; after = r.after; steps = e x }

-- the loop: `taken` of `most` steps are taken, and together with those to come they give z
module _ (taken most : ℕ) (m : Machine) (i : ℕ) (z : Ran) (inv : z ≡ plus taken (hops (most - taken) m i)) where
  pub stops : most ≤ taken → taken ≤ most → z ≡ record { machine = m; after = afterwards.On Idle; steps = most }
  unfolding hops
  stops p q =
      let none : most - taken ≡ 0 = omega (arith, p) in
      inv ∙ (ap (λ (n : ℕ). plus taken (hops n m i)) none ∙ steps_path (hops 0 m i) (taken + 0) most (omega (arith, p, q)))

  one_of : taken < most → most - taken ≡ suc (most - (taken + 1))
  one_of p = omega arith

  pub goes_on_lem : {u : Machine} {v : After} → taken < most → u ≡ (hop m i).machine → v ≡ (hop m i).after → goes_on v ≡ true
      → z ≡ plus (taken + 1) (hops (most - (taken + 1)) u i)
  goes_on_lem {u} {v} p e f g =
      let next : Ran = hops (most - (taken + 1)) (hop m i).machine i in
      inv ∙ (ap (λ (n : ℕ). plus taken (hops n m i)) (one_of p)
      ∙ (ap (plus taken) (hops_on (most - (taken + 1)) m i (sym (ap goes_on f) ∙ g))
      ∙ (steps_path next (taken + (1 + next.steps)) (taken + 1 + next.steps) (omega arith)
      ∙ ap (λ (x : Machine). plus (taken + 1) (hops (most - (taken + 1)) x i)) (sym e))))

  pub ends : {u : Machine} {v : After} → taken < most → u ≡ (hop m i).machine → v ≡ (hop m i).after → goes_on v ≡ false
      → z ≡ record { machine = u; after = v; steps = taken + 1 }
  ends {u} {v} p e f g =
      inv ∙ (ap (λ (n : ℕ). plus taken (hops n m i)) (one_of p)
      ∙ (ap (plus taken) (hops_end (most - (taken + 1)) m i (sym (ap goes_on f) ∙ g))
      ∙ λ j. record { machine = sym e j; after = sym f j; steps = taken + 1 }))
