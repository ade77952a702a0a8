-- How a number's groups are written, one at a time, and that five are enough.
use Prim.Native.Nat.{ℕ, zero, suc, ◌+◌, ◌-◌, ◌/◌, ◌%◌, ◌^◌, ◌<◌, ◌≤◌}
use mathlib.Core.Path.{◌≡◌, refl, sym, ap, ◌∙◌}
use mathlib.Core.List.{List, [], ◌∷◌, ◌++◌, append_assoc}
use native.Mathlib.Omega.{arith}
use native.Mathlib.Numerals.{sub-one}
use lib.Dec.{ltb}
use lib.ListN.{length}
use borrow.Author.Tests.{lt-ltb, le-ltb}
use Rattle.refusal.proofs.Tests.{either_way}
use Rattle.numbers.specs.Write.{groups, groups_of}
use Rattle.numbers.proofs.GroupByGroup.{capacity}

pub groups_last : (k n : ℕ) → n < 128 → groups k n ≡ n ∷ []
unfolding groups
groups_last zero n h = refl
groups_last (suc k) n h = rw (lt-ltb _ _ h)

pub groups_more : (k n : ℕ) → 128 ≤ n → groups (suc k) n ≡ (128 + n % 128) ∷ groups k (n / 128)
unfolding groups
groups_more k n h = rw (le-ltb _ _ h)

-- a number takes five bytes at most
few_groups : (k n : ℕ) → length (groups k n) ≤ suc k
unfolding groups
few_groups zero n = omega arith
few_groups (suc k) n = either_way (λ (l : List ℕ). length l ≤ suc (suc k)) (ltb n 128) (λ e. omega arith) (λ e. omega (arith, few_groups k (n / 128)))

pub few_bytes : (n : ℕ) → length (groups_of n) ≤ 5
few_bytes n = few_groups 4 n

-- a loop that writes the groups of n: `done` are written, and those of `rest` are still to come, k of them at most behind the next
pub record Remaining (n : ℕ) (done : List ℕ) (rest k : ℕ) : Type 0 where
  pub fits : rest < capacity k
  pub together : done ++ groups k rest ≡ groups_of n

pub all_remain : (n : ℕ) → n < 2 ^ 32 → Remaining n [] n 4
unfolding capacity
all_remain n h = record { fits = omega arith; together = refl }

-- another follows, so at least one may
pub another_may_follow : {n rest k : ℕ} {done : List ℕ} → Remaining n done rest k → 128 ≤ rest → 0 < k
unfolding capacity
another_may_follow {k = zero} r h = absurd (omega (arith, r.fits))
another_may_follow {k = suc k} r h = omega arith

pub one_written : {n rest k : ℕ} {done : List ℕ} → Remaining n done rest k → 128 ≤ rest → Remaining n (done ++ ((128 + rest % 128) ∷ [])) (rest / 128) (k - 1)
unfolding capacity
one_written {rest = rest} {k = zero} r h = absurd (omega (arith, r.fits))
one_written {n} {rest} {k = suc k} {done} r h = rw (sub-one (suc k))
    record {
      fits = omega (arith, r.fits);
      together = append_assoc done ((128 + rest % 128) ∷ []) (groups k (rest / 128)) ∙ sym (ap (λ (l : List ℕ). done ++ l) (groups_more k rest h)) ∙ r.together;
    }

pub last_written : {n rest k : ℕ} {done : List ℕ} → Remaining n done rest k → rest < 128 → done ++ (rest ∷ []) ≡ groups_of n
last_written {rest = rest} {k} {done} r h = sym (ap (λ (l : List ℕ). done ++ l) (groups_last k rest h)) ∙ r.together
