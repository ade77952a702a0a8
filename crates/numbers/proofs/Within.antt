-- How the reading of a number ends: one that reads well takes a byte at least and ends within the input; any other is refused by 10 or 11.
use Prim.Native.Nat.{ℕ, zero, suc, ◌+◌, ◌<◌, ◌≤◌}
use mathlib.Core.Path.{◌≡◌, refl, subst}
use mathlib.Core.Logic.{◌⊎◌, inl, inr}
use mathlib.Core.List.{List, [], ◌∷◌}
use native.Mathlib.Omega.{arith}
use lib.Dec.{ltb, eqb}
use lib.ListN.{length, drop, length-drop}
use Rattle.refusal.specs.declared.Refusal.{Refusal}
use Rattle.refusal.specs.declared.Refusal.TheVariants.{CutShort, TooLong}
use Rattle.refusal.proofs.Tests.{either_way}
use Rattle.numbers.specs.declared.Number.{Number}
use Rattle.numbers.specs.Read.{last_group, before, following, number, number_at, Reading, a_number}
use Rattle.std.specs.Prelude.{Err, Ok}

-- a reading of the bytes s, from the place `at` on
data Ends (at : ℕ) (s : List ℕ) : Reading → Type 0 where
  well : {v next : ℕ} → at < next → next ≤ at + length s → Ends at s (a_number v next)
  cut_short : Ends at s (Err CutShort)
  too_long : Ends at s (Err TooLong)

behind : {s : List ℕ} (at b : ℕ) (r : Reading) → Ends (at + 1) s r → Ends at (b ∷ s) (before b r)
unfolding before
behind at b (Ok found) (well on within) = well {next = found.next} (omega arith) (omega arith)
behind at b (Err r) cut_short = cut_short
behind at b (Err r) too_long = too_long

last : {s : List ℕ} (at b : ℕ) → Ends at (b ∷ s) (last_group at b)
unfolding last_group
last {s} at b = either_way (Ends at (b ∷ s)) (eqb b 0) (λ e. too_long) (λ e. well (omega arith) (omega arith))

following_ends : (k at : ℕ) (s : List ℕ) → Ends at s (following k at s)
unfolding following
following_ends zero at [] = cut_short
following_ends (suc k) at [] = cut_short
following_ends zero at (b ∷ s) = either_way (Ends at (b ∷ s)) (ltb 15 b) (λ e. too_long) (λ e. last at b)
following_ends (suc k) at (b ∷ s) = either_way (Ends at (b ∷ s)) (ltb b 128) (λ e. last at b) (λ e. behind at b _ (following_ends k (at + 1) s))

number_ends : (at : ℕ) (s : List ℕ) → Ends at s (number at s)
unfolding number
number_ends at [] = cut_short
number_ends at (b ∷ s) = either_way (Ends at (b ∷ s)) (ltb b 128) (λ e. well (omega arith) (omega arith)) (λ e. behind at b _ (following_ends 3 (at + 1) s))

pub reads_within : (s : List ℕ) (from v next : ℕ) → number_at s from ≡ a_number v next → (from < next) × (next ≤ length s)
reads_within s from v next e = by_its_end (subst (Ends from (drop from s)) e (number_ends from (drop from s)))
  where
    by_its_end : Ends from (drop from s) (a_number v next) → (from < next) × (next ≤ length s)
    by_its_end (well on within) = (on, omega (arith, length-drop from s))

-- as the check finds it: a reading that is a number goes on behind its place
pub reads_on : (s : List ℕ) (from : ℕ) (found : Number) → number_at s from ≡ Ok found → from < found.next
reads_on s from found e = (reads_within s from found.value found.next e).0

pub refused_by_10_or_11 : (s : List ℕ) (at : ℕ) (r : Refusal) → number_at s at ≡ Err r → (r ≡ CutShort) ⊎ (r ≡ TooLong)
refused_by_10_or_11 s at r e = by_its_end r (subst (Ends at (drop at s)) e (number_ends at (drop at s)))
  where
    by_its_end : (r : Refusal) → Ends at (drop at s) (Err r) → (r ≡ CutShort) ⊎ (r ≡ TooLong)
    by_its_end r cut_short = inl refl
    by_its_end r too_long = inr refl
