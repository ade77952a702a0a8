-- 01's cases marked P hold: a test that is computed over the whole table, and what the test says of a row.
use Prim.Native.Nat.{ℕ}
use mathlib.Core.Path.{◌≡◌, refl, ap₂}
use mathlib.Core.Bool.{Bool, true, false, ◌&&◌}
use mathlib.Core.List.{List, [], ◌∷◌}
use native.Mathlib.Omega.{arith}
use lib.Dec.{eqb}
use lib.ListN.{length}
use borrow.Author.Tests.{eqb-true}
use Rattle.numbers.specs.Read.{number_at, number, following, before, last_group, Reading, a_number}
use Rattle.numbers.specs.Write.{groups_of, groups}
use Rattle.tally.specs.Fifo.{results, result, after, failing, successful}
use Rattle.tally.specs.Excess.{excess, largest, prefixes, dequeues, enqueued}
use Rattle.cases.specs.Table.{Case, excess_is, failing_on, successful_on, written, refused, refusal_in, Says, Each, table, calls}
use lib.ListN.{replicate}
use Rattle.std.specs.Prelude.{Err, Ok}

same_bytes_lem : List ℕ → List ℕ → Bool
same_bytes_lem [] [] = true
same_bytes_lem [] (b ∷ s) = false
same_bytes_lem (a ∷ r) [] = false
same_bytes_lem (a ∷ r) (b ∷ s) = eqb a b && same_bytes_lem r s

reads_as_lem : Reading → ℕ → ℕ → Bool
reads_as_lem (Ok found) n m = eqb found.value n && eqb found.next m
reads_as_lem (Err r) n m = false

holds : Case → Bool
holds (excess_is w n) = eqb (excess (calls w)) n
holds (failing_on w n k) = eqb (failing (results (calls w) (replicate n 0))) k
holds (successful_on w n k) = eqb (successful (results (calls w) (replicate n 0))) k
holds (written n bytes) = same_bytes_lem (groups_of n) bytes && reads_as_lem (number_at bytes 0) n (length bytes)
holds (refused bytes n) = eqb (refusal_in (number_at bytes 0)) n

all : List Case → Bool
all [] = true
all (c ∷ cs) = holds c && all cs

both : (a b : Bool) → a && b ≡ true → (a ≡ true) × (b ≡ true)
both true true e = (refl, refl)
both true false e = (refl, e)
both false b e = absurd (let z : ◌≡◌ {A = ℕ} 0 1 = cc in omega arith)

same_bytes : (r s : List ℕ) → same_bytes_lem r s ≡ true → r ≡ s
unfolding same_bytes_lem
same_bytes [] [] e = refl
same_bytes [] (b ∷ s) e = absurd (let z : ◌≡◌ {A = ℕ} 0 1 = cc in omega arith)
same_bytes (a ∷ r) [] e = absurd (let z : ◌≡◌ {A = ℕ} 0 1 = cc in omega arith)
same_bytes (a ∷ r) (b ∷ s) e = let t = both (eqb a b) (same_bytes_lem r s) e in ap₂ {C = List ℕ} (λ x l. x ∷ l) (eqb-true a b t.0) (same_bytes r s t.1)

reads_as : (r : Reading) (n m : ℕ) → reads_as_lem r n m ≡ true → r ≡ a_number n m
unfolding reads_as_lem
reads_as (Ok found) n m e = let t = both (eqb found.value n) (eqb found.next m) e in ap₂ a_number (eqb-true found.value n t.0) (eqb-true found.next m t.1)
reads_as (Err r) n m e = absurd (let z : ◌≡◌ {A = ℕ} 0 1 = cc in omega arith)

says : (c : Case) → holds c ≡ true → Says c
unfolding holds
says (excess_is w n) e = eqb-true _ _ e
says (failing_on w n k) e = eqb-true _ _ e
says (successful_on w n k) e = eqb-true _ _ e
says (written n bytes) e = let t = both _ _ e in (same_bytes _ _ t.0, reads_as _ _ _ t.1)
says (refused bytes n) e = eqb-true _ _ e

each : (cs : List Case) → all cs ≡ true → Each cs
unfolding all
each [] e = tt
each (c ∷ cs) e = let t = both (holds c) (all cs) e in (says c t.0, each cs t.1)

pub cases_hold : Each table
unfolding all holds same_bytes_lem reads_as_lem excess largest prefixes dequeues enqueued failing successful results result after number following before last_group groups
cases_hold = each table refl
