-- What is written reads back, whatever bytes stand before and after it, and takes exactly the bytes written.
-- Shown once over the number of groups: a group and what follows it hold a number as its remainder and its quotient by 128.
use Prim.Native.Nat.{ℕ, zero, suc, ◌+◌, ◌/◌, ◌%◌, ◌^◌, ◌<◌, ◌≤◌}
use mathlib.Core.Path.{◌≡◌, ap, ap₂, ◌∙◌}
use mathlib.Core.List.{List, ◌++◌}
use native.Mathlib.Omega.{arith}
use native.Mathlib.Decide.{dec_lt}
use lib.ListN.{length, drop}
use lib.Seq.{drop-append_seam}
use borrow.Author.Tests.{lt-ltb, le-ltb, ne_eqb}
use Rattle.numbers.specs.Read.{last_group, before, following, number, number_at, Reading, a_number}
use Rattle.numbers.specs.Write.{groups, groups_of}
use Rattle.lent.specs.Lent.{written}
use Rattle.numbers.proofs.GroupByGroup.{capacity}
use Rattle.lent.proofs.Laws.{written_fits}

last_not_zero : (at n : ℕ) → 0 < n → last_group at n ≡ a_number n (at + 1)
unfolding last_group
last_not_zero at n h = rw (ne_eqb n 0 (λ e. omega arith))

-- the groups behind the lowest one read as the quotient, and the lowest adds the remainder
put_together : (at n l : ℕ) (r : Reading) → r ≡ a_number (n / 128) (at + 1 + l) → before (128 + n % 128) r ≡ a_number n (at + suc l)
unfolding before
put_together at n l r e = ap (before (128 + n % 128)) e ∙ ap₂ a_number (omega arith) (omega arith)

-- the groups that follow another one, k of them at most behind the first
pub following_reads_back : (k n at : ℕ) (rest : List ℕ) → 0 < n → n < capacity k → following k at (groups k n ++ rest) ≡ a_number n (at + length (groups k n))
unfolding following groups capacity
following_reads_back zero n at rest p h = rw (le-ltb 15 n (omega arith)) (last_not_zero at n p)
following_reads_back (suc k) n at rest p h = elim (dec_lt n 128) [
  | yes small ↦ simp (lt-ltb n 128 small) (last_not_zero at n p)
  | no large ↦ simp (le-ltb n 128 (omega arith), le-ltb (128 + n % 128) 128 (omega arith))
      (put_together at n _ _ (following_reads_back k (n / 128) (at + 1) rest (omega arith) (omega arith)))
]

-- a whole number
pub reads_back : (n at : ℕ) (rest : List ℕ) → n < 2 ^ 32 → number at (groups_of n ++ rest) ≡ a_number n (at + length (groups_of n))
unfolding number groups capacity
reads_back n at rest h = elim (dec_lt n 128) [
  | yes small ↦ simp (lt-ltb n 128 small)
  | no large ↦ simp (le-ltb n 128 (omega arith), le-ltb (128 + n % 128) 128 (omega arith))
      (put_together at n _ _ (following_reads_back 3 (n / 128) (at + 1) rest (omega arith) (omega arith)))
]

-- at any place of the input
pub written_reads_back : (front : List ℕ) (n : ℕ) (rest : List ℕ) → n < 2 ^ 32 → number_at (front ++ (groups_of n ++ rest)) (length front) ≡ a_number n (length front + length (groups_of n))
written_reads_back front n rest h = ap (number (length front)) (drop-append_seam front (groups_of n ++ rest)) ∙ reads_back n (length front) rest h

-- and in a lent buffer where it was written
pub written_in_buffer_reads_back : (n : ℕ) (buf : List ℕ) → n < 2 ^ 32 → length (groups_of n) ≤ length buf → number_at (written (groups_of n) buf) 0 ≡ a_number n (length (groups_of n))
written_in_buffer_reads_back n buf h fits =
    ap (number 0) (written_fits (groups_of n) buf fits) ∙ reads_back n 0 (drop (length (groups_of n)) buf) h ∙ ap (a_number n) (omega arith)
