-- What a CAS learns when it compares: a value that compares equal is the very one that was remembered, and the other way round.
-- A head is a node with a count or an announcement, never both.
use Prim.Native.Nat.{ℕ}
use mathlib.Core.Path.{◌≡◌, refl, ap}
use mathlib.Core.Bool.{Bool, true, false, ◌&&◌, false≢true}
use native.Mathlib.Omega.{arith}
use lib.Dec.{eqb}
use borrow.Author.Tests.{eqb-true, eq-eqb}
use Rattle.cells.specs.declared.Tail.{Tail}
use Rattle.cells.specs.declared.Front.{Front}
use Rattle.cells.specs.declared.Head.{Head}
use Rattle.cells.specs.declared.Head.TheVariants.{Plain, Announced}
use Rattle.cells.specs.Ends.{same_tail, same_front, same_head}

both_true : (a b : Bool) → (a && b) ≡ true → (a ≡ true) × (b ≡ true)
both_true true b e = (refl, e)
both_true false b e = absurd (false≢true e)

-- a test of two pairs of numbers
both_equal : (m n p q : ℕ) → (eqb m n && eqb p q) ≡ true → (m ≡ n) × (p ≡ q)
both_equal m n p q e = let b = both_true (eqb m n) (eqb p q) e in (eqb-true m n b.0, eqb-true p q b.1)

both_tests_true : (m n p q : ℕ) → m ≡ n → p ≡ q → (eqb m n && eqb p q) ≡ true
both_tests_true m n p q e f = rw (eq-eqb m n e, eq-eqb p q f)

-- tails
pub tail_of_parts : (a b : Tail) → a.node ≡ b.node → a.count.0 ≡ b.count.0 → a ≡ b
tail_of_parts a b p q = λ k. record { node = p k; count = record { 0 = q k } }

pub same_tail_is_it : (a b : Tail) → same_tail a b ≡ true → a ≡ b
same_tail_is_it a b e = let s = both_equal a.node b.node a.count.0 b.count.0 e in tail_of_parts a b s.0 s.1

pub it_is_the_same_tail : (a b : Tail) → a ≡ b → same_tail a b ≡ true
it_is_the_same_tail a b e =
    both_tests_true a.node b.node a.count.0 b.count.0 (ap (λ (t : Tail). t.node) e) (ap (λ (t : Tail). t.count.0) e)

-- fronts
pub front_of_parts : (a b : Front) → a.node ≡ b.node → a.count.0 ≡ b.count.0 → a ≡ b
front_of_parts a b p q = λ k. record { node = p k; count = record { 0 = q k } }

pub same_front_is_it : (a b : Front) → same_front a b ≡ true → a ≡ b
same_front_is_it a b e = let s = both_equal a.node b.node a.count.0 b.count.0 e in front_of_parts a b s.0 s.1

-- heads
pub same_head_is_plain : (h : Head) (f : Front) → same_head h (Plain f) ≡ true → h ≡ Plain f
same_head_is_plain (Plain x) f e = ap Plain (same_front_is_it x f e)
same_head_is_plain (Announced a) f e = absurd (false≢true e)

pub same_head_is_announced : (h : Head) (a : ℕ) → same_head h (Announced a) ≡ true → h ≡ Announced a
same_head_is_announced (Plain x) a e = absurd (false≢true e)
same_head_is_announced (Announced b) a e = ap Announced (eqb-true b a e)

pub plain_is_not_announced : {h : Head} {f : Front} {a : ℕ} → h ≡ Plain f → h ≡ Announced a → ⊥
plain_is_not_announced p q = let z : ◌≡◌ {A = ℕ} 0 1 = cc in omega arith

pub one_announced : {h : Head} {a b : ℕ} → h ≡ Announced a → h ≡ Announced b → a ≡ b
one_announced p q = cc

pub one_plain : {h : Head} {a b : Front} → h ≡ Plain a → h ≡ Plain b → a ≡ b
one_plain p q = cc
