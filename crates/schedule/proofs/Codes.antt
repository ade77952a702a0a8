-- The codes are 1 to 7, no more and no fewer: each of them has operands, and what holds of each of them holds of every number that has.
-- And an entry is the same thing as its code with its operands, for the reader as for the writer.
use Prim.Native.Nat.{ℕ, zero, suc, ◌<◌, ◌≤◌}
use mathlib.Core.List.{append_assoc}
use mathlib.Core.Path.{◌≡◌, refl, sym, ap, ◌∙◌, subst}
use native.Mathlib.Omega.{arith}
use native.Mathlib.Decide.{ℕ_discrete}
use borrow.Author.Tests.{ne_eqb}
use Rattle.entry.specs.declared.Entry.{Entry}
use Rattle.entry.specs.declared.Entry.TheVariants.{Enqueue, Dequeue, FutureEnqueue, FutureDequeue, Evaluate, Step, Run}
use Rattle.entry.specs.Operands.{thread_of}
use Rattle.std.specs.Prelude.{Bool, true, false, cond, eqb, ◌++◌, Result, Ok, Err}
use Rattle.numbers.specs.Write.{groups_of}
use Rattle.refusal.specs.declared.Refusal.{Refusal}
use Rattle.refusal.specs.declared.Refusal.TheVariants.{NoSuchCode}
use Rattle.schedule.specs.declared.code.Code.{Code}
use Rattle.schedule.specs.Codes.{operands, entry_of, code_of, second_of, code_at, number_of}
use Rattle.schedule.specs.Write.{entry_bytes}
use Rattle.schedule.specs.Schedule.{bytes_of}

-- a code, as the reader and the writer test it: a number that has operands
abbrev pub IsCode : ℕ → Type 0
IsCode code = operands code ≡ 0 → ⊥

-- what holds of each of the seven holds of every code
pub each_code : (P : ℕ → Type 0) → P 1 → P 2 → P 3 → P 4 → P 5 → P 6 → P 7 → (code : ℕ) → IsCode code → P code
unfolding operands
each_code P p1 p2 p3 p4 p5 p6 p7 code some =
    elim (ℕ_discrete code 1) [
      | yes e ↦ subst P (sym e) p1
      | no n1 ↦ elim (ℕ_discrete code 2) [
        | yes e ↦ subst P (sym e) p2
        | no n2 ↦ elim (ℕ_discrete code 3) [
          | yes e ↦ subst P (sym e) p3
          | no n3 ↦ elim (ℕ_discrete code 4) [
            | yes e ↦ subst P (sym e) p4
            | no n4 ↦ elim (ℕ_discrete code 5) [
              | yes e ↦ subst P (sym e) p5
              | no n5 ↦ elim (ℕ_discrete code 6) [
                | yes e ↦ subst P (sym e) p6
                | no n6 ↦ elim (ℕ_discrete code 7) [
                  | yes e ↦ subst P (sym e) p7
                  | no n7 ↦ absurd (some (simp (ne_eqb code 1 n1, ne_eqb code 2 n2, ne_eqb code 3 n3, ne_eqb code 4 n4, ne_eqb code 5 n5, ne_eqb code 6 n6, ne_eqb code 7 n7)))
                ]
              ]
            ]
          ]
        ]
      ]
    ]

-- so the codes are 1 to 7, and each has one operand or two
pub code_is_1_to_7 : (code : ℕ) → IsCode code → (1 ≤ code) × (code ≤ 7)
code_is_1_to_7 = each_code (λ code. (1 ≤ code) × (code ≤ 7)) (omega arith) (omega arith) (omega arith) (omega arith) (omega arith) (omega arith) (omega arith)

pub one_to_seven_is_a_code : (code : ℕ) → 1 ≤ code → code ≤ 7 → IsCode code
unfolding operands
one_to_seven_is_a_code zero low high z = omega arith
one_to_seven_is_a_code (suc zero) low high z = omega arith
one_to_seven_is_a_code (suc (suc zero)) low high z = omega arith
one_to_seven_is_a_code (suc (suc (suc zero))) low high z = omega arith
one_to_seven_is_a_code (suc (suc (suc (suc zero)))) low high z = omega arith
one_to_seven_is_a_code (suc (suc (suc (suc (suc zero))))) low high z = omega arith
one_to_seven_is_a_code (suc (suc (suc (suc (suc (suc zero)))))) low high z = omega arith
one_to_seven_is_a_code (suc (suc (suc (suc (suc (suc (suc zero))))))) low high z = omega arith
one_to_seven_is_a_code (suc (suc (suc (suc (suc (suc (suc (suc n)))))))) low high z = omega arith

-- a number that has operands is a code's
found : Result Code Refusal → ℕ
found (Ok c) = number_of c
found (Err r) = 0

code_found : (n : ℕ) → IsCode n → found (code_at n) ≡ n
unfolding code_at found
code_found = each_code (λ n. found (code_at n) ≡ n) refl refl refl refl refl refl refl

-- and the others are refused 12
no_code : (n : ℕ) → operands n ≡ 0 → code_at n ≡ Err NoSuchCode
unfolding code_at
no_code n none =
    let other : (k : ℕ) → 1 ≤ k → k ≤ 7 → n ≡ k → ⊥ = λ k low high e. one_to_seven_is_a_code k low high (ap operands (sym e) ∙ none) in
    simp (
      ne_eqb n 1 (other 1 (omega arith) (omega arith)),
      ne_eqb n 2 (other 2 (omega arith) (omega arith)),
      ne_eqb n 3 (other 3 (omega arith) (omega arith)),
      ne_eqb n 4 (other 4 (omega arith) (omega arith)),
      ne_eqb n 5 (other 5 (omega arith) (omega arith)),
      ne_eqb n 6 (other 6 (omega arith) (omega arith)),
      ne_eqb n 7 (other 7 (omega arith) (omega arith)),
    )

pub code_read : (n : ℕ) {c : Code} → code_at n ≡ Ok c → (number_of c ≡ n) × (eqb (operands n) 0 ≡ false)
unfolding found
code_read n e = elim (ℕ_discrete (operands n) 0) [
  | yes none ↦ absurd (let z : ◌≡◌ {A = ℕ} 0 1 = cc (no_code n none) in omega arith)
  | no some ↦ (sym (ap found e) ∙ code_found n some, ne_eqb (operands n) 0 some)
]

pub code_refused : (n : ℕ) {r : Refusal} → code_at n ≡ Err r → (r ≡ NoSuchCode) × (eqb (operands n) 0 ≡ true)
unfolding found
code_refused n {r} e = elim (ℕ_discrete (operands n) 0) [
  | yes none ↦ (let same : ◌≡◌ {A = Result Code Refusal} (Err r) (Err NoSuchCode) = sym e ∙ no_code n none in cc, ap (λ (k : ℕ). eqb k 0) none)
  | no some ↦ absurd (let zero_is : n ≡ 0 = sym (code_found n some) ∙ ap found e in omega (arith, zero_is, (code_is_1_to_7 n some).0))
]

pub one_or_two : (code : ℕ) → IsCode code → (0 < operands code) × (operands code ≤ 2)
unfolding operands
one_or_two = each_code (λ code. (0 < operands code) × (operands code ≤ 2)) (omega arith) (omega arith) (omega arith) (omega arith) (omega arith) (omega arith) (omega arith)

pub one_where_not_two : (code : ℕ) → IsCode code → (operands code ≡ 2 → ⊥) → operands code ≡ 1
one_where_not_two code some not-two = omega (arith, one_or_two code some)

-- so its bytes go by whether it has a second operand, behind the code and the thread
pub bytes_by_second : (n t x : ℕ) {c : Code} → code_at n ≡ Ok c → entry_bytes n t x ≡ cond (eqb (operands (number_of c)) 2) ((groups_of n ++ groups_of t) ++ groups_of x) (groups_of n ++ groups_of t)
unfolding entry_bytes
bytes_by_second n t x {c} e =
    let read = code_read n e in
    let some : IsCode n = λ none. absurd (let z : ◌≡◌ {A = Bool} true false = ap (λ (k : ℕ). eqb k 0) (sym none) ∙ read.1 in cc) in
    elim (ℕ_discrete (operands n) 2) [
      | yes two ↦ rw (read.0, two) (sym (append_assoc (groups_of n) (groups_of t) (groups_of x)))
      | no not-two ↦ rw (read.0, ne_eqb (operands n) 2 not-two, one_where_not_two n some not-two) refl
    ]

-- an entry's code is one
pub is_a_code : (e : Entry) → IsCode (code_of e)
unfolding operands
is_a_code (Enqueue t v) z = omega arith
is_a_code (Dequeue t) z = omega arith
is_a_code (FutureEnqueue t v) z = omega arith
is_a_code (FutureDequeue t) z = omega arith
is_a_code (Evaluate t f) z = omega arith
is_a_code (Step t) z = omega arith
is_a_code (Run t n) z = omega arith

-- the entry of an entry's code and operands is that entry
pub of_its_code : (e : Entry) → entry_of (code_of e) (thread_of e) (second_of e) ≡ e
unfolding entry_of
of_its_code (Enqueue t v) = refl
of_its_code (Dequeue t) = refl
of_its_code (FutureEnqueue t v) = refl
of_its_code (FutureDequeue t) = refl
of_its_code (Evaluate t f) = refl
of_its_code (Step t) = refl
of_its_code (Run t n) = refl

-- and the entry of a code and operands has their bytes, that thread, and that second operand where the code has one
module _ (t x : ℕ) where
  pub bytes_of_its_entry : (code : ℕ) → IsCode code → bytes_of (entry_of code t x) ≡ entry_bytes code t x
  unfolding operands entry_of entry_bytes
  bytes_of_its_entry = each_code (λ code. bytes_of (entry_of code t x) ≡ entry_bytes code t x) refl refl refl refl refl refl refl

  pub thread_of_its_entry : (code : ℕ) → IsCode code → thread_of (entry_of code t x) ≡ t
  unfolding entry_of
  thread_of_its_entry = each_code (λ code. thread_of (entry_of code t x) ≡ t) refl refl refl refl refl refl refl

  pub second_of_its_entry : (code : ℕ) → IsCode code → second_of (entry_of code t x) ≤ x
  unfolding entry_of
  second_of_its_entry = each_code (λ code. second_of (entry_of code t x) ≤ x) (omega arith) (omega arith) (omega arith) (omega arith) (omega arith) (omega arith) (omega arith)

  -- a second operand that the code lacks counts for nothing
  pub one_operand_counts : (code : ℕ) → operands code ≡ 1 → entry_of code t 0 ≡ entry_of code t x
  unfolding operands entry_of
  one_operand_counts code one =
      each_code
      (λ code. operands code ≡ 1 → entry_of code t 0 ≡ entry_of code t x)
      (λ z. absurd (omega arith))
      (λ z. refl)
      (λ z. absurd (omega arith))
      (λ z. refl)
      (λ z. absurd (omega arith))
      (λ z. refl)
      (λ z. absurd (omega arith))
      code
      (λ z. omega arith)
      one
