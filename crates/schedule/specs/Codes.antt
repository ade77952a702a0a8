-- 01, "Entries": the table's codes, and the operands that each has.
use Rattle.std.specs.Prelude.{ℕ, cond, ◌||◌, eqb, Result, Ok, Err}
use Rattle.refusal.specs.declared.Refusal.{Refusal}
use Rattle.refusal.specs.declared.Refusal.TheVariants.{NoSuchCode}
use Rattle.entry.specs.declared.Entry.{Entry}
use Rattle.entry.specs.declared.Entry.TheVariants.{Enqueue, Dequeue, FutureEnqueue, FutureDequeue, Evaluate, Step, Run}
use Rattle.schedule.specs.declared.code.Code.{Code}
use Rattle.schedule.specs.declared.code.Code.TheVariants as code

-- how many operands a code has, the thread among them; 0 where it is not 1 to 7
unfoldable pub operands : ℕ → ℕ
operands code =
    cond (eqb code 1 || eqb code 3 || eqb code 5 || eqb code 7) 2
    (cond (eqb code 2 || eqb code 4 || eqb code 6) 1
    0)

-- the entry of a code from 1 to 7; x counts where the code has a second operand
unfoldable pub entry_of : ℕ → ℕ → ℕ → Entry
entry_of code t x =
    cond (eqb code 1) (Enqueue t x)
    (cond (eqb code 2) (Dequeue t)
    (cond (eqb code 3) (FutureEnqueue t x)
    (cond (eqb code 4) (FutureDequeue t)
    (cond (eqb code 5) (Evaluate t x)
    (cond (eqb code 6) (Step t)
    (Run t x))))))

-- and back: an entry's code, and its second operand, 0 where the code lacks one; its thread is entry's `thread_of`
abbrev pub code_of : Entry → ℕ
code_of (Enqueue t v) = 1
code_of (Dequeue t) = 2
code_of (FutureEnqueue t v) = 3
code_of (FutureDequeue t) = 4
code_of (Evaluate t f) = 5
code_of (Step t) = 6
code_of (Run t n) = 7

abbrev pub second_of : Entry → ℕ
second_of (Enqueue t v) = v
second_of (Dequeue t) = 0
second_of (FutureEnqueue t v) = v
second_of (FutureDequeue t) = 0
second_of (Evaluate t f) = f
second_of (Step t) = 0
second_of (Run t n) = n

-- a code by its number, or 12; and its number
unfoldable pub code_at : ℕ → Result Code Refusal
code_at n =
    cond (eqb n 1) (Ok code.Enqueue)
    (cond (eqb n 2) (Ok code.Dequeue)
    (cond (eqb n 3) (Ok code.FutureEnqueue)
    (cond (eqb n 4) (Ok code.FutureDequeue)
    (cond (eqb n 5) (Ok code.Evaluate)
    (cond (eqb n 6) (Ok code.Step)
    (cond (eqb n 7) (Ok code.Run)
    (Err NoSuchCode)))))))

abbrev pub number_of : Code → ℕ
number_of code.Enqueue = 1
number_of code.Dequeue = 2
number_of code.FutureEnqueue = 3
number_of code.FutureDequeue = 4
number_of code.Evaluate = 5
number_of code.Step = 6
number_of code.Run = 7
