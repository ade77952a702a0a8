-- 01, "Schedule bytes and listing": the writer changes only what it writes, from the start of the lent part; what stands after it stays.
-- Refusal 13 (NoRoom): the buffer is too short, and nothing changes.
use Rattle.std.specs.Prelude.{ℕ, ◌+◌, cond, List, ◌++◌, leb, length, take, drop, Result, Ok, Err}
use Rattle.refusal.specs.declared.Refusal.{Refusal}
use Rattle.refusal.specs.declared.Refusal.TheVariants.{NoRoom}

-- the count of places written, from the buffer's start, or why nothing was
abbrev pub Writing : Type 0
Writing = Result ℕ Refusal

module _ {A : Type 0} where
  -- what is written, into a buffer: the answer
  abbrev pub writing : List A → List A → Writing
  writing l buf = cond (leb (length l) (length buf)) (Ok (length l)) (Err NoRoom)

  -- and the buffer afterwards
  abbrev pub written : List A → List A → List A
  written l buf = cond (leb (length l) (length buf)) (l ++ drop (length l) buf) buf

  -- what is written at a place, where it fits: what stands before it and after it stays
  unfoldable pub written_at : ℕ → List A → List A → List A
  written_at at l buf = take at buf ++ (l ++ drop (at + length l) buf)
