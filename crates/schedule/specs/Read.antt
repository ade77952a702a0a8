-- 01, "Schedule bytes and listing": how a set-up and an entry are read.
-- Refusals 10 and 11 are those of the number at the first offending place. 12 comes as soon as the code is read. At set-up 9 is tested after both numbers have been read.
use Rattle.std.specs.Prelude.{ℕ, ◌-◌, cond, List, eqb, leb, length, Option, None, Some, Result, Ok, Err}
use Rattle.refusal.specs.declared.Refusal.{Refusal}
use Rattle.refusal.specs.declared.Refusal.TheVariants.{NoSuchCode}
use Rattle.refusal.specs.Verdicts.{and_then}
use Rattle.numbers.specs.Read.{Reading, a_number, number_at}
use Rattle.entry.specs.declared.Entry.{Entry}
use Rattle.entry.specs.Range.{in_range}
use Rattle.schedule.specs.declared.read.SetUp.{SetUp}
use Rattle.schedule.specs.declared.read.ReadEntry.{ReadEntry}
use Rattle.schedule.specs.Codes.{operands, entry_of}

-- a schedule's set-up and the place behind it, or why it is refused
abbrev pub SetUpReading : Type 0
SetUpReading = Result SetUp Refusal

abbrev pub a_set_up : ℕ → ℕ → ℕ → SetUpReading
a_set_up threads nodes next = Ok (record { threads = threads; nodes = nodes; next = next })

-- the thread number, then the node number, at the start of the bytes; 9, once both numbers have read well
unfoldable pub set_up_of : List ℕ → SetUpReading
set_up_of s =
    and_then (number_at s 0) λ threads.
    and_then (number_at s threads.next) λ nodes.
    and_then (in_range threads.value nodes.value) λ ok.
    a_set_up threads.value nodes.value nodes.next

-- what stands at a place: an entry and the count of bytes that it took, or why it is refused; nothing at the schedule's end
abbrev pub EntryReading : Type 0
EntryReading = Option (Result ReadEntry Refusal)

abbrev pub an_entry : Entry → ℕ → EntryReading
an_entry e n = Some (Ok (record { entry = e; count = n }))

-- a code's second operand, 0 where the code lacks one
abbrev pub second_at : List ℕ → ℕ → ℕ → Reading
second_at s code at = cond (eqb (operands code) 2) (number_at s at) (a_number 0 at)

-- an entry that began at `from`, from its first operand on, the thread, which stands at `at`
unfoldable pub operands_at : List ℕ → ℕ → ℕ → ℕ → Result ReadEntry Refusal
operands_at s from code at =
    and_then (number_at s at) λ thread.
    and_then (second_at s code thread.next) λ second.
    Ok (record { entry = entry_of code thread.value second.value; count = second.next - from })

-- the entry at a place where a byte is left: its code, then its operands
unfoldable pub some_entry_at : List ℕ → ℕ → Result ReadEntry Refusal
some_entry_at s from =
    and_then (number_at s from) λ code.
    cond (eqb (operands code.value) 0) (Err NoSuchCode) (operands_at s from code.value code.next)

-- the entry at a place
unfoldable pub entry_at : List ℕ → ℕ → EntryReading
entry_at s from = cond (leb (length s) from) None (Some (some_entry_at s from))
