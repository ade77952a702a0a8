-- 01, "Schedule bytes and listing": a whole schedule. It is the thread number, the node number, then entries; an entry is read only when its code and every operand read well.
use Rattle.std.specs.Prelude.{ℕ, zero, suc, ◌+◌, List, [], ◌∷◌, ◌++◌, length, Err, None, Ok, Some}
use Rattle.refusal.specs.declared.Refusal.{Refusal}
use Rattle.entry.specs.declared.Entry.{Entry}
use Rattle.entry.specs.Operands.{thread_of}
use Rattle.schedule.specs.Codes.{code_of, second_of}
use Rattle.schedule.specs.Read.{entry_at, EntryReading}
use Rattle.schedule.specs.Write.{set_up_bytes, entry_bytes}

-- how the entries end: no byte is left, or the next one is refused
pub data Ending : Type 0 where
  ended : Ending
  refused : Refusal → Ending

-- the entries that read well, and how they end
pub record Entries : Type 0 where
  pub entries : List Entry
  pub ending : Ending

abbrev pub none : Ending → Entries
none e = record { entries = []; ending = e }

abbrev pub first : Entry → Entries → Entries
first e rest = record { entries = e ∷ rest.entries; ending = rest.ending }

-- the entries from a place on, k at most. Each takes a byte at least, so those of s are not more than its bytes.
abbrev pub go_on : EntryReading → (ℕ → Entries) → Entries
go_on None rest = none ended
go_on (Some (Err r)) rest = none (refused r)
go_on (Some (Ok read)) rest = first read.entry (rest read.count)

unfoldable pub entries_up_to : ℕ → List ℕ → ℕ → Entries
entries_up_to zero s from = none ended
entries_up_to (suc k) s from = go_on (entry_at s from) λ n. entries_up_to k s (from + n)

abbrev pub entries_from : List ℕ → ℕ → Entries
entries_from s from = entries_up_to (suc (length s)) s from

-- and how they are written
abbrev pub bytes_of : Entry → List ℕ
bytes_of e = entry_bytes (code_of e) (thread_of e) (second_of e)

unfoldable pub bytes_of_all : List Entry → List ℕ
bytes_of_all [] = []
bytes_of_all (e ∷ es) = bytes_of e ++ bytes_of_all es

abbrev pub schedule_bytes : ℕ → ℕ → List Entry → List ℕ
schedule_bytes threads nodes es = set_up_bytes threads nodes ++ bytes_of_all es
