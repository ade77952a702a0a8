-- 01, "Schedule bytes and listing": how a set-up and an entry are written. An entry is tested 12, then 13; a set-up 9, then 13.
-- A number given for an operand that the code lacks is no part of the entry and is not written.
use Rattle.std.specs.Prelude.{ℕ, cond, List, ◌++◌, eqb, Err, Ok}
use Rattle.refusal.specs.declared.Refusal.TheVariants.{NoSuchCode}
use Rattle.numbers.specs.Write.{groups_of}
use Rattle.lent.specs.Lent.{writing, written, Writing}
use Rattle.entry.specs.Range.{in_range}
use Rattle.schedule.specs.Codes.{operands}
use Rattle.refusal.specs.Verdicts.{Verdict, accepted, where_accepted}

abbrev pub pair_bytes : ℕ → ℕ → List ℕ
pair_bytes a b = groups_of a ++ groups_of b

abbrev pub triple_bytes : ℕ → ℕ → ℕ → List ℕ
triple_bytes a b c = groups_of a ++ pair_bytes b c

-- a set-up's bytes: the thread number, then the node number
abbrev pub set_up_bytes : ℕ → ℕ → List ℕ
set_up_bytes threads nodes = pair_bytes threads nodes

-- an entry's bytes: its code, then its operands
unfoldable pub entry_bytes : ℕ → ℕ → ℕ → List ℕ
entry_bytes code t x = cond (eqb (operands code) 1) (pair_bytes code t) (triple_bytes code t x)

-- the answer where a test comes first
abbrev pub answer_where_accepted : Verdict → Writing → Writing
answer_where_accepted (Ok ok) w = w
answer_where_accepted (Err r) w = Err r

abbrev pub set_up_writing : ℕ → ℕ → List ℕ → Writing
set_up_writing threads nodes buf = answer_where_accepted (in_range threads nodes) (writing (set_up_bytes threads nodes) buf)

abbrev pub set_up_written : ℕ → ℕ → List ℕ → List ℕ
set_up_written threads nodes buf = where_accepted (in_range threads nodes) (written (set_up_bytes threads nodes) buf) buf

abbrev pub is_code : ℕ → Verdict
is_code code = cond (eqb (operands code) 0) (Err NoSuchCode) accepted

abbrev pub entry_writing : ℕ → ℕ → ℕ → List ℕ → Writing
entry_writing code t x buf = answer_where_accepted (is_code code) (writing (entry_bytes code t x) buf)

abbrev pub entry_written : ℕ → ℕ → ℕ → List ℕ → List ℕ
entry_written code t x buf = where_accepted (is_code code) (written (entry_bytes code t x) buf) buf
