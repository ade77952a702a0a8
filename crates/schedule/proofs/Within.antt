-- An entry that reads well takes a byte at least, and ends within the input: each of its numbers does.
use Prim.Native.Nat.{ℕ, ◌+◌, ◌<◌, ◌≤◌}
use mathlib.Core.Path.{◌≡◌, subst}
use mathlib.Core.List.{List}
use native.Mathlib.Omega.{arith}
use lib.ListN.{length}
use Rattle.numbers.proofs.Within.{reads_within}
use Rattle.entry.specs.declared.Entry.{Entry}
use Rattle.std.specs.Prelude.{Some, Ok}
use Rattle.schedule.specs.declared.read.ReadEntry.{ReadEntry}
use Rattle.schedule.specs.Read.{entry_at, an_entry}
use Rattle.schedule.proofs.Ways.{EntryWay, one_operand, two_operands, entry_way}

way_within : (s : List ℕ) (from : ℕ) (e : Entry) (n : ℕ) → EntryWay s from (an_entry e n) → (0 < n) × (from + n ≤ length s)
way_within s from e n (one_operand code t next last one a b) =
    let i = reads_within s from code next a in
    let j = reads_within s next t last b in
    (omega arith, omega arith)
way_within s from e n (two_operands code t x next behind last two a b c) =
    let i = reads_within s from code next a in
    let j = reads_within s next t behind b in
    let k = reads_within s behind x last c in
    (omega arith, omega arith)

pub entry_within : (s : List ℕ) (from : ℕ) (e : Entry) (n : ℕ) → entry_at s from ≡ an_entry e n → (0 < n) × (from + n ≤ length s)
entry_within s from e n q = way_within s from e n (subst (EntryWay s from) q (entry_way s from))

-- as the check finds it
pub entry_ends : (s : List ℕ) (from : ℕ) (read : ReadEntry) → entry_at s from ≡ Some (Ok read) → from + read.count ≤ length s
entry_ends s from read q = (entry_within s from read.entry read.count q).1
