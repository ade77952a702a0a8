-- Whatever reads well is what the writer writes of it: an entry at its place, and a set-up at the start.
-- Each number that reads well is the writing of its value and ends where the next one begins.
use Prim.Native.Nat.{ℕ, ◌+◌, ◌-◌, ◌^◌, ◌<◌}
use mathlib.Core.Path.{◌≡◌, sym, ap, ap₂, ◌∙◌, subst}
use mathlib.Core.List.{List, ◌++◌, append_assoc}
use native.Mathlib.Omega.{arith}
use lib.ListN.{length, drop, length-append}
use Rattle.numbers.specs.Read.{number_at, Bytes, a_number}
use Rattle.numbers.specs.Write.{groups_of}
use Rattle.numbers.proofs.OneEncoding.{what_reads_is_written}
use Rattle.entry.specs.declared.Entry.{Entry}
use Rattle.entry.specs.Range.{in_range}
use Rattle.schedule.specs.Codes.{entry_of}
use Rattle.schedule.specs.Read.{set_up_of, entry_at, a_set_up, an_entry}
use Rattle.schedule.specs.Write.{set_up_bytes, entry_bytes}
use Rattle.schedule.specs.Schedule.{bytes_of}
use Rattle.schedule.proofs.Codes.{IsCode, bytes_of_its_entry, thread_of_its_entry, second_of_its_entry}
use Rattle.schedule.proofs.Ways.{EntryWay, one_operand, two_operands, entry_way, SetUpWay, two_numbers, set_up_way}
use Rattle.schedule.proofs.RoundTrip.{Fits}
use Rattle.refusal.specs.Verdicts.{accepted}

-- the bytes l stand at the place `from`, and end at the place `next`
record Stand (s : List ℕ) (from next : ℕ) (l : List ℕ) : Type 0 where
  bytes : drop from s ≡ l ++ drop next s
  ends : next ≡ from + length l

-- one piece behind another
in_a_row : (s : List ℕ) (from middle next : ℕ) (l m : List ℕ) → Stand s from middle l → Stand s middle next m → Stand s from next (l ++ m)
in_a_row s from middle next l m a b = record {
  bytes = a.bytes ∙ ap (λ (x : List ℕ). l ++ x) b.bytes ∙ sym (append_assoc l m (drop next s));
  ends = rw length-append (omega (arith, a.ends, b.ends));
}

module _ (s : List ℕ) (bs : Bytes s) where
  number_stands : (at v next : ℕ) → number_at s at ≡ a_number v next → Stand s at next (groups_of v)
  number_stands at v next e =
      let w = what_reads_is_written s at v next bs e in
      record { bytes = w.0; ends = w.1 }

  number_is_small : (at v next : ℕ) → number_at s at ≡ a_number v next → v < 2 ^ 32
  number_is_small at v next e = (what_reads_is_written s at v next bs e).2

-- an entry whose bytes stand at a place
entry_stands : (s : List ℕ) (from code t x last : ℕ) → IsCode code → t < 2 ^ 32 → x < 2 ^ 32 → Stand s from last (entry_bytes code t x)
    → (drop from s ≡ bytes_of (entry_of code t x) ++ drop (from + (last - from)) s) × (last - from ≡ length (bytes_of (entry_of code t x))) × Fits (entry_of code t x)
entry_stands s from code t x last some ht hx w =
    let same = bytes_of_its_entry t x code some in
    let gap : last ≡ from + (last - from) = omega (arith, w.ends) in (
      w.bytes ∙ ap₂ (λ (l : List ℕ) (n : ℕ). l ++ drop n s) (sym same) gap,
      rw same (omega (arith, w.ends)),
      record { thread = rw (thread_of_its_entry t x code some) ht; second = omega (arith, second_of_its_entry t x code some) },
    )

way_written : (s : List ℕ) (from : ℕ) (e : Entry) (n : ℕ) → Bytes s → EntryWay s from (an_entry e n)
    → (drop from s ≡ bytes_of e ++ drop (from + n) s) × (n ≡ length (bytes_of e)) × Fits e
unfolding entry_bytes
way_written s from e n bs (one_operand code t next last one a b) =
    entry_stands s from code t 0 last (λ z. omega arith) (number_is_small s bs next t last b) (omega arith)
    (rw one (in_a_row s from next last _ _ (number_stands s bs from code next a) (number_stands s bs next t last b)))
way_written s from e n bs (two_operands code t x next behind last two a b c) =
    entry_stands s from code t x last (λ z. omega arith) (number_is_small s bs next t behind b) (number_is_small s bs behind x last c)
    (rw two
    (in_a_row s from next last _ _ (number_stands s bs from code next a)
    (in_a_row s next behind last _ _ (number_stands s bs next t behind b) (number_stands s bs behind x last c))))

pub entry_is_written : (s : List ℕ) (from : ℕ) (e : Entry) (n : ℕ) → Bytes s → entry_at s from ≡ an_entry e n
    → (drop from s ≡ bytes_of e ++ drop (from + n) s) × (n ≡ length (bytes_of e)) × Fits e
entry_is_written s from e n bs q = way_written s from e n bs (subst (EntryWay s from) q (entry_way s from))

set_up_way_written : (s : List ℕ) (threads nodes next : ℕ) → Bytes s → SetUpWay s (a_set_up threads nodes next)
    → (s ≡ set_up_bytes threads nodes ++ drop next s) × (next ≡ length (set_up_bytes threads nodes)) × (in_range threads nodes ≡ accepted)
set_up_way_written s threads nodes next bs (two_numbers behind a b ok) =
    let w = in_a_row s 0 behind next _ _ (number_stands s bs 0 threads behind a) (number_stands s bs behind nodes next b) in
    (w.bytes, omega (arith, w.ends), ok)

pub set_up_is_written : (s : List ℕ) (threads nodes next : ℕ) → Bytes s → set_up_of s ≡ a_set_up threads nodes next
    → (s ≡ set_up_bytes threads nodes ++ drop next s) × (next ≡ length (set_up_bytes threads nodes)) × (in_range threads nodes ≡ accepted)
set_up_is_written s threads nodes next bs q = set_up_way_written s threads nodes next bs (subst (SetUpWay s) q (set_up_way s))
