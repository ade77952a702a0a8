-- What is written reads back: an entry and a set-up, whatever stands around them, and so a whole schedule.
-- Each number reads back where it stands, and the place behind it is where the next number was written.
use Prim.Native.Nat.{ℕ, zero, suc, ◌+◌, ◌-◌, ◌^◌, ◌<◌, ◌≤◌}
use mathlib.Core.Path.{◌≡◌, refl, sym, ap, ap₂, ◌∙◌}
use mathlib.Core.List.{List, [], ◌∷◌, ◌++◌, append_assoc}
use native.Mathlib.Omega.{arith}
use native.Mathlib.Decide.{ℕ_discrete}
use lib.ListN.{length, drop, length-append, length-drop}
use lib.Seq.{drop-append_seam, drop-drop}
use borrow.Author.Tests.{lt-leb, le-leb, ne_eqb}
use Rattle.numbers.specs.Read.{number, number_at, a_number}
use Rattle.numbers.specs.Write.{groups_of}
use Rattle.numbers.proofs.RoundTrip.{reads_back}
use Rattle.numbers.proofs.Within.{reads_within}
use Rattle.lent.specs.Lent.{writing, written}
use Rattle.lent.proofs.Laws.{written_fits, accepted_fits}
use Rattle.entry.specs.declared.Entry.{Entry}
use Rattle.entry.specs.Range.{in_range}
use Rattle.entry.proofs.Range.{in_range_lem}
use Rattle.entry.specs.Operands.{thread_of}
use Rattle.schedule.specs.Codes.{operands, entry_of, second_of}
use Rattle.schedule.specs.Read.{set_up_of, operands_at, some_entry_at, entry_at, a_set_up, an_entry}
use Rattle.schedule.specs.Write.{pair_bytes, triple_bytes, set_up_bytes, entry_bytes, answer_where_accepted, set_up_writing, set_up_written, entry_writing, entry_written}
use Rattle.schedule.specs.Schedule.{ended, first, entries_up_to, entries_from, bytes_of, bytes_of_all, schedule_bytes}
use Rattle.schedule.proofs.Codes.{IsCode, code_is_1_to_7, one_where_not_two, is_a_code, of_its_code, one_operand_counts}
use Rattle.schedule.proofs.Within.{entry_within}
use Rattle.refusal.specs.Verdicts.{Verdict, accepted, where_accepted}
use Rattle.std.specs.Prelude.{Err, None, Ok}

-- an entry that a schedule can hold: its numbers are below 2^32
pub record Fits (e : Entry) : Type 0 where
  pub thread : thread_of e < 2 ^ 32
  pub second : second_of e < 2 ^ 32

-- and a list of them
abbrev pub AllFit : List Entry → Type 0
AllFit [] = Unit {0}
AllFit (e ∷ es) = Fits e × AllFit es

module _ (s : List ℕ) where
  -- what stands behind a piece of the input
  behind : (at : ℕ) (l rest : List ℕ) → drop at s ≡ l ++ rest → drop (at + length l) s ≡ rest
  behind at l rest e = sym (drop-drop (length l) at s) ∙ ap (drop (length l)) e ∙ drop-append_seam l rest

  -- a number that was written at a place reads back there
  reads_here : (at n : ℕ) (rest : List ℕ) → n < 2 ^ 32 → drop at s ≡ groups_of n ++ rest → number_at s at ≡ a_number n (at + length (groups_of n))
  reads_here at n rest h e = ap (number at) e ∙ reads_back n at rest h

  -- the reading of an entry whose numbers read well
  reads_one_operand : (from code t next last : ℕ) → operands code ≡ 1 → number_at s from ≡ a_number code next → number_at s next ≡ a_number t last
      → entry_at s from ≡ an_entry (entry_of code t 0) (last - from)
  unfolding entry_at some_entry_at operands_at
  reads_one_operand from code t next last one a b =
      let w = reads_within s from code next a in
      rw (lt-leb (length s) from (omega arith), a, one, b)

  reads_two_operands : (from code t x next middle last : ℕ) → operands code ≡ 2 → number_at s from ≡ a_number code next → number_at s next ≡ a_number t middle → number_at s middle ≡ a_number x last
      → entry_at s from ≡ an_entry (entry_of code t x) (last - from)
  unfolding entry_at some_entry_at operands_at
  reads_two_operands from code t x next middle last two a b c =
      let w = reads_within s from code next a in
      rw (lt-leb (length s) from (omega arith), a, two, b, c)

  -- an entry that was written at a place reads back there, from plain numbers as the writer takes them
  module _ (from code t x : ℕ) (rest : List ℕ) (some : IsCode code) (ht : t < 2 ^ 32) (hx : x < 2 ^ 32) where
    code_fits : code < 2 ^ 32
    code_fits = omega (arith, code_is_1_to_7 code some)

    pair_reads_back : operands code ≡ 1 → drop from s ≡ pair_bytes code t ++ rest → entry_at s from ≡ an_entry (entry_of code t x) (length (pair_bytes code t))
    pair_reads_back one e =
        let e1 : drop from s ≡ groups_of code ++ (groups_of t ++ rest) = e ∙ append_assoc (groups_of code) (groups_of t) rest in
        let e2 = behind from (groups_of code) (groups_of t ++ rest) e1 in
        reads_one_operand from code t _ _ one (reads_here from code _ code_fits e1) (reads_here _ t rest ht e2)
        ∙ ap₂ an_entry (one_operand_counts t x code one) (rw length-append (omega arith))

    triple_reads_back : operands code ≡ 2 → drop from s ≡ triple_bytes code t x ++ rest → entry_at s from ≡ an_entry (entry_of code t x) (length (triple_bytes code t x))
    triple_reads_back two e =
        let e1 : drop from s ≡ groups_of code ++ (groups_of t ++ (groups_of x ++ rest)) = e ∙ simp append_assoc in
        let e2 = behind from (groups_of code) _ e1 in
        let e3 = behind _ (groups_of t) (groups_of x ++ rest) e2 in
        reads_two_operands from code t x _ _ _ two (reads_here from code _ code_fits e1) (reads_here _ t _ ht e2) (reads_here _ x rest hx e3)
        ∙ ap (an_entry (entry_of code t x)) (simp length-append (omega arith))

    entry_here : drop from s ≡ entry_bytes code t x ++ rest → entry_at s from ≡ an_entry (entry_of code t x) (length (entry_bytes code t x))
    unfolding entry_bytes
    entry_here e = elim (ℕ_discrete (operands code) 2) [
      | yes two ↦ rw two (triple_reads_back two (rw two at e))
      | no other ↦ let one = one_where_not_two code some other in rw one (pair_reads_back one (rw one at e))
    ]

-- an entry for plain numbers, with any bytes before and after it
pub plain_entry_reads_back : (front : List ℕ) (code t x : ℕ) (rest : List ℕ) → IsCode code → t < 2 ^ 32 → x < 2 ^ 32
    → entry_at (front ++ (entry_bytes code t x ++ rest)) (length front) ≡ an_entry (entry_of code t x) (length (entry_bytes code t x))
plain_entry_reads_back front code t x rest some ht hx =
    entry_here (front ++ (entry_bytes code t x ++ rest)) (length front) code t x rest some ht hx (drop-append_seam front (entry_bytes code t x ++ rest))

-- an entry that was written at a place
reads_back_here : (s : List ℕ) (from : ℕ) (e : Entry) (rest : List ℕ) → Fits e → drop from s ≡ bytes_of e ++ rest → entry_at s from ≡ an_entry e (length (bytes_of e))
reads_back_here s from e rest fits d =
    entry_here s from _ _ _ rest (is_a_code e) fits.thread fits.second d ∙ ap (λ (x : Entry). an_entry x (length (bytes_of e))) (of_its_code e)

pub entry_reads_back : (front : List ℕ) (e : Entry) (rest : List ℕ) → Fits e → entry_at (front ++ (bytes_of e ++ rest)) (length front) ≡ an_entry e (length (bytes_of e))
entry_reads_back front e rest fits = reads_back_here _ (length front) e rest fits (drop-append_seam front (bytes_of e ++ rest))

-- the numbers of a set-up in range are below 2^32
in_range_fits : (threads nodes : ℕ) → in_range threads nodes ≡ accepted → (threads < 2 ^ 32) × (nodes < 2 ^ 32)
in_range_fits threads nodes ok = (omega (arith, in_range_lem threads nodes ok), omega (arith, in_range_lem threads nodes ok))

set_up_here : (s : List ℕ) (threads nodes : ℕ) (rest : List ℕ) → in_range threads nodes ≡ accepted → s ≡ set_up_bytes threads nodes ++ rest → set_up_of s ≡ a_set_up threads nodes (length (set_up_bytes threads nodes))
unfolding set_up_of
set_up_here s threads nodes rest ok e =
    let h = in_range_fits threads nodes ok in
    let e1 : s ≡ groups_of threads ++ (groups_of nodes ++ rest) = e ∙ append_assoc (groups_of threads) (groups_of nodes) rest in
    let e2 = behind s 0 (groups_of threads) (groups_of nodes ++ rest) e1 in
    rw (reads_here s 0 threads _ h.0 e1, reads_here s _ nodes rest h.1 e2, ok) (ap (a_set_up threads nodes) (rw length-append (omega arith)))

pub set_up_reads_back : (threads nodes : ℕ) (rest : List ℕ) → in_range threads nodes ≡ accepted → set_up_of (set_up_bytes threads nodes ++ rest) ≡ a_set_up threads nodes (length (set_up_bytes threads nodes))
set_up_reads_back threads nodes rest ok = set_up_here _ threads nodes rest ok refl

-- where no byte is left the entries end
pub ends_here : (s : List ℕ) (from : ℕ) → length s ≤ from → entry_at s from ≡ None
unfolding entry_at
ends_here s from h = rw (le-leb (length s) from h)

-- entries that were written one behind the other up to the end, k of them at most, where k is enough
entries_here : (k : ℕ) (s : List ℕ) (from : ℕ) (es : List Entry) → length s < k + from → AllFit es → drop from s ≡ bytes_of_all es
    → entries_up_to k s from ≡ record { entries = es; ending = ended }
unfolding entries_up_to bytes_of_all
entries_here zero s from [] h fits d = refl
entries_here (suc k) s from [] h fits d = rw (ends_here s from (omega (arith, length-drop from s, ap length d)))
entries_here zero s from (e ∷ es) h fits d =
    let w = entry_within s from e _ (reads_back_here s from e (bytes_of_all es) fits.0 d) in
    absurd (omega arith)
entries_here (suc k) s from (e ∷ es) h fits d =
    let q = reads_back_here s from e (bytes_of_all es) fits.0 d in
    let w = entry_within s from e _ q in
    rw q (ap (first e) (entries_here k s (from + length (bytes_of e)) es (omega arith) fits.1 (behind s from (bytes_of e) (bytes_of_all es) d)))

-- a whole schedule
pub written_schedule_reads_back : (threads nodes : ℕ) (es : List Entry) → in_range threads nodes ≡ accepted → AllFit es
    → (set_up_of (schedule_bytes threads nodes es) ≡ a_set_up threads nodes (length (set_up_bytes threads nodes)))
    × (entries_from (schedule_bytes threads nodes es) (length (set_up_bytes threads nodes)) ≡ record { entries = es; ending = ended })
written_schedule_reads_back threads nodes es ok fits = (
  set_up_reads_back threads nodes (bytes_of_all es) ok,
  entries_here _ _ (length (set_up_bytes threads nodes)) es (omega arith) fits (drop-append_seam (set_up_bytes threads nodes) (bytes_of_all es)),
)

-- and in a lent buffer, whatever the writer accepted reads back from its start, and takes the count that the writer answered
accepted_writing : {A : Type 0} (l buf : List A) (n : ℕ) → writing l buf ≡ Ok n → (written l buf ≡ l ++ drop (length l) buf) × (length l ≡ n)
accepted_writing l buf n e = let w = accepted_fits l buf n e in (written_fits l buf (omega (arith, w.0, w.1)), sym w.0)

pub accepted_entry_reads_back : (code t x n : ℕ) (buf : List ℕ) → t < 2 ^ 32 → x < 2 ^ 32 → entry_writing code t x buf ≡ Ok n
    → entry_at (entry_written code t x buf) 0 ≡ an_entry (entry_of code t x) n
accepted_entry_reads_back code t x n buf ht hx = elim (ℕ_discrete (operands code) 0) [
  | yes z ↦ rw z λ e. absurd (let z : ◌≡◌ {A = ℕ} 0 1 = cc in omega arith)
  | no some ↦ rw (ne_eqb (operands code) 0 some) λ e.
      let w = accepted_writing (entry_bytes code t x) buf n e in
      rw (w.0, ← w.1) (plain_entry_reads_back [] code t x _ some ht hx)
]

pub accepted_set_up_reads_back : (threads nodes n : ℕ) (buf : List ℕ) → set_up_writing threads nodes buf ≡ Ok n → set_up_of (set_up_written threads nodes buf) ≡ a_set_up threads nodes n
accepted_set_up_reads_back threads nodes n buf = judged (in_range threads nodes) refl
  where
    judged : (v : Verdict) → in_range threads nodes ≡ v → answer_where_accepted v (writing (set_up_bytes threads nodes) buf) ≡ Ok n
        → set_up_of (where_accepted v (written (set_up_bytes threads nodes) buf) buf) ≡ a_set_up threads nodes n
    judged (Ok _) ok e =
        let w = accepted_writing (set_up_bytes threads nodes) buf n e in
        rw (w.0, ← w.1) (set_up_reads_back threads nodes _ ok)
    judged (Err r) ok e = absurd (let z : ◌≡◌ {A = ℕ} 0 1 = cc in omega arith)
