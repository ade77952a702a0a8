-- Which way a reading went: what was read, number by number, where a set-up or an entry is answered as it is.
-- The reader's definitions are taken apart here once, so that the laws of reading go by cases on the way and see no test of the reader's.
use Prim.Native.Nat.{ℕ, ◌-◌, ◌≤◌}
use mathlib.Core.Path.{◌≡◌, refl}
use mathlib.Core.Bool.{Bool, true, false, cond}
use mathlib.Core.List.{List}
use lib.ListN.{length}
use lib.Dec.{eqb}
use borrow.Author.Tests.{leb-true, eqb-true, eqb-false}
use Rattle.std.specs.Prelude.{Result, Ok, Err, Some, None}
use Rattle.refusal.specs.declared.Refusal.{Refusal}
use Rattle.refusal.specs.declared.Refusal.TheVariants.{NoSuchCode}
use Rattle.refusal.specs.Verdicts.{Verdict, accepted, and_then}
use Rattle.refusal.proofs.Tests.{either_way}
use Rattle.numbers.specs.declared.Number.{Number}
use Rattle.numbers.specs.Read.{Reading, a_number, number_at}
use Rattle.entry.specs.Range.{in_range}
use Rattle.schedule.specs.Codes.{operands, entry_of}
use Rattle.schedule.specs.Read.{SetUpReading, a_set_up, set_up_of, EntryReading, an_entry, second_at, operands_at, some_entry_at, entry_at}
use Rattle.schedule.proofs.Codes.{one_where_not_two}

-- what holds of each refusal handed up and of each way on, of what comes after a number
after_a_number : {A : Type 0} (P : Result A Refusal → Type 0) (r : Reading) {on : Number → Result A Refusal}
    → ((q : Refusal) → r ≡ Err q → P (Err q)) → ((found : Number) → r ≡ Ok found → P (on found)) → P (and_then r on)
after_a_number P (Ok found) f g = g found refl
after_a_number P (Err q) f g = f q refl

-- how the reading of an entry at a place went
pub data EntryWay (s : List ℕ) (from : ℕ) : EntryReading → Type 0 where
  no_byte_left : length s ≤ from → EntryWay s from None
  number_refused : {r : Refusal} (at : ℕ) → number_at s at ≡ Err r → EntryWay s from (Some (Err r))
  code_refused : (code next : ℕ) → number_at s from ≡ a_number code next → operands code ≡ 0 → EntryWay s from (Some (Err NoSuchCode))
  one_operand : (code t next last : ℕ) → operands code ≡ 1 → number_at s from ≡ a_number code next → number_at s next ≡ a_number t last → EntryWay s from (an_entry (entry_of code t 0) (last - from))
  two_operands : (code t x next behind last : ℕ) → operands code ≡ 2 → number_at s from ≡ a_number code next → number_at s next ≡ a_number t behind → number_at s behind ≡ a_number x last
      → EntryWay s from (an_entry (entry_of code t x) (last - from))

-- how the reading of a set-up went
pub data SetUpWay (s : List ℕ) : SetUpReading → Type 0 where
  number_refused : {r : Refusal} (at : ℕ) → number_at s at ≡ Err r → SetUpWay s (Err r)
  out_of_range : {r : Refusal} (threads nodes : ℕ) → in_range threads nodes ≡ Err r → SetUpWay s (Err r)
  two_numbers : {threads nodes next : ℕ} (behind : ℕ) → number_at s 0 ≡ a_number threads behind → number_at s behind ≡ a_number nodes next → in_range threads nodes ≡ accepted
      → SetUpWay s (a_set_up threads nodes next)

-- an entry's second operand: there is one, or nothing is read
second_way : (s : List ℕ) (from code next : ℕ) (t : Number) → (operands code ≡ 0 → ⊥) → number_at s from ≡ a_number code next → number_at s next ≡ Ok t
    → EntryWay s from (Some (and_then (second_at s code t.next) λ second. Ok (record { entry = entry_of code t.value second.value; count = second.next - from })))
second_way s from code next t some c d = go (eqb (operands code) 2) refl
  where
    go : (two : Bool) → eqb (operands code) 2 ≡ two
        → EntryWay s from (Some (and_then (cond two (number_at s t.next) (a_number 0 t.next)) λ second. Ok (record { entry = entry_of code t.value second.value; count = second.next - from })))
    go true e =
        after_a_number (λ x. EntryWay s from (Some x)) (number_at s t.next) (λ q. number_refused t.next) λ x f.
        two_operands code t.value x.value next t.next x.next (eqb-true _ _ e) c d f
    go false e = one_operand code t.value next t.next (one_where_not_two code some (eqb-false _ _ e)) c d

-- every reading of an entry went one of these ways
pub entry_way : (s : List ℕ) (from : ℕ) → EntryWay s from (entry_at s from)
unfolding entry_at some_entry_at operands_at
entry_way s from =
    either_way (EntryWay s from) _ (λ e. no_byte_left (leb-true _ _ e)) λ e.
    after_a_number (λ x. EntryWay s from (Some x)) (number_at s from) (λ q. number_refused from) λ code c.
    either_way (λ x. EntryWay s from (Some x)) _ (λ z. code_refused code.value code.next c (eqb-true _ _ z)) λ z.
    after_a_number (λ x. EntryWay s from (Some x)) (number_at s code.next) (λ q. number_refused code.next) λ t d.
    second_way s from code.value code.next t (eqb-false _ _ z) c d

-- and every reading of a set-up one of those
pub set_up_way : (s : List ℕ) → SetUpWay s (set_up_of s)
unfolding set_up_of
set_up_way s =
    after_a_number (SetUpWay s) (number_at s 0) (λ q. number_refused 0) λ threads a.
    after_a_number (SetUpWay s) (number_at s threads.next) (λ q. number_refused threads.next) λ nodes b.
    judged threads nodes a b (in_range threads.value nodes.value) refl
  where
    judged : (threads nodes : Number) → number_at s 0 ≡ Ok threads → number_at s threads.next ≡ Ok nodes
        → (v : Verdict) → in_range threads.value nodes.value ≡ v → SetUpWay s (and_then v λ ok. a_set_up threads.value nodes.value nodes.next)
    judged threads nodes a b (Ok ok) e = two_numbers threads.next a b e
    judged threads nodes a b (Err r) e = out_of_range threads.value nodes.value e
