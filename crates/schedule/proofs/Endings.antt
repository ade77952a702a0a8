-- How reading ends. Every byte string ends in the end or in one refusal, which is of the kind that its place allows; what was read before it stands as it was written;
-- and the bound that the definition of a schedule's entries has is never met, since each entry takes a byte at least.
use Prim.Native.Nat.{ℕ, zero, suc, ◌+◌, ◌<◌, ◌≤◌}
use mathlib.Core.Path.{◌≡◌, refl, sym, ap, ◌∙◌, subst}
use mathlib.Core.Bool.{Bool, true, false, cond, ◌||◌}
use mathlib.Core.List.{List, ◌++◌, append_assoc}
use mathlib.Core.Logic.{⊎_elim}
use native.Mathlib.Omega.{arith}
use lib.Dec.{ltb}
use lib.ListN.{length, drop}
use Rattle.refusal.specs.declared.Refusal.{Refusal}
use Rattle.refusal.specs.declared.Refusal.TheVariants.{SetupOutOfRange}
use Rattle.refusal.specs.Numbers.{number_of}
use Rattle.numbers.proofs.Within.{refused_by_10_or_11}
use Rattle.numbers.specs.Read.{number_at, Bytes}
use Rattle.entry.specs.declared.Entry.{Entry}
use Rattle.schedule.specs.Read.{set_up_of, entry_at, EntryReading, an_entry}
use Rattle.schedule.specs.Schedule.{Ending, ended, refused, Entries, first, go_on, entries_up_to, entries_from, bytes_of, bytes_of_all}
use Rattle.schedule.proofs.Ways.{EntryWay, entry_way, SetUpWay, set_up_way}
use Rattle.schedule.proofs.Within.{entry_within}
use Rattle.schedule.proofs.RoundTrip.{AllFit, ends_here}
use Rattle.schedule.proofs.Written.{entry_is_written}
use Rattle.refusal.specs.Verdicts.{accepted}
use Rattle.std.specs.Prelude.{Err, None, Ok, Some}

-- a refusal from one number of 01's table to another
abbrev pub Between : ℕ → ℕ → Refusal → Type 0
Between low high r = (low ≤ number_of r) × (number_of r ≤ high)

number_refusals : (s : List ℕ) (at : ℕ) (r : Refusal) → number_at s at ≡ Err r → Between 10 11 r
number_refusals s at r e = ⊎_elim (λ q. subst (Between 10 11) (sym q) (omega arith)) (λ q. subst (Between 10 11) (sym q) (omega arith)) (refused_by_10_or_11 s at r e)

-- an entry is refused by 10, 11 or 12, a set-up by 9, 10 or 11
pub entry_refusals : (s : List ℕ) (from : ℕ) (r : Refusal) → entry_at s from ≡ Some (Err r) → Between 10 12 r
entry_refusals s from r q = by_its_way r (subst (EntryWay s from) q (entry_way s from))
  where
    by_its_way : (r : Refusal) → EntryWay s from (Some (Err r)) → Between 10 12 r
    by_its_way r (EntryWay.number_refused at e) = omega (arith, number_refusals s at r e)
    by_its_way r (EntryWay.code_refused code next e z) = omega arith

-- 9 is the only refusal of two numbers that have read well
nine : {r : Refusal} (t : Bool) → cond t (Err SetupOutOfRange) accepted ≡ Err r → SetupOutOfRange ≡ r
nine true e = cc
nine false e = absurd (let z : ◌≡◌ {A = ℕ} 0 1 = cc in omega arith)

pub set_up_refusals : (s : List ℕ) (r : Refusal) → set_up_of s ≡ Err r → Between 9 11 r
set_up_refusals s r q = by_its_way r (subst (SetUpWay s) q (set_up_way s))
  where
    by_its_way : (r : Refusal) → SetUpWay s (Err r) → Between 9 11 r
    by_its_way r (SetUpWay.number_refused at e) = omega (arith, number_refusals s at r e)
    by_its_way r (SetUpWay.out_of_range threads nodes e) = subst (Between 9 11) (nine (ltb threads 1 || ltb 8 threads || ltb nodes 2 || ltb 512 nodes) e) (omega arith)

-- the end is answered only where no byte is left
pub end_leaves_no_byte : (s : List ℕ) (from : ℕ) → entry_at s from ≡ None → length s ≤ from
end_leaves_no_byte s from q = by_its_way (subst (EntryWay s from) q (entry_way s from))
  where
    by_its_way : EntryWay s from None → length s ≤ from
    by_its_way (EntryWay.no_byte_left h) = h

-- the reading goes on alike where it goes on alike behind the entry
alike : (r : EntryReading) {f g : ℕ → Entries} → ((e : Entry) (n : ℕ) → r ≡ an_entry e n → f n ≡ g n) → go_on r f ≡ go_on r g
alike None h = refl
alike (Some (Err r)) h = refl
alike (Some (Ok read)) h = ap (first read.entry) (h read.entry read.count refl)

-- the entries up to k of them are the same for any two bounds that are enough
any_bound : (k l : ℕ) (s : List ℕ) (from : ℕ) → length s < k + from → length s < l + from → entries_up_to k s from ≡ entries_up_to l s from
unfolding entries_up_to
any_bound zero zero s from h g = refl
any_bound zero (suc l) s from h g = rw (ends_here s from (omega arith))
any_bound (suc k) zero s from h g = rw (ends_here s from (omega arith))
any_bound (suc k) (suc l) s from h g = alike (entry_at s from) λ e n q.
    let w = entry_within s from e n q in
    any_bound k l s (from + n) (omega arith) (omega arith)

-- so the bound is never met
pub bound_not_met : (k : ℕ) (s : List ℕ) (from : ℕ) → length s < k + from → entries_up_to k s from ≡ entries_from s from
bound_not_met k s from h = any_bound k (suc (length s)) s from h (omega arith)

-- the place where the reading of entries stops, and what stands there: no byte, or what was refused
abbrev pub StopsAt : List ℕ → ℕ → Ending → Type 0
StopsAt s p ended = (entry_at s p ≡ None) × (length s ≤ p)
StopsAt s p (refused r) = entry_at s p ≡ Some (Err r)

-- entries that were read from a place on: from there up to where reading stopped stand their bytes, and nothing else
pub record Stands (s : List ℕ) (from : ℕ) (read : Entries) : Type 0 where
  pub place : ℕ
  pub bytes : drop from s ≡ bytes_of_all read.entries ++ drop place s
  pub stops : StopsAt s place read.ending
  pub fit : AllFit read.entries

stands_up_to : (k : ℕ) (s : List ℕ) (from : ℕ) → Bytes s → length s < k + from → Stands s from (entries_up_to k s from)
unfolding entries_up_to bytes_of_all
stands_up_to zero s from bs h = record { place = from; bytes = refl; stops = (ends_here s from (omega arith), omega arith); fit = tt }
stands_up_to (suc k) s from bs h = one_more (entry_at s from) refl (λ n. stands_up_to k s (from + n) bs)
  where
    one_more : (r : EntryReading) → entry_at s from ≡ r → ((n : ℕ) → length s < k + (from + n) → Stands s (from + n) (entries_up_to k s (from + n)))
        → Stands s from (go_on r λ n. entries_up_to k s (from + n))
    one_more None q rest = record { place = from; bytes = refl; stops = (q, end_leaves_no_byte s from q); fit = tt }
    one_more (Some (Err r)) q rest = record { place = from; bytes = refl; stops = q; fit = tt }
    one_more (Some (Ok read)) q rest =
        let e = read.entry in
        let n = read.count in
        let in-it = entry_within s from e n q in
        let w = entry_is_written s from e n bs q in
        let more = rest n (omega arith) in
        record {
          place = more.place;
          bytes = w.0 ∙ ap (λ (l : List ℕ). bytes_of e ++ l) more.bytes ∙ sym (append_assoc (bytes_of e) _ (drop more.place s));
          stops = more.stops;
          fit = (w.2, more.fit);
        }

pub what_was_read_stands : (s : List ℕ) (from : ℕ) → Bytes s → Stands s from (entries_from s from)
what_was_read_stands s from bs = stands_up_to (suc (length s)) s from bs (omega arith)

-- and the refusal that ends the entries is one of an entry: 10, 11 or 12
pub entries_end_by : (s : List ℕ) (from : ℕ) (r : Refusal) → Bytes s → (entries_from s from).ending ≡ refused r → Between 10 12 r
entries_end_by s from r bs e =
    let w = what_was_read_stands s from bs in
    entry_refusals s w.place r (subst (StopsAt s w.place) e w.stops)
