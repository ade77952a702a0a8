-- Each schedule has one encoding: a byte string that reads well to its end is what the writer writes of what was read.
use Prim.Native.Nat.{ℕ}
use mathlib.Core.Path.{◌≡◌, sym, ap, ◌∙◌, subst}
use mathlib.Core.List.{List, ◌++◌, append-nil}
use lib.ListN.{drop, drop_of_length-le}
use Rattle.numbers.specs.Read.{Bytes}
use Rattle.entry.specs.declared.Entry.{Entry}
use Rattle.schedule.specs.Read.{set_up_of, a_set_up}
use Rattle.schedule.specs.Write.{set_up_bytes}
use Rattle.schedule.specs.Schedule.{ended, entries_from, bytes_of_all, schedule_bytes}
use Rattle.schedule.proofs.Written.{set_up_is_written}
use Rattle.schedule.proofs.Endings.{Stands, what_was_read_stands}

-- a byte string that reads, whole, as a set-up and entries
pub record ReadsAs (s : List ℕ) (threads nodes : ℕ) (es : List Entry) : Type 0 where
  pub next : ℕ
  pub set_up_lem : set_up_of s ≡ a_set_up threads nodes next
  pub entries : entries_from s next ≡ record { entries = es; ending = ended }

-- the entries that read well up to the end are all that stands there
entries_are_written : (s : List ℕ) (from : ℕ) (es : List Entry) → Bytes s → entries_from s from ≡ record { entries = es; ending = ended } → drop from s ≡ bytes_of_all es
entries_are_written s from es bs e =
    let w = subst (Stands s from) e (what_was_read_stands s from bs) in
    w.bytes ∙ ap (λ (l : List ℕ). bytes_of_all es ++ l) (drop_of_length-le s w.stops.1) ∙ append-nil (bytes_of_all es)

pub what_reads_well_is_written : (s : List ℕ) (threads nodes next : ℕ) (es : List Entry) → Bytes s → set_up_of s ≡ a_set_up threads nodes next
    → entries_from s next ≡ record { entries = es; ending = ended } → s ≡ schedule_bytes threads nodes es
what_reads_well_is_written s threads nodes next es bs a b =
    (set_up_is_written s threads nodes next bs a).0 ∙ ap (λ (l : List ℕ). set_up_bytes threads nodes ++ l) (entries_are_written s next es bs b)

-- two byte strings that read, whole, as the same schedule are the same
pub one_encoding : (s t : List ℕ) (threads nodes : ℕ) (es : List Entry) → Bytes s → Bytes t → ReadsAs s threads nodes es → ReadsAs t threads nodes es → s ≡ t
one_encoding s t threads nodes es bs bt a b = whole s bs a ∙ sym (whole t bt b)
  where
    whole : (u : List ℕ) → Bytes u → ReadsAs u threads nodes es → u ≡ schedule_bytes threads nodes es
    whole u bu r = what_reads_well_is_written u threads nodes r.next es bu r.set_up_lem r.entries
