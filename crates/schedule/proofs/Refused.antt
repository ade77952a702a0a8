-- A refusal of the writer changes no byte of the lent buffer, and what is accepted changes only the bytes that it writes.
use Prim.Native.Nat.{ℕ}
use mathlib.Core.Path.{◌≡◌, refl}
use mathlib.Core.List.{List}
use native.Mathlib.Omega.{arith}
use lib.ListN.{take, drop}
use Rattle.refusal.specs.declared.Refusal.{Refusal}
use Rattle.lent.specs.Lent.{writing, written}
use Rattle.lent.proofs.Laws.{refusal_changes_nothing, accepted_changes_only_these}
use Rattle.entry.specs.Range.{in_range}
use Rattle.schedule.specs.Write.{answer_where_accepted, is_code, set_up_bytes, entry_bytes, set_up_writing, set_up_written, entry_writing, entry_written}
use Rattle.refusal.specs.Verdicts.{Verdict, where_accepted}
use Rattle.std.specs.Prelude.{Err, Ok}

-- whatever is tested first
module _ (l buf : List ℕ) where
  tested_refusal : (v : Verdict) (r : Refusal) → answer_where_accepted v (writing l buf) ≡ Err r → where_accepted v (written l buf) buf ≡ buf
  tested_refusal (Ok ok) r e = refusal_changes_nothing l buf r e
  tested_refusal (Err q) r e = refl

  tested_acceptance : (v : Verdict) (n : ℕ) → answer_where_accepted v (writing l buf) ≡ Ok n
      → (take n (where_accepted v (written l buf) buf) ≡ l) × (drop n (where_accepted v (written l buf) buf) ≡ drop n buf)
  tested_acceptance (Ok ok) n e = accepted_changes_only_these l buf n e
  tested_acceptance (Err q) n e = absurd (let z : ◌≡◌ {A = ℕ} 0 1 = cc in omega arith)

module _ (threads nodes : ℕ) (buf : List ℕ) where
  pub set_up_refusal_changes_nothing : (r : Refusal) → set_up_writing threads nodes buf ≡ Err r → set_up_written threads nodes buf ≡ buf
  set_up_refusal_changes_nothing r e = tested_refusal (set_up_bytes threads nodes) buf (in_range threads nodes) r e

  pub set_up_changes_only_its_bytes : (n : ℕ) → set_up_writing threads nodes buf ≡ Ok n
      → (take n (set_up_written threads nodes buf) ≡ set_up_bytes threads nodes) × (drop n (set_up_written threads nodes buf) ≡ drop n buf)
  set_up_changes_only_its_bytes n e = tested_acceptance (set_up_bytes threads nodes) buf (in_range threads nodes) n e

module _ (code t x : ℕ) (buf : List ℕ) where
  pub entry_refusal_changes_nothing : (r : Refusal) → entry_writing code t x buf ≡ Err r → entry_written code t x buf ≡ buf
  entry_refusal_changes_nothing r e = tested_refusal (entry_bytes code t x) buf (is_code code) r e

  pub entry_changes_only_its_bytes : (n : ℕ) → entry_writing code t x buf ≡ Ok n
      → (take n (entry_written code t x buf) ≡ entry_bytes code t x) × (drop n (entry_written code t x buf) ≡ drop n buf)
  entry_changes_only_its_bytes n e = tested_acceptance (entry_bytes code t x) buf (is_code code) n e
