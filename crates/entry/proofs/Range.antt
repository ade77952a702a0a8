-- What is known of a set-up that is accepted: its numbers are in range.
use Prim.Native.Nat.{ℕ, ◌≤◌}
use mathlib.Core.Path.{◌≡◌, refl}
use mathlib.Core.Bool.{Bool, true, false, cond, ◌||◌}
use lib.Dec.{ltb}
use borrow.Author.Tests.{ltb-false}
use Rattle.refusal.specs.declared.Refusal.TheVariants.{SetupOutOfRange}
use Rattle.entry.specs.Range.{in_range}
use Rattle.refusal.proofs.Verdicts.{not_refused}
use Rattle.refusal.specs.Verdicts.{accepted}
use Rattle.std.specs.Prelude.{Err}

pub in_range_lem : (threads nodes : ℕ) → in_range threads nodes ≡ accepted → (threads ≤ 8) × (nodes ≤ 512)
in_range_lem threads nodes ok =
    let w = none_of (ltb threads 1) (ltb 8 threads) (ltb nodes 2) (ltb 512 nodes) ok in
    (ltb-false 8 threads w.0, ltb-false 512 nodes w.1)
  where
    none_of : (a b c d : Bool) → cond (a || b || c || d) (Err SetupOutOfRange) accepted ≡ accepted → (b ≡ false) × (d ≡ false)
    none_of true b c d e = not_refused e
    none_of false true c d e = not_refused e
    none_of false false true d e = not_refused e
    none_of false false false true e = not_refused e
    none_of false false false false e = (refl, refl)
