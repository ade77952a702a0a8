-- What stands in a buffer up to the end of a piece that was put at its start.
use Prim.Native.Nat.{ℕ, ◌+◌, ◌≤◌}
use mathlib.Core.Path.{◌≡◌, ap, ap₂, ◌∙◌}
use mathlib.Core.List.{List}
use native.Mathlib.Omega.{arith}
use lib.ListN.{length, take}
use Rattle.lent.specs.Lent.{written_at}
use Rattle.lent.proofs.Laws.{length-written_at, taken_of_written_at}

-- a piece that was put at the start, where it fits, is what stands there up to its end
pub taken_at_start : {A : Type 0} (l buf : List A) {after : List A} {to : ℕ} → length l ≤ length buf → to ≡ length l → after ≡ written_at 0 l buf → (take to after ≡ l) × (to ≤ length after)
taken_at_start {A} l buf fits e t =
    let here : 0 + length l ≤ length buf = omega arith in
    let end : 0 + length l ≡ length l = omega arith in
    let taken : take (length l) (written_at 0 l buf) ≡ l = rw end at (taken_of_written_at 0 l buf here) in
    (ap₂ (λ (n : ℕ) (x : List A). take n x) e t ∙ taken, omega (arith, ap length t, length-written_at 0 l buf here))
