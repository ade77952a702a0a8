-- Two readings that found the same number found the same value, and went on from the same place.
use Prim.Native.Nat.{ℕ}
use mathlib.Core.Path.{◌≡◌, ap}
use Rattle.std.specs.Prelude.{Ok, Err}
use Rattle.numbers.specs.Read.{Reading, a_number, value_of}

abbrev next_of : Reading → ℕ
next_of (Ok found) = found.next
next_of (Err r) = 0

pub same_number : {v next w last : ℕ} → a_number v next ≡ a_number w last → (v ≡ w) × (next ≡ last)
same_number e = (ap value_of e, ap next_of e)
