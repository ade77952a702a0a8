-- One thread's row is put back among the rows: it is there, and the others are as before. And the row that a step puts back: moved to its next
-- place, or cleared where the step ends a batch's call.
use Prim.Native.Nat.{ℕ, ◌<◌}
use mathlib.Core.Path.{◌≡◌, refl, ap, ◌∙◌}
use mathlib.Core.List.{List}
use mathlib.Core.Logic.{◌≢◌}
use native.Mathlib.Omega.{arith}
use lib.ListN.{length, get_or, set}
use lib.Seq.{get_or-set_same, get_or-set_other, set-set}
use Rattle.place.specs.declared.After.{After}
use Rattle.place.specs.Place.{place_after}
use Rattle.row.specs.declared.Row.{Row}
use Rattle.row.specs.Row.{no_row, placed, cleared}
use Rattle.pairing.specs.declared.Cursor.{Cursor}
use Rattle.machine.specs.declared.Machine.{Machine}
use Rattle.machine.specs.State.{row_at}
use Rattle.machine.specs.Pairing.{pairing, settled}
use Rattle.machine.specs.Steps.{hop}

module _ (m m' : Machine) (i : ℕ) (row : Row) (put : m'.rows ≡ set m.rows i row) where
  pub put_here : length m.rows ≡ 8 → i < 8 → row_at m' i ≡ row
  put_here rows lt = ap (λ (l : List Row). get_or l i no_row) put ∙ get_or-set_same m.rows i row no_row (omega (arith, rows))

  pub put_elsewhere : (u : ℕ) → u ≢ i → row_at m' u ≡ row_at m u
  put_elsewhere u ne = ap (λ (l : List Row). get_or l u no_row) put ∙ get_or-set_other m.rows i u row no_row ne

-- a step of the thread whose row is i
module _ (m : Machine) (i : ℕ) where
  abbrev m₁ : Machine
  m₁ = (hop m i).machine

  pub rows_moved : (a : After) → (hop m i).after ≡ a → m₁.rows ≡ set m.rows i (placed (row_at m i) (place_after a))
  unfolding hop
  rows_moved a e = ap (λ (x : After). set m.rows i (placed (row_at m i) (place_after x))) e

  pub row_moved : length m.rows ≡ 8 → i < 8 → row_at m₁ i ≡ placed (row_at m i) (place_after (hop m i).after)
  row_moved = put_here m m₁ i (placed (row_at m i) (place_after (hop m i).after)) (rows_moved (hop m i).after refl)

  -- the end of a batch
  pub rows_cleared : (k : ℕ) (c : Cursor) → (settled m₁ i k c).machine.rows ≡ set m.rows i (cleared (row_at m₁ i))
  unfolding hop settled pairing
  rows_cleared k c = set-set m.rows i (placed (row_at m i) (place_after (hop m i).after)) (cleared (row_at m₁ i))
