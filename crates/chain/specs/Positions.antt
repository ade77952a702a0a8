-- A list read by position.
use Rattle.std.specs.Prelude.{ℕ, zero, suc, ◌≡◌, List, [], ◌∷◌}
use Rattle.std.proofs.Math.Option.{Option, none, some}

module _ {A : Type 0} where
  -- the element at a position; none past the end
  unfoldable pub at : List A → ℕ → Option A
  at [] k = none
  at (x ∷ xs) zero = some x
  at (x ∷ xs) (suc k) = at xs k

  -- x stands at position k
  abbrev pub At : List A → ℕ → A → Type 0
  At c k x = at c k ≡ some x

  -- x stands somewhere
  abbrev pub In : List A → A → Type 0
  In c x = (k : ℕ) × At c k x

  -- no element stands at two positions
  abbrev pub Once : List A → Type 0
  Once c = (i j : ℕ) (x : A) → At c i x → At c j x → i ≡ j
