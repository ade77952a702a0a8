-- Every refusal comes from a test: what holds on both ways of a test holds of its answer.
use mathlib.Core.Path.{◌≡◌, refl}
use mathlib.Core.Bool.{Bool, true, false, cond}

pub either_way : {A : Type 0} (P : A → Type 0) (t : Bool) {a b : A} → (t ≡ true → P a) → (t ≡ false → P b) → P (cond t a b)
either_way P true f g = f refl
either_way P false f g = g refl
