-- The largest value that a function has over all prefixes of a list: how it goes from a list to the list with one element more in front,
-- and how it moves when the function is lowered by a number or raised by one.
use Rattle.std.proofs.Common.{◌≡◌, ℕ, suc, ◌-◌, ◌≤◌, max, List, [], ◌∷◌, map, ap, arith}
use mathlib.Core.Path.{fun_ext}
use mathlib.Core.List.{map-map}
use Rattle.tally.specs.Excess.{prefixes, largest}

module _ {B : Type 0} where
  abbrev pub best : (List B → ℕ) → List B → ℕ
  best f xs = largest (map f (prefixes xs))

  pub best_nil : (f : List B → ℕ) → best f [] ≡ f []
  unfolding prefixes largest
  best_nil f = omega arith

module _ {C : Type 0} where
  largest_lowered : (f : C → ℕ) (n : ℕ) (ps : List C) → largest (map (λ p. f p - n) ps) ≡ largest (map f ps) - n
  unfolding largest
  largest_lowered f n [] = omega arith
  largest_lowered f n (p ∷ ps) = omega (arith, largest_lowered f n ps)

  -- a raised difference may still be 0 where the plain one was cut off, which is why 1 stands beside it
  largest_raised : (d e : C → ℕ) (ps : List C) → max 1 (largest (map (λ p. suc (d p) - e p) ps)) ≡ suc (largest (map (λ p. d p - e p) ps))
  unfolding largest
  largest_raised d e [] = omega arith
  largest_raised d e (p ∷ ps) = omega (arith, largest_raised d e ps)

module _ {B : Type 0} where
  pub best_cons : (f : List B → ℕ) (x : B) (xs : List B) → best f (x ∷ xs) ≡ max (f []) (best (λ p. f (x ∷ p)) xs)
  unfolding prefixes largest
  best_cons f x xs = ap (λ ys. max (f []) (largest ys)) (map-map f (λ p. x ∷ p) (prefixes xs))

  -- the empty prefix counts
  pub none_le_best : (f : List B → ℕ) (xs : List B) → f [] ≤ best f xs
  none_le_best f [] = omega (arith, best_nil f)
  none_le_best f (x ∷ xs) = omega (arith, best_cons f x xs)

  -- and so does the whole list
  pub whole_le_best : (f : List B → ℕ) (xs : List B) → f xs ≤ best f xs
  whole_le_best f [] = omega (arith, best_nil f)
  whole_le_best f (x ∷ xs) = omega (arith, best_cons f x xs, whole_le_best (λ p. f (x ∷ p)) xs)

  pub best_same : (f g : List B → ℕ) (xs : List B) → ((p : List B) → f p ≡ g p) → best f xs ≡ best g xs
  best_same f g xs h = ap (λ (k : List B → ℕ). best k xs) (fun_ext h)

  pub best_lowered : (f : List B → ℕ) (n : ℕ) (xs : List B) → best (λ p. f p - n) xs ≡ best f xs - n
  best_lowered f n xs = largest_lowered f n (prefixes xs)

  pub best_raised : (d e : List B → ℕ) (xs : List B) → e [] ≡ 0 → best (λ p. suc (d p) - e p) xs ≡ suc (best (λ p. d p - e p) xs)
  best_raised d e xs h = omega (arith, largest_raised d e (prefixes xs), none_le_best (λ p. suc (d p) - e p) xs)
