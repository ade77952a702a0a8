-- A list of numbers below n in which none stands twice has at most n of them: taking n - 1 out leaves such a list for n - 1.
use Prim.Native.Nat.{ℕ, zero, suc, ◌+◌, ◌<◌, ◌≤◌}
use mathlib.Core.Path.{◌≡◌, refl, ap, ◌∙◌, subst}
use mathlib.Core.List.{List, [], ◌∷◌, ◌++◌}
use mathlib.Core.Option.{some}
use mathlib.Core.Logic.{◌⊎◌, inl, inr, ⊎_elim, ◌≢◌}
use native.Mathlib.Omega.{arith}
use native.Mathlib.Decide.{ℕ_discrete}
use lib.ListN.{length, take, drop, length-append}
use lib.Seq.{split_at}
use Rattle.chain.specs.Positions.{at, At, In, Once}
use Rattle.chain.proofs.Positions.{none_is_not_some, some_injective, within, at_right, stays, in_either, at_is_get_or}

there_or_not : (c : List ℕ) (n : ℕ) → In c n ⊎ ((k : ℕ) → At c k n → ⊥)
unfolding at
there_or_not [] n = inr (λ k p. none_is_not_some refl p)
there_or_not (x ∷ c) n =
    elim (ℕ_discrete x n) [
      | yes e ↦ inl (0, ap some e)
      | no ne ↦ ⊎_elim (λ h. inl (suc h.0, h.1)) (λ h. inr (elim [ zero ↦ λ p. ne (some_injective p) | suc k ↦ λ p. h k p ])) (there_or_not c n)
    ]

-- a list with one element, y, taken out
module _ (c d : List ℕ) (y : ℕ) where
  -- where an element stood before
  before : (i x : ℕ) → At (c ++ d) i x → (m : ℕ) × At (c ++ (y ∷ d)) m x × (((i < length c) × (m ≡ i)) ⊎ ((length c ≤ i) × (m ≡ suc i)))
  unfolding at
  before i x h =
      ⊎_elim
      (λ p. (i, stays c (y ∷ d) i p, inl (within c i p, refl)))
      (λ p. (length c + suc p.0, at_right c (y ∷ d) (suc p.0) ∙ p.2, inr (omega (arith, p.1), omega (arith, p.1))))
      (in_either c d i h)

  once_without : Once (c ++ (y ∷ d)) → Once (c ++ d)
  once_without f i j x p q =
      let a = before i x p in
      let b = before j x q in
      let e = f a.0 b.0 x a.1 b.1 in
      ⊎_elim
      (λ s. ⊎_elim (λ t. omega (arith, s.1, t.1)) (λ t. omega (arith, s.0, s.1, t.0, t.1)) b.2)
      (λ s. ⊎_elim (λ t. omega (arith, s.0, s.1, t.0, t.1)) (λ t. omega (arith, s.1, t.1)) b.2)
      a.2

  gone : Once (c ++ (y ∷ d)) → (i x : ℕ) → At (c ++ d) i x → x ≢ y
  unfolding at
  gone f i x p e =
      let a = before i x p in
      let here : At (c ++ (y ∷ d)) (length c + 0) y = at_right c (y ∷ d) 0 in
      let q = f a.0 (length c + 0) y (subst (At (c ++ (y ∷ d)) a.0) e a.1) here in
      ⊎_elim (λ s. omega (arith, s.0, s.1)) (λ s. omega (arith, s.0, s.1)) a.2

pub at_most : (n : ℕ) (c : List ℕ) → Once c → ((k x : ℕ) → At c k x → x < n) → length c ≤ n
unfolding at
at_most zero [] f b = omega arith
at_most zero (x ∷ c) f b = absurd (let z = b 0 x refl in omega arith)
at_most (suc n) c f b =
    ⊎_elim (λ h. without (λ c f b. at_most n c f b) h) (λ h. (let z = at_most n c f (λ k x p. smaller k x p h) in omega arith)) (there_or_not c n)
  where
    smaller : (k x : ℕ) → At c k x → ((k : ℕ) → At c k n → ⊥) → x < n
    smaller k x p h = let z = b k x p in let ne : x ≢ n = λ e. h k (p ∙ ap some e) in omega arith

    without : ((c : List ℕ) → Once c → ((k x : ℕ) → At c k x → x < n) → length c ≤ n) → In c n → length c ≤ suc n
    without again h =
        let c₁ = take h.0 c in
        let c₂ = drop (suc h.0) c in
        let e : c ≡ c₁ ++ (n ∷ c₂) = split_at c h.0 0 (within c h.0 h.1) ∙ ap (λ (y : ℕ). c₁ ++ (y ∷ c₂)) (at_is_get_or c h.0 n 0 h.1) in
        let f' : Once (c₁ ++ (n ∷ c₂)) = subst (λ (l : List ℕ). Once l) e f in
        let b' = subst (λ (l : List ℕ). (k x : ℕ) → At l k x → x < suc n) e b in
        let z =
        again (c₁ ++ c₂) (once_without c₁ c₂ n f')
        (λ i x p. let a = before c₁ c₂ n i x p in let lt = b' a.0 x a.1 in let ne = gone c₁ c₂ n f' i x p in omega arith) in
        omega (arith, ap length e, length-append c₁ (n ∷ c₂), length-append c₁ c₂)
