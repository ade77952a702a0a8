-- A contract determines the outcome when it tells the value of the answer, and of what is left in a lent buffer: two that have one value are the same.
-- A lent buffer is found by its place among the parameters. What is lent by no `&mut` is left as it was, so nothing has to be told of it.
use mathlib.Core.Path.{◌≡◌, sym, ◌∙◌}
use mathlib.Core.Logic.{∥∥₁_elim, ∥∥₁_prop}
use base.Logic.{ent, emp, sep, id⊢, fst∗, snd∗}
use contract.Monad.{fact}
use denote.Triple.Clauses.{Ended}
use Rattle.contracts.specs.Determined.{Contract, Input}

module _ {M : Type 1} {f : Ended} {c : Contract M f} (i : Input M f c) where
  -- of a contract that has no `requires`
  pub nothing_required : ent i.𝓤 (emp i.𝓤) (emp i.𝓤)
  nothing_required = id⊢ i.𝓤 (emp i.𝓤)

  -- of a contract whose `ensures` is one fact: what this fact of an outcome, and of another, says of the two
  pub together : {φ ψ χ : Type 0} → (φ → ψ → χ) → (m : M) × (fact i.𝓤 φ).holds m → (m : M) × (fact i.𝓤 ψ).holds m → ∥ χ ∥₁
  together h p q = ∥∥₁_elim p.1 ∥∥₁_prop (λ a. ∥∥₁_elim q.1 ∥∥₁_prop (λ b. ∣ h a.0 b.0 ∣₁))

  -- of two facts that stand beside one another
  one_and_other : {φ χ : Type 0} → (m : M) × (sep i.𝓤 (fact i.𝓤 φ) (fact i.𝓤 χ)).holds m → ∥ φ × χ ∥₁
  one_and_other {φ} {χ} p =
      ∥∥₁_elim ((fst∗ i.𝓤 (fact i.𝓤 φ) (fact i.𝓤 χ)).apply p.0 p.1) ∥∥₁_prop (λ a.
      ∥∥₁_elim ((snd∗ i.𝓤 (fact i.𝓤 φ) (fact i.𝓤 χ)).apply p.0 p.1) ∥∥₁_prop (λ b. ∣ (a.0, b.0) ∣₁))

  -- of a contract whose `ensures` are two facts, each with its name
  pub together_both : {φ φ' ψ ψ' χ : Type 0} → (φ × φ' → ψ × ψ' → χ)
      → (m : M) × (sep i.𝓤 (fact i.𝓤 φ) (fact i.𝓤 φ')).holds m → (m : M) × (sep i.𝓤 (fact i.𝓤 ψ) (fact i.𝓤 ψ')).holds m → ∥ χ ∥₁
  together_both h p q = ∥∥₁_elim (one_and_other p) ∥∥₁_prop (λ a. ∥∥₁_elim (one_and_other q) ∥∥₁_prop (λ b. ∣ h a b ∣₁))

  -- of a contract whose `ensures` are three facts
  one_other_and_third : {φ χ ψ : Type 0} → (m : M) × (sep i.𝓤 (fact i.𝓤 φ) (sep i.𝓤 (fact i.𝓤 χ) (fact i.𝓤 ψ))).holds m → ∥ φ × (χ × ψ) ∥₁
  one_other_and_third {φ} {χ} {ψ} p =
      let rest = sep i.𝓤 (fact i.𝓤 χ) (fact i.𝓤 ψ) in
      ∥∥₁_elim ((fst∗ i.𝓤 (fact i.𝓤 φ) rest).apply p.0 p.1) ∥∥₁_prop (λ a.
      ∥∥₁_elim (one_and_other (p.0, (snd∗ i.𝓤 (fact i.𝓤 φ) rest).apply p.0 p.1)) ∥∥₁_prop (λ b. ∣ (a.0, b) ∣₁))

  pub together_three : {φ φ' φ'' ψ ψ' ψ'' χ : Type 0} → (φ × (φ' × φ'') → ψ × (ψ' × ψ'') → χ)
      → (m : M) × (sep i.𝓤 (fact i.𝓤 φ) (sep i.𝓤 (fact i.𝓤 φ') (fact i.𝓤 φ''))).holds m
      → (m : M) × (sep i.𝓤 (fact i.𝓤 ψ) (sep i.𝓤 (fact i.𝓤 ψ') (fact i.𝓤 ψ''))).holds m → ∥ χ ∥₁
  together_three h p q = ∥∥₁_elim (one_other_and_third p) ∥∥₁_prop (λ a. ∥∥₁_elim (one_other_and_third q) ∥∥₁_prop (λ b. ∣ h a b ∣₁))

-- told: the answer. That nothing is lent is `refl`
pub answer : {A B : Type 0} {v : A} {x y : A × B} → x.1 ≡ y.1 → x.0 ≡ v → y.0 ≡ v → x ≡ y
answer e p q = λ k. ((p ∙ sym q) k, e k)

-- and beside it what else it meets, as that it is below some number
pub answer_and_more : {A B P Q : Type 0} {v : A} {x y : A × B} → x.1 ≡ y.1 → (x.0 ≡ v) × P → (y.0 ≡ v) × Q → x ≡ y
answer_and_more e p q = answer e p.0 q.0

-- told: what is left behind the first parameter. The answer is `()`, and that nothing else is lent is `refl`
pub first_alone : {B C : Type 0} {l : B} {x y : Unit {0} × (B × C)} → x.1.1 ≡ y.1.1 → x.1.0 ≡ l → y.1.0 ≡ l → x ≡ y
first_alone e p q = λ k. (tt, ((p ∙ sym q) k, e k))

-- told: the answer, and what is left in a buffer that is the first, the second or the third parameter. That nothing else is lent is `refl`
module _ {A B C : Type 0} {v : A} {l : B} where
  pub answer_and_first : {x y : A × (B × C)} → x.1.1 ≡ y.1.1 → (x.0 ≡ v) × (x.1.0 ≡ l) → (y.0 ≡ v) × (y.1.0 ≡ l) → x ≡ y
  answer_and_first e p q = λ k. ((p.0 ∙ sym q.0) k, ((p.1 ∙ sym q.1) k, e k))

  pub answer_and_second : {x y : A × (Unit {0} × (B × C))} → x.1.1.1 ≡ y.1.1.1 → (x.0 ≡ v) × (x.1.1.0 ≡ l) → (y.0 ≡ v) × (y.1.1.0 ≡ l) → x ≡ y
  answer_and_second e p q = λ k. ((p.0 ∙ sym q.0) k, (tt, ((p.1 ∙ sym q.1) k, e k)))

  pub answer_and_third : {x y : A × (Unit {0} × (Unit {0} × (B × C)))} → x.1.1.1.1 ≡ y.1.1.1.1
      → (x.0 ≡ v) × (x.1.1.1.0 ≡ l) → (y.0 ≡ v) × (y.1.1.1.0 ≡ l) → x ≡ y
  answer_and_third e p q = λ k. ((p.0 ∙ sym q.0) k, (tt, (tt, ((p.1 ∙ sym q.1) k, e k))))

-- told: the answer, what is left behind the first parameter, and what is left in a buffer that is the third. That nothing else is lent is `refl`
pub answer_first_and_third : {A B C D : Type 0} {v : A} {l : B} {m : C} {x y : A × (B × (Unit {0} × (C × D)))} → x.1.1.1.1 ≡ y.1.1.1.1
    → (x.0 ≡ v) × ((x.1.0 ≡ l) × (x.1.1.1.0 ≡ m)) → (y.0 ≡ v) × ((y.1.0 ≡ l) × (y.1.1.1.0 ≡ m)) → x ≡ y
answer_first_and_third e p q = λ k. ((p.0 ∙ sym q.0) k, ((p.1.0 ∙ sym q.1.0) k, (tt, ((p.1.1 ∙ sym q.1.1) k, e k))))
