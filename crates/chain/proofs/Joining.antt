-- A link step: the last node of a chain gets a link to the first node of another chain that stands beside it, and the two are one chain.
use Prim.Native.Nat.{ℕ, suc, ◌+◌, ◌<◌}
use mathlib.Core.Path.{◌≡◌, sym, ap, ◌∙◌}
use mathlib.Core.List.{List, ◌++◌}
use mathlib.Core.Option.{Option, some}
use mathlib.Core.Logic.{◌⊎◌, inl, inr, ⊎_elim, ◌≢◌}
use native.Mathlib.Omega.{arith}
use native.Mathlib.Decide.{ℕ_discrete}
use lib.ListN.{length}
use Rattle.chain.specs.Positions.{at, At, In}
use Rattle.chain.specs.Chain.{Chain, Beside}
use Rattle.chain.proofs.Positions.{one_element, within, at_left, at_right, in_either}

module _ {next next' : ℕ → Option ℕ} {c l : List ℕ} (chain : Chain next c) (beside : Beside next c l)
    (last first : ℕ) (k : ℕ) (ends : At c k last) (all : length c ≡ suc k) (begins : At l 0 first)
    (linked : next' last ≡ some first) (else : (n : ℕ) → In c n ⊎ In l n → n ≢ last → next' n ≡ next n) where
  not_last : (n : ℕ) → (In c n → ⊥) → n ≢ last
  not_last n out e = out (k, ends ∙ ap some (sym e))

  old_link : (i n : ℕ) → At c i n → next' n ≡ at (c ++ l) (suc i)
  old_link i n p = elim (ℕ_discrete n last) [ yes e ↦ here e | no ne ↦ there ne ]
    where
      here : n ≡ last → next' n ≡ at (c ++ l) (suc i)
      here e =
          let place : suc i ≡ length c + 0 = omega (arith, chain.once i k last (p ∙ ap some e) ends, all) in
          ap next' e ∙ linked ∙ sym (ap (at (c ++ l)) place ∙ at_right c l 0 ∙ begins)

      there : n ≢ last → next' n ≡ at (c ++ l) (suc i)
      there ne =
          let other : i ≢ k = λ e. ne (one_element c i k p ends e) in
          let inside : suc i < length c = omega (arith, within c i p, all) in
          else n (inl (i, p)) ne ∙ chain.links i n p ∙ sym (at_left c l (suc i) inside)

  new_link : (i j n : ℕ) → i ≡ length c + j → At l j n → next' n ≡ at (c ++ l) (suc i)
  new_link i j n e p =
      let place : suc i ≡ length c + suc j = omega arith in
      else n (inr (j, p)) (not_last n (beside.apart j n p)) ∙ beside.chain.links j n p ∙ sym (ap (at (c ++ l)) place ∙ at_right c l (suc j))

  once_in_either : (i j n : ℕ) → At c i n ⊎ ((d : ℕ) × (i ≡ length c + d) × At l d n) → At c j n ⊎ ((d : ℕ) × (j ≡ length c + d) × At l d n) → i ≡ j
  once_in_either i j n (inl p) (inl q) = chain.once i j n p q
  once_in_either i j n (inl p) (inr q) = absurd (beside.apart q.0 n q.2 (i, p))
  once_in_either i j n (inr p) (inl q) = absurd (beside.apart p.0 n p.2 (j, q))
  once_in_either i j n (inr p) (inr q) = let e = beside.chain.once p.0 q.0 n p.2 q.2 in omega (arith, p.1, q.1)

  pub joined : Chain next' (c ++ l)
  joined = record {
    links = λ i n p. ⊎_elim (old_link i n) (λ w. new_link i w.0 n w.1 w.2) (in_either c l i p);
    once = λ i j n p q. once_in_either i j n (in_either c l i p) (in_either c l j q);
  }

-- a third chain that stands beside both stands beside what they are now, where its links stay
pub stays_beside : {next next' : ℕ → Option ℕ} {c m : List ℕ} (l : List ℕ) → Beside next c m → ((n : ℕ) → In l n → In m n → ⊥)
    → ((n : ℕ) → In m n → next' n ≡ next n) → Beside next' (c ++ l) m
stays_beside {c = c} l b other same = record {
  chain = record { links = λ i n p. same n (i, p) ∙ b.chain.links i n p; once = b.chain.once };
  apart = λ i n p w. ⊎_elim (λ x. b.apart i n p (w.0, x)) (λ x. other n (x.0, x.2) (i, p)) (in_either c l w.0 w.1);
}
