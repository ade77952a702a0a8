-- Whoever follows the links from a node of a chain meets exactly the nodes that stand in it from there on, each once, and stops at the last.
use Prim.Native.Nat.{ℕ, zero, suc, ◌+◌, ◌≤◌}
use mathlib.Core.Path.{◌≡◌, sym, ap, ◌∙◌}
use mathlib.Core.List.{List, ◌∷◌}
use mathlib.Core.Option.{Option, none, some}
use native.Mathlib.Omega.{arith}
use lib.ListN.{length, drop, drop_of_length-le}
use Rattle.chain.specs.Positions.{at, At}
use Rattle.chain.specs.Chain.{Chain, following}
use Rattle.chain.proofs.Positions.{none_is_past_the_end, past_the_end, drop_from}

module _ {next : ℕ → Option ℕ} {c : List ℕ} (chain : Chain next c) where
  -- from position k on, with at least as many links to follow as there are nodes left
  pub meets_the_rest : (m k : ℕ) (l : Option ℕ) → at c k ≡ l → length c ≤ k + m → following next m l ≡ drop k c
  unfolding following
  meets_the_rest zero k l e h = sym (drop_of_length-le c {i = k} (omega arith))
  meets_the_rest (suc m) k none e h = sym (drop_of_length-le c (none_is_past_the_end c k e))
  meets_the_rest (suc m) k (some n) e h =
      ap (λ (r : List ℕ). n ∷ r) (meets_the_rest m (suc k) (next n) (sym (chain.links k n e)) (omega arith)) ∙ sym (drop_from c k n e)

  -- the last node's link is none, and only its
  pub last_has_none : (k n : ℕ) → At c k n → length c ≡ suc k → next n ≡ none
  last_has_none k n p e = chain.links k n p ∙ past_the_end c (suc k) (omega arith)

  pub none_is_the_last : (k n : ℕ) → At c k n → next n ≡ none → length c ≤ suc k
  none_is_the_last k n p e = none_is_past_the_end c (suc k) (sym (chain.links k n p) ∙ e)
