-- Chains: nodes that are linked one behind the other.
use Rattle.std.specs.Prelude.{ℕ, zero, suc, ◌≡◌, List, [], ◌∷◌}
use Rattle.std.proofs.Math.Option.{Option, none, some}
use Rattle.chain.specs.Positions.{at, At, In, Once}

-- `next` says which node is linked behind a node, or none. c is a chain of it: each node's link leads to the one that follows it in c,
-- the last one's is none, and no node stands in it twice.
pub record Chain (next : ℕ → Option ℕ) (c : List ℕ) : Type 0 where
  pub links : (k n : ℕ) → At c k n → next n ≡ at c (suc k)
  pub once : Once c

-- l is a chain of its own beside c: none of its nodes is in c
pub record Beside (next : ℕ → Option ℕ) (c l : List ℕ) : Type 0 where
  pub chain : Chain next l
  pub apart : (k n : ℕ) → At l k n → In c n → ⊥

-- the nodes that one meets when one follows the links, m of them at most
unfoldable pub following : (ℕ → Option ℕ) → ℕ → Option ℕ → List ℕ
following next zero l = []
following next (suc m) none = []
following next (suc m) (some n) = n ∷ following next m (next n)
