-- 01, "Schedule bytes and listing": how a number is written.
use Rattle.std.specs.Prelude.{ℕ, zero, suc, ◌+◌, ◌/◌, ◌%◌, cond, List, [], ◌∷◌, ltb}

-- a number's groups, low group first; k may follow the first
unfoldable pub groups : ℕ → ℕ → List ℕ
groups zero n = n ∷ []
groups (suc k) n = cond (ltb n 128) (n ∷ []) ((128 + n % 128) ∷ groups k (n / 128))

-- a number's bytes, at most five
abbrev pub groups_of : ℕ → List ℕ
groups_of n = groups 4 n
