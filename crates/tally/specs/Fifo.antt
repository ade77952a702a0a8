-- A plain first-in first-out list, oldest item first, and calls run singly on it: what they leave and what each gives.
-- 01, "Entries": a call is an enqueue or a dequeue; its result is ok, an item or empty.
use Rattle.std.specs.Prelude.{ℕ, suc, List, [], ◌∷◌, ◌++◌}

pub data Call (A : Type 0) : Type 0 where
  enqueue : A → Call A
  dequeue : Call A

pub data Result (A : Type 0) : Type 0 where
  ok : Result A
  item : A → Result A
  empty : Result A

module _ {A : Type 0} where
  -- the list after one call
  unfoldable pub after : Call A → List A → List A
  after (enqueue v) q = q ++ (v ∷ [])
  after dequeue [] = []
  after dequeue (v ∷ q) = q

  -- the result of one call
  unfoldable pub result : Call A → List A → Result A
  result (enqueue v) q = ok
  result dequeue [] = empty
  result dequeue (v ∷ q) = item v

  -- calls one after the other: the list that they leave, and their results in the same order
  unfoldable pub left : List (Call A) → List A → List A
  left [] q = q
  left (c ∷ cs) q = left cs (after c q)

  unfoldable pub results : List (Call A) → List A → List (Result A)
  results [] q = []
  results (c ∷ cs) q = result c q ∷ results cs (after c q)

  -- 002, definition 5.1: a failing dequeue finds nothing; a successful one gets an item
  unfoldable pub failing : List (Result A) → ℕ
  failing [] = 0
  failing (ok ∷ rs) = failing rs
  failing (item v ∷ rs) = failing rs
  failing (empty ∷ rs) = suc (failing rs)

  unfoldable pub successful : List (Result A) → ℕ
  successful [] = 0
  successful (ok ∷ rs) = successful rs
  successful (item v ∷ rs) = suc (successful rs)
  successful (empty ∷ rs) = successful rs
