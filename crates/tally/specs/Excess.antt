-- 01, end of "Entries": the excess is the largest value of dequeues less enqueues over all prefixes, the empty one among them.
-- A prefix with more enqueues than dequeues counts as 0 here (`-` stops at 0); the empty prefix has that value anyway.
use Rattle.std.specs.Prelude.{ℕ, suc, ◌-◌, max, List, [], ◌∷◌, map, length}
use Rattle.tally.specs.Fifo.{Call, enqueue, dequeue}

unfoldable pub prefixes : {B : Type 0} → List B → List (List B)
prefixes [] = [] ∷ []
prefixes (x ∷ xs) = [] ∷ map (λ p. x ∷ p) (prefixes xs)

unfoldable pub largest : List ℕ → ℕ
largest [] = 0
largest (n ∷ ns) = max n (largest ns)

module _ {A : Type 0} where
  -- the items that a list of calls enqueues, in their order
  unfoldable pub enqueued : List (Call A) → List A
  enqueued [] = []
  enqueued (enqueue v ∷ cs) = v ∷ enqueued cs
  enqueued (dequeue ∷ cs) = enqueued cs

  abbrev pub enqueues : List (Call A) → ℕ
  enqueues cs = length (enqueued cs)

  unfoldable pub dequeues : List (Call A) → ℕ
  dequeues [] = 0
  dequeues (enqueue v ∷ cs) = dequeues cs
  dequeues (dequeue ∷ cs) = suc (dequeues cs)

  unfoldable pub excess : List (Call A) → ℕ
  excess cs = largest (map (λ p. dequeues p - enqueues p) (prefixes cs))
