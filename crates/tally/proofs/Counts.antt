-- How many dequeues of a list of calls fail and how many succeed on a given queue: Lemma 5.3, Claim 5.4 and Corollary 5.5 of document 002,
-- for any calls and any kind of item; and what the calls leave of the queue.
-- All go by the calls in their order, with the queue general: an enqueue makes it one longer, a dequeue makes it one shorter or fails.
use Rattle.std.proofs.Common.{◌≡◌, ℕ, suc, ◌+◌, ◌-◌, ◌≤◌, List, [], ◌∷◌, ◌++◌, map, length, drop, sym, refl, ap, ◌∙◌, append_assoc, append-nil, arith, length-append}
use Rattle.tally.specs.Fifo.{Call, enqueue, dequeue, after, result, left, results, failing, successful}
use Rattle.tally.specs.Excess.{prefixes, largest, enqueued, enqueues, dequeues, excess}
use Rattle.tally.specs.Tally.{tally_of, nothing_pending, successful_on}
use Rattle.tally.proofs.Prefixes.{best, best_nil, best_cons, best_same, best_lowered, best_raised, whole_le_best}

-- the empty list has no excess
pub excess_nil : (A : Type 0) → excess {A = A} [] ≡ 0
unfolding excess dequeues enqueued
excess_nil A = best_nil {B = Call A} (λ p. dequeues p - enqueues p)

module _ {A : Type 0} where
  ahead : List (Call A) → ℕ
  ahead p = dequeues p - enqueues p

  -- an enqueue in front serves one dequeue that found nothing
  pub excess_enqueue : (v : A) (cs : List (Call A)) → excess (enqueue v ∷ cs) ≡ excess cs - 1
  unfolding excess dequeues enqueued ahead
  excess_enqueue v cs =
      let one_less : best (λ p. dequeues p - suc (enqueues p)) cs ≡ best (λ p. ahead p - 1) cs = best_same _ _ cs (λ p. omega arith) in
      omega (arith, best_cons ahead (enqueue v) cs, one_less, best_lowered ahead 1 cs)

  -- a dequeue in front finds nothing itself, and what follows is none the better for it
  pub excess_dequeue : (cs : List (Call A)) → excess (dequeue ∷ cs) ≡ suc (excess cs)
  unfolding excess dequeues enqueued ahead
  excess_dequeue cs = omega (arith, best_cons ahead dequeue cs, best_raised dequeues enqueues cs refl)

  -- Corollary 5.5: on a queue of n items, as many dequeues fail as the excess is above n
  pub corollary_5_5 : (cs : List (Call A)) (q : List A) → failing (results cs q) ≡ excess cs - length q
  unfolding failing results result after
  corollary_5_5 [] q = omega (arith, excess_nil A)
  corollary_5_5 (enqueue v ∷ cs) q = omega (arith, corollary_5_5 cs (q ++ (v ∷ [])), length-append q (v ∷ []), excess_enqueue v cs)
  corollary_5_5 (dequeue ∷ cs) [] = omega (arith, corollary_5_5 cs [], excess_dequeue cs)
  corollary_5_5 (dequeue ∷ cs) (x ∷ q) = omega (arith, corollary_5_5 cs q, excess_dequeue cs)

  -- Lemma 5.3: the excess dequeues, those that fail on an empty queue, are the largest value of dequeues less enqueues over all prefixes
  pub lemma_5_3 : (cs : List (Call A)) → failing (results cs []) ≡ excess cs
  lemma_5_3 cs = omega (arith, corollary_5_5 cs [])

  -- Claim 5.4: on a queue of n items they are the largest value of dequeues less enqueues less n, or 0 where that is negative
  pub claim_5_4 : (cs : List (Call A)) (q : List A) → failing (results cs q) ≡ largest (map (λ p. dequeues p - enqueues p - length q) (prefixes cs))
  unfolding excess
  claim_5_4 cs q = corollary_5_5 cs q ∙ sym (best_lowered (λ p. dequeues p - enqueues p) (length q) cs)

  -- each dequeue fails or succeeds
  pub failing_and_successful : (cs : List (Call A)) (q : List A) → failing (results cs q) + successful (results cs q) ≡ dequeues cs
  unfolding failing successful results result after dequeues
  failing_and_successful [] q = omega arith
  failing_and_successful (enqueue v ∷ cs) q = failing_and_successful cs (q ++ (v ∷ []))
  failing_and_successful (dequeue ∷ cs) [] = omega (arith, failing_and_successful cs [])
  failing_and_successful (dequeue ∷ cs) (x ∷ q) = omega (arith, failing_and_successful cs q)

  -- the number that the tally gives is that of running the calls
  pub successful_is : (cs : List (Call A)) (q : List A) → successful_on (tally_of cs) (length q) ≡ successful (results cs q)
  successful_is cs q = omega (arith, corollary_5_5 cs q, failing_and_successful cs q)

  -- no more can be taken than waited before and came with the batch: why no walk of a batch runs off the end
  pub successful_le_present : (cs : List (Call A)) (z : ℕ) → successful_on (tally_of cs) z ≤ z + enqueues cs
  unfolding excess
  successful_le_present cs z = omega (arith, whole_le_best (λ p. dequeues p - enqueues p) cs)

  -- what is left is what waited and what came, without as many of the oldest as dequeues succeeded
  pub left_is : (cs : List (Call A)) (q : List A) → left cs q ≡ drop (successful (results cs q)) (q ++ enqueued cs)
  unfolding left successful results result after enqueued
  left_is [] q = sym (append-nil q)
  left_is (enqueue v ∷ cs) q = left_is cs (q ++ (v ∷ [])) ∙ ap (drop (successful (results cs (q ++ (v ∷ []))))) (append_assoc q (v ∷ []) (enqueued cs))
  left_is (dequeue ∷ cs) [] = left_is cs []
  left_is (dequeue ∷ cs) (x ∷ q) = left_is cs q

  -- the items of further calls stand behind
  pub enqueued_append : (cs ds : List (Call A)) → enqueued (cs ++ ds) ≡ enqueued cs ++ enqueued ds
  unfolding enqueued
  enqueued_append [] ds = refl
  enqueued_append (enqueue v ∷ cs) ds = ap (λ (l : List A). v ∷ l) (enqueued_append cs ds)
  enqueued_append (dequeue ∷ cs) ds = enqueued_append cs ds

  -- there are no more of each kind than calls, and no more excess than dequeues
  pub enqueues_are_calls : (cs : List (Call A)) → enqueues cs ≤ length cs
  unfolding enqueued
  enqueues_are_calls [] = omega arith
  enqueues_are_calls (enqueue v ∷ cs) = omega (arith, enqueues_are_calls cs)
  enqueues_are_calls (dequeue ∷ cs) = omega (arith, enqueues_are_calls cs)

  pub dequeues_are_calls : (cs : List (Call A)) → dequeues cs ≤ length cs
  unfolding dequeues
  dequeues_are_calls [] = omega arith
  dequeues_are_calls (enqueue v ∷ cs) = omega (arith, dequeues_are_calls cs)
  dequeues_are_calls (dequeue ∷ cs) = omega (arith, dequeues_are_calls cs)

  pub excess_le_dequeues : (cs : List (Call A)) → excess cs ≤ dequeues cs
  excess_le_dequeues cs = omega (arith, lemma_5_3 cs, failing_and_successful cs [])

-- no calls
pub tally_of_none : (A : Type 0) → tally_of {A = A} [] ≡ nothing_pending
unfolding enqueued dequeues
tally_of_none A = λ k. record { enqueues = 0; dequeues = 0; excess = excess_nil A k }
