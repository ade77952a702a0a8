-- Calls of one kind. Enqueues give the same results on any queue; of dequeues as many succeed as there are items, and what is behind those makes no
-- difference to their results.
use Rattle.std.proofs.Common.{◌≡◌, ℕ, suc, ◌+◌, ◌≤◌, ◌⊎◌, List, [], ◌∷◌, ◌++◌, length, take, sym, refl, ap, ◌∙◌, ⊎_elim, arith, take_all}
use mathlib.Core.List.{nil≢cons}
use Rattle.tally.specs.Fifo.{Call, enqueue, dequeue, Result, ok, item, after, result, results, successful}
use Rattle.tally.specs.Excess.{enqueued, enqueues, dequeues, excess}
use Rattle.tally.specs.Tally.{tally_of, successful_on}
use Rattle.tally.proofs.Counts.{excess_nil, excess_dequeue, failing_and_successful, successful_is, successful_le_present}

module _ {A : Type 0} where
  -- no more succeed than waited and came
  pub successful_le : (cs : List (Call A)) (q : List A) → successful (results cs q) ≤ length q + enqueues cs
  successful_le cs q = omega (arith, successful_is cs q, successful_le_present cs (length q))

  pub results_enqueues : (cs : List (Call A)) (q r : List A) → dequeues cs ≡ 0 → results cs q ≡ results cs r
  unfolding results result after dequeues
  results_enqueues [] q r e = refl
  results_enqueues (enqueue v ∷ cs) q r e = ap (λ (x : List (Result A)). ok ∷ x) (results_enqueues cs (q ++ (v ∷ [])) (r ++ (v ∷ [])) e)
  results_enqueues (dequeue ∷ cs) q r e = absurd (omega arith)

  pub successful_enqueues : (cs : List (Call A)) (q : List A) → dequeues cs ≡ 0 → successful (results cs q) ≡ 0
  successful_enqueues cs q e = omega (arith, failing_and_successful cs q)

  pub dequeues_alone : (cs : List (Call A)) → enqueued cs ≡ [] → (dequeues cs ≡ length cs) × (excess cs ≡ length cs)
  unfolding enqueued dequeues
  dequeues_alone [] e = (refl, excess_nil A)
  dequeues_alone (enqueue v ∷ cs) e = absurd (nil≢cons (sym e))
  dequeues_alone (dequeue ∷ cs) e = let h = dequeues_alone cs e in (ap suc h.0, excess_dequeue cs ∙ ap suc h.1)

  -- k of the dequeues succeed: all of them, or as many as there are items
  module _ (cs : List (Call A)) (q : List A) (k : ℕ) (alone : enqueued cs ≡ []) (stop : (k ≡ length cs) ⊎ (length q ≡ k)) where
    pub successful_dequeues : k ≤ length q → k ≤ length cs → successful (results cs q) ≡ k
    successful_dequeues h few =
        let w = dequeues_alone cs alone in
        sym (successful_is cs q) ∙ ⊎_elim {C = successful_on (tally_of cs) (length q) ≡ k} (λ e. omega (arith, w.0, w.1)) (λ e. omega (arith, w.0, w.1)) stop

  results_of_the_first : (cs : List (Call A)) (q : List A) → enqueued cs ≡ [] → results cs (take (length cs) q) ≡ results cs q
  unfolding results result after enqueued
  results_of_the_first [] q e = refl
  results_of_the_first (enqueue v ∷ cs) q e = absurd (nil≢cons (sym e))
  results_of_the_first (dequeue ∷ cs) [] e = refl
  results_of_the_first (dequeue ∷ cs) (x ∷ q) e = ap (λ (r : List (Result A)). item x ∷ r) (results_of_the_first cs q e)

  pub results_dequeues : (cs : List (Call A)) (q : List A) (k : ℕ) → enqueued cs ≡ [] → (k ≡ length cs) ⊎ (length q ≡ k) → results cs (take k q) ≡ results cs q
  results_dequeues cs q k alone stop =
      ⊎_elim {C = results cs (take k q) ≡ results cs q} (λ e. ap (λ (n : ℕ). results cs (take n q)) e ∙ results_of_the_first cs q alone) (λ e. ap (results cs) (take_all k q (omega arith))) stop
