-- The three counters, kept up call by call, are the tally of the calls: shown from any counters that stand for calls made before,
-- of which the largest lead of the dequeues is already in the excess. As long as a counter does not wrap.
use Rattle.std.proofs.Common.{◌≡◌, ℕ, ◌+◌, ◌-◌, ◌^◌, ◌<◌, ◌≤◌, max, List, [], ◌∷◌, ◌++◌, length, sym, refl, ap, ◌∙◌, arith, length-append}
use Rattle.tally.specs.declared.Tally.{Tally}
use Rattle.tally.specs.Fifo.{Call, enqueue, dequeue}
use Rattle.tally.specs.Excess.{enqueued, enqueues, dequeues, excess}
use Rattle.tally.specs.Tally.{tally_of, nothing_pending, up, with_enqueue, with_dequeue, with, kept_up}
use Rattle.tally.proofs.Prefixes.{best, best_nil, best_cons, best_same, none_le_best}

tally_path : {s t : Tally} → s.enqueues ≡ t.enqueues → s.dequeues ≡ t.dequeues → s.excess ≡ t.excess → s ≡ t
tally_path e d x = λ i. record { enqueues = e i; dequeues = d i; excess = x i }

-- a lead that the excess has already, and one that a longer prefix has too, add nothing
nested : (x m b l : ℕ) → l ≤ x → m ≤ b → max (max x m) b ≡ max x (max l b)
nested x m b l hl hm = omega arith

module _ {A : Type 0} where
  -- the dequeues less the enqueues after a prefix of further calls
  lead : Tally → List (Call A) → ℕ
  lead t p = t.dequeues + dequeues p - (t.enqueues + enqueues p)

  -- the tally after further calls
  further : Tally → List (Call A) → Tally
  further t cs = record { enqueues = t.enqueues + enqueues cs; dequeues = t.dequeues + dequeues cs; excess = max t.excess (best (lead t) cs) }

  kept_up_from : (cs : List (Call A)) (t : Tally) → t.enqueues + length cs < 2 ^ 32 → t.dequeues + length cs < 2 ^ 32 → t.dequeues - t.enqueues ≤ t.excess → kept_up t cs ≡ further t cs
  unfolding kept_up further lead dequeues enqueued
  kept_up_from [] t he hd hx = tally_path (omega arith) (omega arith) (omega (arith, best_nil (lead t)))
  kept_up_from (enqueue v ∷ cs) t he hd hx =
      let same : best (λ p. lead t (enqueue v ∷ p)) cs ≡ best (lead (with_enqueue t)) cs = best_same _ _ cs (λ p. omega arith) in
      kept_up_from cs (with_enqueue t) (omega arith) (omega arith) (omega arith)
      ∙ tally_path (omega arith) (omega arith) (omega (arith, best_cons (lead t) (enqueue v) cs, same))
  kept_up_from (dequeue ∷ cs) t he hd hx =
      let same : best (λ p. lead t (dequeue ∷ p)) cs ≡ best (lead (with_dequeue t)) cs = best_same _ _ cs (λ p. omega arith) in
      kept_up_from cs (with_dequeue t) (omega arith) (omega arith) (omega arith)
      ∙ tally_path (omega arith) (omega arith)
      (nested t.excess (up t.dequeues - t.enqueues) (best (lead (with_dequeue t)) cs) (lead t []) (omega arith) (omega (arith, none_le_best (lead (with_dequeue t)) cs))
      ∙ ap (max t.excess) (sym (best_cons (lead t) dequeue cs ∙ ap (max (lead t [])) same)))

  pub kept_up_is_tally : (cs : List (Call A)) → length cs < 2 ^ 32 → kept_up nothing_pending cs ≡ tally_of cs
  unfolding further lead excess
  kept_up_is_tally cs h =
      let same : best (lead nothing_pending) cs ≡ best (λ p. dequeues p - enqueues p) cs = best_same _ _ cs (λ p. omega arith) in
      kept_up_from cs nothing_pending (omega arith) (omega arith) (omega arith) ∙ tally_path (omega arith) (omega arith) (omega (arith, same))

  -- one more call
  kept_up_one_more : (t : Tally) (cs : List (Call A)) (c : Call A) → kept_up t (cs ++ (c ∷ [])) ≡ with (kept_up t cs) c
  unfolding kept_up
  kept_up_one_more t [] c = refl
  kept_up_one_more t (x ∷ cs) c = kept_up_one_more (with t x) cs c

  pub tally_one_more : (cs : List (Call A)) (c : Call A) → length cs + 1 < 2 ^ 32 → tally_of (cs ++ (c ∷ [])) ≡ with (tally_of cs) c
  tally_one_more cs c h =
      sym (kept_up_is_tally (cs ++ (c ∷ [])) (omega (arith, length-append cs (c ∷ []))))
      ∙ kept_up_one_more nothing_pending cs c
      ∙ ap (λ (t : Tally). with t c) (kept_up_is_tally cs (omega arith))
