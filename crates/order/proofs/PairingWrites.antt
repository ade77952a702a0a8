-- What pairing writes: the k-th turn's result into the future of the k-th pending call, and nothing else. The pending calls have futures of their
-- own, so that no later turn writes where an earlier one did; and a future keeps its owner and its flag.
use Rattle.std.specs.Prelude.{Some}
use Prim.Native.Nat.{ℕ, zero, suc, ◌+◌, ◌%◌, ◌<◌, ◌≤◌}
use mathlib.Core.Path.{◌≡◌, refl, sym, ap, ◌∙◌}
use mathlib.Core.List.{List, [], ◌∷◌}
use mathlib.Core.Logic.{◌≢◌}
use native.Mathlib.Omega.{arith}
use native.Mathlib.Nat.{mod-eq_of_lt}
use lib.ListN.{length, get_or, length-set, length-map}
use lib.Seq.{get_or-set_same, get_or-set_other}
use Rattle.chain.specs.Positions.{at, At}
use Rattle.chain.proofs.Positions.{none_is_not_some, some_injective, within}
use Rattle.cells.specs.Links.{Link}
use Rattle.answer.specs.declared.Item.{Item}
use Rattle.answer.specs.Answer.{Outcome}
use Rattle.answer.specs.declared.Future.{Future}
use Rattle.answer.specs.declared.Operation.{Operation}
use Rattle.pairing.specs.declared.Cursor.{Cursor}
use Rattle.machine.specs.State.{no_future}
use Rattle.machine.specs.Pairing.{pair_from}
use Rattle.order.specs.PairingReads.{Turn, turns}
use Rattle.order.proofs.PairingWalks.{with_results, turns_are_pairings}
use Rattle.order.proofs.PairingCounts.{handed_out_for, done_keeps}
use Rattle.order.proofs.PairingResults.{outcomes}

-- the number of the k-th pending call's future
abbrev number_at : List ℕ → ℕ → ℕ
number_at pending k = get_or pending (k % 32) 0 % 512

module _ (pending : List ℕ) where
  others_are_left : (xs : List Turn) (k : ℕ) (fs : List Future) (f : ℕ) → ((i : ℕ) → k ≤ i → i < k + length xs → number_at pending i ≢ f)
      → get_or (with_results pending k fs xs) f no_future ≡ get_or fs f no_future
  unfolding with_results
  others_are_left [] k fs f other = refl
  others_are_left (x ∷ xs) k fs f other =
      others_are_left xs (k + 1) _ f (λ i a b. other i (omega arith) (omega arith))
      ∙ get_or-set_other fs (number_at pending k) f _ no_future (λ e. other k (omega arith) (omega arith) (sym e))

  -- no two of n pending calls, from the k-th on, have one future
  abbrev Apart : ℕ → ℕ → Type 0
  Apart k n = (i j : ℕ) → k ≤ i → i < k + n → k ≤ j → j < k + n → number_at pending i ≡ number_at pending j → i ≡ j

  each_has_its_own : (xs : List Turn) (k : ℕ) (fs : List Future) → length fs ≡ 512 → Apart k (length xs)
      → (i j : ℕ) (o : Outcome) → i ≡ k + j → At (outcomes xs) j o → (get_or (with_results pending k fs xs) (number_at pending i) no_future).outcome ≡ o
  unfolding with_results at
  each_has_its_own [] k fs long apart i j o is h = absurd (none_is_not_some refl h)
  each_has_its_own (x ∷ xs) k fs long apart i zero o is h =
      ap (λ (f : Future). f.outcome)
      (ap (λ (a : ℕ). get_or (with_results pending k fs (x ∷ xs)) (number_at pending a) no_future) (let z : i ≡ k = omega arith in z)
      ∙ others_are_left xs (k + 1) _ (number_at pending k) (λ a p q e. omega (arith, apart a k (omega arith) (omega arith) (omega arith) (omega arith) e))
      ∙ get_or-set_same fs (number_at pending k) _ no_future (omega arith))
      ∙ some_injective h
  each_has_its_own (x ∷ xs) k fs long apart i (suc j) o is h =
      each_has_its_own xs (k + 1) _ (length-set fs _ _ ∙ long) (λ a b p q r s. apart a b (omega arith) (omega arith) (omega arith) (omega arith))
      i j o (omega arith) h

module _ (links : List Link) (items : List Item) (last : ℕ) (pending : List ℕ) where
  as_many_turns : (n k : ℕ) (fs : List Future) (c : Cursor) → length (turns n links items last pending k fs c) ≡ n
  unfolding turns
  as_many_turns zero k fs c = refl
  as_many_turns (suc n) k fs c = ap suc (as_many_turns n (k + 1) _ _)

  pub as_many_outcomes : (n k : ℕ) (fs : List Future) (c : Cursor) → length (outcomes (turns n links items last pending k fs c)) ≡ n
  as_many_outcomes n k fs c = length-map (turns n links items last pending k fs c) (λ (x : Turn). Some x.result) ∙ as_many_turns n k fs c

  -- pairing keeps the owners and the flags, and as many futures
  pub pair_keeps : (n k : ℕ) (fs : List Future) (c : Cursor)
      → ((f : ℕ) → handed_out_for (get_or (pair_from n links items last pending k fs c) f no_future) ≡ handed_out_for (get_or fs f no_future))
      × (length (pair_from n links items last pending k fs c) ≡ length fs)
  unfolding pair_from
  pair_keeps zero k fs c = ((λ f. refl), refl)
  pair_keeps (suc n) k fs c =
      let rest = pair_keeps n (k + 1) _ _ in
      ((λ f. rest.0 f ∙ done_keeps fs _ f _), rest.1 ∙ length-set fs _ _)

  pub owners_kept : (n k : ℕ) (fs : List Future) (c : Cursor) (f : ℕ)
      → (get_or (pair_from n links items last pending k fs c) f no_future).owner ≡ (get_or fs f no_future).owner
  owners_kept n k fs c f = ap (λ (x : ℕ × Operation). x.0) ((pair_keeps n k fs c).0 f)

  -- the pending calls' numbers are those of futures
  module _ (n : ℕ) (few : n ≤ 32) (small : (j : ℕ) → j < n → get_or pending j 0 < 512) (fs : List Future) (c : Cursor) where
    abbrev written : List Future
    written = pair_from n links items last pending 0 fs c

    abbrev these : List Turn
    these = turns n links items last pending 0 fs c

    number_is : (j : ℕ) → j < n → number_at pending j ≡ get_or pending j 0
    number_is j lt = ap (λ (i : ℕ). get_or pending i 0 % 512) (mod-eq_of_lt (let z : j < 32 = omega arith in z)) ∙ mod-eq_of_lt (small j lt)

    before_the_last : (j : ℕ) → j < 0 + length these → j < n
    before_the_last j lt = omega (arith, as_many_turns n 0 fs c)

    -- a future of none of them is as it was
    pub other_future : (f : ℕ) → ((j : ℕ) → j < n → get_or pending j 0 ≢ f) → get_or (pair_from n links items last pending 0 fs c) f no_future ≡ get_or fs f no_future
    other_future f other =
        ap (λ (l : List Future). get_or l f no_future) (turns_are_pairings n links items last pending 0 fs c)
        ∙ others_are_left pending these 0 fs f (λ i a b e. let lt = before_the_last i b in other i lt (sym (number_is i lt) ∙ e))

    -- where no two of them have one future, each future holds what its call's turn paid
    pub paired_future : length fs ≡ 512 → ((i j : ℕ) → i < n → j < n → get_or pending i 0 ≡ get_or pending j 0 → i ≡ j)
        → (j : ℕ) (o : Outcome) → At (outcomes (turns n links items last pending 0 fs c)) j o
        → (get_or (pair_from n links items last pending 0 fs c) (get_or pending j 0) no_future).outcome ≡ o
    paired_future long apart j o h =
        ap (λ (f : ℕ). (get_or written f no_future).outcome) (sym (number_is j (omega (arith, within (outcomes these) j h, as_many_outcomes n 0 fs c))))
        ∙ ap (λ (l : List Future). (get_or l (number_at pending j) no_future).outcome) (turns_are_pairings n links items last pending 0 fs c)
        ∙ each_has_its_own pending these 0 fs long each_apart j j o (omega arith) h
      where
        each_apart : Apart pending 0 (length these)
        each_apart a b p q r s e =
            let x = before_the_last a q in
            let y = before_the_last b s in
            apart a b x y (sym (number_is a x) ∙ e ∙ number_is b y)
