-- The calls of an order, run singly on a plain list: what one more call at the end adds, and that a batch of dequeues may be put in before calls
-- that only enqueue. All of it comes down to two numbers and a list: the items enqueued, and how many of them were taken.
use Prim.Native.Nat.{ℕ, zero, suc, ◌+◌, ◌<◌, ◌≤◌}
use mathlib.Core.Path.{◌≡◌, refl, sym, ap, ap₂, ◌∙◌}
use mathlib.Core.Bool.{Bool, cond}
use mathlib.Core.List.{List, [], ◌∷◌, ◌++◌, append_assoc, append-nil}
use mathlib.Core.Option.{some}
use mathlib.Core.Logic.{⊎_elim}
use native.Mathlib.Omega.{arith}
use lib.ListN.{length, drop, length-append}
use lib.Seq.{drop-drop, drop-append-le}
use borrow.Author.Tests.{lt-ltb, le-ltb}
use Rattle.chain.specs.Positions.{at, At, In}
use Rattle.chain.proofs.Positions.{none_is_not_some, some_injective, stays, in_either, at_the_end, at_right}
use Rattle.tally.specs.Fifo.{Call, Result, left, results, successful}
use Rattle.tally.specs.Excess.{enqueued, dequeues}
use Rattle.tally.proofs.Counts.{left_is}
use Rattle.tally.proofs.OneKind.{successful_le, results_enqueues, successful_enqueues}
use Rattle.order.specs.Order.{Effect, put_in}
use Rattle.order.specs.PlainQueue.{Ran, ran, leaves}

-- the items that an order enqueues, and how many of its dequeues succeed
unfoldable pub enqueued_in : List Effect → List ℕ
enqueued_in [] = []
enqueued_in (x ∷ xs) = enqueued x.call.calls ++ enqueued_in xs

unfoldable pub taken_in : List Effect → List ℕ → ℕ
taken_in [] q = 0
taken_in (x ∷ xs) q = successful (results x.call.calls q) + taken_in xs (left x.call.calls q)

-- what is left: the items enqueued, without as many of the oldest as were taken
pub leaves_is : (xs : List Effect) (q : List ℕ) → leaves xs q ≡ drop (taken_in xs q) (q ++ enqueued_in xs)
unfolding leaves taken_in enqueued_in
leaves_is [] q = sym (append-nil q)
leaves_is (x ∷ xs) q =
    leaves_is xs (left cs q)
    ∙ ap (λ (r : List ℕ). drop t (r ++ enqueued_in xs)) (left_is cs q)
    ∙ ap (drop t) (sym (drop-append-le s (q ++ enqueued cs) (enqueued_in xs) (omega (arith, successful_le cs q, length-append q (enqueued cs)))))
    ∙ drop-drop t s ((q ++ enqueued cs) ++ enqueued_in xs)
    ∙ ap (drop (s + t)) (append_assoc q (enqueued cs) (enqueued_in xs))
  where
    cs : List (Call ℕ)
    cs = x.call.calls

    s : ℕ
    s = successful (results x.call.calls q)

    t : ℕ
    t = taken_in xs (left x.call.calls q)

-- one list of calls and then another
pub enqueued_then : (xs ys : List Effect) → enqueued_in (xs ++ ys) ≡ enqueued_in xs ++ enqueued_in ys
unfolding enqueued_in
enqueued_then [] ys = refl
enqueued_then (x ∷ xs) ys = ap (λ (r : List ℕ). enqueued x.call.calls ++ r) (enqueued_then xs ys) ∙ sym (append_assoc (enqueued x.call.calls) (enqueued_in xs) (enqueued_in ys))

pub taken_then : (xs ys : List Effect) (q : List ℕ) → taken_in (xs ++ ys) q ≡ taken_in xs q + taken_in ys (leaves xs q)
unfolding taken_in leaves
taken_then [] ys q = omega arith
taken_then (x ∷ xs) ys q = let z = taken_then xs ys (left x.call.calls q) in omega arith

pub ran_then : (xs ys : List Effect) (q : List ℕ) → ran (xs ++ ys) q ≡ ran xs q ++ ran ys (leaves xs q)
unfolding ran leaves
ran_then [] ys q = refl
ran_then (x ∷ xs) ys q = ap (λ (r : List Ran). record { effect = x; results = results x.call.calls q } ∷ r) (ran_then xs ys (left x.call.calls q))

-- a row of the run stands where its call stands in the order
pub ran_where : (xs : List Effect) (q : List ℕ) (j : ℕ) (r : Ran) → At (ran xs q) j r → At xs j r.effect
unfolding ran at
ran_where [] q j r p = absurd (none_is_not_some refl p)
ran_where (x ∷ xs) q zero r p = ap (λ (y : Ran). some y.effect) (some_injective p)
ran_where (x ∷ xs) q (suc j) r p = ran_where xs (left x.call.calls q) j r p

-- one more call, at the end
abbrev pub row_on : Effect → List ℕ → Ran
row_on x q = record { effect = x; results = results x.call.calls q }

module _ (xs : List Effect) (x : Effect) where
  pub enqueued_one_more : enqueued_in (xs ++ (x ∷ [])) ≡ enqueued_in xs ++ enqueued x.call.calls
  unfolding enqueued_in
  enqueued_one_more = enqueued_then xs (x ∷ []) ∙ ap (λ (r : List ℕ). enqueued_in xs ++ r) (append-nil (enqueued x.call.calls))

  pub taken_one_more : taken_in (xs ++ (x ∷ [])) [] ≡ taken_in xs [] + successful (results x.call.calls (leaves xs []))
  unfolding taken_in
  taken_one_more = let z = taken_then xs (x ∷ []) [] in omega arith

  pub ran_one_more : ran (xs ++ (x ∷ [])) [] ≡ ran xs [] ++ (row_on x (leaves xs []) ∷ [])
  unfolding ran
  ran_one_more = ran_then xs (x ∷ []) []

  -- the calls before it are run as before, and it is run on what they leave
  pub ran_stays : (r : Ran) → In (ran xs []) r → In (ran (xs ++ (x ∷ [])) []) r
  ran_stays r h = (h.0, ap (λ (l : List Ran). at l h.0) ran_one_more ∙ stays (ran xs []) _ h.0 h.1)

  pub ran_last : In (ran (xs ++ (x ∷ [])) []) (row_on x (leaves xs []))
  ran_last = (length (ran xs []), ap (λ (l : List Ran). at l (length (ran xs []))) ran_one_more ∙ at_the_end (ran xs []) (row_on x (leaves xs [])))

-- calls that only enqueue
abbrev pub OnlyEnqueues : List Effect → Type 0
OnlyEnqueues xs = (j : ℕ) (x : Effect) → At xs j x → dequeues x.call.calls ≡ 0

only_first : (x : Effect) (xs : List Effect) → OnlyEnqueues (x ∷ xs) → dequeues x.call.calls ≡ 0
unfolding at
only_first x xs h = h 0 x refl

only_rest : (x : Effect) (xs : List Effect) → OnlyEnqueues (x ∷ xs) → OnlyEnqueues xs
unfolding at
only_rest x xs h = λ j y p. h (suc j) y p

pub taken_by_enqueues : (xs : List Effect) (q : List ℕ) → OnlyEnqueues xs → taken_in xs q ≡ 0
unfolding taken_in
taken_by_enqueues [] q h = refl
taken_by_enqueues (x ∷ xs) q h = omega (arith, successful_enqueues x.call.calls q (only_first x xs h), taken_by_enqueues xs (left x.call.calls q) (only_rest x xs h))

-- .. are run the same on any list
pub ran_enqueues : (xs : List Effect) (q r : List ℕ) → OnlyEnqueues xs → ran xs q ≡ ran xs r
unfolding ran
ran_enqueues [] q r h = refl
ran_enqueues (x ∷ xs) q r h =
    ap₂ (λ (a : List (Result ℕ)) (b : List Ran). record { effect = x; results = a } ∷ b)
    (results_enqueues x.call.calls q r (only_first x xs h))
    (ran_enqueues xs (left x.call.calls q) (left x.call.calls r) (only_rest x xs h))

-- a batch of dequeues is put in before them
module _ (old new : List Effect) (x : Effect) (only : OnlyEnqueues new) where
  pub enqueued_put_in : enqueued x.call.calls ≡ [] → enqueued_in (old ++ (x ∷ new)) ≡ enqueued_in (old ++ new)
  unfolding enqueued_in
  enqueued_put_in alone = enqueued_then old (x ∷ new) ∙ ap (λ (r : List ℕ). enqueued_in old ++ (r ++ enqueued_in new)) alone ∙ sym (enqueued_then old new)

  pub taken_put_in : taken_in (old ++ (x ∷ new)) [] ≡ taken_in old [] + successful (results x.call.calls (leaves old []))
  unfolding taken_in
  taken_put_in = omega (arith, taken_then old (x ∷ new) [], taken_by_enqueues new (left x.call.calls (leaves old [])) only)

  abbrev rest : List Ran
  rest = ran new (left x.call.calls (leaves old []))

  ran_put_in : ran (old ++ (x ∷ new)) [] ≡ ran old [] ++ (row_on x (leaves old []) ∷ rest)
  unfolding ran
  ran_put_in = ran_then old (x ∷ new) []

  pub put_in_ran : In (ran (old ++ (x ∷ new)) []) (row_on x (leaves old []))
  unfolding at
  put_in_ran =
      (length (ran old []) + 0, ap (λ (l : List Ran). at l (length (ran old []) + 0)) ran_put_in ∙ at_right (ran old []) (row_on x (leaves old []) ∷ rest) 0)

  -- the others are run as before
  pub put_in_stays : (r : Ran) → In (ran (old ++ new) []) r → In (ran (old ++ (x ∷ new)) []) r
  unfolding at
  put_in_stays r h =
      ⊎_elim {C = In (ran (old ++ (x ∷ new)) []) r}
      (λ p. (h.0, ap (λ (l : List Ran). at l h.0) ran_put_in ∙ stays (ran old []) _ h.0 p))
      (λ w. (length (ran old []) + suc w.0, ap (λ (l : List Ran). at l (length (ran old []) + suc w.0)) ran_put_in ∙ at_right (ran old []) (row_on x (leaves old []) ∷ rest) (suc w.0) ∙ same w.0 ∙ w.2))
      (in_either (ran old []) (ran new (leaves old [])) h.0 (ap (λ (l : List Ran). at l h.0) (sym (ran_then old new [])) ∙ h.1))
    where
      same : (j : ℕ) → at rest j ≡ at (ran new (leaves old [])) j
      same j = ap (λ (l : List Ran). at l j) (ran_enqueues new _ _ only)

-- where it is put in: behind what took effect before its place
pub put_in_is : (old new : List Effect) (x : Effect) → ((j : ℕ) (y : Effect) → At old j y → y.place ≤ x.place) → ((j : ℕ) (y : Effect) → At new j y → x.place < y.place)
    → put_in x (old ++ new) ≡ old ++ (x ∷ new)
unfolding put_in at
put_in_is [] [] x before after = refl
put_in_is [] (y ∷ new) x before after = ap (λ (b : Bool). cond b (x ∷ y ∷ new) (y ∷ put_in x new)) (lt-ltb x.place y.place (after 0 y refl))
put_in_is (y ∷ old) new x before after =
    ap (λ (b : Bool). cond b (x ∷ y ∷ (old ++ new)) (y ∷ put_in x (old ++ new))) (le-ltb x.place y.place (before 0 y refl))
    ∙ ap (λ (l : List Effect). y ∷ l) (put_in_is old new x (λ j z p. before (suc j) z p) after)
