-- What is known of lists by position: one element at each, none past the end, and positions stay where a list grows at its end.
use Prim.Native.Nat.{ℕ, zero, suc, ◌+◌, ◌-◌, ◌<◌, ◌≤◌}
use mathlib.Core.Path.{◌≡◌, refl, sym, ap, ◌∙◌}
use mathlib.Core.List.{List, [], ◌∷◌, ◌++◌, map}
use mathlib.Core.Option.{Option, none, some}
use mathlib.Core.Logic.{◌⊎◌, inl, inr}
use native.Mathlib.Omega.{arith}
use native.Mathlib.Nat.{le_of_suc-le-suc, not-suc-le-zero, suc-add}
use native.Mathlib.Decide.{dec_lt}
use lib.ListN.{length, get_or, drop}
use Rattle.chain.specs.Positions.{at, At}

module _ {A : Type 0} where
  pub none_is_not_some : {x : A} {l : Option A} → l ≡ none → l ≡ some x → ⊥
  none_is_not_some p q = let z : ◌≡◌ {A = ℕ} 0 1 = cc in omega arith

  pub some_injective : {x y : A} → some x ≡ some y → x ≡ y
  some_injective p = cc

  -- one position, one element
  pub one_element : (c : List A) (i j : ℕ) {x y : A} → At c i x → At c j y → i ≡ j → x ≡ y
  one_element c i j p q e = some_injective (sym p ∙ ap (at c) e ∙ q)

  -- a position that has an element is within the list, and the other way round
  pub within : (c : List A) (k : ℕ) {x : A} → At c k x → k < length c
  unfolding at
  within [] k p = absurd (none_is_not_some refl p)
  within (x ∷ xs) zero p = omega arith
  within (x ∷ xs) (suc k) p = let h = within xs k p in omega arith

  pub past_the_end : (c : List A) (k : ℕ) → length c ≤ k → at c k ≡ none
  unfolding at
  past_the_end [] k h = refl
  past_the_end (x ∷ xs) zero h = absurd (not-suc-le-zero h)
  past_the_end (x ∷ xs) (suc k) h = past_the_end xs k (le_of_suc-le-suc h)

  pub element : (c : List A) (k : ℕ) → k < length c → (x : A) × At c k x
  unfolding at
  element [] k h = absurd (not-suc-le-zero h)
  element (x ∷ xs) zero h = (x, refl)
  element (x ∷ xs) (suc k) h = element xs k (le_of_suc-le-suc h)

  pub empty_without_length : (c : List A) → length c ≡ 0 → c ≡ []
  empty_without_length [] e = refl
  empty_without_length (x ∷ xs) e = absurd (omega arith)

  pub none_is_past_the_end : (c : List A) (k : ℕ) → at c k ≡ none → length c ≤ k
  none_is_past_the_end c k e = elim (dec_lt k (length c)) [ yes h ↦ absurd (none_is_not_some e (element c k h).1) | no h ↦ omega arith ]

  -- two lists, one behind the other
  pub at_left : (c d : List A) (k : ℕ) → k < length c → at (c ++ d) k ≡ at c k
  unfolding at
  at_left [] d k h = absurd (not-suc-le-zero h)
  at_left (x ∷ xs) d zero h = refl
  at_left (x ∷ xs) d (suc k) h = at_left xs d k (le_of_suc-le-suc h)

  pub at_right : (c d : List A) (k : ℕ) → at (c ++ d) (length c + k) ≡ at d k
  unfolding at
  at_right [] d k = ap (at d) (omega arith)
  at_right (x ∷ xs) d k = rw (suc-add (length xs) k) (at_right xs d k)

  -- what stands at a position stays there where the list grows at its end
  pub stays : (c d : List A) (k : ℕ) {x : A} → At c k x → At (c ++ d) k x
  stays c d k p = at_left c d k (within c k p) ∙ p

  -- in the first list, or in the second, as many positions on
  pub in_either : (c d : List A) (k : ℕ) {x : A} → At (c ++ d) k x → At c k x ⊎ ((j : ℕ) × (k ≡ length c + j) × At d j x)
  in_either c d k {x} p = elim (dec_lt k (length c)) [ yes h ↦ inl (sym (at_left c d k h) ∙ p) | no h ↦ inr (behind h) ]
    where
      behind : ¬ (k < length c) → (j : ℕ) × (k ≡ length c + j) × At d j x
      behind h =
          let e : k ≡ length c + (k - length c) = omega arith in
          (k - length c, e, sym (at_right c d (k - length c)) ∙ ap (at (c ++ d)) (sym e) ∙ p)

  -- one element more, at the end
  pub at_the_end : (c : List A) (x : A) → At (c ++ (x ∷ [])) (length c) x
  unfolding at
  at_the_end [] x = refl
  at_the_end (y ∷ ys) x = at_the_end ys x

  pub length-one_more : (c : List A) (x : A) → length (c ++ (x ∷ [])) ≡ suc (length c)
  length-one_more [] x = refl
  length-one_more (y ∷ ys) x = ap suc (length-one_more ys x)

  pub there_or_at_the_end : (c : List A) (x : A) (k : ℕ) {y : A} → At (c ++ (x ∷ [])) k y → At c k y ⊎ ((k ≡ length c) × (y ≡ x))
  there_or_at_the_end c x k {y} p = elim (dec_lt k (length c)) [ yes h ↦ inl (sym (at_left c (x ∷ []) k h) ∙ p) | no h ↦ inr (last h) ]
    where
      last : ¬ (k < length c) → (k ≡ length c) × (y ≡ x)
      last h =
          let b = within (c ++ (x ∷ [])) k p in
          let e : k ≡ length c = omega (arith, length-one_more c x) in
          (e, some_injective (sym p ∙ ap (at (c ++ (x ∷ []))) e ∙ at_the_end c x))

  -- as the libraries read lists
  pub at_is_get_or : (c : List A) (k : ℕ) (x d : A) → At c k x → get_or c k d ≡ x
  unfolding at
  at_is_get_or [] k x d p = absurd (none_is_not_some refl p)
  at_is_get_or (y ∷ ys) zero x d p = some_injective p
  at_is_get_or (y ∷ ys) (suc k) x d p = at_is_get_or ys k x d p

  pub drop_from : (c : List A) (k : ℕ) (x : A) → At c k x → drop k c ≡ x ∷ drop (suc k) c
  unfolding at
  drop_from [] k x h = absurd (none_is_not_some refl h)
  drop_from (y ∷ ys) zero x h = ap (λ (z : A). z ∷ ys) (some_injective h)
  drop_from (y ∷ ys) (suc k) x h = drop_from ys k x h

  -- in a list of one
  pub the_only_one : (x y : A) (k : ℕ) → At (x ∷ []) k y → y ≡ x
  unfolding at
  the_only_one x y zero w = sym (some_injective w)
  the_only_one x y (suc k) w = absurd (none_is_not_some refl w)

-- the elements, each mapped; two maps that agree on them are the same
pub at_map : {A B : Type 0} (f : A → B) (c : List A) (k : ℕ) {x : A} → At c k x → At (map f c) k (f x)
unfolding at
at_map f [] k p = absurd (none_is_not_some refl p)
at_map f (y ∷ ys) zero p = ap (λ z. some (f z)) (some_injective p)
at_map f (y ∷ ys) (suc k) p = at_map f ys k p

pub map_same : {A B : Type 0} (f f' : A → B) (c : List A) → ((k : ℕ) (x : A) → At c k x → f' x ≡ f x) → map f' c ≡ map f c
unfolding at
map_same f f' [] same = refl
map_same f f' (x ∷ xs) same = λ i. same 0 x refl i ∷ map_same f f' xs (λ k y p. same (suc k) y p) i
