-- One more call in the order, at its place: behind what took effect before it and before what took effect later.
use Prim.Native.Nat.{ℕ, zero, suc, ◌+◌, ◌<◌, ◌≤◌}
use mathlib.Core.Path.{◌≡◌, refl, sym, ap, ◌∙◌, subst}
use mathlib.Core.List.{List, ◌∷◌, ◌++◌}
use mathlib.Core.Logic.{◌⊎◌, inl, inr, ⊎_elim}
use native.Mathlib.Omega.{arith}
use lib.ListN.{length}
use Rattle.chain.specs.Positions.{at, At}
use Rattle.chain.proofs.Positions.{some_injective, within, stays, at_right, in_either}
use Rattle.order.specs.Order.{Called, Effect}
use Rattle.order.proofs.Orderly.{NotIn, Rows}

pub rows_later : (order : List Effect) (c c' : ℕ) → c ≤ c' → Rows order c → Rows order c'
rows_later order c c' le h = record { began = h.began; past = λ j x p. omega (arith, h.past j x p); rising = h.rising; once = h.once }

module _ (old new : List Effect) (x : Effect) where
  abbrev order : List Effect
  order = old ++ new

  -- position i of before is position j now
  abbrev Shifted : ℕ → ℕ → Type 0
  Shifted i j = ((i < length old) × (j ≡ i)) ⊎ ((length old ≤ i) × (j ≡ suc i))

  pub record Before (j : ℕ) (y : Effect) : Type 0 where
    pub position : ℕ
    pub is : At (old ++ new) position y
    pub shifted : Shifted position j

  -- a call of the order now: one of before, or the new one
  pub there_or_new : (j : ℕ) (y : Effect) → At (old ++ (x ∷ new)) j y → Before j y ⊎ ((j ≡ length old) × (y ≡ x))
  unfolding at
  there_or_new j y p =
      ⊎_elim {C = Before j y ⊎ ((j ≡ length old) × (y ≡ x))}
      (λ q. inl (record { position = j; is = stays old new j q; shifted = inl (within old j q, refl) }))
      (λ w. behind w.0 w.1 w.2) (in_either old (x ∷ new) j p)
    where
      behind : (k : ℕ) → j ≡ length old + k → At (x ∷ new) k y → Before j y ⊎ ((j ≡ length old) × (y ≡ x))
      behind zero e q = inr (omega arith, sym (some_injective q))
      behind (suc k) e q = inl (record { position = length old + k; is = at_right old new k ∙ q; shifted = inr (omega arith, omega arith) })

  module _ (clock : ℕ) (h : Rows (old ++ new) clock) (began : x.call.began ≤ x.place) (fresh : NotIn (old ++ new) x.call)
      (before : (i : ℕ) (y : Effect) → At (old ++ new) i y → i < length old → y.place < x.place)
      (since : (i : ℕ) (y : Effect) → At (old ++ new) i y → length old ≤ i → x.place < y.place) where
    -- two positions keep their order
    in_order : {i j i' j' : ℕ} → Shifted i j → Shifted i' j' → j < j' → i < i'
    in_order {i} {j} {i'} {j'} p q lt =
        ⊎_elim {C = i < i'} (λ a. ⊎_elim {C = i < i'} (λ b. omega arith) (λ b. omega arith) q) (λ a. ⊎_elim {C = i < i'} (λ b. omega arith) (λ b. omega arith) q) p

    same_place : {i j i' j' : ℕ} → Shifted i j → Shifted i' j' → i ≡ i' → j ≡ j'
    same_place {i} {j} {i'} {j'} p q e =
        ⊎_elim {C = j ≡ j'} (λ a. ⊎_elim {C = j ≡ j'} (λ b. omega arith) (λ b. omega arith) q) (λ a. ⊎_elim {C = j ≡ j'} (λ b. omega arith) (λ b. omega arith) q) p

    module _ (j k : ℕ) (y z : Effect) (lt : j < k) where
      both_before : Before j y → Before k z → y.place < z.place
      both_before a b = h.rising a.position b.position y z a.is b.is (in_order a.shifted b.shifted lt)

      first_is_new : (j ≡ length old) × (y ≡ x) → Before k z → y.place < z.place
      first_is_new a b =
          let later : length old ≤ b.position = ⊎_elim {C = length old ≤ b.position} (λ w. omega (arith, a.0)) (λ w. w.0) b.shifted in
          subst (λ (e : Effect). e.place < z.place) (sym a.1) (since b.position z b.is later)

      second_is_new : Before j y → (k ≡ length old) × (z ≡ x) → y.place < z.place
      second_is_new a b =
          let earlier : a.position < length old = ⊎_elim {C = a.position < length old} (λ w. w.0) (λ w. omega (arith, b.0)) a.shifted in
          subst (λ (e : Effect). y.place < e.place) (sym b.1) (before a.position y a.is earlier)

      rises : At (old ++ (x ∷ new)) j y → At (old ++ (x ∷ new)) k z → y.place < z.place
      rises p q =
          ⊎_elim {C = y.place < z.place}
          (λ a. ⊎_elim {C = y.place < z.place} (both_before a) (second_is_new a) (there_or_new k z q))
          (λ a. ⊎_elim {C = y.place < z.place} (first_is_new a) (λ b. absurd (omega (arith, a.0, b.0))) (there_or_new k z q))
          (there_or_new j y p)

    module _ (j k : ℕ) (y z : Effect) (thread : y.call.thread ≡ z.call.thread) (time : y.call.began ≡ z.call.began) where
      -- the new call is none of before
      not_new : Before j y → z ≡ x → j ≡ k
      not_new a e = absurd (fresh a.position y a.is (thread ∙ ap (λ (u : Effect). u.call.thread) e) (time ∙ ap (λ (u : Effect). u.call.began) e))

      not_new_either : y ≡ x → Before k z → j ≡ k
      not_new_either e b = absurd (fresh b.position z b.is (sym thread ∙ ap (λ (u : Effect). u.call.thread) e) (sym time ∙ ap (λ (u : Effect). u.call.began) e))

      pub stands_once : At (old ++ (x ∷ new)) j y → At (old ++ (x ∷ new)) k z → j ≡ k
      stands_once p q =
          ⊎_elim {C = j ≡ k}
          (λ a. ⊎_elim {C = j ≡ k} (λ b. same_place a.shifted b.shifted (h.once _ _ y z a.is b.is thread time)) (λ b. not_new a b.1) (there_or_new k z q))
          (λ a. ⊎_elim {C = j ≡ k} (not_new_either a.1) (λ b. a.0 ∙ sym b.0) (there_or_new k z q))
          (there_or_new j y p)

    pub rows_with : (c : ℕ) → clock ≤ c → x.place < c → Rows (old ++ (x ∷ new)) c
    rows_with c le lt = record {
      began = λ j y p. ⊎_elim {C = y.call.began ≤ y.place} (λ a. h.began a.position y a.is) (λ a. subst (λ (e : Effect). e.call.began ≤ e.place) (sym a.1) began) (there_or_new j y p);
      past = λ j y p. ⊎_elim {C = y.place < c} (λ a. omega (arith, h.past a.position y a.is)) (λ a. subst (λ (e : Effect). e.place < c) (sym a.1) lt) (there_or_new j y p);
      rising = λ j k y z p q l. rises j k y z l p q;
      once = λ j k y z p q t b. stands_once j k y z t b p q;
    }

  -- of another call
  pub not_in_with : (c : Called) → NotIn (old ++ new) c → (x.call.thread ≡ c.thread → x.call.began ≡ c.began → ⊥) → NotIn (old ++ (x ∷ new)) c
  not_in_with c none other j y p t b =
      ⊎_elim {C = ⊥} (λ a. none a.position y a.is t b)
      (λ a. other (ap (λ (e : Effect). e.call.thread) (sym a.1) ∙ t) (ap (λ (e : Effect). e.call.began) (sym a.1) ∙ b)) (there_or_new j y p)
