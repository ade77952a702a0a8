-- A call takes effect, and each future's call still stands in the order once. The futures of a call that takes effect wait, for it is the call
-- that its thread is in; those of an older call are done, or it is the call that its thread is in, which would then be the same call twice.
use Prim.Native.Nat.{ℕ}
use mathlib.Core.Path.{◌≡◌, sym, ap, ◌∙◌, subst}
use mathlib.Core.List.{List, []}
use mathlib.Core.Logic.{◌⊎◌, inr, ⊎_elim, ◌≢◌}
use native.Mathlib.Omega.{arith}
use native.Mathlib.Decide.{dec_lt}
use lib.ListN.{length}
use Rattle.std.specs.Prelude.{None}
use Rattle.chain.specs.Positions.{At, In}
use Rattle.chain.proofs.Positions.{within, one_element}
use Rattle.machine.specs.declared.Machine.{Machine}
use Rattle.order.specs.Order.{Called, Effect, Given, Story, of}
use Rattle.order.specs.PlainQueue.{Ran, ran, Stands}
use Rattle.order.proofs.Events.{OwnFuture}
use Rattle.order.proofs.Ghost.{Ghost}
use Rattle.order.proofs.Futured.{Held, PendingFutures, BatchInCall, Futured, TakesEffect, OrderAfter}
use Rattle.machine.specs.State.{future_at}

-- a result still stands where the calls are run as before
pub stands_on : {order order' : List Effect} (x : Given) → ((r : Ran) → In (ran order []) r → In (ran order' []) r) → Stands order x → Stands order' x
stands_on x runs h = record { row = h.row; there = runs h.row h.there; thread = h.thread; call = h.call; before = h.before; result = h.result }

-- the futures of one thread's pending calls are all different
pub each_once : {m : Machine} {g : Ghost} {s : Story} {t : ℕ} → PendingFutures m g s t → (j k f : ℕ) → At (of s t).futures j f → At (of s t).futures k f → j ≡ k
each_once h j k f p q =
    elim (dec_lt j k) [
      | yes lt ↦ absurd (omega (arith, h.rising j k f f p q lt))
      | no ge ↦ elim (dec_lt k j) [ yes gt ↦ absurd (omega (arith, h.rising k j f f q p gt)) | no le ↦ omega arith ]
    ]

-- f is the future of the a-th of x's calls
abbrev Has : Effect → ℕ → ℕ → Type 0
Has x a f = At x.call.futures a f

module _ (m : Machine) (g : Ghost) (s : Story) (h : Futured m g s) where
  -- the futures of the call that a thread is in wait
  held_in_call : (c : Called) → BatchInCall m s c → (a f : ℕ) → At c.futures a f → Held m c.thread a f
  held_in_call c w a f p = (h.each c.thread w.in_call.thread).held a f (subst (λ (l : List ℕ). At l a f) w.futures p)

  module _ (order' : List Effect) (x : Effect) (new : TakesEffect m s order' x) where
    new_in_call : (a f : ℕ) → Has x a f → BatchInCall m s x.call
    new_in_call a f p =
        ⊎_elim {C = BatchInCall m s x.call}
        (λ e. absurd (omega (arith, within x.call.futures a p, ap length e)))
        (λ e. record { in_call = new.in_call; futures = e })
        new.futures

    -- no call of the order has a future of the one that takes effect
    not_both : (k a b f : ℕ) (y : Effect) → At s.order k y → Has y a f → Has x b f → ⊥
    not_both k a b f y there p q =
        let w = h.rows k a f y there p in
        let held = held_in_call x.call (new_in_call b f q) b f q in
        ⊎_elim {C = ⊥}
        (λ done. done held.waits)
        (λ going.
        let one : y.call.thread ≡ x.call.thread = sym w.0.owner ∙ held.own.owner in
        let same : y.call ≡ x.call = going.in_call.is ∙ ap (λ (t : ℕ). (of s t).called) one ∙ sym new.in_call.is in
        new.not_in k y there (ap (λ (c : Called). c.thread) same) (ap (λ (c : Called). c.began) same))
        w.1

    new_once_each : (j k a b f : ℕ) (y z : Effect) → At order' j y → At order' k z → Has y a f → Has z b f → (j ≡ k) × (a ≡ b)
    new_once_each j k a b f y z jy kz p q =
        ⊎_elim {C = (j ≡ k) × (a ≡ b)}
        (λ v. ⊎_elim {C = (j ≡ k) × (a ≡ b)} (both_old v) (λ e. absurd (not_both v.0 a b f y v.1 p (subst (λ (u : Effect). Has u b f) e q))) (new.others k z kz))
        (λ e. ⊎_elim {C = (j ≡ k) × (a ≡ b)} (λ w. absurd (not_both w.0 b a f z w.1 q (subst (λ (u : Effect). Has u a f) e p))) (both_new e) (new.others k z kz))
        (new.others j y jy)
      where
        same_place : y ≡ z → j ≡ k
        same_place e = new.once j k y z jy kz (ap (λ (u : Effect). u.call.thread) e) (ap (λ (u : Effect). u.call.began) e)

        both_old : ((v : ℕ) × At s.order v y) → ((w : ℕ) × At s.order w z) → (j ≡ k) × (a ≡ b)
        both_old v w =
            let one = h.once_each v.0 w.0 a b f y z v.1 w.1 p q in
            (same_place (one_element s.order v.0 w.0 v.1 w.1 one.0), one.1)

        both_new : y ≡ x → z ≡ x → (j ≡ k) × (a ≡ b)
        both_new e d =
            let here : Has x a f = subst (λ (u : Effect). Has u a f) e p in
            let there : Has x b f = subst (λ (u : Effect). Has u b f) d q in
            let c = new_in_call a f here in
            let pending = h.each x.call.thread c.in_call.thread in
            (same_place (e ∙ sym d), each_once pending a b f (subst (λ (l : List ℕ). At l a f) c.futures here) (subst (λ (l : List ℕ). At l b f) c.futures there))

  module _ (order' : List Effect) (after : OrderAfter m s order') where
    pub run_as_before : (r : Ran) → In (ran s.order []) r → In (ran order' []) r
    run_as_before r p = ⊎_elim {C = In (ran order' []) r} (λ e. subst (λ (o : List Effect). In (ran o []) r) (sym e) p) (λ w. w.1.ran r p) after

    pub once_each_after : (j k a b f : ℕ) (y z : Effect) → At order' j y → At order' k z → At y.call.futures a f → At z.call.futures b f → (j ≡ k) × (a ≡ b)
    once_each_after j k a b f y z p q =
        ⊎_elim {C = Has y a f → Has z b f → (j ≡ k) × (a ≡ b)}
        (λ e. h.once_each j k a b f y z (subst (λ (o : List Effect). At o j y) e p) (subst (λ (o : List Effect). At o k z) e q))
        (λ w. new_once_each order' w.0 w.1 j k a b f y z p q)
        after

    -- a future of a call that took effect is its thread's own, and done, or the call that its thread is in has it
    pub owned_after : (j a f : ℕ) (y : Effect) → At order' j y → At y.call.futures a f
        → OwnFuture m y.call.thread f × (((future_at m f).outcome ≢ None) ⊎ BatchInCall m s y.call)
    owned_after j a f y p q = ⊎_elim (λ e. h.rows j a f y (subst (λ (o : List Effect). At o j y) e p) q) (λ w. new w.0 w.1) after
      where
        new : (x : Effect) → TakesEffect m s order' x → OwnFuture m y.call.thread f × (((future_at m f).outcome ≢ None) ⊎ BatchInCall m s y.call)
        new x w =
            ⊎_elim (λ v. h.rows v.0 a f y v.1 q)
            (λ e.
            let c = subst (λ (u : Effect). BatchInCall m s u.call) (sym e) (new_in_call order' x w a f (subst (λ (u : Effect). Has u a f) e q)) in
            ((held_in_call y.call c a f q).own, inr c))
            (w.others j y p)
