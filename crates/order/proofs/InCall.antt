-- A thread that is in a call stays in it until the step that ends it. The law is `after_in_call` (laws/proofs/InCall.antt); here it is said of
-- places that are not idle.
use Prim.Native.Nat.{ℕ}
use mathlib.Core.Path.{◌≡◌, refl, sym, ap, ◌∙◌, subst}
use mathlib.Core.Bool.{false, true≢false}
use mathlib.Core.Logic.{◌⊎◌, inl, inr, ◌≢◌}
use Rattle.place.specs.declared.Place.{Place}
use Rattle.place.specs.declared.Place.TheVariants.{Idle, Enqueue, Dequeue, Batch, Dequeues, Running}
use Rattle.place.specs.declared.After.TheVariants as afterwards
use Rattle.place.specs.Place.{idle}
use Rattle.machine.specs.declared.Machine.{Machine}
use Rattle.machine.specs.State.{row_at}
use Rattle.machine.specs.Steps.{hop}
use Rattle.laws.proofs.InCall.{InCall, after_in_call}

not_idle : (p : Place) → p ≢ Idle → idle p ≡ false
not_idle Idle busy = absurd (busy refl)
not_idle (Enqueue n x) busy = refl
not_idle (Dequeue x) busy = refl
not_idle (Batch b x) busy = refl
not_idle (Dequeues x) busy = refl
not_idle (Running a x k) busy = refl

pub stays_in_call : (m : Machine) (i : ℕ) (p : Place) → (hop m i).after ≡ afterwards.On p → (row_at m i).place ≢ Idle → p ≢ Idle
unfolding hop
stays_in_call m i p e busy is = true≢false (sym (ap idle is) ∙ subst InCall e (after_in_call (row_at m i).place _ _ _ (not_idle (row_at m i).place busy)))

-- in a call, or not
pub idle_or_busy : (p : Place) → (p ≡ Idle) ⊎ (p ≢ Idle)
idle_or_busy Idle = inl refl
idle_or_busy (Enqueue n x) = inr (λ e. true≢false (sym (ap idle e)))
idle_or_busy (Dequeue x) = inr (λ e. true≢false (sym (ap idle e)))
idle_or_busy (Batch b x) = inr (λ e. true≢false (sym (ap idle e)))
idle_or_busy (Dequeues x) = inr (λ e. true≢false (sym (ap idle e)))
idle_or_busy (Running a x k) = inr (λ e. true≢false (sym (ap idle e)))
