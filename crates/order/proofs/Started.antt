-- Only calls that were started stand in the order. A thread is in no call but one that was started; a call takes effect while its thread is in it,
-- whoever takes the step; and what was started stays so.
use Prim.Native.Nat.{ℕ, ◌<◌}
use mathlib.Core.Path.{◌≡◌, refl, sym, ap, ◌∙◌, subst}
use mathlib.Core.List.{List, [], ◌∷◌}
use mathlib.Core.Logic.{inl, inr, ⊎_elim, ◌≢◌}
use native.Mathlib.Omega.{arith}
use native.Mathlib.Decide.{ℕ_discrete}
use lib.ListN.{length, set, get_or-replicate}
use lib.Seq.{get_or-set_same, get_or-set_other}
use Rattle.chain.specs.Positions.{at, At, In}
use Rattle.chain.proofs.Positions.{none_is_not_some, stays, at_the_end}
use Rattle.tally.specs.Fifo.{Call, enqueue, dequeue}
use Rattle.place.specs.declared.Place.{Place}
use Rattle.place.specs.declared.Place.TheVariants as place
use Rattle.place.specs.declared.Place.TheVariants.{Idle}
use Rattle.place.specs.declared.After.{After}
use Rattle.place.specs.declared.After.TheVariants as afterwards
use Rattle.place.specs.declared.EnqueueStep.TheVariants.{E1}
use Rattle.place.specs.declared.DequeueStep.TheVariants.{D1}
use Rattle.place.specs.declared.BatchStep.TheVariants.{B1}
use Rattle.place.specs.declared.DequeuesStep.TheVariants.{Q1}
use Rattle.place.specs.Place.{place_after}
use Rattle.thread.specs.Calls.{after}
use Rattle.row.specs.declared.Row.{Row}
use Rattle.row.specs.Row.{placed, calling, with_enqueue, with_dequeue, fresh_row, no_row}
use Rattle.next.specs.Next.{next_node, next_future, next_announcement}
use Rattle.machine.specs.declared.Machine.{Machine}
use Rattle.machine.specs.State.{row_at, memory_of, fresh_machine}
use Rattle.machine.specs.Steps.{accessed, request_of, hop, tell, step_of}
use Rattle.machine.specs.Entries.{linked_behind, defer_enqueue, defer_dequeue}
use Rattle.laws.proofs.StepChanges.{step_changes}
use Rattle.order.specs.Events.{Event, EnqueueStarts, DequeueStarts, EnqueueDeferred, DequeueDeferred, BatchSetOff, FutureAsked, StepTaken, does}
use Rattle.order.specs.Order.{Called, Effect, Remembered, Story, of, nothing_remembered, step_order, starts, defers, pending_batch, single, step_taken, happens, fresh_story}
use Rattle.order.proofs.Events.{Free, Finds}
use Rattle.order.proofs.Ghost.{Ghost}
use Rattle.order.proofs.RowPut.{row_moved}
use Rattle.order.proofs.SettingOff.{set_off_either}
use Rattle.order.proofs.Reached.{Holds}
use Rattle.order.proofs.Futured.{Futured, OrderAfter}
use Rattle.order.proofs.FuturesKept.{Puts, row_here, row_elsewhere, remembered_here, remembered_elsewhere}
use Rattle.order.proofs.FuturesEntries.{puts}

pub record Begun (m : Machine) (s : Story) : Type 0 where
  -- the call that a thread is in
  pub calls : (t : ℕ) → t < 8 → (row_at m t).place ≢ Idle → In s.started (of s t).called
  -- one that took effect
  pub order : (j : ℕ) (x : Effect) → At s.order j x → In s.started x.call

-- AFTER WHAT THREAD i DOES: the others are as before, and what was started stays so
module _ (m : Machine) (s : Story) (h : Begun m s) (i : ℕ) (m' : Machine) (s' : Story) where
  in_order : OrderAfter m s s'.order → (j : ℕ) (x : Effect) → At s'.order j x → In s.started x.call
  in_order (inl same) j x p = h.order j x (subst (λ (l : List Effect). At l j x) same p)
  in_order (inr w) j x p =
      ⊎_elim {C = In s.started x.call} (λ old. h.order old.0 x old.1) (λ e. subst (λ (y : Effect). In s.started y.call) (sym e) taken) (w.1.others j x p)
    where
      taken : In s.started w.0.call
      taken = let c = w.1.in_call in subst (In s.started) (sym c.is) (h.calls w.0.call.thread c.thread c.busy)

  still_begun : ((u : ℕ) → u ≢ i → row_at m' u ≡ row_at m u) → ((u : ℕ) → u ≢ i → of s' u ≡ of s u) → ((c : Called) → In s.started c → In s'.started c)
      → OrderAfter m s s'.order → ((row_at m' i).place ≢ Idle → In s'.started (of s' i).called) → Begun m' s'
  still_begun rows remembered more order own = record {
    calls = λ t lt busy. elim (ℕ_discrete t i) [
      | yes e ↦ subst (λ (u : ℕ). In s'.started (of s' u).called) (sym e) (own (λ q. busy (ap (λ (u : ℕ). (row_at m' u).place) e ∙ q)))
      | no ne ↦ elsewhere t lt ne busy
    ];
    order = λ j x p. more x.call (in_order order j x p);
  }
    where
      elsewhere : (t : ℕ) → t < 8 → t ≢ i → (row_at m' t).place ≢ Idle → In s'.started (of s' t).called
      elsewhere t lt ne busy =
          subst (λ (r : Remembered). In s'.started r.called) (sym (remembered t ne))
          (more (of s t).called (h.calls t lt (λ q. busy (ap (λ (r : Row). r.place) (rows t ne) ∙ q))))

  -- nothing takes effect
  put_begun : (row : Row) (r : Remembered) → Puts m s i m' s' row r → ((c : Called) → In s.started c → In s'.started c) → s'.order ≡ s.order
      → (row.place ≢ Idle → In s'.started r.called) → Begun m' s'
  put_begun row r p more order own =
      still_begun (row_elsewhere p) (remembered_elsewhere p) more (inl order)
      (λ busy. subst (λ (x : Remembered). In s'.started x.called) (sym (remembered_here p)) (own (λ q. busy (ap (λ (x : Row). x.place) (row_here p) ∙ q))))

-- no thread comes into a call by a step
module _ (m : Machine) (g : Ghost) (holds : Holds m g) (i : ℕ) (lt : i < 8) where
  goes_nowhere : (row_at m i).place ≡ Idle → (hop m i).after ≡ afterwards.On Idle
  unfolding hop
  goes_nowhere e = ap (λ (p : Place). after p (accessed m (row_at m i)).found (request_of m (row_at m i)) (row_at m i).tally.dequeues) e

  stays_idle : (row_at m i).place ≡ Idle → (row_at (step_of m i).machine i).place ≡ Idle
  stays_idle e =
      ap (λ (a : After). (row_at (tell (hop m i).machine i 1 a).machine i).place) (goes_nowhere e)
      ∙ ap (λ (r : Row). r.place) (row_moved m i holds.ok.rows lt)
      ∙ ap place_after (goes_nowhere e)

module _ (m : Machine) (g : Ghost) (s : Story) (holds : Holds m g) (futured : Futured m g s) (h : Begun m s) (i : ℕ) where
  module _ (free : Free m i) where
    -- a call is started
    call_started : (c : Called) (m' : Machine) (row : Row) → m'.rows ≡ set m.rows i row → Begun m' (starts s i c)
    call_started c m' row put =
        put_begun m s h i m' (starts s i c) row _ (puts m g s holds futured i free m' (starts s i c) row _ put refl)
        (λ d w. (w.0, stays s.started (c ∷ []) w.0 w.1)) refl (λ busy. (length s.started, at_the_end s.started c))

    batch_set_off : (f : ℕ) → Begun (does m (BatchSetOff i f)) (happens m s (BatchSetOff i f))
    batch_set_off f =
        set_off_either (λ (m' : Machine) (g' : Ghost). Begun m' (happens m s (BatchSetOff i f))) m g i f
        (λ e. so _ (calling (row_at m i) (place.Dequeues Q1) f) refl) (λ ne. so _ (calling (row_at m i) (place.Batch (next_announcement m.used) B1) f) refl)
      where
        -- an announcement that it has does not matter
        so : (m' : Machine) (row : Row) → m'.rows ≡ set m.rows i row → Begun m' (happens m s (BatchSetOff i f))
        so m' row put = let w = call_started (pending_batch s i f) m' row put in record { calls = w.calls; order = w.order }

    -- a call is deferred: its thread is idle still
    call_deferred : (c : Call ℕ) (m' : Machine) (row : Row) → m'.rows ≡ set m.rows i row → row.place ≡ (row_at m i).place → Begun m' (defers s i c (next_future m.used))
    call_deferred c m' row put same =
        put_begun m s h i m' _ row _ (puts m g s holds futured i free m' (defers s i c (next_future m.used)) row _ put refl)
        (λ d w. w) refl (λ busy. absurd (busy (same ∙ free.idle)))

    enqueue_deferred : (v : ℕ) → Begun (does m (EnqueueDeferred i v)) (happens m s (EnqueueDeferred i v))
    unfolding defer_enqueue linked_behind
    enqueue_deferred v = call_deferred (enqueue v) _ (with_enqueue (row_at m i) (next_future m.used) (next_node m.used)) refl refl

    dequeue_deferred : Begun (does m (DequeueDeferred i)) (happens m s (DequeueDeferred i))
    unfolding defer_dequeue
    dequeue_deferred = call_deferred dequeue _ (with_dequeue (row_at m i) (next_future m.used)) refl refl

  -- a step is taken: its thread's call stays the same
  step_taken_lem : i < 8 → OrderAfter m s (step_order (memory_of m) s i (row_at m i).place) → Begun (step_of m i).machine (step_taken m s i)
  step_taken_lem lt order =
      still_begun m s h i (step_of m i).machine (step_taken m s i) (step_changes m i).rows (λ u ne. get_or-set_other s.threads i u _ nothing_remembered ne)
      (λ c w. w) order
      (λ busy. subst (λ (r : Remembered). In s.started r.called) (sym (get_or-set_same s.threads i _ nothing_remembered (omega (arith, futured.threads))))
      (h.calls i lt (λ e. busy (stays_idle m g holds i lt e))))

pub event_begun : (m : Machine) (g : Ghost) (s : Story) → Holds m g → Futured m g s → Begun m s
    → ((i : ℕ) → i < 8 → OrderAfter m s (step_order (memory_of m) s i (row_at m i).place)) → (x : Event) → Finds m x → Begun (does m x) (happens m s x)
event_begun m g s holds futured h order (EnqueueStarts i v) finds =
    call_started m g s holds futured h i finds.0 (single s i (enqueue v)) _ (placed (row_at m i) (place.Enqueue (next_node m.used) E1)) refl
event_begun m g s holds futured h order (DequeueStarts i) finds =
    call_started m g s holds futured h i finds.0 (single s i dequeue) _ (placed (row_at m i) (place.Dequeue D1)) refl
event_begun m g s holds futured h order (EnqueueDeferred i v) finds = enqueue_deferred m g s holds futured h i finds.0.free v
event_begun m g s holds futured h order (DequeueDeferred i) finds = dequeue_deferred m g s holds futured h i finds.free
event_begun m g s holds futured h order (BatchSetOff i f) finds = batch_set_off m g s holds futured h i finds.free f
event_begun m g s holds futured h order (FutureAsked i f) finds = record { calls = h.calls; order = h.order }
event_begun m g s holds futured h order (StepTaken i) finds = step_taken_lem m g s holds futured h i finds (order i finds)

-- on a fresh machine every thread is idle
pub fresh_begun : (threads nodes : ℕ) → Begun (fresh_machine threads nodes) fresh_story
unfolding at
fresh_begun threads nodes = record {
  calls = λ t lt busy. absurd (busy (ap (λ (r : Row). r.place) (get_or-replicate 8 t fresh_row no_row lt)));
  order = λ j x p. absurd (none_is_not_some refl p);
}
