-- The events other than steps keep what holds of futures and results. Their thread is idle, so it is in no call: no call of its own that took
-- effect has a future that waits, and no announcement of its own is going on. A result that is given for a future that is done is the one that
-- stands for it.
use Prim.Native.Nat.{ℕ, ◌%◌, ◌<◌, ◌≤◌}
use mathlib.Core.Path.{◌≡◌, refl, sym, ap, ◌∙◌, subst}
use mathlib.Core.List.{List, [], ◌∷◌, ◌++◌}
use mathlib.Core.Option.{Option, none, some}
use mathlib.Core.Logic.{◌⊎◌, inl, inr, ⊎_elim, ◌≢◌}
use native.Mathlib.Omega.{arith}
use lib.Dec.{eqb}
use lib.ListN.{length, set, length-replicate, get_or-replicate}
use lib.Seq.{set-get_or}
use Rattle.std.specs.Prelude.{None}
use Rattle.refusal.proofs.Tests.{either_way}
use Rattle.chain.specs.Positions.{at, At}
use Rattle.chain.proofs.Positions.{within, in_either, there_or_at_the_end, none_is_not_some}
use Rattle.tally.specs.Fifo.{Call, enqueue, dequeue, Result}
use Rattle.tally.specs.Tally.{up}
use Rattle.tally.specs.Excess.{enqueues}
use Rattle.place.specs.declared.Place.{Place}
use Rattle.place.specs.declared.Place.TheVariants as place
use Rattle.place.specs.declared.Place.TheVariants.{Idle}
use Rattle.place.specs.declared.EnqueueStep.TheVariants.{E1}
use Rattle.place.specs.declared.DequeueStep.TheVariants.{D1}
use Rattle.place.specs.declared.BatchStep.TheVariants.{B1}
use Rattle.place.specs.declared.DequeuesStep.TheVariants.{Q1}
use Rattle.row.specs.declared.Row.{Row}
use Rattle.row.specs.Row.{placed, calling, with_enqueue, with_dequeue, no_row}
use Rattle.answer.specs.declared.Future.{Future}
use Rattle.next.specs.Next.{next_node, next_future, next_announcement}
use Rattle.answer.specs.Answer.{answered}
use Rattle.answer.specs.declared.Operation.TheVariants as operation
use Rattle.std.specs.declared.result.Result.TheVariants as reply
use Rattle.machine.specs.declared.Machine.{Machine}
use Rattle.machine.specs.State.{row_at, fresh_machine, future_at}
use Rattle.machine.specs.Entries.{linked_behind, defer_enqueue, defer_dequeue}
use Rattle.order.specs.Events.{Event, EnqueueStarts, DequeueStarts, EnqueueDeferred, DequeueDeferred, BatchSetOff, FutureAsked, StepTaken, does}
use Rattle.order.specs.Order.{Called, Given, Remembered, Story, of, gives, defers, pending_batch, single, happens, fresh_story, nothing_remembered, now_in, also_pending}
use Rattle.order.specs.PlainQueue.{Stands}
use Rattle.order.specs.Outcomes.{outcome_of}
use Rattle.order.proofs.Events.{OwnFuture, Free, Finds}
use Rattle.order.proofs.Ghost.{Ghost, pending_of, ghost_does, fresh_ghost}
use Rattle.order.proofs.SettingOff.{set_off_either}
use Rattle.order.proofs.Outcomes.{waits_or_done, given_alone}
use Rattle.order.proofs.Reached.{Holds}
use Rattle.order.proofs.Futured.{BatchInCall, Futured}
use Rattle.order.proofs.FuturesKept.{Puts, in_call_here, StoryLeft, nothing_paid, still_futured}
use Rattle.order.proofs.FuturesDeferred.{deferred_left}

-- an idle thread is in no call
module _ (m : Machine) (g : Ghost) (s : Story) (i : ℕ) (idle : (row_at m i).place ≡ Idle) where
  in_no_call : (c : Called) → BatchInCall m s c → c.thread ≡ i → ⊥
  in_no_call c w e = w.in_call.busy (ap (λ (t : ℕ). (row_at m t).place) e ∙ idle)

  -- nothing takes effect and nothing is linked
  story_left_idle : (m' : Machine) (g' : Ghost) (s' : Story) → s.clock ≤ s'.clock → s'.order ≡ s.order → g'.by ≡ g.by
      → ((j : ℕ) (x : Given) → At s'.given j x → At s.given j x ⊎ Stands s'.order x)
      → ((a : ℕ) (c : Called) → At s'.announced a c → At s.announced a c ⊎ BatchInCall m' s' c) → StoryLeft m g s i m' g' s'
  story_left_idle m' g' s' later order by given announced = record {
    later = later;
    order = inl order;
    given = given;
    ended = λ c w e. absurd (in_no_call c w e);
    unlinked = λ a not j p. not j (ap (λ (l : List (Option ℕ)). at l j) by ∙ p);
    announced = announced;
    going = λ a c not p w e. absurd (in_no_call c w e);
  }

module _ (m : Machine) (g : Ghost) (s : Story) (holds : Holds m g) (h : Futured m g s) (i : ℕ) (free : Free m i) where
  pub puts : (m' : Machine) (s' : Story) (row : Row) (r : Remembered) → m'.rows ≡ set m.rows i row → s'.threads ≡ set s.threads i r → Puts m s i m' s' row r
  puts m' s' row r put thread = record { small = free.small; rows = holds.ok.rows; threads = h.threads; put_row = put; put_thread = thread }

  -- a call is begun: what is pending and the futures stay; an announcement that it has is going on
  begun : (c : Called) (m' : Machine) (g' : Ghost) (s' : Story) (row : Row) → m'.rows ≡ set m.rows i row → s'.threads ≡ set s.threads i (now_in (of s i) c)
      → row.pending ≡ (row_at m i).pending → m'.futures ≡ m.futures → m'.used.futures ≡ m.used.futures → g'.pending ≡ g.pending → g'.by ≡ g.by
      → s.clock ≤ s'.clock → s'.order ≡ s.order → s'.given ≡ s.given
      → ((a : ℕ) (d : Called) → At s'.announced a d → At s.announced a d ⊎ BatchInCall m' s' d) → Futured m' g' s'
  begun c m' g' s' row put thread places futures used pending by later order given announced =
      let p = puts m' s' row (now_in (of s i) c) put thread in
      still_futured m g s h i m' g' s' row (now_in (of s i) c) p (nothing_paid m g s h i m' g' s' row (now_in (of s i) c) p places refl refl futures used pending)
      (story_left_idle m g s i free.idle m' g' s' later order by (λ j x q. inl (subst (λ (l : List Given). At l j x) given q)) announced)

  enqueue_started : (v : ℕ) → Futured (does m (EnqueueStarts i v)) (ghost_does m g (EnqueueStarts i v)) (happens m s (EnqueueStarts i v))
  enqueue_started v =
      begun (single s i (enqueue v)) _ _ _ (placed (row_at m i) (place.Enqueue (next_node m.used) E1)) refl refl refl refl refl refl refl (omega arith) refl refl
      (λ a d q. inl q)

  dequeue_started : Futured (does m (DequeueStarts i)) (ghost_does m g (DequeueStarts i)) (happens m s (DequeueStarts i))
  dequeue_started = begun (single s i dequeue) _ _ _ (placed (row_at m i) (place.Dequeue D1)) refl refl refl refl refl refl refl (omega arith) refl refl (λ a d q. inl q)

  -- the batch of the pending calls
  module _ (f : ℕ) where
    abbrev batch : Called
    batch = pending_batch s i f

    abbrev s' : Story
    s' = happens m s (BatchSetOff i f)

    old_or_own : (a : ℕ) (d : Called) → At s'.announced a d → At s.announced a d ⊎ (d ≡ batch)
    old_or_own a d =
        either_way (λ (l : List Called). At l a d → At s.announced a d ⊎ (d ≡ batch)) (eqb (enqueues batch.calls) 0)
        (λ e q. inl q) (λ e q. ⊎_elim inl (λ w. inr w.1) (there_or_at_the_end s.announced batch a q))

    set_off_so : (m' : Machine) (g' : Ghost) (p : Place) → p ≢ Idle → m'.rows ≡ set m.rows i (calling (row_at m i) p f)
        → m'.futures ≡ m.futures → m'.used.futures ≡ m.used.futures → g'.pending ≡ g.pending → g'.by ≡ g.by → Futured m' g' s'
    set_off_so m' g' p busy put futures used pending by =
        begun batch m' g' s' (calling (row_at m i) p f) put refl refl futures used pending by (omega arith) refl refl
        (λ a d q. ⊎_elim inl
        (λ e. inr (subst (BatchInCall m' s') (sym e) (in_call_here (puts m' s' (calling (row_at m i) p f) (now_in (of s i) batch) put refl) batch refl refl busy refl)))
        (old_or_own a d q))

    batch_set_off : Futured (does m (BatchSetOff i f)) (ghost_does m g (BatchSetOff i f)) s'
    batch_set_off =
        set_off_either (λ (m' : Machine) (g' : Ghost). Futured m' g' s') m g i f
        (λ e. set_off_so _ _ (place.Dequeues Q1) (λ q. let z : ◌≡◌ {A = ℕ} 0 1 = cc in omega arith) refl refl refl refl refl)
        (λ ne. set_off_so _ _ (place.Batch (next_announcement m.used) B1) (λ q. let z : ◌≡◌ {A = ℕ} 0 1 = cc in omega arith) refl refl refl refl refl)

  -- a call is deferred
  abbrev deferred_now : Call ℕ → Remembered
  deferred_now c = also_pending (of s i) c (next_future m.used)

  module _ (room : m.used.futures < 512) (few : (row_at m i).count < 32) where
    deferred_futured : (c : Call ℕ) (x : Future) → x.owner ≡ i → x.outcome ≡ None → (m' : Machine) (g' : Ghost) (row : Row) → m'.rows ≡ set m.rows i row
        → row.pending ≡ set (row_at m i).pending ((row_at m i).count % 32) (next_future m.used) → m'.futures ≡ set m.futures (next_future m.used) x
        → m'.used.futures ≡ up m.used.futures → g'.pending ≡ set g.pending i (pending_of g i ++ (c ∷ [])) → g'.by ≡ g.by
        → Futured m' g' (defers s i c (next_future m.used))
    deferred_futured c x owner waits m' g' row put places futures used pending by =
        still_futured m g s h i m' g' _ row (deferred_now c) p
        (deferred_left m g s holds h i room few c x owner waits m' g' _ row (deferred_now c) p places refl refl futures used pending)
        (story_left_idle m g s i free.idle m' g' _ (omega arith) refl by (λ j y q. inl q) (λ a d q. inl q))
      where
        p : Puts m s i m' (defers s i c (next_future m.used)) row (deferred_now c)
        p = puts m' _ row (deferred_now c) put refl

    enqueue_deferred : (v : ℕ) → Futured (does m (EnqueueDeferred i v)) (ghost_does m g (EnqueueDeferred i v)) (happens m s (EnqueueDeferred i v))
    unfolding defer_enqueue linked_behind
    enqueue_deferred v =
        deferred_futured (enqueue v) (record { owner = i; operation = operation.Enqueue; outcome = None }) refl refl _ _
        (with_enqueue (row_at m i) (next_future m.used) (next_node m.used)) refl refl refl refl refl refl

    dequeue_deferred : Futured (does m (DequeueDeferred i)) (ghost_does m g (DequeueDeferred i)) (happens m s (DequeueDeferred i))
    unfolding defer_dequeue
    dequeue_deferred =
        deferred_futured dequeue (record { owner = i; operation = operation.Dequeue; outcome = None }) refl refl _ _
        (with_dequeue (row_at m i) (next_future m.used)) refl refl refl refl refl refl

  -- a result is given
  module _ (f : ℕ) (own : OwnFuture m i f) (done : (future_at m f).outcome ≢ None) where
    asked_stands : (j : ℕ) (x : Given) → At (gives i (some f) none s.clock (reply.Ok (answered (future_at m f).outcome))) j x → Stands s.order x
    asked_stands j x q = ⊎_elim {C = Stands s.order x} (λ e. absurd (done e)) (λ w. stands w.0 w.1) (waits_or_done (future_at m f).outcome)
      where
        stands : (r : Result ℕ) → (future_at m f).outcome ≡ outcome_of r → Stands s.order x
        stands r e =
            let w = h.done f r own.handed_out e in
            subst (Stands s.order) (sym (given_alone i (some f) none s.clock (future_at m f).outcome r e j x q))
            (record { row = w.row; there = w.there; thread = w.thread ∙ own.owner; call = w.call; before = w.before; result = w.result })

    future_asked : Futured m g (happens m s (FutureAsked i f))
    future_asked =
        still_futured m g s h i m g _ (row_at m i) (of s i) p (nothing_paid m g s h i m g _ (row_at m i) (of s i) p refl refl refl refl refl refl)
        (story_left_idle m g s i free.idle m g _ (omega arith) refl refl
        (λ j x q. ⊎_elim inl (λ w. inr (asked_stands w.0 x w.2)) (in_either s.given _ j q)) (λ a d q. inl q))
      where
        p : Puts m s i m (happens m s (FutureAsked i f)) (row_at m i) (of s i)
        p = puts m _ (row_at m i) (of s i) (sym (set-get_or m.rows i no_row)) (sym (set-get_or s.threads i nothing_remembered))

-- every event, where steps do
module _ (m : Machine) (g : Ghost) (s : Story) (holds : Holds m g) (h : Futured m g s) where
  abbrev KeptBy : Event → Type 0
  KeptBy x = Futured (does m x) (ghost_does m g x) (happens m s x)

  pub event_futured : ((i : ℕ) → i < 8 → KeptBy (StepTaken i)) → (x : Event) → Finds m x → KeptBy x
  event_futured step (EnqueueStarts i v) finds = enqueue_started m g s holds h i finds.0 v
  event_futured step (DequeueStarts i) finds = dequeue_started m g s holds h i finds.0
  event_futured step (EnqueueDeferred i v) finds = enqueue_deferred m g s holds h i finds.0.free finds.0.future finds.0.place v
  event_futured step (DequeueDeferred i) finds = dequeue_deferred m g s holds h i finds.free finds.future finds.place
  event_futured step (BatchSetOff i f) finds = batch_set_off m g s holds h i finds.free f
  event_futured step (FutureAsked i f) finds = future_asked m g s holds h i finds.free f finds.own finds.done
  event_futured step (StepTaken i) finds = step i finds

-- a fresh machine has no futures, and nobody has called
pub fresh_futured : (threads nodes : ℕ) → Futured (fresh_machine threads nodes) fresh_ghost fresh_story
unfolding at
fresh_futured threads nodes = record {
  threads = length-replicate 8 nothing_remembered;
  each = λ t lt. record {
    calls = ap (λ (r : Remembered). r.calls) (nobody t lt) ∙ sym (get_or-replicate {A = List (Call ℕ)} 8 t [] [] lt);
    many = ap (λ (r : Remembered). length r.futures) (nobody t lt) ∙ sym (ap (λ (r : Remembered). length r.calls) (nobody t lt));
    held = λ j f p. absurd (nothing t lt j f p);
    rising = λ j k e f p. absurd (nothing t lt j e p);
  };
  waiting = λ f lt. absurd (omega arith);
  done = λ f r lt. absurd (omega arith);
  given = λ j x p. absurd (none_is_not_some refl p);
  rows = λ j a f x p. absurd (none_is_not_some refl p);
  once_each = λ j k a b f x y p. absurd (none_is_not_some refl p);
  going = λ a c not p. absurd (none_is_not_some refl p);
}
  where
    nobody : (t : ℕ) → t < 8 → of fresh_story t ≡ nothing_remembered
    nobody t lt = get_or-replicate 8 t nothing_remembered nothing_remembered lt

    nothing : (t : ℕ) → t < 8 → (j f : ℕ) → At (of fresh_story t).futures j f → ⊥
    nothing t lt j f p = omega (arith, within (of fresh_story t).futures j p, ap (λ (r : Remembered). length r.futures) (nobody t lt))
