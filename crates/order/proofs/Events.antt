-- The events of an entry leave the machine as the entry does, and each finds what it needs: its thread idle, what it takes left, its future
-- the thread's own.
use Prim.Native.Nat.{ℕ, zero, suc, ◌%◌, ◌<◌, ◌≤◌}
use mathlib.Core.Path.{◌≡◌, refl, sym, ap, ◌∙◌, subst}
use mathlib.Core.Bool.{Bool, true, false, cond, not}
use mathlib.Core.List.{List, [], ◌∷◌, ◌++◌}
use mathlib.Core.Logic.{◌≢◌}
use native.Mathlib.Omega.{arith}
use lib.Dec.{eqb, ltb}
use lib.ListN.{length, get_or, set}
use lib.Seq.{get_or-set_same}
use borrow.Author.Tests.{eqb-true, eqb-false, ne_eqb, ltb-true}
use Rattle.std.specs.Prelude.{None, Some}
use Rattle.refusal.specs.declared.Refusal.TheVariants.{NotOwnFuture}
use Rattle.tally.specs.Tally.{up}
use Rattle.place.specs.declared.Place.TheVariants.{Idle}
use Rattle.row.specs.declared.Row.{Row}
use Rattle.row.specs.Row.{with_enqueue, with_dequeue}
use Rattle.answer.specs.declared.Future.{Future}
use Rattle.answer.specs.Answer.{Outcome}
use Rattle.entry.specs.declared.Entry.{Entry}
use Rattle.entry.specs.declared.Entry.TheVariants as entry
use Rattle.needs.specs.declared.Needs.{Needs}
use Rattle.next.specs.Next.{next_node, next_future}
use Rattle.needs.specs.Needs.{lacking, enqueue_needs, dequeue_needs, future_enqueue_needs, future_dequeue_needs, evaluate_needs, some}
use Rattle.refuse.specs.Refusals.{steppable, call_verdict}
use Rattle.answer.specs.declared.Operation.{Operation}
use Rattle.answer.specs.declared.Operation.TheVariants as operation
use Rattle.refuse.proofs.Accepted.{Left, callable_is_below, callable_is_idle, nothing_lacks, call_accepted}
use Rattle.machine.specs.declared.Machine.{Machine}
use Rattle.machine.specs.declared.Told.{Told}
use Rattle.machine.specs.State.{row_at, no_future, future_at}
use Rattle.machine.specs.Steps.{step_of, is_more, one_more, advance}
use Rattle.machine.specs.Entries.{decided, refusing, linked_behind, defer_enqueue, defer_dequeue, set_off, start_enqueue, start_dequeue, evaluate_waiting, evaluate_own, evaluate_known, evaluate, enqueue as enqueue_entry, dequeue as dequeue_entry, future_enqueue, future_dequeue, run, apply}
use Rattle.laws.proofs.HandedOut.{futures_in_order}
use Rattle.order.specs.Events.{Event, EnqueueStarts, DequeueStarts, EnqueueDeferred, DequeueDeferred, BatchSetOff, FutureAsked, StepTaken, does, after_events, kept_beside, run_events, enqueue_events, dequeue_events, evaluate_own_events, evaluate_events, entry_events, events}
use Rattle.order.specs.Reached.{after}
use Rattle.order.proofs.RowPut.{put_here}
use Rattle.refusal.specs.Verdicts.{Verdict, accepted, where_accepted}
use Rattle.std.specs.Prelude.{Err, Ok}

-- the machine's tables have their sizes
pub record Sized (m : Machine) : Type 0 where
  pub threads : m.threads ≤ 8
  pub rows : length m.rows ≡ 8
  pub futures : length m.futures ≡ 512
  pub room : m.used.futures ≤ 512

-- what an event finds
pub record Free (m : Machine) (i : ℕ) : Type 0 where
  pub small : i < 8
  pub idle : (row_at m i).place ≡ Idle

pub record RoomToDefer (m : Machine) (i : ℕ) : Type 0 where
  pub free : Free m i
  pub future : m.used.futures < 512
  pub place : (row_at m i).count < 32

pub record OwnFuture (m : Machine) (i f : ℕ) : Type 0 where
  pub handed_out : f < m.used.futures
  pub owner : (future_at m f).owner ≡ i

pub record RoomToSetOff (m : Machine) (i f : ℕ) : Type 0 where
  pub free : Free m i
  pub own : OwnFuture m i f
  pub waits : (future_at m f).outcome ≡ None
  pub announcement : (row_at m i).tally.enqueues ≢ 0 → m.used.announcements < 64

pub record DoneFuture (m : Machine) (i f : ℕ) : Type 0 where
  pub free : Free m i
  pub own : OwnFuture m i f
  pub done : (future_at m f).outcome ≢ None

abbrev pub Finds : Machine → Event → Type 0
Finds m (EnqueueStarts i v) = Free m i × ((row_at m i).count ≡ 0) × (m.used.nodes < m.nodes)
Finds m (DequeueStarts i) = Free m i × ((row_at m i).count ≡ 0)
Finds m (EnqueueDeferred i v) = RoomToDefer m i × (m.used.nodes < m.nodes)
Finds m (DequeueDeferred i) = RoomToDefer m i
Finds m (BatchSetOff i f) = RoomToSetOff m i f
Finds m (FutureAsked i f) = DoneFuture m i f
Finds m (StepTaken i) = i < 8

unfoldable pub AllFind : Machine → List Event → Type 0
AllFind m [] = Unit {0}
AllFind m (x ∷ xs) = Finds m x × AllFind (does m x) xs

-- events that leave machine x, and all find what they need
pub record Made (m : Machine) (x : Machine) (es : List Event) : Type 0 where
  pub leads : x ≡ after_events m es
  pub find : AllFind m es

none_made : (m : Machine) → Made m m []
unfolding after_events AllFind
none_made m = record { leads = refl; find = tt }

one_made : (m : Machine) (e : Event) → Finds m e → Made m (does m e) (e ∷ [])
unfolding after_events AllFind
one_made m e h = record { leads = refl; find = (h, tt) }

two_made : (m : Machine) (e f : Event) → Finds m e → Finds (does m e) f → Made m (does (does m e) f) (e ∷ f ∷ [])
unfolding after_events AllFind
two_made m e f h k = record { leads = refl; find = (h, (k, tt)) }

decided_made : (v : Verdict) (m : Machine) (x : Told) (es : List Event) → (v ≡ accepted → Made m x.machine es) → Made m (decided v m x).machine (where_accepted v es [])
unfolding decided
decided_made (Ok ok) m x es f = f refl
decided_made (Err r) m x es f = none_made m

-- a count that is not 0 is some
is_some : (n : ℕ) → n ≢ 0 → some n ≡ true
is_some n ne = ap not (ne_eqb n 0 ne)

run_made : (n : ℕ) (m : Machine) (i : ℕ) → i < 8 → Made m (advance m i n).machine (run_events n m i)
unfolding advance run_events after_events AllFind
run_made zero m i lt = none_made m
run_made (suc n) m i lt = by (is_more (step_of m i).answer) (run_made n (step_of m i).machine i lt)
  where
    by : (b : Bool) → Made (step_of m i).machine (advance (step_of m i).machine i n).machine (run_events n (step_of m i).machine i)
        → Made m (cond b (one_more (advance (step_of m i).machine i n)) (step_of m i)).machine (StepTaken i ∷ cond b (run_events n (step_of m i).machine i) [])
    by true rest = record { leads = rest.leads; find = (lt, rest.find) }
    by false rest = one_made m (StepTaken i) lt

-- a thread that has deferred a call is still idle, and its new future waits
module _ (m : Machine) (sized : Sized m) (i : ℕ) (free : Free m i) (left : m.used.futures < 512) where
  number : next_future m.used ≡ m.used.futures
  number = (futures_in_order m.used left).0

  -- the row and the future that a deferred call leaves
  module _ (m' : Machine) (row : Row) (o : Operation) (rows : m'.rows ≡ set m.rows i row)
      (futures : m'.futures ≡ set m.futures (next_future m.used) (record { owner = i; operation = o; outcome = None }))
      (used : m'.used.futures ≡ up m.used.futures) (same : row.place ≡ (row_at m i).place) where
    row_is : row_at m' i ≡ row
    row_is = put_here m m' i row rows sized.rows free.small

    future_is : future_at m' (next_future m.used) ≡ record { owner = i; operation = o; outcome = None }
    future_is =
        ap (λ (l : List Future). get_or l (next_future m.used % 512) no_future) futures
        ∙ ap (λ (k : ℕ). get_or (set m.futures (next_future m.used) (record { owner = i; operation = o; outcome = None })) k no_future) (let z : next_future m.used % 512 ≡ next_future m.used = omega arith in z)
        ∙ get_or-set_same m.futures (next_future m.used) (record { owner = i; operation = o; outcome = None }) no_future (omega (arith, sized.futures))

    then_set_off : (row.tally.enqueues ≢ 0 → m'.used.announcements < 64) → RoomToSetOff m' i (next_future m.used)
    then_set_off announcement = record {
      free = record { small = free.small; idle = ap (λ (r : Row). r.place) row_is ∙ same ∙ free.idle };
      own = record { handed_out = omega (arith, number, used, (futures_in_order m.used left).1); owner = ap (λ (x : Future). x.owner) future_is };
      waits = ap (λ (x : Future). x.outcome) future_is;
      announcement = λ ne. announcement (λ e. ne (ap (λ (r : Row). r.tally.enqueues) row_is ∙ e));
    }

module _ (m : Machine) (sized : Sized m) (i : ℕ) (free : Free m i) where
  deferring : (n : Needs) → Left n m.used m.nodes (row_at m i).count → n.future ≡ true → RoomToDefer m i
  deferring n left e = record { free = free; future = left.future e; place = left.place e }

  enqueue_made : (v : ℕ) → Left (enqueue_needs (row_at m i)) m.used m.nodes (row_at m i).count → Made m (start_enqueue m i (record { value = v })) (enqueue_events m i v)
  unfolding start_enqueue defer_enqueue linked_behind
  enqueue_made v left = by (eqb (row_at m i).count 0) refl
    where
      set_off_lem : (row_at m i).count ≢ 0 → RoomToSetOff (defer_enqueue m i (record { value = v })) i (next_future m.used)
      set_off_lem ne =
          then_set_off m sized i free (left.future (is_some _ ne)) (defer_enqueue m i (record { value = v })) (with_enqueue (row_at m i) (next_future m.used) (next_node m.used)) operation.Enqueue refl refl refl refl
          (λ e. left.announcement (is_some _ ne))

      by : (b : Bool) → eqb (row_at m i).count 0 ≡ b
          → Made m (cond b (does m (EnqueueStarts i v)) (set_off (defer_enqueue m i (record { value = v })) i (next_future m.used)))
          (cond b (EnqueueStarts i v ∷ []) (EnqueueDeferred i v ∷ BatchSetOff i (next_future m.used) ∷ []))
      by true e = one_made m (EnqueueStarts i v) (free, eqb-true _ 0 e, left.node refl)
      by false e =
          let ne = eqb-false _ 0 e in
          two_made m (EnqueueDeferred i v) (BatchSetOff i (next_future m.used)) (deferring _ left (is_some _ ne), left.node refl) (set_off_lem ne)

  dequeue_made : Left (dequeue_needs (row_at m i)) m.used m.nodes (row_at m i).count → Made m (start_dequeue m i) (dequeue_events m i)
  unfolding start_dequeue defer_dequeue
  dequeue_made left = by (eqb (row_at m i).count 0) refl
    where
      set_off_lem : (row_at m i).count ≢ 0 → RoomToSetOff (defer_dequeue m i) i (next_future m.used)
      set_off_lem ne =
          then_set_off m sized i free (left.future (is_some _ ne)) (defer_dequeue m i) (with_dequeue (row_at m i) (next_future m.used)) operation.Dequeue refl refl refl refl
          (λ e. left.announcement (is_some _ e))

      by : (b : Bool) → eqb (row_at m i).count 0 ≡ b
          → Made m (cond b (does m (DequeueStarts i)) (set_off (defer_dequeue m i) i (next_future m.used)))
          (cond b (DequeueStarts i ∷ []) (DequeueDeferred i ∷ BatchSetOff i (next_future m.used) ∷ []))
      by true e = one_made m (DequeueStarts i) (free, eqb-true _ 0 e)
      by false e =
          let ne = eqb-false _ 0 e in
          two_made m (DequeueDeferred i) (BatchSetOff i (next_future m.used)) (deferring _ left (is_some _ ne)) (set_off_lem ne)

  own_made : (f : ℕ) → OwnFuture m i f → (o : Outcome) → (future_at m f).outcome ≡ o → Made m (evaluate_own m i f o).machine (evaluate_own_events m i f o)
  unfolding evaluate_own evaluate_waiting
  own_made f own None e =
      decided_made (lacking (evaluate_needs (row_at m i)) m.used m.nodes (row_at m i).count) m _ _
      (λ q. one_made m (BatchSetOff i f) (record {
        free = free;
        own = own;
        waits = e;
        announcement = λ ne. (nothing_lacks (evaluate_needs (row_at m i)) m.used m.nodes (row_at m i).count q).announcement (is_some _ ne);
      }))
  own_made f own (Some result) e = one_made m (FutureAsked i f) (record { free = free; own = own; done = λ q. done_waits_not (sym e ∙ q) })
    where
      done_waits_not : Some result ≡ None → ⊥
      done_waits_not q = let z : ◌≡◌ {A = ℕ} 0 1 = cc in omega arith

module _ (m : Machine) (sized : Sized m) where
  small : (t : ℕ) → t % 8 < 8
  small t = omega arith

  known_made : (t f : ℕ) → t < 8 → Free m (t % 8) → Made m (evaluate_known m t f (future_at m f)).machine (evaluate_events m t f (future_at m f))
  unfolding evaluate_known
  known_made t f lt free = by (ltb f m.used.futures) refl (eqb (future_at m f).owner t) refl
    where
      by : (a : Bool) → ltb f m.used.futures ≡ a → (b : Bool) → eqb (future_at m f).owner t ≡ b
          → Made m (cond (cond a (not b) true) (refusing m NotOwnFuture) (evaluate_own m (t % 8) (f % 512) (future_at m f).outcome)).machine
          (cond (cond a (not b) true) [] (evaluate_own_events m (t % 8) (f % 512) (future_at m f).outcome))
      by false e b q = none_made m
      by true e false q = none_made m
      by true e true q =
          let handed : f < m.used.futures = ltb-true f m.used.futures e in
          let here : future_at m (f % 512) ≡ future_at m f = ap (λ (k : ℕ). get_or m.futures k no_future) (let z : f % 512 % 512 ≡ f % 512 = omega arith in z) in
          own_made m sized (t % 8) free (f % 512)
          (record { handed_out = omega (arith, sized.room); owner = ap (λ (x : Future). x.owner) here ∙ eqb-true _ t q ∙ (let z : t ≡ t % 8 = omega arith in z) })
          (future_at m f).outcome (ap (λ (x : Future). x.outcome) here)

  call_made : (t : ℕ) (n : Needs) (x : Told) (es : List Event)
      → (Free m (t % 8) → Left n m.used m.nodes (row_at m (t % 8)).count → Made m x.machine es)
      → Made m (decided (call_verdict t m.threads (row_at m (t % 8)) m.used m.nodes n) m x).machine (where_accepted (call_verdict t m.threads (row_at m (t % 8)) m.used m.nodes n) es [])
  call_made t n x es f =
      decided_made _ m x es
      (λ e. let w = call_accepted t m.threads (row_at m (t % 8)) m.used m.nodes n e in f (record { small = small t; idle = w.0 }) w.1)

  run_entry_made : (t n : ℕ) → Made m (run m t n).machine (where_accepted (steppable t m.threads (row_at m (t % 8)).place) (run_events n m (t % 8)) [])
  unfolding run
  run_entry_made t n = decided_made _ m _ _ (λ e. run_made n m (t % 8) (small t))

  pub entry_made : (e : Entry) → Made m (apply m e).machine (entry_events m e)
  unfolding apply entry_events enqueue_entry dequeue_entry future_enqueue future_dequeue evaluate
  entry_made (entry.Enqueue t v) = call_made t (enqueue_needs (row_at m (t % 8))) _ _ (λ free left. enqueue_made m sized (t % 8) free v left)
  entry_made (entry.Dequeue t) = call_made t (dequeue_needs (row_at m (t % 8))) _ _ (λ free left. dequeue_made m sized (t % 8) free left)
  entry_made (entry.FutureEnqueue t v) =
      call_made t future_enqueue_needs _ _ (λ free left. one_made m (EnqueueDeferred (t % 8) v) (deferring m sized (t % 8) free future_enqueue_needs left refl, left.node refl))
  entry_made (entry.FutureDequeue t) =
      call_made t future_dequeue_needs _ _ (λ free left. one_made m (DequeueDeferred (t % 8)) (deferring m sized (t % 8) free future_dequeue_needs left refl))
  entry_made (entry.Evaluate t f) =
      decided_made _ m _ _
      (λ e. known_made t f (omega (arith, sized.threads, callable_is_below t m.threads (row_at m (t % 8)).place e))
      (record { small = small t; idle = callable_is_idle t m.threads (row_at m (t % 8)).place e }))
  entry_made (entry.Step t) = run_entry_made t 1
  entry_made (entry.Run t n) = run_entry_made t n

-- some events, then others
then_made : (xs ys : List Event) (m x y : Machine) → Made m x xs → Made x y ys → Made m y (xs ++ ys)
unfolding after_events AllFind
then_made [] ys m x y first rest = subst (λ (z : Machine). Made z y ys) first.leads rest
then_made (e ∷ xs) ys m x y first rest =
    let made = then_made xs ys (does m e) x y (record { leads = first.leads; find = first.find.1 }) rest in
    record { leads = made.leads; find = (first.find.0, made.find) }

-- what every event keeps true holds after any list of entries: of the machine, and of what is kept beside it
module _ {A : Type 0} (f : Machine → A → Event → A) (P : Machine → A → Type 0) (sized : (m : Machine) (a : A) → P m a → Sized m)
    (keeps : (m : Machine) (a : A) (x : Event) → Finds m x → P m a → P (does m x) (f m a x)) where
  over_events : (xs : List Event) (m : Machine) (a : A) → AllFind m xs → P m a → P (after_events m xs) (kept_beside f m a xs)
  unfolding AllFind after_events kept_beside
  over_events [] m a finds h = h
  over_events (x ∷ xs) m a finds h = over_events xs (does m x) (f m a x) finds.1 (keeps m a x finds.0 h)

  over_made : (xs : List Event) (m x : Machine) (a : A) → Made m x xs → P m a → P x (kept_beside f m a xs)
  over_made xs m x a made h = subst (λ (y : Machine). P y (kept_beside f m a xs)) (sym made.leads) (over_events xs m a made.find h)

  pub entries_made : (es : List Entry) (m : Machine) (a : A) → P m a → Made m (after m es) (events m es)
  unfolding after events
  entries_made [] m a h = none_made m
  entries_made (e ∷ es) m a h =
      let made = entry_made m (sized m a h) e in
      then_made (entry_events m e) _ m (apply m e).machine _ made (entries_made es (apply m e).machine _ (over_made (entry_events m e) m (apply m e).machine a made h))

  pub over_entries : (es : List Entry) (m : Machine) (a : A) → P m a → P (after m es) (kept_beside f m a (events m es))
  over_entries es m a h = over_made (events m es) m (after m es) a (entries_made es m a h) h

-- two things kept at once
abbrev pub both : {A B : Type 0} → (Machine → A → Event → A) → (Machine → B → Event → B) → Machine → A × B → Event → A × B
both f g m p x = (f m p.0 x, g m p.1 x)

pub kept_both : {A B : Type 0} (f : Machine → A → Event → A) (g : Machine → B → Event → B) (xs : List Event) (m : Machine) (a : A) (b : B)
    → kept_beside (both f g) m (a, b) xs ≡ (kept_beside f m a xs, kept_beside g m b xs)
unfolding kept_beside
kept_both f g [] m a b = refl
kept_both f g (x ∷ xs) m a b = kept_both f g xs (does m x) (f m a x) (g m b x)
