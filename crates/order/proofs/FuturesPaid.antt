-- The step that ends a batch pays the futures of its thread's pending calls, each with the result of its call in the run, and no others. So a
-- future that still waits is another thread's, and a result that is new, in a future or given for the one that was asked for, stands.
use Prim.Native.Nat.{ℕ, ◌%◌, ◌<◌, ◌≤◌}
use mathlib.Core.Path.{◌≡◌, refl, sym, ap, ◌∙◌, subst}
use mathlib.Core.List.{List, []}
use mathlib.Core.Option.{Option, some}
use mathlib.Core.Logic.{◌⊎◌, inl, inr, ⊎_elim, ◌≢◌}
use native.Mathlib.Omega.{arith}
use native.Mathlib.Nat.{mod-eq_of_lt}
use native.Mathlib.Decide.{ℕ_discrete}
use lib.ListN.{length, get_or, length-map}
use lib.Seq.{get_or-set_same, get_or-set_other}
use Rattle.std.specs.Prelude.{None}
use Rattle.chain.specs.Positions.{at, At, In}
use Rattle.chain.proofs.Positions.{none_is_not_some, some_injective, within, element, at_map}
use Rattle.tally.specs.Fifo.{Call, Result}
use Rattle.place.specs.Place.{place_after}
use Rattle.row.specs.declared.Row.{Row}
use Rattle.row.specs.Row.{placed, cleared}
use Rattle.answer.specs.declared.Future.{Future}
use Rattle.answer.specs.Answer.{Outcome}
use Rattle.pairing.specs.declared.Cursor.{Cursor}
use Rattle.machine.specs.declared.Machine.{Machine}
use Rattle.machine.specs.State.{row_at, memory_of, no_future, future_at}
use Rattle.machine.specs.Pairing.{pairing, settled}
use Rattle.machine.specs.Steps.{hop}
use Rattle.order.specs.Order.{Given, Remembered, Story, of, gives}
use Rattle.order.specs.PlainQueue.{ResultIn, Stands}
use Rattle.order.specs.Outcomes.{outcome_of}
use Rattle.order.proofs.Events.{OwnFuture}
use Rattle.order.proofs.Ghost.{Ghost, step_ghost, defers}
use Rattle.order.proofs.Steps.{pending_kept}
use Rattle.order.proofs.RowPut.{row_moved}
use Rattle.order.proofs.PairingCounts.{futures_kept}
use Rattle.order.proofs.PairingWrites.{as_many_outcomes, owners_kept, other_future, paired_future}
use Rattle.order.proofs.Outcomes.{waits_or_done, result_waits_not, one_result, given_alone}
use Rattle.order.proofs.Reached.{Holds}
use Rattle.order.proofs.Futured.{PendingFutures, future_given, Futured, BatchEnds}
use Rattle.order.proofs.FuturesInOrder.{each_once}
use Rattle.order.proofs.FuturesKept.{Puts, remembered_here, FuturesLeft}

module _ (m : Machine) (g : Ghost) (s : Story) (holds : Holds m g) (h : Futured m g s) (i : ℕ) (lt : i < 8) (g' : Ghost) (s' : Story) (c : Cursor)
    (ends : BatchEnds m g' s i s'.order c) where
  abbrev m₁ : Machine
  m₁ = (hop m i).machine

  abbrev m' : Machine
  m' = (settled m₁ i 1 c).machine

  before : PendingFutures m g s i
  before = h.each i lt

  row : row_at m₁ i ≡ placed (row_at m i) (place_after (hop m i).after)
  row = row_moved m i holds.ok.rows lt

  abbrev paid : ℕ
  paid = (row_at m₁ i).count % 33

  -- as many are paid as are pending, in their order, and no future twice
  all_paid : paid ≡ length (of s i).futures
  all_paid =
      let t = (holds.ok.knows i lt).tallied in
      omega (arith, ap (λ (r : Row). r.count) row, t.count, t.few, ap length before.calls, before.many)

  number : (j f : ℕ) → At (of s i).futures j f → get_or (row_at m₁ i).pending j 0 ≡ f
  number j f q = ap (λ (r : Row). get_or r.pending j 0) row ∙ (before.held j f q).place

  pending_at : (j : ℕ) → j < paid → (f : ℕ) × At (of s i).futures j f
  pending_at j l = element (of s i).futures j (omega (arith, all_paid))

  in_range_lem : (f : ℕ) → f < m.used.futures → f % 512 ≡ f
  in_range_lem f l = mod-eq_of_lt (let z : f < 512 = omega (arith, holds.flags.room) in z)

  small : (j : ℕ) → j < paid → get_or (row_at m₁ i).pending j 0 < 512
  small j l =
      let w = pending_at j l in
      omega (arith, number j w.0 w.1, (before.held j w.0 w.1).own.handed_out, holds.flags.room)

  apart : (a b : ℕ) → a < paid → b < paid → get_or (row_at m₁ i).pending a 0 ≡ get_or (row_at m₁ i).pending b 0 → a ≡ b
  apart a b l k e =
      let v = pending_at a l in
      let w = pending_at b k in
      each_once before a b v.0 v.1 (w.1 ∙ ap some (sym (number b w.0 w.1) ∙ sym e ∙ number a v.0 v.1))

  few : paid ≤ 32
  few = omega arith

  -- what a pending call's future holds afterwards
  record Pays (j f : ℕ) : Type 0 where
    result : Result ℕ
    there : At ends.results j result
    now : (future_at m' f).outcome ≡ outcome_of result

  as_many_results : length ends.results ≡ paid
  as_many_results =
      sym (length-map ends.results outcome_of) ∙ sym (ap length ends.paid)
      ∙ as_many_outcomes m₁.links m₁.items (row_at m₁ i).last (row_at m₁ i).pending paid 0 m₁.futures c

  pays : (j f : ℕ) → At (of s i).futures j f → Pays j f
  unfolding settled pairing
  pays j f q = record {
    result = r.0;
    there = r.1;
    now =
        ap (λ (k : ℕ). (get_or m'.futures k no_future).outcome) (in_range_lem f (before.held j f q).own.handed_out ∙ sym (number j f q))
        ∙ paired_future m₁.links m₁.items (row_at m₁ i).last (row_at m₁ i).pending paid few small m₁.futures c
        (ap length (futures_kept m i) ∙ holds.flags.futures) apart j (outcome_of r.0)
        (ap (λ (l : List Outcome). at l j) ends.paid ∙ at_map outcome_of ends.results j r.1);
  }
    where
      r : (x : Result ℕ) × At ends.results j x
      r = element ends.results j (omega (arith, within (of s i).futures j q, all_paid, as_many_results))

  -- the futures of others, and those that were done before, stay
  untouched : (f : ℕ) → f < m.used.futures → ((future_at m f).owner ≢ i) ⊎ ((future_at m f).outcome ≢ None) → future_at m' f ≡ future_at m f
  unfolding settled pairing
  untouched f l other =
      other_future m₁.links m₁.items (row_at m₁ i).last (row_at m₁ i).pending paid few small m₁.futures c (f % 512) not_paid
      ∙ ap (λ (x : List Future). get_or x (f % 512) no_future) (futures_kept m i)
    where
      not_paid : (j : ℕ) → j < paid → get_or (row_at m₁ i).pending j 0 ≢ f % 512
      not_paid j k e =
          let w = pending_at j k in
          let held = before.held j w.0 w.1 in
          let is : w.0 ≡ f = sym (number j w.0 w.1) ∙ e ∙ in_range_lem f l in
          ⊎_elim {C = ⊥}
          (λ ne. ne (ap (λ (x : ℕ). (future_at m x).owner) (sym is) ∙ held.own.owner))
          (λ done. done (ap (λ (x : ℕ). (future_at m x).outcome) (sym is) ∙ held.waits))
          other

  owners_stay : (f : ℕ) → (future_at m' f).owner ≡ (future_at m f).owner
  unfolding settled pairing
  owners_stay f =
      owners_kept m₁.links m₁.items (row_at m₁ i).last (row_at m₁ i).pending paid 0 m₁.futures c (f % 512)
      ∙ ap (λ (x : List Future). (get_or x (f % 512) no_future).owner) (futures_kept m i)

  none_handed_out : m'.used.futures ≡ m.used.futures
  unfolding hop settled pairing
  none_handed_out = refl

  -- a future that waited for thread i was one of those paid
  was_pending : (f : ℕ) → f < m.used.futures → (future_at m f).owner ≡ i → (future_at m f).outcome ≡ None → In (of s i).futures f
  was_pending f l own waits = subst (λ (u : ℕ). In (of s u).futures f) own (h.waiting f l waits).1

  pub paid_is_done : (f : ℕ) → In (of s i).futures f → (future_at m' f).outcome ≢ None
  paid_is_done f q e = let w = pays q.0 f q.1 in result_waits_not w.result (sym w.now ∙ e)

  -- the result stands, told for the future that it was paid to
  stands : (j f : ℕ) (r : Result ℕ) → At (of s i).futures j f → At ends.results j r → (x : Given) → x.thread ≡ i → x.future ≡ some f → x.result ≡ r → s.clock ≤ x.time
      → ((b : ℕ) → x.began ≡ some b → (of s i).called.began ≡ b) → Stands s'.order x
  stands j f r q there x thread future result time call = record {
    row = record { effect = record { call = (of s i).called; place = ends.place }; results = ends.results };
    there = ends.there;
    thread = ends.call.thread ∙ sym thread;
    call = call;
    before = omega (arith, ends.early);
    result =
        subst (λ (o : Option ℕ). ResultIn (record { effect = record { call = (of s i).called; place = ends.place }; results = ends.results }) x o) (sym future)
        (j, subst (λ (l : List ℕ). At l j f) (sym ends.call.futures) q, there ∙ ap some (sym result));
  }

  -- the answer's result is that of the future that was asked for
  pub answer_stands : (j : ℕ) (x : Given) → At (gives i (of s i).called.asked (some (of s i).called.began) s.clock (settled m₁ i 1 c).answer) j x → Stands s'.order x
  unfolding settled
  answer_stands j x q =
      let asked = ends.call.asks in
      let w = pays asked.0 (row_at m i).future asked.1 in
      let is = given_alone i _ _ _ _ w.result (ap (λ (r : Row). (future_at m' r.future).outcome) row ∙ w.now) j x q in
      stands asked.0 (row_at m i).future w.result asked.1 w.there x (ap (λ (y : Given). y.thread) is)
      (ap (λ (y : Given). y.future) is ∙ ends.call.asked) (ap (λ (y : Given). y.result) is) (omega (arith, ap (λ (y : Given). y.time) is))
      (λ b e. some_injective (sym (ap (λ (y : Given). y.began) is) ∙ e))

  module _ (later : s.clock ≤ s'.clock) (r : Remembered) (p : Puts m s i m' s' (cleared (row_at m₁ i)) r) (calls : r.calls ≡ []) (futures : r.futures ≡ []) where
    abbrev g₁ : Ghost
    g₁ = step_ghost (memory_of m) g (row_at m i).place

    none_pending : (of s' i).futures ≡ []
    none_pending = ap (λ (x : Remembered). x.futures) (remembered_here p) ∙ futures

    no_calls : (of s' i).calls ≡ []
    no_calls = ap (λ (x : Remembered). x.calls) (remembered_here p) ∙ calls

    nothing : (j f : ℕ) → At (of s' i).futures j f → ⊥
    nothing j f q = omega (arith, within (of s' i).futures j q, ap length none_pending)

    kept_pending : g₁.pending ≡ g.pending
    kept_pending = pending_kept (memory_of m) g (row_at m i).place

    cleared_pending : PendingFutures m' (defers g₁ i []) s' i
    cleared_pending = record {
      calls = no_calls ∙ sym (get_or-set_same g₁.pending i [] [] (omega (arith, ap length kept_pending, holds.ok.pendings)));
      many = ap length none_pending ∙ sym (ap length no_calls);
      held = λ j f q. absurd (nothing j f q);
      rising = λ j k e f q. absurd (nothing j e q);
    }

    none_waits : (f : ℕ) → OwnFuture m' i f → (future_at m' f).outcome ≡ None → ⊥
    none_waits f own waits =
        let l : f < m.used.futures = omega (arith, own.handed_out, none_handed_out) in
        ⊎_elim {C = ⊥}
        (λ e. paid_is_done f (was_pending f l (sym (owners_stay f) ∙ own.owner) e) waits)
        (λ w.
        let done : (future_at m f).outcome ≢ None = λ e. result_waits_not w.0 (sym w.1 ∙ e) in
        done (sym (ap (λ (x : Future). x.outcome) (untouched f l (inr done))) ∙ waits))
        (waits_or_done (future_at m f).outcome)

    -- a future that waited is thread i's and holds what was paid, for those of others wait still
    new_result : (f : ℕ) (o : Result ℕ) → f < m.used.futures → (future_at m f).outcome ≡ None → (future_at m' f).outcome ≡ outcome_of o
        → Stands s'.order (future_given (future_at m' f).owner f o s'.clock)
    new_result f o l waits e = elim (ℕ_discrete (future_at m f).owner i) [ yes own ↦ here own | no ne ↦ absurd (elsewhere ne) ]
      where
        here : (future_at m f).owner ≡ i → Stands s'.order (future_given (future_at m' f).owner f o s'.clock)
        here own =
            let q = was_pending f l own waits in
            let w = pays q.0 f q.1 in
            stands q.0 f o q.1 (w.there ∙ ap some (one_result w.result o (sym w.now ∙ e))) _ (owners_stay f ∙ own) refl refl later (λ b q. absurd (none_is_not_some refl q))

        elsewhere : (future_at m f).owner ≢ i → ⊥
        elsewhere ne = result_waits_not o (sym e ∙ ap (λ (x : Future). x.outcome) (untouched f l (inl ne)) ∙ waits)

    pub paid_left : FuturesLeft m g s i m' (defers g₁ i []) s'
    paid_left = record {
      more = omega (arith, none_handed_out);
      owners = λ f l. owners_stay f;
      kept = untouched;
      new = λ f l ne. omega (arith, none_handed_out);
      others = λ u ne. get_or-set_other g₁.pending i u [] [] ne ∙ ap (λ (l : List (List (Call ℕ))). get_or l u []) kept_pending;
      mine = cleared_pending;
      waiting = λ f own waits. absurd (none_waits f own waits);
      results = λ f o l e. let l' : f < m.used.futures = omega (arith, none_handed_out) in ⊎_elim
          (λ waits. inr (new_result f o l' waits e))
          (λ w. inl (l', sym (ap (λ (x : Future). x.outcome) (untouched f l' (inr (λ q. result_waits_not w.0 (sym w.1 ∙ q))))) ∙ e))
          (waits_or_done (future_at m f).outcome);
    }
