-- A call is deferred: one more future is handed out, which is above all those handed out before, and one more call is pending. The futures of
-- before stay as they were.
use Prim.Native.Nat.{ℕ, suc, ◌%◌, ◌<◌}
use mathlib.Core.Path.{◌≡◌, sym, ap, ◌∙◌, subst}
use mathlib.Core.List.{List, [], ◌∷◌, ◌++◌}
use mathlib.Core.Option.{some}
use mathlib.Core.Logic.{◌⊎◌, inl, inr, ⊎_elim}
use native.Mathlib.Omega.{arith}
use native.Mathlib.Decide.{dec_lt}
use lib.ListN.{length, get_or, set}
use lib.Seq.{get_or-set_same, get_or-set_other}
use Rattle.std.specs.Prelude.{None}
use Rattle.chain.specs.Positions.{At, In}
use Rattle.chain.proofs.Positions.{within, stays, at_the_end, length-one_more, there_or_at_the_end}
use Rattle.tally.specs.Fifo.{Call}
use Rattle.tally.specs.Tally.{up}
use Rattle.row.specs.declared.Row.{Row}
use Rattle.answer.specs.declared.Future.{Future}
use Rattle.next.specs.Next.{next_future}
use Rattle.machine.specs.declared.Machine.{Machine}
use Rattle.machine.specs.State.{row_at, no_future, future_at}
use Rattle.laws.proofs.HandedOut.{futures_in_order}
use Rattle.order.specs.Order.{Remembered, Story, of}
use Rattle.order.proofs.Events.{OwnFuture}
use Rattle.order.proofs.Ghost.{Ghost, pending_of}
use Rattle.order.proofs.Outcomes.{result_waits_not}
use Rattle.order.proofs.Reached.{Holds}
use Rattle.order.proofs.Futured.{Held, PendingFutures, Futured}
use Rattle.order.proofs.FuturesKept.{Puts, row_here, remembered_here, FuturesLeft}

module _ (m : Machine) (g : Ghost) (s : Story) (holds : Holds m g) (h : Futured m g s) (i : ℕ) (room : m.used.futures < 512) (few : (row_at m i).count < 32)
    (c : Call ℕ) (x : Future) (owner : x.owner ≡ i) (waits : x.outcome ≡ None)
    (m' : Machine) (g' : Ghost) (s' : Story) (row : Row) (r : Remembered) (p : Puts m s i m' s' row r)
    (places : row.pending ≡ set (row_at m i).pending ((row_at m i).count % 32) (next_future m.used))
    (calls : r.calls ≡ (of s i).calls ++ (c ∷ [])) (held : r.futures ≡ (of s i).futures ++ (next_future m.used ∷ []))
    (futures : m'.futures ≡ set m.futures (next_future m.used) x) (used : m'.used.futures ≡ up m.used.futures)
    (pending : g'.pending ≡ set g.pending i (pending_of g i ++ (c ∷ []))) where
  abbrev next : ℕ
  next = m.used.futures

  number : next_future m.used ≡ next
  number = (futures_in_order m.used room).0

  one_more : m'.used.futures ≡ suc next
  one_more = used ∙ (futures_in_order m.used room).1

  before : PendingFutures m g s i
  before = h.each i p.small

  old_future : (f : ℕ) → f < next → future_at m' f ≡ future_at m f
  old_future f lt =
      ap (λ (l : List Future). get_or l (f % 512) no_future) futures
      ∙ get_or-set_other m.futures (next_future m.used) (f % 512) x no_future (λ e. omega (arith, number))

  new_future : (f : ℕ) → f ≡ next → future_at m' f ≡ x
  new_future f e =
      ap (λ (l : List Future). get_or l (f % 512) no_future) futures
      ∙ ap (λ (k : ℕ). get_or (set m.futures (next_future m.used) x) k no_future) (let z : f % 512 ≡ next_future m.used = omega (arith, number) in z)
      ∙ get_or-set_same m.futures (next_future m.used) x no_future (omega (arith, number, holds.flags.futures))

  futures_are : (of s' i).futures ≡ (of s i).futures ++ (next ∷ [])
  futures_are = ap (λ (y : Remembered). y.futures) (remembered_here p) ∙ held ∙ ap (λ (f : ℕ). (of s i).futures ++ (f ∷ [])) number

  calls_are : (of s' i).calls ≡ (of s i).calls ++ (c ∷ [])
  calls_are = ap (λ (y : Remembered). y.calls) (remembered_here p) ∙ calls

  old_or_new : (j f : ℕ) → At (of s' i).futures j f → At (of s i).futures j f ⊎ ((j ≡ length (of s i).futures) × (f ≡ next))
  old_or_new j f q = there_or_at_the_end (of s i).futures next j (subst (λ (l : List ℕ). At l j f) futures_are q)

  -- as many places are taken as there are pending calls
  taken : (row_at m i).count ≡ length (of s i).futures
  taken = (holds.ok.knows i p.small).tallied.count ∙ sym (ap length before.calls) ∙ sym before.many

  place_of : (j : ℕ) → get_or (row_at m' i).pending j 0 ≡ get_or (set (row_at m i).pending ((row_at m i).count % 32) next) j 0
  place_of j =
      ap (λ (y : Row). get_or y.pending j 0) (row_here p) ∙ ap (λ (l : List ℕ). get_or l j 0) (places ∙ ap (set (row_at m i).pending ((row_at m i).count % 32)) number)

  old_held : (j f : ℕ) → At (of s i).futures j f → Held m' i j f
  old_held j f q =
      let w = before.held j f q in
      let same = old_future f w.own.handed_out in
      record {
        place = place_of j ∙ get_or-set_other (row_at m i).pending ((row_at m i).count % 32) j next 0 (λ e. omega (arith, within (of s i).futures j q, taken)) ∙ w.place;
        own = record { handed_out = omega (arith, w.own.handed_out, one_more); owner = ap (λ (y : Future). y.owner) same ∙ w.own.owner };
        waits = ap (λ (y : Future). y.outcome) same ∙ w.waits;
      }

  new_held : (j f : ℕ) → j ≡ length (of s i).futures → f ≡ next → Held m' i j f
  new_held j f e is = record {
    place =
        place_of j
        ∙ ap (λ (k : ℕ). get_or (set (row_at m i).pending ((row_at m i).count % 32) next) k 0) (let z : j ≡ (row_at m i).count % 32 = omega (arith, taken) in z)
        ∙ get_or-set_same (row_at m i).pending ((row_at m i).count % 32) next 0 (omega (arith, (holds.flags.each i p.small).places))
        ∙ sym is;
    own = record { handed_out = omega (arith, one_more); owner = ap (λ (y : Future). y.owner) (new_future f is) ∙ owner };
    waits = ap (λ (y : Future). y.outcome) (new_future f is) ∙ waits;
  }

  one_more_rises : (j k e f : ℕ) → At (of s' i).futures j e → At (of s' i).futures k f → j < k → e < f
  one_more_rises j k e f a b lt =
      ⊎_elim {C = e < f}
      (λ v. ⊎_elim {C = e < f} (λ w. before.rising j k e f v w lt) (λ w. omega (arith, (before.held j e v).own.handed_out, w.1)) (old_or_new k f b))
      (λ v. absurd (omega (arith, v.0, within (of s' i).futures k b, ap length futures_are, length-one_more (of s i).futures next)))
      (old_or_new j e a)

  one_more_pending : PendingFutures m' g' s' i
  one_more_pending = record {
    calls =
        calls_are ∙ ap (λ (l : List (Call ℕ)). l ++ (c ∷ [])) before.calls
        ∙ sym (ap (λ (l : List (List (Call ℕ))). get_or l i []) pending ∙ get_or-set_same g.pending i _ [] (omega (arith, holds.ok.pendings, p.small)));
    many =
        ap length futures_are ∙ length-one_more (of s i).futures next ∙ ap suc before.many
        ∙ sym (ap length calls_are ∙ length-one_more (of s i).calls c);
    held = λ j f q. ⊎_elim {C = Held m' i j f} (old_held j f) (λ w. new_held j f w.0 w.1) (old_or_new j f q);
    rising = one_more_rises;
  }

  -- a future handed out now was so before, or is the new one
  handed_out : (f : ℕ) → f < m'.used.futures → (f < next) ⊎ (f ≡ next)
  handed_out f lt = elim (dec_lt f next) [ yes l ↦ inl l | no ge ↦ inr (omega (arith, one_more)) ]

  waiting_now : (f : ℕ) → OwnFuture m' i f → (future_at m' f).outcome ≡ None → In (of s' i).futures f
  waiting_now f own e =
      subst (λ (l : List ℕ). In l f) (sym futures_are)
      (⊎_elim {C = In ((of s i).futures ++ (next ∷ [])) f}
      (λ lt.
      let same = old_future f lt in
      let was = h.waiting f lt (sym (ap (λ (y : Future). y.outcome) same) ∙ e) in
      let w = subst (λ (u : ℕ). In (of s u).futures f) (sym (ap (λ (y : Future). y.owner) same) ∙ own.owner) was.1 in
      (w.0, stays (of s i).futures (next ∷ []) w.0 w.1))
      (λ is. (length (of s i).futures, at_the_end (of s i).futures next ∙ ap some (sym is)))
      (handed_out f own.handed_out))

  pub deferred_left : FuturesLeft m g s i m' g' s'
  deferred_left = record {
    more = omega (arith, one_more);
    owners = λ f lt. ap (λ (y : Future). y.owner) (old_future f lt);
    kept = λ f lt w. old_future f lt;
    new = λ f lt ne. ⊎_elim {C = f < next} (λ l. l) (λ e. absurd (ne (ap (λ (y : Future). y.owner) (new_future f e) ∙ owner))) (handed_out f lt);
    others = λ u ne. ap (λ (l : List (List (Call ℕ))). get_or l u []) pending ∙ get_or-set_other g.pending i u _ [] ne;
    mine = one_more_pending;
    waiting = waiting_now;
    results = λ f o lt e. ⊎_elim
        (λ l. inl (l, sym (ap (λ (y : Future). y.outcome) (old_future f l)) ∙ e))
        (λ is. absurd (result_waits_not o (sym e ∙ ap (λ (y : Future). y.outcome) (new_future f is) ∙ waits)))
        (handed_out f lt);
  }
