-- What one thread does keeps what holds of futures and results. Only its own row changes, and what is remembered of it; only the futures of its
-- own pending calls change, or one more is handed out to it. So the pending calls of the others wait as before, and the calls that the others
-- are in go on; a future that is done stays so, and its result still stands, for those that took effect are run as before.
use Prim.Native.Nat.{ℕ, ◌%◌, ◌<◌, ◌≤◌}
use mathlib.Core.Path.{◌≡◌, sym, ap, ◌∙◌, subst}
use mathlib.Core.List.{List, []}
use mathlib.Core.Logic.{◌⊎◌, inl, inr, ⊎_elim, ◌≢◌}
use native.Mathlib.Omega.{arith}
use native.Mathlib.Decide.{ℕ_discrete}
use lib.ListN.{length, get_or, set, length-set}
use lib.Seq.{get_or-set_same, get_or-set_other}
use Rattle.std.specs.Prelude.{None}
use Rattle.chain.specs.Positions.{At, In}
use Rattle.tally.specs.Fifo.{Call, Result}
use Rattle.place.specs.declared.Place.TheVariants.{Idle}
use Rattle.row.specs.declared.Row.{Row}
use Rattle.answer.specs.declared.Future.{Future}
use Rattle.machine.specs.declared.Machine.{Machine}
use Rattle.machine.specs.State.{row_at, no_future, future_at}
use Rattle.order.specs.Order.{Called, Effect, Given, Remembered, Story, of, nothing_remembered}
use Rattle.order.specs.PlainQueue.{Stands}
use Rattle.order.specs.Outcomes.{outcome_of}
use Rattle.order.proofs.RowPut.{put_here, put_elsewhere}
use Rattle.order.proofs.Events.{OwnFuture}
use Rattle.order.proofs.Ghost.{Ghost, pending_of}
use Rattle.order.proofs.Invariant.{NotLinked}
use Rattle.order.proofs.Futured.{Held, PendingFutures, BatchInCall, future_given, Futured, OrderAfter}
use Rattle.order.proofs.FuturesInOrder.{stands_on, run_as_before, once_each_after, owned_after}

-- thread i's row is put back, and what is remembered of it
pub record Puts (m : Machine) (s : Story) (i : ℕ) (m' : Machine) (s' : Story) (row : Row) (r : Remembered) : Type 0 where
  pub small : i < 8
  pub rows : length m.rows ≡ 8
  pub threads : length s.threads ≡ 8
  pub put_row : m'.rows ≡ set m.rows i row
  pub put_thread : s'.threads ≡ set s.threads i r

module _ {m : Machine} {s : Story} {i : ℕ} {m' : Machine} {s' : Story} {row : Row} {r : Remembered} (p : Puts m s i m' s' row r) where
  pub row_here : row_at m' i ≡ row
  row_here = put_here m m' i row p.put_row p.rows p.small

  pub row_elsewhere : (u : ℕ) → u ≢ i → row_at m' u ≡ row_at m u
  row_elsewhere = put_elsewhere m m' i row p.put_row

  pub remembered_here : of s' i ≡ r
  remembered_here =
      ap (λ (l : List Remembered). get_or l i nothing_remembered) p.put_thread ∙ get_or-set_same s.threads i r nothing_remembered (omega (arith, p.threads, p.small))

  pub remembered_elsewhere : (u : ℕ) → u ≢ i → of s' u ≡ of s u
  remembered_elsewhere u ne =
      ap (λ (l : List Remembered). get_or l u nothing_remembered) p.put_thread ∙ get_or-set_other s.threads i u r nothing_remembered ne

  pub as_many_threads : length s'.threads ≡ 8
  as_many_threads = ap length p.put_thread ∙ length-set s.threads i r ∙ p.threads

  -- the call that the thread is in
  pub in_call_here : (c : Called) → c.thread ≡ i → c ≡ r.called → row.place ≢ Idle → c.futures ≡ r.futures → BatchInCall m' s' c
  in_call_here c e is busy futures = record {
    in_call = record {
      thread = omega (arith, p.small);
      is = is ∙ sym (ap (λ (x : Remembered). x.called) there);
      busy = λ q. busy (sym (ap (λ (x : Row). x.place) row_here) ∙ subst (λ (u : ℕ). (row_at m' u).place ≡ Idle) e q);
    };
    futures = futures ∙ sym (ap (λ (x : Remembered). x.futures) there);
  }
    where
      there : of s' c.thread ≡ r
      there = ap (of s') e ∙ remembered_here

-- what is left of the futures
pub record FuturesLeft (m : Machine) (g : Ghost) (s : Story) (i : ℕ) (m' : Machine) (g' : Ghost) (s' : Story) : Type 0 where
  -- those handed out before keep their owners, and stay as they are but for those that waited for thread i; a new one is thread i's
  pub more : m.used.futures ≤ m'.used.futures
  pub owners : (f : ℕ) → f < m.used.futures → (future_at m' f).owner ≡ (future_at m f).owner
  pub kept : (f : ℕ) → f < m.used.futures → ((future_at m f).owner ≢ i) ⊎ ((future_at m f).outcome ≢ None) → future_at m' f ≡ future_at m f
  pub new : (f : ℕ) → f < m'.used.futures → (future_at m' f).owner ≢ i → f < m.used.futures
  -- pending calls: those of the others, and thread i's
  pub others : (u : ℕ) → u ≢ i → pending_of g' u ≡ pending_of g u
  pub mine : PendingFutures m' g' s' i
  pub waiting : (f : ℕ) → OwnFuture m' i f → (future_at m' f).outcome ≡ None → In (of s' i).futures f
  -- one that is done was so before, or its result stands
  pub results : (f : ℕ) (r : Result ℕ) → f < m'.used.futures → (future_at m' f).outcome ≡ outcome_of r
      → ((f < m.used.futures) × ((future_at m f).outcome ≡ outcome_of r)) ⊎ Stands s'.order (future_given (future_at m' f).owner f r s'.clock)

-- what is left of the story, and of the batch that thread i is in: it goes on, or its futures are done and its announcement was linked
pub record StoryLeft (m : Machine) (g : Ghost) (s : Story) (i : ℕ) (m' : Machine) (g' : Ghost) (s' : Story) : Type 0 where
  pub later : s.clock ≤ s'.clock
  pub order : OrderAfter m s s'.order
  pub given : (j : ℕ) (x : Given) → At s'.given j x → At s.given j x ⊎ Stands s'.order x
  pub ended : (c : Called) → BatchInCall m s c → c.thread ≡ i → (a f : ℕ) → At c.futures a f → ((future_at m' f).outcome ≢ None) ⊎ BatchInCall m' s' c
  pub unlinked : (a : ℕ) → NotLinked g' a → NotLinked g a
  pub announced : (a : ℕ) (c : Called) → At s'.announced a c → At s.announced a c ⊎ BatchInCall m' s' c
  pub going : (a : ℕ) (c : Called) → NotLinked g' a → At s.announced a c → BatchInCall m s c → c.thread ≡ i → BatchInCall m' s' c

-- pending calls that stay, with futures that stay
module _ (m : Machine) (g : Ghost) (s : Story) (t : ℕ) (m' : Machine) (g' : Ghost) (s' : Story) where
  same_pending : PendingFutures m g s t → (of s' t).calls ≡ (of s t).calls → (of s' t).futures ≡ (of s t).futures → pending_of g' t ≡ pending_of g t
      → (row_at m' t).pending ≡ (row_at m t).pending → m.used.futures ≤ m'.used.futures → ((f : ℕ) → OwnFuture m t f → future_at m' f ≡ future_at m f)
      → PendingFutures m' g' s' t
  same_pending w calls futures pending places more kept = record {
    calls = calls ∙ w.calls ∙ sym pending;
    many = ap length futures ∙ w.many ∙ sym (ap length calls);
    held = λ j f q. held j f (w.held j f (before j f q));
    rising = λ j k e f a b. w.rising j k e f (before j e a) (before k f b);
  }
    where
      before : (j f : ℕ) → At (of s' t).futures j f → At (of s t).futures j f
      before j f q = subst (λ (l : List ℕ). At l j f) futures q

      held : (j f : ℕ) → Held m t j f → Held m' t j f
      held j f v = record {
        place = ap (λ (l : List ℕ). get_or l j 0) places ∙ v.place;
        own = record { handed_out = omega (arith, v.own.handed_out); owner = ap (λ (x : Future). x.owner) (kept f v.own) ∙ v.own.owner };
        waits = ap (λ (x : Future). x.outcome) (kept f v.own) ∙ v.waits;
      }

-- where nothing is deferred and nothing is paid, the futures are left as they were
module _ (m : Machine) (g : Ghost) (s : Story) (h : Futured m g s) (i : ℕ) (m' : Machine) (g' : Ghost) (s' : Story) (row : Row) (r : Remembered)
    (p : Puts m s i m' s' row r) where
  pub nothing_paid : row.pending ≡ (row_at m i).pending → r.calls ≡ (of s i).calls → r.futures ≡ (of s i).futures
      → m'.futures ≡ m.futures → m'.used.futures ≡ m.used.futures → g'.pending ≡ g.pending → FuturesLeft m g s i m' g' s'
  nothing_paid places calls held futures used pending = record {
    more = omega (arith, used);
    owners = λ f lt. ap (λ (x : Future). x.owner) (same f);
    kept = λ f lt w. same f;
    new = λ f lt ne. omega (arith, used);
    others = λ u ne. pending_same u;
    mine = same_pending m g s i m' g' s' (h.each i p.small) (ap (λ (x : Remembered). x.calls) (remembered_here p) ∙ calls) held_same
        (pending_same i) (ap (λ (x : Row). x.pending) (row_here p) ∙ places) (omega (arith, used)) (λ f w. same f);
    waiting = λ f own waits. subst (λ (l : List ℕ). In l f) (sym held_same) (waiting f own waits);
    results = λ f o lt e. inl (omega (arith, used), sym (ap (λ (x : Future). x.outcome) (same f)) ∙ e);
  }
    where
      same : (f : ℕ) → future_at m' f ≡ future_at m f
      same f = ap (λ (l : List Future). get_or l (f % 512) no_future) futures

      pending_same : (u : ℕ) → pending_of g' u ≡ pending_of g u
      pending_same u = ap (λ (l : List (List (Call ℕ))). get_or l u []) pending

      held_same : (of s' i).futures ≡ (of s i).futures
      held_same = ap (λ (x : Remembered). x.futures) (remembered_here p) ∙ held

      waiting : (f : ℕ) → OwnFuture m' i f → (future_at m' f).outcome ≡ None → In (of s i).futures f
      waiting f own waits =
          subst (λ (u : ℕ). In (of s u).futures f) (sym (ap (λ (x : Future). x.owner) (same f)) ∙ own.owner)
          (h.waiting f (omega (arith, own.handed_out, used)) (sym (ap (λ (x : Future). x.outcome) (same f)) ∙ waits)).1

-- a result still stands later
stands_later : {order : List Effect} (t f : ℕ) (r : Result ℕ) (now then : ℕ) → now ≤ then → Stands order (future_given t f r now) → Stands order (future_given t f r then)
stands_later t f r now then le h = record { row = h.row; there = h.there; thread = h.thread; call = h.call; before = omega (arith, h.before); result = h.result }

-- AFTER WHAT THREAD i DOES
module _ (m : Machine) (g : Ghost) (s : Story) (h : Futured m g s) (i : ℕ) (m' : Machine) (g' : Ghost) (s' : Story) (row : Row) (r : Remembered)
    (p : Puts m s i m' s' row r) (left : FuturesLeft m g s i m' g' s') (story : StoryLeft m g s i m' g' s') where
  still_own : (t f : ℕ) → OwnFuture m t f → OwnFuture m' t f
  still_own t f w = record { handed_out = omega (arith, w.handed_out, left.more); owner = left.owners f w.handed_out ∙ w.owner }

  still_done : (f : ℕ) → f < m.used.futures → (future_at m f).outcome ≢ None → (future_at m' f).outcome ≢ None
  still_done f lt done e = done (sym (ap (λ (x : Future). x.outcome) (left.kept f lt (inr done))) ∙ e)

  still_in_call : (c : Called) → BatchInCall m s c → c.thread ≢ i → BatchInCall m' s' c
  still_in_call c w ne = record {
    in_call = record {
      thread = w.in_call.thread;
      is = w.in_call.is ∙ sym (ap (λ (x : Remembered). x.called) (remembered_elsewhere p c.thread ne));
      busy = λ e. w.in_call.busy (sym (ap (λ (x : Row). x.place) (row_elsewhere p c.thread ne)) ∙ e);
    };
    futures = w.futures ∙ sym (ap (λ (x : Remembered). x.futures) (remembered_elsewhere p c.thread ne));
  }

  pending_elsewhere : (t : ℕ) → t < 8 → t ≢ i → PendingFutures m' g' s' t
  pending_elsewhere t lt ne =
      let same = remembered_elsewhere p t ne in
      same_pending m g s t m' g' s' (h.each t lt) (ap (λ (x : Remembered). x.calls) same) (ap (λ (x : Remembered). x.futures) same) (left.others t ne)
      (ap (λ (x : Row). x.pending) (row_elsewhere p t ne)) left.more (λ f w. left.kept f w.handed_out (inl (λ e. ne (sym w.owner ∙ e))))

  waiting_after : (f : ℕ) → f < m'.used.futures → (future_at m' f).outcome ≡ None → ((future_at m' f).owner < 8) × In (of s' (future_at m' f).owner).futures f
  waiting_after f lt waits =
      elim (ℕ_discrete (future_at m' f).owner i) [
        | yes e ↦ (omega (arith, p.small), subst (λ (u : ℕ). In (of s' u).futures f) (sym e) (left.waiting f (record { handed_out = lt; owner = e }) waits))
        | no ne ↦ elsewhere ne
      ]
    where
      elsewhere : (future_at m' f).owner ≢ i → ((future_at m' f).owner < 8) × In (of s' (future_at m' f).owner).futures f
      elsewhere ne =
          let old = left.new f lt ne in
          let own = left.owners f old in
          let other : (future_at m f).owner ≢ i = λ e. ne (own ∙ e) in
          let w = h.waiting f old (sym (ap (λ (x : Future). x.outcome) (left.kept f old (inl other))) ∙ waits) in
          subst (λ (u : ℕ). (u < 8) × In (of s' u).futures f) (sym own) (w.0, subst (λ (x : Remembered). In x.futures f) (sym (remembered_elsewhere p _ other)) w.1)

  done_after : (f : ℕ) (o : Result ℕ) → f < m'.used.futures → (future_at m' f).outcome ≡ outcome_of o → Stands s'.order (future_given (future_at m' f).owner f o s'.clock)
  done_after f o lt e =
      ⊎_elim {C = Stands s'.order (future_given (future_at m' f).owner f o s'.clock)}
      (λ w. subst (λ (u : ℕ). Stands s'.order (future_given u f o s'.clock)) (sym (left.owners f w.0))
      (stands_later _ f o s.clock s'.clock story.later (stands_on _ (run_as_before m g s h s'.order story.order) (h.done f o w.0 w.1))))
      (λ w. w)
      (left.results f o lt e)

  rows_after : (j a f : ℕ) (x : Effect) → At s'.order j x → At x.call.futures a f
      → OwnFuture m' x.call.thread f × (((future_at m' f).outcome ≢ None) ⊎ BatchInCall m' s' x.call)
  rows_after j a f x there q = (still_own x.call.thread f w.0, ⊎_elim (λ done. inl (still_done f w.0.handed_out done)) in_call_lem w.1)
    where
      w : OwnFuture m x.call.thread f × (((future_at m f).outcome ≢ None) ⊎ BatchInCall m s x.call)
      w = owned_after m g s h s'.order story.order j a f x there q

      in_call_lem : BatchInCall m s x.call → ((future_at m' f).outcome ≢ None) ⊎ BatchInCall m' s' x.call
      in_call_lem c = elim (ℕ_discrete x.call.thread i) [ yes e ↦ story.ended x.call c e a f q | no ne ↦ inr (still_in_call x.call c ne) ]

  going_after : (a : ℕ) (c : Called) → NotLinked g' a → At s'.announced a c → BatchInCall m' s' c
  going_after a c not there = ⊎_elim {C = BatchInCall m' s' c} old (λ w. w) (story.announced a c there)
    where
      old : At s.announced a c → BatchInCall m' s' c
      old q =
          let w = h.going a c (story.unlinked a not) q in
          elim (ℕ_discrete c.thread i) [ yes e ↦ story.going a c not q w e | no ne ↦ still_in_call c w ne ]

  pub still_futured : Futured m' g' s'
  still_futured = record {
    threads = as_many_threads p;
    each = λ t lt. elim (ℕ_discrete t i) [ yes e ↦ subst (PendingFutures m' g' s') (sym e) left.mine | no ne ↦ pending_elsewhere t lt ne ];
    waiting = waiting_after;
    done = done_after;
    given = λ j x q. ⊎_elim {C = Stands s'.order x} (λ w. stands_on x (run_as_before m g s h s'.order story.order) (h.given j x w)) (λ w. w) (story.given j x q);
    rows = rows_after;
    once_each = once_each_after m g s h s'.order story.order;
    going = going_after;
  }
