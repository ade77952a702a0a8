-- What a thread knows of the order stays true while the others go on.
use Prim.Native.Nat.{ℕ, ◌<◌, ◌≤◌}
use mathlib.Core.Path.{◌≡◌, sym, ap, ◌∙◌, subst}
use mathlib.Core.List.{List, [], ◌∷◌, ◌++◌, append_assoc}
use mathlib.Core.Logic.{⊎_elim, inl, inr}
use native.Mathlib.Omega.{arith}
use lib.ListN.{length}
use Rattle.chain.specs.Positions.{At, In}
use Rattle.chain.proofs.Positions.{within, in_either}
use Rattle.tally.specs.Fifo.{Call, enqueue, ok}
use Rattle.tally.specs.Excess.{enqueued}
use Rattle.place.specs.declared.Place.{Place}
use Rattle.place.specs.declared.Place.TheVariants.{Idle, Enqueue, Dequeue, Batch, Dequeues, Running}
use Rattle.place.specs.declared.Resume.{Resume}
use Rattle.place.specs.declared.Resume.TheVariants as resume
use Rattle.place.specs.declared.EnqueueStep.{EnqueueStep}
use Rattle.place.specs.declared.EnqueueStep.TheVariants.{E1, E2, E3, E4, E5}
use Rattle.place.specs.declared.DequeueStep.{DequeueStep}
use Rattle.place.specs.declared.DequeueStep.TheVariants.{D1, D2, D3}
use Rattle.place.specs.declared.Walk.{Walk}
use Rattle.place.specs.declared.DequeuesStep.{DequeuesStep}
use Rattle.place.specs.declared.DequeuesStep.TheVariants.{Q1, Q2, Q3}
use Rattle.row.specs.declared.Row.{Row}
use Rattle.machine.specs.declared.Machine.{Machine}
use Rattle.order.specs.Order.{Called, Effect, Story, Remembered, of}
use Rattle.order.specs.PlainQueue.{ran}
use Rattle.order.proofs.Ghost.{Ghost}
use Rattle.order.proofs.Shared.{shared_of}
use Rattle.order.proofs.Invariant.{Inv}
use Rattle.order.proofs.Knows.{Single, Walks, KnowsResume, KnowsAt}
use Rattle.order.proofs.AbstractHead.{head_position}
use Rattle.order.proofs.PairingResults.{value_of}
use Rattle.order.proofs.Orderly.{Waits, SingleCall, WaitsSingle, Enqueued, BatchCall, Announces, WaitsDequeues, Window, KnowsQ3, KnowsOfEnqueue, KnowsOfDequeue, KnowsOfDequeues, KnowsOfResume, KnowsOf, Onward}

module _ (m : Machine) (g : Ghost) (s : Story) (i : Inv (shared_of m) g) (m' : Machine) (g' : Ghost) (s' : Story) (u : ℕ) (on : Onward m g s m' g' s' u) where
  same : {A : Type 0} (f : Remembered → A) → f (of s' u) ≡ f (of s u)
  same f = ap f on.remembered

  pub waits_stay : Waits s u → Waits s' u
  waits_stay h = record {
    thread = same (λ x. x.called.thread) ∙ h.thread;
    began = omega (arith, same (λ x. x.called.began), h.began, on.clock);
    not_in = subst (λ (c : Called). (j : ℕ) (x : Effect) → At s'.order j x → x.call.thread ≡ c.thread → x.call.began ≡ c.began → ⊥) (sym (same (λ x. x.called)))
        (on.not_in (of s u).called h.thread h.not_announced h.not_in);
    not_announced = λ a c p e q. h.not_announced a c (on.announced_own a c p e) e (q ∙ same (λ x. x.called.began));
  }

  pub single_stays : (c : Call ℕ) → SingleCall s u c → SingleCall s' u c
  single_stays c h = record { calls = same (λ x. x.called.calls) ∙ h.calls; futures = same (λ x. x.called.futures) ∙ h.futures; asked = same (λ x. x.called.asked) ∙ h.asked }

  pub waits_single_stay : (c : Call ℕ) → WaitsSingle s u c → WaitsSingle s' u c
  waits_single_stay c h = (waits_stay h.0, single_stays c h.1)

  pub enqueued_stays : Enqueued s u → Enqueued s' u
  enqueued_stays h = record {
    thread = same (λ x. x.called.thread) ∙ h.thread;
    futures = same (λ x. x.called.futures) ∙ h.futures;
    asked = same (λ x. x.called.asked) ∙ h.asked;
    not_announced = λ a c p e q. h.not_announced a c (on.announced_own a c p e) e (q ∙ same (λ x. x.called.began));
    place = h.place;
    early = omega (arith, h.early, on.clock);
    there = subst (λ (c : Called). In (ran s'.order []) (record { effect = record { call = c; place = h.place }; results = ok ∷ [] })) (sym (same (λ x. x.called))) (on.ran _ h.there);
  }

  pub batch_stays : (r : Row) → BatchCall s u r → BatchCall s' u r
  batch_stays r h = record {
    thread = same (λ x. x.called.thread) ∙ h.thread;
    calls = same (λ x. x.called.calls) ∙ h.calls ∙ sym (same (λ x. x.calls));
    futures = same (λ x. x.called.futures) ∙ h.futures ∙ sym (same (λ x. x.futures));
    asked = same (λ x. x.called.asked) ∙ h.asked;
    asks = subst (λ (l : List ℕ). In l r.future) (sym (same (λ x. x.futures))) h.asks;
  }

  pub announces_stays : (b : ℕ) (r : Row) → Announces s u b r → Announces s' u b r
  announces_stays b r h = (subst (At s'.announced b) (sym (same (λ x. x.called))) (on.announced b _ h.0), batch_stays r h.1)

  pub dequeues_stay : (r : Row) → WaitsDequeues s u r → WaitsDequeues s' u r
  dequeues_stay r h = (waits_stay h.0, batch_stays r h.1, ap enqueued (same (λ x. x.calls)) ∙ h.2)

  -- the head was seen at a position: it is there still, or further on
  pub seen_stays : (h : ℕ) → h ≤ head_position m g → h ≤ head_position m' g'
  seen_stays h le = omega (arith, on.front)

  -- if the head is still where the batch of dequeues saw it, it was there all the time, and there were items behind it
  window_stays : (w : Walk) → Walks g w → KnowsQ3 m g s u w → head_position m' g' ≡ w.front.count.0 → Window s' u w.front.count.0 w.taken
  window_stays w walks k here =
      let before : head_position m g ≡ w.front.count.0 = omega (arith, here, k.seen, on.front) in
      let o = k.window before in
      let f = on.only (here ∙ sym before) (omega (arith, before, within g.chain _ walks.1, k.found)) in
      record {
        old = o.old;
        new = o.new ++ f.0;
        order = f.1 ∙ ap (λ (l : List Effect). l ++ f.0) o.order ∙ append_assoc o.old o.new f.0;
        before = λ j x p. omega (arith, o.before j x p, same (λ x. x.last_read));
        since = λ j x p. ⊎_elim {C = (of s' u).last_read < x.place} (λ q. omega (arith, o.since j x q, same (λ x. x.last_read))) (λ q. omega (arith, f.3 q.0 x q.2, k.recent, same (λ x. x.last_read))) (in_either o.new f.0 j p);
        only = λ j x p. ⊎_elim (o.only j x) (λ q. f.2 q.0 x q.2) (in_either o.new f.0 j p);
        taken = o.taken;
        enough = o.enough;
        stop = ⊎_elim (λ e. inl (e ∙ sym (ap length (same (λ x. x.calls))))) inr o.stop;
      }

  q3_stays : (w : Walk) → Walks g w → KnowsQ3 m g s u w → KnowsQ3 m' g' s' u w
  q3_stays w walks k = record {
    seen = seen_stays _ k.seen;
    found = k.found;
    few = omega (arith, k.few, ap length (same (λ x. x.calls)));
    read = omega (arith, k.read, same (λ x. x.called.began), same (λ x. x.last_read));
    recent = omega (arith, k.recent, on.clock, same (λ x. x.last_read));
    window = window_stays w walks k;
  }

  -- the item of an own node
  item_stays : (t n : ℕ) → Single (shared_of m) g t n → enqueue (value_of m.items n) ≡ enqueue (value_of m'.items n)
  item_stays t n h = ap enqueue (sym (on.values n (omega (arith, within g.node_owners n h.mine.owner, i.chain.owned))))

  waits_enqueue_stays : (t n : ℕ) → Single (shared_of m) g t n → WaitsSingle s u (enqueue (value_of m.items n)) → WaitsSingle s' u (enqueue (value_of m'.items n))
  waits_enqueue_stays t n own h = subst (WaitsSingle s' u) (item_stays t n own) (waits_single_stay _ h)

  enqueue_stays : (n : ℕ) (r : Row) (x : EnqueueStep) → KnowsAt (shared_of m) g u r (Enqueue n x) → KnowsOfEnqueue m s u n x → KnowsOfEnqueue m' s' u n x
  enqueue_stays n r E1 k h = waits_enqueue_stays u n k.0 h
  enqueue_stays n r (E2 l) k h = waits_enqueue_stays u n k.0.0 h
  enqueue_stays n r (E3 l) k h = enqueued_stays h
  enqueue_stays n r (E4 l x) k h = waits_enqueue_stays u n k.0.0 h
  enqueue_stays n r (E5 l x) k h = waits_enqueue_stays u n k.0.0 h

  dequeue_stays : (x : DequeueStep) → KnowsOfDequeue m g s u x → KnowsOfDequeue m' g' s' u x
  dequeue_stays D1 h = waits_single_stay _ h
  dequeue_stays (D2 f) h = (waits_single_stay _ h.0, seen_stays _ h.1)
  dequeue_stays (D3 f x) h = (waits_single_stay _ h.0, seen_stays _ h.1)

  walk_stays : (r : Row) (x : DequeuesStep) → KnowsAt (shared_of m) g u r (Dequeues x) → KnowsOfDequeues m g s u r x → KnowsOfDequeues m' g' s' u r x
  walk_stays r Q1 k h = dequeues_stay r h
  walk_stays r (Q2 w) k h = (dequeues_stay r h.0, seen_stays _ h.1, omega (arith, h.2, ap length (same (λ x. x.calls))))
  walk_stays r (Q3 w) k h = (dequeues_stay r h.0, q3_stays w k.0 h.1)

  pub resume_stays : (a : ℕ) (r : Row) (x : Resume) (k : KnowsResume (shared_of m) g u a r x) → KnowsOfResume m s u a r x → KnowsOfResume m' s' u a r x
  resume_stays a r (resume.Enqueue n) k h = waits_enqueue_stays u n k.0 h
  resume_stays a r resume.Dequeue k h = waits_single_stay _ h
  resume_stays a r (resume.Batch b) k h = announces_stays b r h
  resume_stays a r resume.Dequeues k h = dequeues_stay r h
  resume_stays a r resume.Own k h = announces_stays a r h

  pub knows_of_stays : (r : Row) (p : Place) → KnowsAt (shared_of m) g u r p → KnowsOf m g s u r p → KnowsOf m' g' s' u r p
  knows_of_stays r Idle k h = tt
  knows_of_stays r (Enqueue n x) k h = enqueue_stays n r x k h
  knows_of_stays r (Dequeue x) k h = dequeue_stays x h
  knows_of_stays r (Batch b x) k h = announces_stays b r h
  knows_of_stays r (Dequeues x) k h = walk_stays r x k h
  knows_of_stays r (Running a x y) k h = resume_stays a r y k.1 h
