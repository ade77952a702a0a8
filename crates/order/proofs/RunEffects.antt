-- Batch with an enqueue: it takes effect when a3 is taken, by whichever thread, on what its announcement found between the old head and the tail; from
-- then on the abstract head is the one that a7 will set. b2 and a7 change the head and leave the abstract head where it is.
use Rattle.std.specs.Prelude.{None, Some}
use Prim.Native.Nat.{ℕ, suc, ◌+◌, ◌-◌, ◌%◌, ◌≤◌}
use mathlib.Core.Path.{◌≡◌, refl, sym, ap, ap₂, ◌∙◌, subst}
use mathlib.Core.Bool.{Bool, true, false, cond}
use mathlib.Core.List.{List, [], ◌∷◌, ◌++◌, map}
use mathlib.Core.Option.{none, some}
use mathlib.Core.Logic.{◌⊎◌, inl, inr, ⊎_elim}
use native.Mathlib.Omega.{arith}
use lib.Dec.{eqb}
use lib.ListN.{length, get_or, take, drop, length-drop, length-map}
use lib.Seq.{get_or-set_same, take_all, drop_at}
use Rattle.refusal.proofs.Tests.{either_way}
use Rattle.chain.specs.Positions.{at, At, In}
use Rattle.chain.proofs.Positions.{some_injective, within, element, at_is_get_or}
use Rattle.tally.specs.Fifo.{results, successful}
use Rattle.tally.specs.Excess.{enqueued, enqueues}
use Rattle.tally.specs.Tally.{tally_of, successful_on}
use Rattle.tally.specs.declared.Tally.{Tally}
use Rattle.tally.proofs.Counts.{successful_is}
use Rattle.cells.specs.declared.Head.{Head}
use Rattle.cells.specs.declared.Head.TheVariants.{Plain, Announced}
use Rattle.cells.specs.declared.Front.{Front}
use Rattle.cells.specs.declared.Tail.{Tail}
use Rattle.cells.specs.Links.{Link}
use Rattle.cells.specs.declared.Announcement.{Announcement}
use Rattle.cells.specs.Ends.{past_front, past_tail, same_head, same_tail}
use Rattle.memory.specs.Memory.{Memory, link_at, announcement_at, no_announcement, with_head, with_link, with_announcement, laid_over, link_cas, head_cas, perform}
use Rattle.found.specs.Found.{link_in, taken_in}
use Rattle.place.specs.declared.Resume.{Resume}
use Rattle.place.specs.declared.Resume.TheVariants as resume
use Rattle.place.specs.declared.BatchStep.{BatchStep}
use Rattle.place.specs.declared.BatchStep.TheVariants.{B1, B2}
use Rattle.place.specs.declared.RunStep.{RunStep}
use Rattle.place.specs.declared.RunStep.TheVariants.{A1, A2, A3, A4, A5, A6, A7, A8}
use Rattle.thread.specs.Batch.{batch_access, batch_after, after_b1, after_b2}
use Rattle.running.specs.Running.{run_access, run_after, running_at, after_a2, after_a3, after_a6, walk_to, back}
use Rattle.row.specs.declared.Row.{Row}
use Rattle.machine.specs.declared.Machine.{Machine}
use Rattle.machine.specs.State.{memory_of, with_memory}
use Rattle.order.specs.Links.{led, next, if_none}
use Rattle.order.specs.Promises.{request_in}
use Rattle.order.specs.Order.{Called, Effect, Story, no_called, of, run_order}
use Rattle.order.specs.PlainQueue.{ran, leaves}
use Rattle.order.proofs.Ghost.{Ghost, batch_of, joins, installs, batch_ghost, run_ghost}
use Rattle.order.proofs.Shared.{shared_of, in_memory}
use Rattle.order.proofs.Invariant.{Inv, Linked, NotLinked}
use Rattle.order.proofs.Ends.{position_small, goes_up}
use Rattle.order.proofs.SameEnds.{same_head_is_plain, same_head_is_announced}
use Rattle.order.proofs.Grows.{Grows}
use Rattle.order.proofs.Knows.{KnowsBatch, NotAnnounced, KnowsResume, KnowsRun, goal_from}
use Rattle.order.proofs.LinkSteps.{at_last, old_or_new}
use Rattle.order.proofs.RunSteps.{own_batch, asks, not_yet, in_head, old_head_before_lem, batch_joins, now_linked}
use Rattle.order.proofs.AbstractHead.{head_position, position_of_plain, position_until_linked, position_once_linked}
use Rattle.order.proofs.PairingResults.{value_of}
use Rattle.order.proofs.Orderly.{items_of, found, RunOn, Announces, KnowsOfResume, Onward, queue_is}
use Rattle.order.proofs.OrderStays.{announces_stays, resume_stays}
use Rattle.order.proofs.OrderKept.{part_stays, run_stays}
use Rattle.order.proofs.Futured.{BatchInCall}
use Rattle.order.proofs.OrderFine.{step_story, KnowsOfAfter, OrderFine, of_own, of_other, quiet_step, quiet_own, quiet_leaves, Here, quietly, only_reads, moves_the_tail}
use Rattle.order.proofs.OrderEffects.{AtTheEnd, not_of_any, now_orderly, now_onward, now_takes_effect, last_ran, grown}

module _ (m : Machine) (g : Ghost) (s : Story) (i : ℕ) (r : Row) (here : Here m g s i) where
  abbrev read : ℕ
  read = (of s i).last_read

  -- b1
  b1_order : (b : ℕ) → Announces s i b r → (y : Head) → OrderFine m g s i r (with_memory m (memory_of m)) g (step_story s i s.order read) (after_b1 b y)
  b1_order b w (Plain f) = only_reads m g s i r here _ (λ on. announces_stays m g s here.inv _ g _ i on b r w)
  b1_order b w (Announced a) = only_reads m g s i r here _ (λ on. announces_stays m g s here.inv _ g _ i on b r w)

  -- b2, taken: the announcement's old head is the head that was there
  module _ (b : ℕ) (f : Front) (new : NotAnnounced (shared_of m) g i b) (w : Announces s i b r) where
    abbrev laid : Memory
    laid = with_announcement (memory_of m) b (laid_over (announcement_at m.announcements b) f)

    old_head_is : (announcement_at laid.announcements b).request.old_head ≡ f
    old_head_is = ap (λ (x : Announcement). x.request.old_head) (get_or-set_same m.announcements (b % 64) (laid_over (announcement_at m.announcements b) f) no_announcement (omega (arith, here.inv.batches.cells)))

    not_linked : NotLinked g b
    not_linked j p = new.mine.not_installed (here.inv.head.linked_installed b j p)

    same : (a p : ℕ) → Linked (installs g b) a p → Linked g a p
    same a p l = record { step = l.step; is = l.is; from = l.from }

    b2_order : (x : Bool) → same_head m.ends.head (Plain f) ≡ x
        → Inv (in_memory (shared_of m) (head_cas laid (Announced b) x).memory) (cond x (installs g b) g)
        → Grows (shared_of m) g (in_memory (shared_of m) (head_cas laid (Announced b) x).memory) (cond x (installs g b) g)
        → OrderFine m g s i r (with_memory m (head_cas laid (Announced b) x).memory) (cond x (installs g b) g) (step_story s i s.order read) (after_b2 b (taken_in (head_cas laid (Announced b) x).found))
    b2_order true e inv' grows =
        let m' = with_memory m (with_head laid (Announced b)) in
        let g' = installs g b in
        let stays : head_position m' g' ≡ head_position m g =
        position_until_linked m' g' inv' b refl not_linked ∙ ap (λ (x : Front). x.count.0) old_head_is ∙ sym (position_of_plain m g here.inv f (same_head_is_plain _ f e)) in
        quiet_step m g s here.inv here.orderly i here.room m' g' inv' grows refl refl refl same stays read r (after_b2 b true)
        (announces_stays m g s here.inv m' g' _ i (quiet_own m g s here.inv here.orderly i here.room m' g' inv' grows refl refl refl same stays read refl) b r w)
    b2_order false e inv' grows = quietly m g s i r here laid inv' grows refl (after_b2 b false) (λ on. announces_stays m g s here.inv _ g _ i on b r w)

  pub batch_order : (b : ℕ) (x : BatchStep) → KnowsBatch (shared_of m) g i b x → Announces s i b r
      → Inv (in_memory (shared_of m) (perform (memory_of m) (batch_access b x)).memory) (batch_ghost (memory_of m) g b x)
      → Grows (shared_of m) g (in_memory (shared_of m) (perform (memory_of m) (batch_access b x)).memory) (batch_ghost (memory_of m) g b x)
      → OrderFine m g s i r (with_memory m (perform (memory_of m) (batch_access b x)).memory) (batch_ghost (memory_of m) g b x) (step_story s i s.order read)
      (batch_after b x (perform (memory_of m) (batch_access b x)).found)
  unfolding perform batch_access batch_after
  batch_order b B1 k w inv' grows = b1_order b w m.ends.head
  batch_order b (B2 f) k w inv' grows = b2_order b f k.0 w (same_head m.ends.head (Plain f)) refl inv' grows

  -- a run of announcement a, for the call that it goes back to
  module _ (a : ℕ) (k : Resume) (there : In g.installed a) (resumes : KnowsResume (shared_of m) g i a r k) (w : KnowsOfResume m s i a r k)
      (going : (b : ℕ) (c : Called) → NotLinked g b → At s.announced b c → BatchInCall m s c) where
    stays_known : (m' : Machine) (g' : Ghost) (s' : Story) → Onward m g s m' g' s' i → KnowsOfResume m' s' i a r k
    stays_known m' g' s' on = resume_stays m g s here.inv m' g' s' i on a r k resumes w

    runs_on : (x : RunStep) → OrderFine m g s i r (with_memory m (memory_of m)) g (step_story s i s.order read) (running_at a k x)
    runs_on x = only_reads m g s i r here _ (stays_known _ g _)

    -- the announcement's call
    the_call : (c : Called) × At s.announced a c
    the_call = element s.announced a (omega (arith, here.orderly.announced.many, within g.batches a (own_batch (shared_of m) g here.inv i r a k there resumes)))

    abbrev c : Called
    c = get_or s.announced a no_called

    is_the_call : At s.announced a (get_or s.announced a no_called)
    is_the_call = the_call.1 ∙ ap some (sym (at_is_get_or s.announced a the_call.0 no_called the_call.1))

    -- a3, taken
    module _ (l : Tail) (knows : KnowsRun (shared_of m) g a (A3 l)) (free : next m.links l.node ≡ none)
        (inv' : Inv (in_memory (shared_of m) (with_link (memory_of m) l.node (Some (request_in m a).first))) (joins g l (batch_of g a).nodes (some a)))
        (grows : Grows (shared_of m) g (in_memory (shared_of m) (with_link (memory_of m) l.node (Some (request_in m a).first))) (joins g l (batch_of g a).nodes (some a))) where
      abbrev m' : Machine
      m' = with_memory m (with_link (memory_of m) l.node (Some (request_in m a).first))

      abbrev g' : Ghost
      g' = joins g l (batch_of g a).nodes (some a)

      abbrev order' : List Effect
      order' = s.order ++ (record { call = get_or s.announced a no_called; place = s.clock } ∷ [])

      abbrev s' : Story
      s' = step_story s i order' (of s i).last_read

      unlinked : NotLinked g a
      unlinked = not_yet (shared_of m) g here.inv i r a k there resumes l knows free

      in_the_head : m.ends.head ≡ Announced a
      in_the_head = in_head (shared_of m) g here.inv i r a k there resumes l knows free

      linked_now : Linked (joins g l (batch_of g a).nodes (some a)) a l.count.0
      linked_now = now_linked (shared_of m) g here.inv i r a k there resumes l knows free

      last_is_lem : length g.chain ≡ suc l.count.0
      last_is_lem = at_last (shared_of m) g here.inv (batch_of g a).nodes (request_in m a).first (some a) l knows.0 free (batch_joins (shared_of m) g here.inv i r a k there resumes l knows free)

      abbrev h : ℕ
      h = (request_in m a).old_head.count.0

      before : h ≤ l.count.0
      before = old_head_before_lem (shared_of m) g here.inv i r a k there resumes l knows free

      calls_are : (get_or s.announced a no_called).calls ≡ (batch_of g a).calls
      calls_are = here.orderly.announced.calls a (batch_of g a) (get_or s.announced a no_called) (own_batch (shared_of m) g here.inv i r a k there resumes) is_the_call

      nodes_are : map (value_of m.items) (batch_of g a).nodes ≡ enqueued (get_or s.announced a no_called).calls
      nodes_are = sym (here.orderly.announced.items a (batch_of g a) (own_batch (shared_of m) g here.inv i r a k there resumes)) ∙ ap enqueued (sym calls_are)

      was : head_position m g ≡ h
      was = position_until_linked m g here.inv a in_the_head unlinked

      -- the queue holds what is between the old head and the tail
      queue_then : leaves s.order [] ≡ drop (suc h) (items_of m g)
      queue_then = queue_is m g s here.orderly ∙ ap (λ (n : ℕ). drop (suc n) (items_of m g)) was

      many_then : length (drop (suc h) (items_of m g)) ≡ l.count.0 - h
      many_then = length-drop (suc h) (items_of m g) ∙ omega (arith, length-map g.chain (value_of m.items), last_is_lem)

      takes : successful (results (get_or s.announced a no_called).calls (leaves s.order [])) ≡ successful_on (request_in m a).tally (l.count.0 - h)
      takes =
          sym (successful_is (get_or s.announced a no_called).calls (leaves s.order []))
          ∙ ap₂ (λ (t : Tally) (n : ℕ). successful_on t n)
          (ap tally_of calls_are ∙ sym (asks (shared_of m) g here.inv i r a k there resumes).tally)
          (ap length queue_then ∙ many_then)

      moved : head_position m' g' ≡ head_position m g + successful (results (get_or s.announced a no_called).calls (leaves s.order []))
      moved = omega (arith, position_once_linked m' g' inv' a l.count.0 in_the_head linked_now, was, takes)

      at_the_end : AtTheEnd m g s m' g' (get_or s.announced a no_called) (batch_of g a).nodes
      at_the_end = record {
        effects = record { inv = here.inv; orderly = here.orderly; grows = grows; items = refl; batches = refl; fresh = here.orderly.unlinked a c unlinked is_the_call };
        chain = refl;
        enqueues = nodes_are;
        head = moved;
        began = omega (arith, here.orderly.announced.early a c is_the_call);
      }

      more_items : items_of m' g' ≡ items_of m g ++ enqueued (get_or s.announced a no_called).calls
      more_items = grown at_the_end

      items_long : length (items_of m g) ≡ suc l.count.0
      items_long = length-map g.chain (value_of m.items) ∙ last_is_lem

      found_is : found m' g' a l.count.0 ≡ leaves s.order []
      found_is =
          ap (λ (v : List ℕ). take (l.count.0 - h) (drop (suc h) v)) more_items
          ∙ part_stays (suc h) (l.count.0 - h) (items_of m g) (enqueued (get_or s.announced a no_called).calls) (omega (arith, items_long, before))
          ∙ take_all (l.count.0 - h) (drop (suc h) (items_of m g)) (omega (arith, many_then)) ∙ sym queue_then

      run_on : RunOn m' g' s' a l.count.0 (get_or s.announced a no_called)
      run_on = record {
        items = ap (λ (v : List ℕ). take (enqueues c.calls) (drop (suc l.count.0) v)) more_items ∙ ap (take (enqueues c.calls)) (drop_at (items_of m g) (enqueued c.calls) (suc l.count.0) items_long)
            ∙ take_all (enqueues c.calls) (enqueued c.calls) (omega arith);
        place = s.clock;
        early = omega arith;
        there = subst (λ (q : List ℕ). In (ran order' []) (record { effect = record { call = c; place = s.clock }; results = results c.calls q })) (sym found_is)
            (last_ran at_the_end);
      }

      -- no other batch is linked by it
      old_or_this : (b p : ℕ) (d : Called) → Linked g' b p → At s.announced b d → Linked g b p ⊎ RunOn m' g' s' b p d
      old_or_this b p d y q =
          ⊎_elim {C = Linked g b p ⊎ RunOn m' g' s' b p d} (λ z. inl (record { step = y.step; is = z.0; from = z.1 })) (λ z. inr (this (some_injective z.0) z.2))
          (old_or_new (shared_of m) g here.inv (batch_of g a).nodes (request_in m a).first (some a) l knows.0 free (batch_joins (shared_of m) g here.inv i r a k there resumes l knows free) (some b) y.step p y.is y.from)
        where
          this : a ≡ b → p ≡ l.count.0 → RunOn m' g' s' b p d
          this e f =
              let same : get_or s.announced a no_called ≡ d = some_injective (sym is_the_call ∙ ap (at s.announced) e ∙ q) in
              subst (λ (x : ℕ). RunOn m' g' s' x p d) e (subst (λ (x : ℕ). RunOn m' g' s' a x d) (sym f) (subst (RunOn m' g' s' a l.count.0) same run_on))

      own : of s' i ≡ of s i
      own = of_own s i order' (of s i).last_read here.room

      onward : (u : ℕ) → of s' u ≡ of s u → Onward m g s m' g' s' u
      onward u same = now_onward at_the_end i read u same (not_of_any s c a is_the_call u)

      a3_taken : OrderFine m g s i r m' g' s' (running_at a k (A4 l))
      a3_taken = record {
        orderly = now_orderly at_the_end i read old_or_this
            (λ b d n q t e. n (suc linked_now.step) (subst (λ (x : ℕ). At g'.by (suc linked_now.step) (some x)) (here.orderly.announced.apart a b c d is_the_call q t e) linked_now.is));
        onward = λ u ne. onward u (of_other s i order' read u ne);
        effect = inr (_, now_takes_effect at_the_end i read (going a c unlinked is_the_call).in_call (inr (going a c unlinked is_the_call).futures));
        knows = stays_known m' g' s' (onward i own);
      }

    a3_order : (l : Tail) → KnowsRun (shared_of m) g a (A3 l) → (v : Link) → link_at m.links l.node ≡ v
        → Inv (in_memory (shared_of m) (link_cas (memory_of m) l.node (request_in m a).first v).memory) (if_none v (joins g l (batch_of g a).nodes (some a)) g)
        → Grows (shared_of m) g (in_memory (shared_of m) (link_cas (memory_of m) l.node (request_in m a).first v).memory) (if_none v (joins g l (batch_of g a).nodes (some a)) g)
        → OrderFine m g s i r (with_memory m (link_cas (memory_of m) l.node (request_in m a).first v).memory) (if_none v (joins g l (batch_of g a).nodes (some a)) g)
        (step_story s i (if_none v (s.order ++ (record { call = get_or s.announced a no_called; place = s.clock } ∷ [])) s.order) read)
        (running_at a k (after_a3 l (link_in (link_cas (memory_of m) l.node (request_in m a).first v).found) (request_in m a).first))
    a3_order l knows None e inv' grows = a3_taken l knows (ap led e) inv' grows
    a3_order l knows (Some x) e inv' grows =
        either_way (λ (y : RunStep). OrderFine m g s i r (with_memory m (memory_of m)) g (step_story s i s.order read) (running_at a k y)) (eqb x (request_in m a).first) (λ q. runs_on (A4 l)) (λ q. runs_on (A8 l x))

    -- a7: back to the call, or the own one ends
    module _ (rise x : ℕ) (knows : KnowsRun (shared_of m) g a (A7 rise x)) where
      abbrev to : Front
      to = past_front (request_in m a).old_head x rise

      linked_at : Linked g a knows.0.old.count.0
      linked_at = (here.inv.linked.old_tails a knows.0.old knows.0.is there).0

      goal_is : head_position m g ≡ goal_from (request_in m a) knows.0.old.count.0 → (request_in m a).old_head.count.0 + rise ≡ head_position m g
      goal_is e = omega (arith, e, knows.2)

      module _ (y : Memory) (inv' : Inv (in_memory (shared_of m) y) g) (grows : Grows (shared_of m) g (in_memory (shared_of m) y) g) (position : head_position (with_memory m y) g ≡ head_position m g)
          (same : y.announcements ≡ m.announcements) where
        abbrev m'' : Machine
        m'' = with_memory m y

        on : Onward m g s m'' g (step_story s i s.order read) i
        on = quiet_own m g s here.inv here.orderly i here.room m'' g inv' grows refl refl refl (λ b p z. z) position read refl

        goes_back : (z : Resume) → KnowsResume (shared_of m) g i a r z → KnowsOfResume m s i a r z → KnowsOfResume m'' (step_story s i s.order read) i a r z → KnowsOfAfter m'' g s (step_story s i s.order read) i r (back (request_in m a) z)
        goes_back (resume.Enqueue n) own now then = then
        goes_back resume.Dequeue own now then = then
        goes_back (resume.Batch b) own now then = then
        goes_back resume.Dequeues own now then = then
        goes_back resume.Own own now then = record {
          announcement = a;
          call = now;
          position = knows.0.old.count.0;
          linked = linked_at;
          run = run_stays m g s here.inv here.orderly m'' g (step_story s i s.order read)
              (quiet_leaves m g s here.inv here.orderly i here.room m'' g inv' grows refl refl refl (λ b p z. z) position read)
              a knows.0.old.count.0 linked_at (of s i).called now.0 (here.orderly.linked a knows.0.old.count.0 (of s i).called linked_at now.0);
          from_is = ap (λ (l : List Announcement). (announcement_at l a).request.old_head.node) (sym same);
          first = ap (λ (l : List Announcement). (announcement_at l a).request.first) same ∙ own.first;
          last = ap (λ (l : List Announcement). (announcement_at l a).request.last) same ∙ own.last;
        }

        a7_as : OrderFine m g s i r m'' g (step_story s i s.order read) (back (request_in m a) k)
        a7_as = quiet_step m g s here.inv here.orderly i here.room m'' g inv' grows refl refl refl (λ b p z. z) position read r (back (request_in m a) k) (goes_back k resumes w (stays_known m'' g _ on))

      a7_order : (b : Bool) → same_head m.ends.head (Announced a) ≡ b
          → Inv (in_memory (shared_of m) (head_cas (memory_of m) (Plain to) b).memory) g → Grows (shared_of m) g (in_memory (shared_of m) (head_cas (memory_of m) (Plain to) b).memory) g
          → OrderFine m g s i r (with_memory m (head_cas (memory_of m) (Plain to) b).memory) g (step_story s i s.order read) (back (request_in m a) k)
      a7_order true e inv' grows =
          let y = with_head (memory_of m) (Plain to) in
          let before = position_once_linked m g here.inv a knows.0.old.count.0 (same_head_is_announced _ a e) linked_at in
          let small = position_small (shared_of m) g here.inv _ _ knows.1 in
          a7_as y inv' grows (position_of_plain (with_memory m y) g inv' to refl ∙ goes_up (shared_of m) g here.inv (request_in m a).old_head.count.0 rise (omega (arith, small, knows.2)) ∙ goal_is before) refl
      a7_order false e inv' grows = a7_as (memory_of m) inv' grows refl refl

    pub run_order_lem : (x : RunStep) → KnowsRun (shared_of m) g a x
        → Inv (in_memory (shared_of m) (perform (memory_of m) (run_access a (request_in m a) x)).memory) (run_ghost (memory_of m) g a x)
        → Grows (shared_of m) g (in_memory (shared_of m) (perform (memory_of m) (run_access a (request_in m a) x)).memory) (run_ghost (memory_of m) g a x)
        → OrderFine m g s i r (with_memory m (perform (memory_of m) (run_access a (request_in m a) x)).memory) (run_ghost (memory_of m) g a x) (step_story s i (run_order (memory_of m) s a x) read)
        (run_after a (request_in m a) k x (perform (memory_of m) (run_access a (request_in m a) x)).found)
    unfolding perform run_access run_after
    run_order_lem A1 q inv' grows = runs_on (A2 m.ends.tail)
    run_order_lem (A2 l) q inv' grows = runs_on (after_a2 l (announcement_at m.announcements a).old_tail)
    run_order_lem (A3 l) q inv' grows = a3_order l q (link_at m.links l.node) refl inv' grows
    run_order_lem (A4 l) q inv' grows = quietly m g s i r here _ inv' grows refl (running_at a k (A5 l)) (stays_known _ g _)
    run_order_lem (A5 o) q inv' grows = moves_the_tail m g s i r here _ (same_tail m.ends.tail o) (running_at a k (walk_to (request_in m a) o)) inv' grows (stays_known _ g _)
    run_order_lem (A6 rise x left) q inv' grows = runs_on (after_a6 rise x left (link_at m.links x))
    run_order_lem (A7 rise x) q inv' grows = a7_order rise x q (same_head m.ends.head (Announced a)) refl inv' grows
    run_order_lem (A8 l x) q inv' grows = moves_the_tail m g s i r here (past_tail l x 1) (same_tail m.ends.tail l) (running_at a k A1) inv' grows (stays_known _ g _)
