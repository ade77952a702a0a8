-- Running an announcement, a1 to a8, by its owner or a helper: a3 is the link step of its batch, a5 moves the tail over the batch, a7 puts the
-- head to the node that the walk has reached.
use Rattle.std.specs.Prelude.{None, Some}
use Prim.Native.Nat.{ℕ, suc, ◌+◌, ◌≤◌}
use mathlib.Core.Path.{◌≡◌, refl, sym, ap, ◌∙◌, subst}
use mathlib.Core.Bool.{Bool, true, false}
use mathlib.Core.List.{List, [], ◌∷◌, ◌++◌}
use mathlib.Core.Option.{none, some}
use mathlib.Core.Logic.{⊎_elim}
use native.Mathlib.Omega.{arith}
use lib.Dec.{eqb}
use borrow.Author.Tests.{eqb-true, eqb-false}
use Rattle.chain.specs.Positions.{At, In}
use Rattle.chain.proofs.Positions.{none_is_not_some, some_injective, within, stays, at_the_end, at_is_get_or}
use Rattle.chain.proofs.Following.{none_is_the_last}
use Rattle.refusal.proofs.Tests.{either_way}
use Rattle.cells.specs.declared.Tail.{Tail}
use Rattle.cells.specs.declared.Front.{Front}
use Rattle.cells.specs.declared.Head.TheVariants.{Plain, Announced}
use Rattle.cells.specs.Links.{Link}
use Rattle.found.specs.declared.Found.{Found}
use Rattle.found.specs.declared.Found.TheVariants as found
use Rattle.cells.specs.Ends.{past_tail, past_front, same_tail, same_head}
use Rattle.memory.specs.Memory.{link_at, announcement_at, reads, link_cas, tail_cas, head_cas, perform}
use Rattle.found.specs.Found.{link_in}
use Rattle.place.specs.declared.Resume.{Resume}
use Rattle.place.specs.declared.Resume.TheVariants as resume
use Rattle.place.specs.declared.RunStep.{RunStep}
use Rattle.place.specs.declared.RunStep.TheVariants.{A1, A2, A3, A4, A5, A6, A7, A8}
use Rattle.running.specs.Running.{run_access, run_after, after_a2, after_a3, after_a6, walk_to, back, running_at}
use Rattle.row.specs.declared.Row.{Row}
use Rattle.order.specs.Links.{if_none}
use Rattle.order.proofs.Ghost.{Ghost, joins, batch_of, no_batch, run_ghost}
use Rattle.order.proofs.Shared.{Shared, next, led, linked, with_links, with_head, tail_if}
use Rattle.order.proofs.Invariant.{Linked, NotLinked, FrontAt, Asks, Inv}
use Rattle.order.proofs.Knows.{Past, request_of, KnowsResume, KnowsRun}
use Rattle.order.proofs.Grows.{Grows, Spares, resume_stays}
use Rattle.order.proofs.SameEnds.{one_announced}
use Rattle.order.proofs.TailMoves.{tail_cas_spares, one_further_grows, past_batch, over_batch_inv, over_batch_grows, past_batch_lem}
use Rattle.order.proofs.HeadMoves.{head_grows, head_spares, head_freed_inv, set_old_tail_inv, set_old_tail_grows, set_old_tail_spares, old_tail_is_set}
use Rattle.order.proofs.LinkSteps.{Joins, tail_there, all_ends, join_inv, join_grows, join_spares}
use Rattle.order.proofs.EnqueueSteps.{found_behind}
use Rattle.order.proofs.DequeueSteps.{front_past}
use Rattle.order.proofs.RunReads.{after_a1, after_a2_lem, the_batch, not_linked_yet, found_first, found_another, after_a6_lem, after_a5}
use Rattle.order.proofs.Fine.{Fine, memory_in, KnowsAfter, reads_only, tail_by_one}

module _ (s : Shared) (g : Ghost) (i : Inv s g) (t : ℕ) (r : Row) (a : ℕ) (k : Resume) (there : In g.installed a) (resumes : KnowsResume s g t a r k) where
  runs_on : (y : Found) (x : RunStep) → KnowsRun s g a x → Fine s g t r (reads (memory_in s) y) g (running_at a k x)
  runs_on y x h = reads_only s g i t r y (running_at a k x) (there, resumes, h)

  pub own_batch : At g.batches a (batch_of g a)
  own_batch = let b = the_batch s g i t r a there in b.1 ∙ ap some (sym (at_is_get_or g.batches a b.0 no_batch b.1))

  pub asks : Asks (announcement_at s.announcements a) (batch_of g a)
  asks = i.batches.asks a (batch_of g a) own_batch

  -- a3 is taken: the batch is not linked yet, so the announcement is in the head
  module _ (l : Tail) (h : KnowsRun s g a (A3 l)) (free : next s.links l.node ≡ none) where
    pub not_yet : NotLinked g a
    not_yet = not_linked_yet s g i t r a there l h free

    pub in_head : s.head ≡ Announced a
    in_head = ⊎_elim (λ w. absurd (not_yet (suc w.0) w.1)) (λ w. w) (i.head.linked_or_there a there)

    pub old_head_before_lem : (request_of s a).old_head.count.0 ≤ l.count.0
    old_head_before_lem =
        let x = within g.chain _ (i.head.old_head_at a there) in
        let y = none_is_the_last i.chain.chain l.count.0 l.node h.0.is free in
        omega arith

    pub batch_joins : Joins s g (batch_of g a).nodes (request_of s a).first (some a) l
    batch_joins = record {
      beside = i.batches.beside a (batch_of g a) there not_yet own_batch;
      in_use = λ j n p. i.batches.in_use a j n (batch_of g a) own_batch p;
      first_is = asks.first_is;
      one_node = λ e. absurd (none_is_not_some e refl);
      not_yet_lem = λ c w. subst (NotLinked g) (some_injective w) not_yet;
      asked = λ c w. (batch_of g a, refl, subst (λ (y : ℕ). Asks (announcement_at s.announcements y) (batch_of g a)) (some_injective w) asks);
      old_head_before = λ c w. subst (λ (y : ℕ). (request_of s y).old_head.count.0 ≤ l.count.0) (some_injective w) old_head_before_lem;
      there = λ c w. in_head ∙ ap Announced (some_injective w);
      installed = λ c w. subst (In g.installed) (some_injective w) there;
      others = λ c b x f w q n y z. absurd (⊎_elim (λ v. f (suc v.0) v.1) (λ v. w (ap some (one_announced in_head v))) (i.head.linked_or_there c x));
    }

    abbrev nodes : List ℕ
    nodes = (batch_of g a).nodes

    a3_grows : Grows s g (with_links s (linked s.links l.node (Some (request_of s a).first))) (joins g l nodes (some a))
    a3_grows = join_grows s g i nodes (request_of s a).first (some a) l h.0 free batch_joins

    a3_spares : (u : ℕ) → Spares s g (with_links s (linked s.links l.node (Some (request_of s a).first))) (joins g l nodes (some a)) u
    a3_spares u = join_spares s g i nodes (request_of s a).first (some a) l h.0 free batch_joins u (λ n m p. m.not_in_batch a (batch_of g a) there own_batch p)

    pub now_linked : Linked (joins g l nodes (some a)) a l.count.0
    now_linked =
        let f = (request_of s a).first in
        record {
          step = i.tail.step;
          is = subst (λ (j : ℕ). At (g.by ++ (some a ∷ [])) j (some a)) (i.ends.same_length ∙ all_ends s g i nodes f (some a) l h.0 free batch_joins) (at_the_end g.by (some a));
          from = stays g.ends _ _ (subst (At g.ends i.tail.step) (tail_there s g i nodes f (some a) l h.0 free batch_joins) i.tail.tail_ends);
        }

  at_a3 : (l : Tail) → KnowsRun s g a (A3 l) → (v : Link) → link_at s.links l.node ≡ v
      → Fine s g t r (link_cas (memory_in s) l.node (request_of s a).first v) (if_none v (joins g l (batch_of g a).nodes (some a)) g)
      (running_at a k (after_a3 l (link_in (link_cas (memory_in s) l.node (request_of s a).first v).found) (request_of s a).first))
  at_a3 l h None e = record {
    inv = join_inv s g i (batch_of g a).nodes (request_of s a).first (some a) l h.0 (ap led e) (batch_joins l h (ap led e));
    grows = a3_grows l h (ap led e);
    spares = λ u ne. a3_spares l h (ap led e) u;
    knows = (
      there,
      resume_stays (a3_grows l h (ap led e)) (a3_spares l h (ap led e) t) a r k there resumes,
      (now_linked l h (ap led e), stays g.chain (batch_of g a).nodes _ h.0.is),
    );
  }
  at_a3 l h (Some x) e =
      either_way (λ (y : RunStep). Fine s g t r (reads (memory_in s) (found.Link (Some x))) g (running_at a k y)) (eqb x (request_of s a).first)
      (λ q. runs_on (found.Link (Some x)) (A4 l) (found_first s g i t r a there l x behind (eqb-true x _ q), h.0.is))
      (λ q. runs_on (found.Link (Some x)) (A8 l x) (h.0, behind, found_another s g i t r a there l x h behind (eqb-false x _ q)))
    where
      behind : At g.chain (suc l.count.0) x
      behind = found_behind s g i t r l.count.0 l.node x h.0.is e

  -- a5 goes over the whole batch
  at_a5 : (o : Tail) → (announcement_at s.announcements a).old_tail ≡ Some o → (b : Bool) → same_tail s.tail o ≡ b
      → Fine s g t r (tail_cas (memory_in s) (past_batch s a o) b) g (running_at a k (walk_to (request_of s a) o))
  at_a5 o h true e = record {
    inv = over_batch_inv i a o there h true e;
    grows = over_batch_grows i a o there h true e;
    spares = λ u ne. tail_cas_spares s g (past_batch s a o) true u;
    knows = (
      there,
      resume_stays (over_batch_grows i a o there h true e) (tail_cas_spares s g (past_batch s a o) true t) a r k there resumes,
      after_a5 (tail_if true s (past_batch s a o)) g (over_batch_inv i a o there h true e) t r a there (past_batch_lem i a o there h true e),
    );
  }
  at_a5 o h false e = runs_on (found.Taken false) (walk_to (request_of s a) o) (after_a5 s g i t r a there (past_batch_lem i a o there h false e))

  -- back to the call that met the announcement; the own one ends the call
  goes_back : (s' : Shared) (p : Past s' g a) (x : Resume) → KnowsResume s' g t a r x → KnowsAfter s' g t r (back (request_of s' a) x)
  goes_back s' p (resume.Enqueue n) h = h
  goes_back s' p resume.Dequeue h = (tt, h)
  goes_back s' p (resume.Batch b) h = h
  goes_back s' p resume.Dequeues h = (tt, h)
  goes_back s' p resume.Own h = record { announcement = a; installed = there; own = h; past = p; from_is = refl }

  at_a7 : (rise x : ℕ) → KnowsRun s g a (A7 rise x) → (b : Bool) → same_head s.head (Announced a) ≡ b
      → Fine s g t r (head_cas (memory_in s) (Plain (past_front (request_of s a).old_head x rise)) b) g (back (request_of s a) k)
  at_a7 rise x h b e = go b e
    where
      to : Front
      to = past_front (request_of s a).old_head x rise

      is : FrontAt g to
      is = front_past s g i t r (request_of s a).old_head x rise
          (subst (λ (n : ℕ). At g.chain ((request_of s a).old_head.count.0 + n) x) (sym h.2) h.1)

      go : (b : Bool) → same_head s.head (Announced a) ≡ b → Fine s g t r (head_cas (memory_in s) (Plain to) b) g (back (request_of s a) k)
      go true e = record {
        inv = head_freed_inv i to is a true e h.0;
        grows = head_grows s g (Plain to);
        spares = λ u ne. head_spares s g (Plain to) u;
        knows =
            goes_back (with_head s (Plain to)) (record { old = h.0.old; is = h.0.is; past = h.0.past }) k
            (resume_stays (head_grows s g (Plain to)) (head_spares s g (Plain to) t) a r k there resumes);
      }
      go false e = reads_only s g i t r (found.Taken false) (back (request_of s a) k) (goes_back s h.0 k resumes)

  pub run_step : (x : RunStep) → KnowsRun s g a x
      → Fine s g t r (perform (memory_in s) (run_access a (request_of s a) x)) (run_ghost (memory_in s) g a x) (run_after a (request_of s a) k x (perform (memory_in s) (run_access a (request_of s a) x)).found)
  unfolding perform run_access run_after
  run_step A1 h = runs_on (found.Tail s.tail) (A2 s.tail) (after_a1 s g i t r a there)
  run_step (A2 l) h =
      let o = (announcement_at s.announcements a).old_tail in
      runs_on (found.OldTail o) (after_a2 l o) (after_a2_lem s g i t r a there l h o refl)
  run_step (A3 l) h = at_a3 l h (link_at s.links l.node) refl
  run_step (A4 l) h = record {
    inv = set_old_tail_inv i a l there h.0 h.1;
    grows = set_old_tail_grows i a l there h.0 h.1;
    spares = λ u ne. set_old_tail_spares i a l there h.0 h.1 u;
    knows = (
      there,
      resume_stays (set_old_tail_grows i a l there h.0 h.1) (set_old_tail_spares i a l there h.0 h.1 t) a r k there resumes,
      old_tail_is_set i a l there h.0 h.1,
    );
  }
  run_step (A5 o) h = at_a5 o h (same_tail s.tail o) refl
  run_step (A6 rise x left) h =
      let v = link_at s.links x in
      runs_on (found.Link v) (after_a6 rise x left v) (after_a6_lem s g i t r a there rise x left h v refl)
  run_step (A7 rise x) h = at_a7 rise x h (same_head s.head (Announced a)) refl
  run_step (A8 l x) h =
      tail_by_one s g i t r l x h.1 h.2 (running_at a k A1)
      (λ b e. (there, resume_stays (one_further_grows i l x h.1 b e) (tail_cas_spares s g (past_tail l x 1) b t) a r k there resumes, tt))
      (same_tail s.tail l) refl
