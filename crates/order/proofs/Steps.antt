-- Every step of every thread keeps the invariant of the machine and its ghost.
use Rattle.std.specs.Prelude.{None, Some}
use Prim.Native.Nat.{ℕ, ◌<◌, ◌≤◌}
use mathlib.Core.Path.{◌≡◌, refl, sym, ap, ◌∙◌, subst}
use mathlib.Core.List.{List, [], ◌∷◌}
use mathlib.Core.Option.{Option, none, some}
use mathlib.Core.Logic.{◌≢◌}
use native.Mathlib.Decide.{ℕ_discrete}
use lib.ListN.{length, get_or, set, length-set}
use Rattle.chain.specs.Positions.{at}
use Rattle.chain.proofs.Positions.{none_is_not_some}
use Rattle.tally.specs.Excess.{enqueued}
use Rattle.tally.specs.Tally.{tally_of}
use Rattle.tally.specs.declared.Tally.{Tally}
use Rattle.refusal.proofs.Tests.{either_way}
use Rattle.cells.specs.declared.Head.TheVariants.{Plain}
use Rattle.cells.specs.declared.Tail.{Tail}
use Rattle.cells.specs.Links.{Link}
use Rattle.cells.specs.declared.Request.{Request}
use Rattle.found.specs.declared.Found.TheVariants as found
use Rattle.cells.specs.Ends.{same_head}
use Rattle.memory.specs.Memory.{Memory, perform, link_at, no_announcement}
use Rattle.place.specs.declared.Place.{Place}
use Rattle.place.specs.declared.Place.TheVariants.{Idle, Enqueue, Dequeue, Batch, Dequeues, Running}
use Rattle.place.specs.declared.Resume.{Resume}
use Rattle.place.specs.declared.Resume.TheVariants as resume
use Rattle.place.specs.declared.After.TheVariants as afterwards
use Rattle.place.specs.declared.EnqueueStep.TheVariants.{E1, E2, E3, E4, E5}
use Rattle.place.specs.declared.BatchStep.TheVariants.{B1, B2}
use Rattle.place.specs.declared.RunStep.TheVariants.{A1, A2, A3, A4, A5, A6, A7, A8}
use Rattle.place.specs.Place.{announcement_run}
use Rattle.thread.specs.Calls.{access, after}
use Rattle.row.specs.declared.Row.{Row}
use Rattle.machine.specs.declared.Machine.{Machine}
use Rattle.machine.specs.State.{row_at}
use Rattle.order.specs.Links.{if_none}
use Rattle.order.proofs.RowPut.{put_here, put_elsewhere}
use Rattle.order.proofs.Ghost.{Ghost, batch_of, joins, installs, step_ghost}
use Rattle.order.proofs.Shared.{Shared, shared_of}
use Rattle.order.proofs.Invariant.{Inv}
use Rattle.order.proofs.Knows.{Pending, Tallied, Own, Alone, KnowsResume, KnowsAt, Knows}
use Rattle.order.proofs.Grows.{Grows, Spares, knows_stays}
use Rattle.order.proofs.Fine.{Fine, memory_in, reads_only}
use Rattle.order.proofs.EnqueueSteps.{enqueue_step}
use Rattle.order.proofs.DequeueSteps.{dequeue_step, dequeues_step}
use Rattle.order.proofs.BatchSteps.{batch_step}
use Rattle.order.proofs.RunSteps.{run_step}

-- the machine and its ghost: the shared invariant, what each thread knows, and the sizes
pub record Ok (m : Machine) (g : Ghost) : Type 0 where
  pub inv : Inv (shared_of m) g
  pub knows : (t : ℕ) → t < 8 → Knows (shared_of m) g t (row_at m t)
  pub rows : length m.rows ≡ 8
  pub pendings : length g.pending ≡ 8
  pub sized : m.nodes ≤ 512
  pub threads : m.threads ≤ 8

-- by its place
abbrev pub request : Shared → Place → Request
request s p = (get_or s.announcements (announcement_run p) no_announcement).request

module _ (s : Shared) (g : Ghost) (i : Inv s g) (t : ℕ) (r : Row) where
  pub place_step : (p : Place) → KnowsAt s g t r p
      → Fine s g t r (perform (memory_in s) (access p (request s p))) (step_ghost (memory_in s) g p)
      (after p (perform (memory_in s) (access p (request s p))).found (request s p) r.tally.dequeues)
  unfolding perform
  place_step Idle k = reads_only s g i t r (found.Head s.head) (afterwards.On Idle) k
  place_step (Enqueue n x) k = enqueue_step s g i t r n x k.0 k.1
  place_step (Dequeue x) k = dequeue_step s g i t r x k.0 k.1
  place_step (Batch b x) k = batch_step s g i t r b x k.0 k.1
  place_step (Dequeues x) k = dequeues_step s g i t r x k.0 k.1
  place_step (Running a x y) k = run_step s g i t r a y k.0 k.1 x k.2

-- what neither a link step nor an installed announcement changes, no step changes: the pending calls, and the batches
module _ {A : Type 0} (f : Ghost → A) (m : Memory) (g : Ghost) (joined : (l : Tail) (nodes : List ℕ) (who : Option ℕ) → f (joins g l nodes who) ≡ f g) (installed : (b : ℕ) → f (installs g b) ≡ f g) where
  if_taken : (v : Link) (l : Tail) (nodes : List ℕ) (who : Option ℕ) → f (if_none v (joins g l nodes who) g) ≡ f g
  if_taken None l nodes who = joined l nodes who
  if_taken (Some n) l nodes who = refl

  no_step_changes : (p : Place) → f (step_ghost m g p) ≡ f g
  no_step_changes Idle = refl
  no_step_changes (Enqueue n E1) = refl
  no_step_changes (Enqueue n (E2 l)) = if_taken (link_at m.links l.node) l (n ∷ []) none
  no_step_changes (Enqueue n (E3 l)) = refl
  no_step_changes (Enqueue n (E4 l x)) = refl
  no_step_changes (Enqueue n (E5 l x)) = refl
  no_step_changes (Dequeue x) = refl
  no_step_changes (Batch b B1) = refl
  no_step_changes (Batch b (B2 h)) = either_way (λ (x : Ghost). f x ≡ f g) (same_head m.ends.head (Plain h)) (λ e. installed b) (λ e. refl)
  no_step_changes (Dequeues x) = refl
  no_step_changes (Running a A1 k) = refl
  no_step_changes (Running a (A2 l) k) = refl
  no_step_changes (Running a (A3 l) k) = if_taken (link_at m.links l.node) l (batch_of g a).nodes (some a)
  no_step_changes (Running a (A4 l) k) = refl
  no_step_changes (Running a (A5 o) k) = refl
  no_step_changes (Running a (A6 s x left) k) = refl
  no_step_changes (Running a (A7 s x) k) = refl
  no_step_changes (Running a (A8 l x) k) = refl

pub pending_kept : (m : Memory) (g : Ghost) (p : Place) → (step_ghost m g p).pending ≡ g.pending
pending_kept m g p = no_step_changes (λ x. x.pending) m g (λ l nodes who. refl) (λ b. refl) p

pub batches_kept : (m : Memory) (g : Ghost) (p : Place) → (step_ghost m g p).batches ≡ g.batches
batches_kept m g p = no_step_changes (λ x. x.batches) m g (λ l nodes who. refl) (λ b. refl) p

-- a machine that differs in what is shared and in one thread's row
module _ (m : Machine) (g : Ghost) (ok : Ok m g) (i : ℕ) (lt : i < 8) where
  pub put_back : (m' : Machine) (g' : Ghost) (row : Row) → m'.rows ≡ set m.rows i row → m'.nodes ≡ m.nodes → m'.threads ≡ m.threads
      → length g'.pending ≡ length g.pending
      → Inv (shared_of m') g' → Grows (shared_of m) g (shared_of m') g' → ((u : ℕ) → u ≢ i → Spares (shared_of m) g (shared_of m') g' u)
      → Knows (shared_of m') g' i row → Ok m' g'
  put_back m' g' row rows nodes threads pendings inv grows spares knows = record {
    inv = inv;
    knows = λ u h. elim (ℕ_discrete u i) [ yes e ↦ own u e | no ne ↦ other u ne h ];
    rows = ap length rows ∙ length-set m.rows i row ∙ ok.rows;
    pendings = pendings ∙ ok.pendings;
    sized = subst (λ (n : ℕ). n ≤ 512) (sym nodes) ok.sized;
    threads = subst (λ (n : ℕ). n ≤ 8) (sym threads) ok.threads;
  }
    where
      own : (u : ℕ) → u ≡ i → Knows (shared_of m') g' u (row_at m' u)
      own u e =
          let here : row_at m' i ≡ row = put_here m m' i row rows ok.rows lt in
          subst (λ (v : ℕ). Knows (shared_of m') g' v (row_at m' v)) (sym e) (subst (Knows (shared_of m') g' i) (sym here) knows)

      other : (u : ℕ) → u ≢ i → u < 8 → Knows (shared_of m') g' u (row_at m' u)
      other u ne h =
          let there : row_at m' u ≡ row_at m u = put_elsewhere m m' i row rows u ne in
          subst (Knows (shared_of m') g' u) (sym there) (knows_stays grows (spares u ne) (row_at m u) (ok.knows u h))

  -- the same where what is shared is known as s'
  pub put_back_as : (m' : Machine) (g' : Ghost) (s' : Shared) → shared_of m' ≡ s' → (row : Row) → m'.rows ≡ set m.rows i row → m'.nodes ≡ m.nodes → m'.threads ≡ m.threads
      → length g'.pending ≡ length g.pending → Inv s' g' → Grows (shared_of m) g s' g' → ((u : ℕ) → u ≢ i → Spares (shared_of m) g s' g' u) → Knows s' g' i row → Ok m' g'
  put_back_as m' g' s' e row rows nodes threads pendings inv grows spares knows =
      put_back m' g' row rows nodes threads pendings
      (subst (λ (x : Shared). Inv x g') (sym e) inv)
      (subst (λ (x : Shared). Grows (shared_of m) g x g') (sym e) grows)
      (λ u ne. subst (λ (x : Shared). Spares (shared_of m) g x g' u) (sym e) (spares u ne))
      (subst (λ (x : Shared). Knows x g' i row) (sym e) knows)

-- nothing pending: an idle row after a single call
pub nothing_private : (s : Shared) (g : Ghost) (t : ℕ) (r : Row) → r.tally.enqueues ≡ 0 → Pending s g t r
unfolding at
nothing_private s g t r e = record {
  nodes = [];
  private = record {
    mine = λ k n p. absurd (none_is_not_some refl p);
    chain = record { links = λ k n p. absurd (none_is_not_some refl p); once = λ a b n p q. absurd (none_is_not_some refl p) };
  };
  many = sym e;
  first_is = λ n p. absurd (none_is_not_some refl p);
  last_is = λ k n q p. absurd (none_is_not_some refl p);
}

pub alone_tally : (g : Ghost) (t : ℕ) (r : Row) → Tallied g t r → Alone g t → r.tally.enqueues ≡ 0
unfolding enqueued
alone_tally g t r h e = ap (λ (x : Tally). x.enqueues) (h.tally ∙ ap tally_of e)

-- what is known does not depend on the place that the row names, nor on what is not its tally, first and last node
module _ (s : Shared) (g : Ghost) (t : ℕ) (r r' : Row) (tally : r'.tally ≡ r.tally) (first : r'.first ≡ r.first) (last : r'.last ≡ r.last) where
  same_pending : Pending s g t r → Pending s g t r'
  same_pending h = record {
    nodes = h.nodes;
    private = h.private;
    many = h.many ∙ sym (ap (λ (x : Tally). x.enqueues) tally);
    first_is = λ n p. h.first_is n p ∙ sym first;
    last_is = λ k n q p. h.last_is k n q p ∙ sym last;
  }

  same_own : (b : ℕ) → Own s g t b r → Own s g t b r'
  same_own b h = record { first = h.first ∙ sym first; last = h.last ∙ sym last; batch = h.batch; is = h.is; calls = h.calls }

  dequeues_only_lem : r.tally.enqueues ≡ 0 → r'.tally.enqueues ≡ 0
  dequeues_only_lem e = ap (λ (x : Tally). x.enqueues) tally ∙ e

  same_resume : (a : ℕ) (k : Resume) → KnowsResume s g t a r k → KnowsResume s g t a r' k
  same_resume a (resume.Enqueue n) h = h
  same_resume a resume.Dequeue h = h
  same_resume a (resume.Batch b) h = (h.0, same_own b h.1)
  same_resume a resume.Dequeues h = dequeues_only_lem h
  same_resume a resume.Own h = same_own a h

  pub same_place : (p : Place) → KnowsAt s g t r p → KnowsAt s g t r' p
  same_place Idle h = same_pending h
  same_place (Enqueue n x) h = h
  same_place (Dequeue x) h = h
  same_place (Batch b x) h = (h.0, same_own b h.1)
  same_place (Dequeues x) h = (h.0, dequeues_only_lem h.1)
  same_place (Running a x k) h = (h.0, same_resume a k h.1, h.2)
