-- What a thread may rely on while others take steps, and that what it knows stays true: the chain grows at its end, the tail does not go back,
-- an installed announcement keeps its request and an old tail that is set; and its own nodes and announcement are left alone.
use Rattle.std.specs.Prelude.{None, Some}
use Prim.Native.Nat.{ℕ, suc, ◌≤◌}
use mathlib.Core.Path.{◌≡◌, refl, sym, ap, ◌∙◌, subst}
use mathlib.Core.List.{List}
use mathlib.Core.Option.{Option}
use mathlib.Core.Logic.{◌⊎◌, inl, inr, ⊎_elim}
use native.Mathlib.Omega.{arith}
use lib.ListN.{length}
use Rattle.chain.specs.Positions.{At, In}
use Rattle.chain.proofs.Positions.{within}
use Rattle.tally.specs.Tally.{tally_of}
use Rattle.cells.specs.declared.Tail.{Tail}
use Rattle.cells.specs.Links.{OldTail}
use Rattle.cells.specs.declared.Request.{Request}
use Rattle.cells.specs.declared.Announcement.{Announcement}
use Rattle.memory.specs.Memory.{announcement_at}
use Rattle.place.specs.declared.Place.{Place}
use Rattle.place.specs.declared.Place.TheVariants.{Idle, Enqueue, Dequeue, Batch, Dequeues, Running}
use Rattle.place.specs.declared.Resume.{Resume}
use Rattle.place.specs.declared.Resume.TheVariants as resume
use Rattle.place.specs.declared.EnqueueStep.{EnqueueStep}
use Rattle.place.specs.declared.EnqueueStep.TheVariants.{E1, E2, E3, E4, E5}
use Rattle.place.specs.declared.DequeueStep.{DequeueStep}
use Rattle.place.specs.declared.DequeueStep.TheVariants.{D1, D2, D3}
use Rattle.place.specs.declared.BatchStep.{BatchStep}
use Rattle.place.specs.declared.BatchStep.TheVariants.{B1, B2}
use Rattle.place.specs.declared.DequeuesStep.{DequeuesStep}
use Rattle.place.specs.declared.DequeuesStep.TheVariants.{Q1, Q2, Q3}
use Rattle.place.specs.declared.RunStep.{RunStep}
use Rattle.place.specs.declared.RunStep.TheVariants.{A1, A2, A3, A4, A5, A6, A7, A8}
use Rattle.row.specs.declared.Row.{Row}
use Rattle.order.proofs.Ghost as ghost
use Rattle.order.proofs.Ghost.{Ghost, pending_of}
use Rattle.order.proofs.Shared.{Shared, next}
use Rattle.order.proofs.Invariant.{Linked}
use Rattle.order.proofs.Knows.{Mine, Single, Private, MineToo, NotAnnounced, TailRead, SingleBehind, OneFurther, Past, request_of, rises_by, goal, KnowsRun, Pending, Tallied, Own, KnowsEnqueue, KnowsDequeue, KnowsBatch, KnowsDequeues, KnowsResume, KnowsAt, Knows}

-- what anybody may rely on
pub record Grows (s : Shared) (g : Ghost) (s' : Shared) (g' : Ghost) : Type 0 where
  pub chain : (k n : ℕ) → At g.chain k n → At g'.chain k n
  pub ends : (j p : ℕ) → At g.ends j p → At g'.ends j p
  pub by : (j : ℕ) (x : Option ℕ) → At g.by j x → At g'.by j x
  pub new_batch : (a p : ℕ) → Linked g' a p → Linked g a p ⊎ (length g.chain ≤ suc p)
  pub installed : (a : ℕ) → In g.installed a → In g'.installed a
  pub batches : (a : ℕ) (b : ghost.Batch) → At g.batches a b → At g'.batches a b
  pub tail_up : s.tail.count.0 ≤ s'.tail.count.0
  pub request : (a : ℕ) → In g.installed a → request_of s' a ≡ request_of s a
  pub old_tail_lem : (a : ℕ) (t : Tail) → In g.installed a → (announcement_at s.announcements a).old_tail ≡ Some t → (announcement_at s'.announcements a).old_tail ≡ Some t

-- what thread u may rely on besides, when another thread takes a step
pub record Spares (s : Shared) (g : Ghost) (s' : Shared) (g' : Ghost) (u : ℕ) : Type 0 where
  pub mine : (n : ℕ) → Mine g u n → Mine g' u n
  pub link : (n : ℕ) → Mine g u n → next s'.links n ≡ next s.links n
  pub mine_too : (b : ℕ) → MineToo g u b → MineToo g' u b
  pub announcement : (b : ℕ) → MineToo g u b → announcement_at s'.announcements b ≡ announcement_at s.announcements b
  pub pending : pending_of g' u ≡ pending_of g u

module _ {s : Shared} {g : Ghost} {s' : Shared} {g' : Ghost} (r : Grows s g s' g') where
  pub linked_stays : {a p : ℕ} → Linked g a p → Linked g' a p
  linked_stays h = record { step = h.step; is = r.by _ _ h.is; from = r.ends _ _ h.from }

  pub read_stays : {t : Tail} → TailRead s g t → TailRead s' g' t
  read_stays h = record { is = r.chain _ _ h.is; step = h.step; ends = r.ends _ _ h.ends; old = omega (arith, h.old, r.tail_up) }

  pub single_stays : {p : ℕ} → SingleBehind g p → SingleBehind g' p
  single_stays h = record { step = h.step; from = r.ends _ _ h.from; is = r.by _ _ h.is; to = r.ends _ _ h.to }

  pub further_stays : (t : Tail) → OneFurther s g t → OneFurther s' g' t
  further_stays t = ⊎_elim (λ h. inl (single_stays h)) (λ h. inr (omega (arith, r.tail_up)))

  -- an old tail that is unset afterwards was unset before
  pub was_unset : (a : ℕ) → In g.installed a → (announcement_at s'.announcements a).old_tail ≡ None → (announcement_at s.announcements a).old_tail ≡ None
  was_unset a h e = go (announcement_at s.announcements a).old_tail refl
    where
      go : (o : OldTail) → (announcement_at s.announcements a).old_tail ≡ o → (announcement_at s.announcements a).old_tail ≡ None
      go None q = q
      go (Some t) q = absurd (let w = r.old_tail_lem a t h q in let z : ◌≡◌ {A = ℕ} 0 1 = cc in omega arith)

  past_stays : (a : ℕ) → In g.installed a → Past s g a → Past s' g' a
  past_stays a i h = record { old = h.old; is = r.old_tail_lem a h.old i h.is; past = omega (arith, h.past, r.tail_up) }

  run_stays : (a : ℕ) (x : RunStep) → In g.installed a → KnowsRun s g a x → KnowsRun s' g' a x
  unfolding past_stays
  run_stays a A1 i h = tt
  run_stays a (A2 t) i h = (
    read_stays h.0,
    λ p k e. ⊎_elim (λ l. h.1 p l (was_unset a i e)) (λ b. let c = within g.chain t.count.0 h.0.is in omega arith) (r.new_batch a p k),
  )
  run_stays a (A3 t) i h =
      (read_stays h.0, λ p k. ⊎_elim (h.1 p) (λ b. let c = within g.chain t.count.0 h.0.is in omega arith) (r.new_batch a p k))
  run_stays a (A4 t) i h = (linked_stays h.0, r.chain _ _ h.1)
  run_stays a (A5 o) i h = r.old_tail_lem a o i h
  run_stays a (A6 rise x left) i h =
      let q = r.request a i in (
        past_stays a i h.0,
        h.1,
        r.chain _ _ h.2,
        h.3,
        h.4 ∙ sym (ap (λ (k : Request). goal k h.0.old) q),
        h.5 ∙ sym (ap (λ (k : Request). rises_by k h.0.old) q),
      )
  run_stays a (A7 rise x) i h =
      let q = r.request a i in
      (past_stays a i h.0, subst (λ (m : ℕ). At g'.chain m x) (sym (ap (λ (k : Request). goal k h.0.old) q)) (r.chain _ _ h.1), h.2 ∙ sym (ap (λ (k : Request). rises_by k h.0.old) q))
  run_stays a (A8 t x) i h = (read_stays h.0, r.chain _ _ h.1, further_stays t h.2)

  module _ {u : ℕ} (w : Spares s g s' g' u) where
    pub single_node_stays : {n : ℕ} → Single s g u n → Single s' g' u n
    single_node_stays h = record { mine = w.mine _ h.mine; no_link = w.link _ h.mine ∙ h.no_link }

    pub private_stays : {l : List ℕ} → Private s g u l → Private s' g' u l
    private_stays h = record {
      mine = λ k n p. w.mine n (h.mine k n p);
      chain = record { links = λ k n p. w.link n (h.mine k n p) ∙ h.chain.links k n p; once = h.chain.once };
    }

    pub not_announced_stays : {b : ℕ} → NotAnnounced s g u b → NotAnnounced s' g' u b
    not_announced_stays {b} h = record {
      mine = w.mine_too b h.mine;
      unset = ap (λ (x : Announcement). x.old_tail) (w.announcement b h.mine) ∙ h.unset;
      batch = h.batch;
      is = r.batches b h.batch h.is;
      private = private_stays h.private;
    }

    -- what the row of a thread has pending, and its own announcement, before it is installed and after
    pub pending_stays : {x : Row} → Pending s g u x → Pending s' g' u x
    pending_stays h = record { nodes = h.nodes; private = private_stays h.private; many = h.many; first_is = h.first_is; last_is = h.last_is }

    pub tallied_stays : {x : Row} → Tallied g u x → Tallied g' u x
    tallied_stays h =
        let same = ap length w.pending in
        record { tally = h.tally ∙ sym (ap tally_of w.pending); count = h.count ∙ sym same; few = omega (arith, h.few, same) }

    own_stays : {b : ℕ} {x : Row} → request_of s' b ≡ request_of s b → Own s g u b x → Own s' g' u b x
    own_stays {b} q h = record {
      first = ap (λ (k : Request). k.first) q ∙ h.first;
      last = ap (λ (k : Request). k.last) q ∙ h.last;
      batch = h.batch;
      is = r.batches b h.batch h.is;
      calls = h.calls ∙ sym w.pending;
    }

    pub own_before_stays : {b : ℕ} {x : Row} → MineToo g u b → Own s g u b x → Own s' g' u b x
    own_before_stays {b} m h = own_stays (ap (λ (y : Announcement). y.request) (w.announcement b m)) h

    pub own_after_stays : {a : ℕ} {x : Row} → In g.installed a → Own s g u a x → Own s' g' u a x
    own_after_stays {a} i h = own_stays (r.request a i) h

    pub resume_stays : (a : ℕ) (x : Row) (k : Resume) → In g.installed a → KnowsResume s g u a x k → KnowsResume s' g' u a x k
    resume_stays a x (resume.Enqueue n) i h = (single_node_stays h.0, w.pending ∙ h.1)
    resume_stays a x resume.Dequeue i h = w.pending ∙ h
    resume_stays a x (resume.Batch b) i h = (not_announced_stays h.0, own_before_stays h.0.mine h.1)
    resume_stays a x resume.Dequeues i h = h
    resume_stays a x resume.Own i h = own_after_stays i h

    enqueue_stays : (n : ℕ) (x : EnqueueStep) → KnowsEnqueue s g u n x → KnowsEnqueue s' g' u n x
    enqueue_stays n E1 h = single_node_stays h
    enqueue_stays n (E2 l) h = (single_node_stays h.0, read_stays h.1)
    enqueue_stays n (E3 l) h = (read_stays h.0, r.chain _ _ h.1, single_stays h.2)
    enqueue_stays n (E4 l x) h = (single_node_stays h.0, read_stays h.1, r.chain _ _ h.2)
    enqueue_stays n (E5 l x) h = (single_node_stays h.0, read_stays h.1, r.chain _ _ h.2, further_stays l h.3)

    dequeue_stays : (x : DequeueStep) → KnowsDequeue g x → KnowsDequeue g' x
    dequeue_stays D1 h = tt
    dequeue_stays (D2 f) h = r.chain _ _ h
    dequeue_stays (D3 f x) h = (r.chain _ _ h.0, r.chain _ _ h.1)

    batch_stays : (b : ℕ) (x : BatchStep) → KnowsBatch s g u b x → KnowsBatch s' g' u b x
    batch_stays b B1 h = not_announced_stays h
    batch_stays b (B2 f) h = (not_announced_stays h.0, r.chain _ _ h.1)

    batch_own_stays : (b : ℕ) (x : BatchStep) (y : Row) → KnowsBatch s g u b x → Own s g u b y → Own s' g' u b y
    batch_own_stays b B1 y h = own_before_stays h.mine
    batch_own_stays b (B2 f) y h = own_before_stays h.0.mine

    dequeues_stays : (x : DequeuesStep) → KnowsDequeues g x → KnowsDequeues g' x
    dequeues_stays Q1 h = tt
    dequeues_stays (Q2 w) h = (r.chain _ _ h.0, r.chain _ _ h.1)
    dequeues_stays (Q3 w) h = (r.chain _ _ h.0, r.chain _ _ h.1)

    place_stays : (x : Row) (p : Place) → KnowsAt s g u x p → KnowsAt s' g' u x p
    place_stays x Idle h = pending_stays h
    place_stays x (Enqueue n k) h = (enqueue_stays n k h.0, w.pending ∙ h.1)
    place_stays x (Dequeue k) h = (dequeue_stays k h.0, w.pending ∙ h.1)
    place_stays x (Batch b k) h = (batch_stays b k h.0, batch_own_stays b k x h.0 h.1)
    place_stays x (Dequeues k) h = (dequeues_stays k h.0, h.1)
    place_stays x (Running a k y) h = (r.installed a h.0, resume_stays a x y h.0 h.1, run_stays a k h.0 h.2)

    -- what a thread knows is stable
    pub knows_stays : (x : Row) → Knows s g u x → Knows s' g' u x
    knows_stays x h = record { tallied = tallied_stays h.tallied; place = place_stays x x.place h.place }
