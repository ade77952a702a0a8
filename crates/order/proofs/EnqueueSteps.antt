-- Enqueue, e1 to e5: each step keeps the invariant. e2 is a link step of one node; behind a tail that has a next node stands a single enqueue's
-- node or a batch, and where the head is plain a batch there has been passed by the tail: so e5 moves it over one link step, or is not taken.
use Rattle.std.specs.Prelude.{None, Some}
use Prim.Native.Nat.{ℕ, zero, suc, ◌+◌, ◌<◌}
use mathlib.Core.Path.{◌≡◌, refl, sym, ap, ◌∙◌, subst}
use mathlib.Core.List.{[], ◌∷◌, ◌++◌}
use mathlib.Core.Option.{Option, none, some}
use mathlib.Core.Logic.{◌⊎◌, inl, inr, ⊎_elim, ◌≢◌}
use native.Mathlib.Omega.{arith}
use native.Mathlib.Decide.{dec_lt}
use lib.ListN.{length}
use Rattle.chain.specs.Positions.{at, At, In}
use Rattle.chain.proofs.Positions.{none_is_not_some, some_injective, one_element, within, element, stays, at_the_end, the_only_one}
use Rattle.cells.specs.declared.Tail.{Tail}
use Rattle.cells.specs.declared.Front.{Front}
use Rattle.cells.specs.declared.Head.{Head}
use Rattle.cells.specs.declared.Head.TheVariants.{Plain, Announced}
use Rattle.cells.specs.Links.{Link}
use Rattle.found.specs.declared.Found.TheVariants as found
use Rattle.cells.specs.Ends.{past_tail, same_tail}
use Rattle.memory.specs.Memory.{link_at, link_cas, perform}
use Rattle.found.specs.Found.{link_in}
use Rattle.place.specs.declared.After.TheVariants as afterwards
use Rattle.place.specs.declared.EnqueueStep.{EnqueueStep}
use Rattle.place.specs.declared.EnqueueStep.TheVariants.{E1, E2, E3, E4, E5}
use Rattle.thread.specs.Enqueue.{enqueue_access, enqueue_after, after_e2, after_e4, enqueue_at}
use Rattle.row.specs.declared.Row.{Row}
use Rattle.order.specs.Links.{if_none}
use Rattle.order.proofs.Ghost.{Ghost, joins, enqueue_ghost}
use Rattle.order.proofs.Shared.{Shared, next, led, linked, with_links}
use Rattle.order.proofs.Invariant.{Inv}
use Rattle.order.proofs.Knows.{Mine, Single, TailRead, SingleBehind, OneFurther, KnowsEnqueue, Alone}
use Rattle.order.proofs.Grows.{Grows, read_stays, single_node_stays}
use Rattle.order.proofs.LinkSteps.{Joins, at_last, tail_there, all_ends, join_inv, join_grows, join_spares}
use Rattle.order.proofs.Fine.{Fine, memory_in, KnowsAfter, reads_only, tail_by_one}
use Rattle.order.proofs.TailMoves.{tail_cas_spares, one_further_grows}

module _ (s : Shared) (g : Ghost) (i : Inv s g) (t : ℕ) (r : Row) where
  -- the tail as it stands
  pub tail_now : TailRead s g s.tail
  tail_now = record { is = i.tail.tail_at; step = i.tail.step; ends = i.tail.tail_ends; old = omega arith }

  -- the node behind a node of the chain, as a link leads to it
  pub found_behind : (k n x : ℕ) → At g.chain k n → link_at s.links n ≡ Some x → At g.chain (suc k) x
  found_behind k n x p e = sym (i.chain.chain.links k n p) ∙ ap led e

  -- a node of one's own is a link step of one node
  one_node_lem : (n : ℕ) (l : Tail) → Single s g t n → Joins s g (n ∷ []) n none l
  unfolding at
  one_node_lem n l m = record {
    beside = record {
      chain = record {
        links = elim [ zero ↦ λ x p. ap (next s.links) (sym (some_injective p)) ∙ m.no_link | suc k ↦ λ x p. absurd (none_is_not_some refl p) ];
        once = λ a b x p q. omega (arith, within (n ∷ []) a p, within (n ∷ []) b q);
      };
      apart = λ k x p h. m.mine.not_in_chain (subst (In g.chain) (the_only_one n x k p) h);
    };
    in_use = λ k x p. subst (λ (y : ℕ). y < s.nodes) (sym (the_only_one n x k p)) (omega (arith, within g.node_owners n m.mine.owner, i.chain.owned));
    first_is = refl;
    one_node = λ e. refl;
    not_yet_lem = λ a e. absurd (none_is_not_some refl e);
    asked = λ a e. absurd (none_is_not_some refl e);
    old_head_before = λ a e. absurd (none_is_not_some refl e);
    there = λ a e. absurd (none_is_not_some refl e);
    installed = λ a e. absurd (none_is_not_some refl e);
    others = λ a b h f w p x q k. m.mine.not_in_batch a b h p (subst (In b.nodes) (the_only_one n x q.0 q.1) k);
  }

  at_e2 : (n : ℕ) (l : Tail) → Single s g t n → TailRead s g l → Alone g t → (v : Link) → link_at s.links l.node ≡ v
      → Fine s g t r (link_cas (memory_in s) l.node n v) (if_none v (joins g l (n ∷ []) none) g) (after_e2 n l (link_in (link_cas (memory_in s) l.node n v).found))
  at_e2 n l m read alone None e = record {
    inv = join_inv s g i (n ∷ []) n none l read free j;
    grows = grows;
    spares = λ u ne. join_spares s g i (n ∷ []) n none l read free j u (away u ne);
    knows = ((read_stays grows read, here, single), alone);
  }
    where
      free : next s.links l.node ≡ none
      free = ap led e

      j : Joins s g (n ∷ []) n none l
      j = one_node_lem n l m

      grows : Grows s g (with_links s (linked s.links l.node (Some n))) (joins g l (n ∷ []) none)
      grows = join_grows s g i (n ∷ []) n none l read free j

      away : (u : ℕ) → u ≢ t → (x : ℕ) → Mine g u x → In (n ∷ []) x → ⊥
      away u ne x h p = ne (one_element g.node_owners x n h.owner m.mine.owner (the_only_one n x p.0 p.1))

      ends : length g.ends ≡ suc i.tail.step
      ends = all_ends s g i (n ∷ []) n none l read free j

      here : At (g.chain ++ (n ∷ [])) (suc l.count.0) n
      here = subst (λ (k : ℕ). At (g.chain ++ (n ∷ [])) k n) (at_last s g i (n ∷ []) n none l read free j) (at_the_end g.chain n)

      single : SingleBehind (joins g l (n ∷ []) none) l.count.0
      single = record {
        step = i.tail.step;
        from = stays g.ends _ _ (subst (At g.ends i.tail.step) (tail_there s g i (n ∷ []) n none l read free j) i.tail.tail_ends);
        is = subst (λ (k : ℕ). At (g.by ++ (none ∷ [])) k none) (i.ends.same_length ∙ ends) (at_the_end g.by none);
        to = rw (← ends, let z : suc l.count.0 ≡ l.count.0 + 1 = omega arith in z) (at_the_end g.ends (l.count.0 + 1));
      }
  at_e2 n l m read alone (Some x) e = reads_only s g i t r (found.Link (Some x)) (enqueue_at n (E4 l x)) ((m, read, found_behind l.count.0 l.node x read.is e), alone)

  -- the link step behind a tail that was read and has a next node: a single enqueue's, or a batch
  pub step_behind : (l : Tail) (x : ℕ) (read : TailRead s g l) → At g.chain (suc l.count.0) x
      → SingleBehind g l.count.0 ⊎ ((b : ℕ) × At g.by (suc read.step) (some b))
  step_behind l x read behind =
      let a = within g.chain (suc l.count.0) behind in
      let more : suc read.step < length g.by =
      elim (dec_lt (suc read.step) (length g.ends)) [
        | yes h ↦ omega (arith, i.ends.same_length)
        | no h ↦ absurd (let z = i.ends.last_ends read.step l.count.0 read.ends (omega arith) in omega arith)
      ] in
      whose (element g.by (suc read.step) more)
    where
      whose : (o : Option ℕ) × At g.by (suc read.step) o → SingleBehind g l.count.0 ⊎ ((b : ℕ) × At g.by (suc read.step) (some b))
      whose w = by w.0 w.1
        where
          by : (o : Option ℕ) → At g.by (suc read.step) o → SingleBehind g l.count.0 ⊎ ((b : ℕ) × At g.by (suc read.step) (some b))
          by none h = inl (record { step = read.step; from = read.ends; is = h; to = i.ends.singles _ _ h read.ends })
          by (some b) h = inr (b, h)

  -- e4: no announcement is in the head
  plain_further : (l : Tail) (x : ℕ) (f : Front) → TailRead s g l → At g.chain (suc l.count.0) x → s.head ≡ Plain f → OneFurther s g l
  plain_further l x f read behind was =
      ⊎_elim inl
      (λ b. ⊎_elim inr (λ h. absurd (let z : ◌≡◌ {A = ℕ} 0 1 = cc in omega arith)) (i.linked.waits b.0 read.step l.count.0 b.1 read.ends))
      (step_behind l x read behind)

  at_e4 : (n : ℕ) (l : Tail) (x : ℕ) → KnowsEnqueue s g t n (E4 l x) → Alone g t → (h : Head) → s.head ≡ h → KnowsAfter s g t r (after_e4 n l x h)
  at_e4 n l x k alone (Plain f) e = ((k.0, k.1, k.2, plain_further l x f k.1 k.2 e), alone)
  at_e4 n l x k alone (Announced a) e = (i.head.there_installed a e, (k.0, alone), tt)

  -- each step of an enqueue; the ghost's part is that of e2
  pub enqueue_step : (n : ℕ) (x : EnqueueStep) → KnowsEnqueue s g t n x → Alone g t
      → Fine s g t r (perform (memory_in s) (enqueue_access n x)) (enqueue_ghost (memory_in s) g n x) (enqueue_after n x (perform (memory_in s) (enqueue_access n x)).found)
  unfolding perform enqueue_access enqueue_after
  enqueue_step n E1 k alone = reads_only s g i t r (found.Tail s.tail) (enqueue_at n (E2 s.tail)) ((k, tail_now), alone)
  enqueue_step n (E2 l) k alone = at_e2 n l k.0 k.1 alone (link_at s.links l.node) refl
  enqueue_step n (E3 l) k alone = tail_by_one s g i t r l n k.1 (inl k.2) afterwards.Ok (λ b e. alone) (same_tail s.tail l) refl
  enqueue_step n (E4 l x) k alone = reads_only s g i t r (found.Head s.head) (after_e4 n l x s.head) (at_e4 n l x k alone s.head refl)
  enqueue_step n (E5 l x) k alone =
      tail_by_one s g i t r l x k.2 k.3 (enqueue_at n E1)
      (λ b e. (single_node_stays (one_further_grows i l x k.2 b e) (tail_cas_spares s g (past_tail l x 1) b t) k.0, alone))
      (same_tail s.tail l) refl
