-- Running an announcement, what its reads tell: a1, a2, the links found at a3 and a6, and the way to the new head after a5. A late helper's a3
-- finds the link set: either by its own batch, or by a link step that the tail has passed or that is a single enqueue's.
use Rattle.std.specs.Prelude.{None, Some}
use Prim.Native.Nat.{ℕ, zero, suc, ◌+◌, ◌-◌, ◌<◌, ◌≤◌}
use mathlib.Core.Path.{◌≡◌, refl, sym, ap, ◌∙◌, subst}
use mathlib.Core.Bool.{Bool, true, false, cond}
use mathlib.Core.List.{List, [], ◌∷◌}
use mathlib.Core.Option.{Option, none, some}
use mathlib.Core.Logic.{◌⊎◌, inl, inr, ⊎_elim, ◌≢◌}
use native.Mathlib.Omega.{arith}
use native.Mathlib.Decide.{ℕ_discrete}
use lib.Dec.{eqb, ltb, leb}
use lib.ListN.{length}
use borrow.Author.Tests.{eqb-true, eqb-false, ltb-false, leb-true, leb-false}
use Rattle.chain.specs.Positions.{at, At, In}
use Rattle.chain.proofs.Positions.{none_is_not_some, some_injective, one_element, within, element}
use Rattle.chain.proofs.Following.{none_is_the_last}
use Rattle.tally.specs.Tally.{successful_on}
use Rattle.tally.proofs.Counts.{successful_le_present}
use Rattle.tally.specs.declared.Tally.{Tally}
use Rattle.cells.specs.declared.Tail.{Tail}
use Rattle.cells.specs.declared.Head.TheVariants.{Announced}
use Rattle.cells.specs.Links.{Link, OldTail}
use Rattle.cells.specs.declared.Request.{Request}
use Rattle.memory.specs.Memory.{link_at, announcement_at}
use Rattle.place.specs.declared.RunStep.{RunStep}
use Rattle.place.specs.declared.RunStep.TheVariants.{A1, A2, A3, A4, A5, A6, A7, A8}
use Rattle.running.specs.Running.{after_a2, after_a6, size_at, walk_to}
use Rattle.row.specs.declared.Row.{Row}
use Rattle.order.proofs.Ghost.{Ghost, Batch}
use Rattle.order.proofs.Shared.{Shared, next, led}
use Rattle.order.proofs.Invariant.{TailAt, Linked, NotLinked, Inv}
use Rattle.order.proofs.Knows.{OneFurther, Past, request_of, goal_from, rises_by, goal, KnowsRun}
use Rattle.order.proofs.EnqueueSteps.{tail_now, found_behind, step_behind}

-- whether an announcement's batch is linked
pub linked_or_not : (l : List (Option ℕ)) (a : ℕ) → ((j : ℕ) × At l j (some a)) ⊎ ((j : ℕ) → At l j (some a) → ⊥)
unfolding at
linked_or_not [] a = inr (λ j p. none_is_not_some refl p)
linked_or_not (none ∷ l) a =
    ⊎_elim (λ h. inl (suc h.0, h.1)) (λ h. inr (elim [ zero ↦ λ p. none_is_not_some {x = a} refl (some_injective p) | suc j ↦ λ p. h j p ])) (linked_or_not l a)
linked_or_not (some b ∷ l) a =
    elim (ℕ_discrete b a) [
      | yes e ↦ inl (0, ap (λ (x : ℕ). some (some x)) e)
      | no ne ↦ ⊎_elim (λ h. inl (suc h.0, h.1)) (λ h. inr (elim [ zero ↦ λ p. ne (some_injective (some_injective p)) | suc j ↦ λ p. h j p ])) (linked_or_not l a)
    ]

-- the way to a7 from an old tail o
abbrev pub ArrivesAt : Ghost → Request → Tail → RunStep → Type 0
ArrivesAt g k o A1 = ⊥
ArrivesAt g k o (A2 t) = ⊥
ArrivesAt g k o (A3 t) = ⊥
ArrivesAt g k o (A4 t) = ⊥
ArrivesAt g k o (A5 t) = ⊥
ArrivesAt g k o (A6 rise x left) = (j : ℕ) × At g.chain j x × (0 < left) × (j + left ≡ goal k o) × (rise ≡ rises_by k o)
ArrivesAt g k o (A7 rise x) = At g.chain (goal k o) x × (rise ≡ rises_by k o)
ArrivesAt g k o (A8 t x) = ⊥

same_announcement : {a b : ℕ} → Announced a ≡ Announced b → a ≡ b
same_announcement e = cc

module _ (s : Shared) (g : Ghost) (i : Inv s g) (t : ℕ) (r : Row) (a : ℕ) (there : In g.installed a) where
  pub after_a1 : KnowsRun s g a (A2 s.tail)
  after_a1 = (tail_now s g i t r, λ p l n. i.linked.not_past a l.step p l.is l.from n)

  pub after_a2_lem : (l : Tail) → KnowsRun s g a (A2 l) → (o : OldTail) → (announcement_at s.announcements a).old_tail ≡ o → KnowsRun s g a (after_a2 l o)
  after_a2_lem l k None e = (k.0, λ p w. k.1 p w e)
  after_a2_lem l k (Some o) e = e

  pub the_batch : (b : Batch) × At g.batches a b
  the_batch = i.head.has_batch a there

  -- the position behind which a link step linked
  linked_behind_lem : (j : ℕ) → At g.by (suc j) (some a) → (p : ℕ) × At g.ends j p
  linked_behind_lem j h = element g.ends j (omega (arith, within g.by (suc j) h, i.ends.same_length))

  not_the_dummy : At g.by 0 (some a) → ⊥
  not_the_dummy h = none_is_not_some {x = a} refl (some_injective (sym i.ends.by_nobody ∙ h))

  -- a3 finds no link: then the batch is not linked yet, since it would stand behind the tail that was read
  pub not_linked_yet : (l : Tail) → KnowsRun s g a (A3 l) → next s.links l.node ≡ none → NotLinked g a
  not_linked_yet l k e zero h = not_the_dummy h
  not_linked_yet l k e (suc j) h =
      let p = linked_behind_lem j h in
      let f = i.linked.shape a j p.0 h p.1 in
      let x = k.1 p.0 (record { step = j; is = h; from = p.1 }) in
      let y = none_is_the_last i.chain.chain l.count.0 l.node k.0.is e in
      let z = within g.chain (suc p.0) f.first_at in
      omega arith

  -- a3 finds the batch's first node: the batch is linked behind the tail that was read
  pub found_first : (l : Tail) (x : ℕ) → At g.chain (suc l.count.0) x → x ≡ (request_of s a).first → Linked g a l.count.0
  found_first l x behind e = ⊎_elim (λ k. yet k.0 k.1) (λ k. absurd (never k)) (linked_or_not g.by a)
    where
      first : At g.chain (suc l.count.0) (request_of s a).first
      first = behind ∙ ap some e

      yet : (j : ℕ) → At g.by j (some a) → Linked g a l.count.0
      yet zero h = absurd (not_the_dummy h)
      yet (suc j) h =
          let p = linked_behind_lem j h in
          let f = i.linked.shape a j p.0 h p.1 in
          let q : p.0 ≡ l.count.0 = omega (arith, i.chain.chain.once (suc p.0) (suc l.count.0) (request_of s a).first f.first_at first) in
          record { step = j; is = h; from = subst (At g.ends j) q p.1 }

      never : NotLinked g a → ⊥
      never k =
          let b = the_batch in
          (i.batches.beside a b.0 there k b.1).apart 0 (request_of s a).first (i.batches.asks a b.0 b.1).first_is (suc l.count.0, first)

  -- a3 finds another node: a single enqueue's, or the tail has passed it
  pub found_another : (l : Tail) (x : ℕ) → KnowsRun s g a (A3 l) → At g.chain (suc l.count.0) x → x ≢ (request_of s a).first → OneFurther s g l
  found_another l x k behind ne = ⊎_elim inl (λ b. inr (passed b.0 b.1)) (step_behind s g i t r l x k.0 behind)
    where
      j : ℕ
      j = k.0.step

      other : (b : ℕ) → At g.by (suc j) (some b) → b ≢ a
      other b h e =
          let f = i.linked.shape a j l.count.0 (h ∙ ap (λ (y : ℕ). some (some y)) e) k.0.ends in
          ne (one_element g.chain _ _ behind f.first_at refl)

      -- another batch, whose announcement is in the head: then this one is linked, and the tail is past it
      late : (b : ℕ) → At g.by (suc j) (some b) → s.head ≡ Announced b → l.count.0 < s.tail.count.0
      late b h held = ⊎_elim (λ w. past w.0 w.1) (λ w. absurd (other b h (same_announcement (sym held ∙ w)))) (i.head.linked_or_there a there)
        where
          past : (m : ℕ) → At g.by (suc m) (some a) → l.count.0 < s.tail.count.0
          past m w =
              let p = linked_behind_lem m w in
              let x = k.1 p.0 (record { step = m; is = w; from = p.1 }) in
              ⊎_elim (λ y. omega arith) (λ y. absurd (other b h (same_announcement (sym held ∙ y)))) (i.linked.waits a m p.0 w p.1)

      passed : (b : ℕ) → At g.by (suc j) (some b) → l.count.0 < s.tail.count.0
      passed b h = ⊎_elim (λ w. w) (late b h) (i.linked.waits b j l.count.0 h k.0.ends)

  -- the new head's position is one of the chain: s ≤ z + enqueues
  pub goal_in_chain : (p : ℕ) → Linked g a p → goal_from (request_of s a) p < length g.chain
  goal_in_chain p l =
      let f = i.linked.shape a l.step p l.is l.from in
      let b = the_batch in
      let asks = i.batches.asks a b.0 b.1 in
      let z = p - (request_of s a).old_head.count.0 in
      let few : successful_on (request_of s a).tally z ≤ z + (request_of s a).tally.enqueues =
      subst (λ (y : Tally). successful_on y z ≤ z + y.enqueues) (sym asks.tally) (successful_le_present b.0.calls z) in
      let c = within g.chain _ f.last_at in
      omega (arith, f.old_head_before)

  pub goal_within : (p : Past s g a) → goal (request_of s a) p.old < length g.chain
  goal_within p = goal_in_chain p.old.count.0 (i.linked.old_tails a p.old p.is there).0

  -- a6 never meets a missing link
  pub after_a6_lem : (rise x left : ℕ) → KnowsRun s g a (A6 rise x left) → (v : Link) → link_at s.links x ≡ v → KnowsRun s g a (after_a6 rise x left v)
  after_a6_lem rise x left k None e =
      absurd (let z = none_is_the_last i.chain.chain k.1 x k.2 (ap led e) in omega (arith, goal_within k.0, k.3, k.4))
  after_a6_lem rise x left k (Some y) e = on (leb left 1) refl
    where
      behind : At g.chain (suc k.1) y
      behind = found_behind s g i t r k.1 x y k.2 e

      on : (b : Bool) → leb left 1 ≡ b → KnowsRun s g a (cond b (A7 rise y) (A6 rise y (left - 1)))
      on true q =
          let one : suc k.1 ≡ goal (request_of s a) k.0.old = omega (arith, leb-true left 1 q, k.3, k.4) in
          (k.0, subst (λ (m : ℕ). At g.chain m y) one behind, k.5)
      on false q = (k.0, suc k.1, behind, omega (arith, leb-false left 1 q), omega (arith, leb-false left 1 q, k.4), k.5)

  -- a7 has its goal at hand, or a walk begins that ends there: no walk, s from the old head, or s - z from the old tail
  pub arrives_at_the_goal : (o : Tail) → Linked g a o.count.0 → TailAt g o → ArrivesAt g (request_of s a) o (walk_to (request_of s a) o)
  arrives_at_the_goal o l is = by_rise (eqb rise 0) refl
    where
      k : Request
      k = request_of s a

      z : ℕ
      z = size_at k o

      rise : ℕ
      rise = rises_by k o

      -- the old head is not behind the old tail
      before : k.old_head.count.0 ≤ o.count.0
      before = (i.linked.shape a l.step o.count.0 l.is l.from).old_head_before

      from_old_tail : (b : Bool) → eqb rise z ≡ b → z ≤ rise → ArrivesAt g k o (cond b (A7 rise o.node) (A6 rise o.node (rise - z)))
      from_old_tail true q h =
          let here : o.count.0 ≡ goal k o = omega (arith, eqb-true rise z q, before) in
          (subst (λ (m : ℕ). At g.chain m o.node) here is, refl)
      from_old_tail false q h =
          let more : rise ≢ z = eqb-false rise z q in
          (o.count.0, is, omega arith, omega (arith, before), refl)

      from_old_head : (b : Bool) → ltb rise z ≡ b → rise ≢ 0 → ArrivesAt g k o (cond b (A6 rise k.old_head.node rise) (cond (eqb rise z) (A7 rise o.node) (A6 rise o.node (rise - z))))
      from_old_head true q h = (k.old_head.count.0, i.head.old_head_at a there, omega arith, refl, refl)
      from_old_head false q h = from_old_tail (eqb rise z) refl (ltb-false rise z q)

      by_rise : (b : Bool) → eqb rise 0 ≡ b
          → ArrivesAt g k o (cond b (A7 rise k.old_head.node) (cond (ltb rise z) (A6 rise k.old_head.node rise) (cond (eqb rise z) (A7 rise o.node) (A6 rise o.node (rise - z)))))
      by_rise true q =
          let here : k.old_head.count.0 ≡ goal k o = omega (arith, eqb-true rise 0 q) in
          (subst (λ (m : ℕ). At g.chain m k.old_head.node) here (i.head.old_head_at a there), refl)
      by_rise false q = from_old_head (ltb rise z) refl (eqb-false rise 0 q)

  pub after_a5 : (p : Past s g a) → KnowsRun s g a (walk_to (request_of s a) p.old)
  after_a5 p = let w = i.linked.old_tails a p.old p.is there in by_way (walk_to (request_of s a) p.old) (arrives_at_the_goal p.old w.0 w.1)
    where
      by_way : (x : RunStep) → ArrivesAt g (request_of s a) p.old x → KnowsRun s g a x
      by_way (A6 rise x left) h = (p, h.0, h.1, h.2, h.3, h.4)
      by_way (A7 rise x) h = (p, h.0, h.1)
      by_way A1 h = absurd h
      by_way (A2 l) h = absurd h
      by_way (A3 l) h = absurd h
      by_way (A4 l) h = absurd h
      by_way (A5 o) h = absurd h
      by_way (A8 l x) h = absurd h
