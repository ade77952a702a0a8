-- Steps that move the tail, or leave all that is shared as it was. The tail goes over one link step at a time: e3, e5 and a8 take it over a
-- single enqueue, a5 over a batch, and only when that batch's old tail is set. A CAS that is not taken changes nothing.
use Rattle.std.specs.Prelude.{None, Some}
use Prim.Native.Nat.{ℕ, suc, ◌+◌, ◌<◌, ◌≤◌}
use mathlib.Core.Path.{◌≡◌, refl, sym, ap, ◌∙◌, subst}
use mathlib.Core.Bool.{Bool, true, false, false≢true}
use mathlib.Core.Option.{none, some}
use mathlib.Core.Logic.{inl, inr, ⊎_elim}
use native.Mathlib.Omega.{arith}
use native.Mathlib.Decide.{ℕ_discrete}
use Rattle.chain.specs.Positions.{At, In}
use Rattle.chain.proofs.Positions.{none_is_not_some, some_injective, one_element, within}
use Rattle.refusal.proofs.Tests.{either_way}
use Rattle.cells.specs.declared.Tail.{Tail}
use Rattle.memory.specs.Memory.{announcement_at}
use Rattle.cells.specs.Ends.{same_tail, past_tail, up}
use Rattle.order.proofs.Ghost.{Ghost}
use Rattle.order.proofs.Shared.{Shared, with_tail, tail_if}
use Rattle.order.proofs.Invariant.{TailAt, Linked, Shape, Inv}
use Rattle.order.proofs.Ends.{ends_in_order, steps_in_order, one_step_a_position, position_small, goes_up}
use Rattle.order.proofs.Knows.{SingleBehind, OneFurther, Past, request_of}
use Rattle.order.proofs.Grows.{Grows, Spares}
use Rattle.order.proofs.SameEnds.{tail_of_parts, same_tail_is_it, it_is_the_same_tail}

-- the tail moves and does not go back; nobody's own nodes or announcement are touched
pub tail_grows : (s : Shared) (g : Ghost) (t : Tail) → s.tail.count.0 ≤ t.count.0 → Grows s g (with_tail s t) g
tail_grows s g t forth = record {
  chain = λ k n h. h;
  ends = λ j p h. h;
  by = λ j x h. h;
  new_batch = λ a p h. inl h;
  installed = λ a h. h;
  batches = λ a b h. h;
  tail_up = forth;
  request = λ a h. refl;
  old_tail_lem = λ a o h e. e;
}

pub tail_spares : (s : Shared) (g : Ghost) (t : Tail) (u : ℕ) → Spares s g (with_tail s t) g u
tail_spares s g t u = record { mine = λ n h. h; link = λ n h. refl; mine_too = λ b h. h; announcement = λ b h. refl; pending = refl }

-- nothing shared changes
pub quiet : {s : Shared} {g : Ghost} → Grows s g s g
quiet {s} {g} = tail_grows s g s.tail (omega arith)

pub spared : {s : Shared} {g : Ghost} {u : ℕ} → Spares s g s g u
spared {s} {g} {u} = tail_spares s g s.tail u

-- the tail at the last node of the batch of announcement a
abbrev pub past_batch : Shared → ℕ → Tail → Tail
past_batch s a o = past_tail o (request_of s a).last (request_of s a).tally.enqueues

pub tail_cas_spares : (s : Shared) (g : Ghost) (t : Tail) (b : Bool) (u : ℕ) → Spares s g (tail_if b s t) g u
tail_cas_spares s g t b u = either_way (λ s'. Spares s g s' g u) b (λ e. tail_spares s g t u) (λ e. spared)

module _ {s : Shared} {g : Ghost} (i : Inv s g) where
  -- the tail goes over link step j + 1; if that was a batch, then its old tail is set
  tail_moved :
      (x : Tail) (j : ℕ) → At g.ends j s.tail.count.0 → At g.ends (suc j) x.count.0 → TailAt g x
      → ((a : ℕ) → At g.by (suc j) (some a) → (announcement_at s.announcements a).old_tail ≡ None → ⊥)
      → Inv (with_tail s x) g
  tail_moved x j from to is licence = record {
    chain = i.chain;
    ends = i.ends;
    tail = record { tail_at = is; step = suc j; tail_ends = to; near = omega (arith, i.tail.near, one_step_a_position g i.ends _ _ _ _ from i.tail.tail_ends refl) };
    linked = record {
      shape = i.linked.shape;
      waits = λ a k p b f. ⊎_elim (λ h. inl (omega (arith, higher))) inr (i.linked.waits a k p b f);
      not_past = λ a k p b f n. over a k p b f n (steps_in_order g i.ends j k _ p from f (i.linked.not_past a k p b f n));
      old_tails = i.linked.old_tails;
    };
    head = i.head;
    batches = i.batches;
  }
    where
      higher : s.tail.count.0 < x.count.0
      higher = i.ends.rising j (suc j) _ _ from to (omega arith)

      over : (a k p : ℕ) → At g.by (suc k) (some a) → At g.ends k p → (announcement_at s.announcements a).old_tail ≡ None → j ≤ k → x.count.0 ≤ p
      over a k p b f n h =
          elim (ℕ_discrete j k) [
            | yes e ↦ absurd (licence a (rw e b) n)
            | no ne ↦ ends_in_order g i.ends (suc j) k x.count.0 p to f (omega arith)
          ]

  -- a batch is linked behind a position that the tail has reached
  pub linked_le : (a p : ℕ) → Linked g a p → p ≤ s.tail.count.0
  linked_le a p l =
      ends_in_order g i.ends l.step i.tail.step p s.tail.count.0 l.from i.tail.tail_ends
      (omega (arith, within g.by (suc l.step) l.is, i.ends.same_length, i.tail.near))

  -- a CAS of the tail from t to x: if it is taken, then the tail was t
  module _ (t x : Tail) (b : Bool) (same : same_tail s.tail t ≡ b) where
    cas_inv : (s.tail ≡ t → Inv (with_tail s x) g) → Inv (tail_if b s x) g
    cas_inv moved = either_way (λ s'. Inv s' g) b (λ e. moved (same_tail_is_it s.tail t (same ∙ e))) (λ e. i)

    cas_grows : t.count.0 ≤ x.count.0 → Grows s g (tail_if b s x) g
    cas_grows forth = either_way (λ s'. Grows s g s' g) b (λ e. tail_grows s g x (omega (arith, was e))) (λ e. quiet)
      where
        was : b ≡ true → s.tail.count.0 ≡ t.count.0
        was e = ap (λ (y : Tail). y.count.0) (same_tail_is_it s.tail t (same ∙ e))

  -- e3, e5, a8: the tail goes by one node, over a single enqueue
  module _ (t : Tail) (x : ℕ) (behind : At g.chain (suc t.count.0) x) (b : Bool) (same : same_tail s.tail t ≡ b) where
    one_up : up t.count.0 1 ≡ suc t.count.0
    one_up = omega (arith, position_small s g i (suc t.count.0) x behind)

    pub one_further_inv : OneFurther s g t → Inv (tail_if b s (past_tail t x 1)) g
    one_further_inv further =
        cas_inv t (past_tail t x 1) b same λ e.
        ⊎_elim (moved e) (λ h. absurd (let z = ap (λ (y : Tail). y.count.0) e in omega arith)) further
      where
        moved : s.tail ≡ t → SingleBehind g t.count.0 → Inv (with_tail s (past_tail t x 1)) g
        moved e h =
            tail_moved (past_tail t x 1) h.step (rw e h.from) (rw one_up h.to) (rw one_up behind)
            (λ a m n. none_is_not_some {l = none} refl (some_injective (sym h.is ∙ m)))

    pub one_further_grows : Grows s g (tail_if b s (past_tail t x 1)) g
    one_further_grows = cas_grows t (past_tail t x 1) b same (omega (arith, one_up))

  -- an announcement asks for an enqueue or more
  pub asks_an_enqueue : (a : ℕ) → In g.installed a → 0 < (request_of s a).tally.enqueues
  asks_an_enqueue a there =
      let h = i.head.has_batch a there in
      let k = i.batches.asks a h.0 h.1 in
      omega (arith, within h.0.nodes 0 k.first_is, k.many)

  -- a5: the tail goes over the batch of announcement a, from its old tail
  module _ (a : ℕ) (o : Tail) (there : In g.installed a) (is_set : (announcement_at s.announcements a).old_tail ≡ Some o) (b : Bool)
      (same : same_tail s.tail o ≡ b) where
    old_tail_lem : Linked g a o.count.0 × TailAt g o
    old_tail_lem = i.linked.old_tails a o is_set there

    shape : Shape g (announcement_at s.announcements a) old_tail_lem.0.step o.count.0
    shape = i.linked.shape a _ _ old_tail_lem.0.is old_tail_lem.0.from

    up_to_last : up o.count.0 (request_of s a).tally.enqueues ≡ o.count.0 + (request_of s a).tally.enqueues
    up_to_last = goes_up s g i _ _ (omega (arith, position_small s g i _ _ shape.last_at))

    pub over_batch_inv : Inv (tail_if b s (past_batch s a o)) g
    over_batch_inv =
        cas_inv o (past_batch s a o) b same λ e.
        tail_moved (past_batch s a o) old_tail_lem.0.step
        (subst (λ (y : Tail). At g.ends old_tail_lem.0.step y.count.0) (sym e) old_tail_lem.0.from)
        (rw up_to_last shape.ends_at) (rw up_to_last shape.last_at) (λ c m n. only_a c (some_injective (some_injective (sym m ∙ old_tail_lem.0.is))) n)
      where
        only_a : (c : ℕ) → c ≡ a → (announcement_at s.announcements c).old_tail ≡ None → ⊥
        only_a c e n = let z : ◌≡◌ {A = ℕ} 0 1 = cc in omega arith

    pub over_batch_grows : Grows s g (tail_if b s (past_batch s a o)) g
    over_batch_grows = cas_grows o (past_batch s a o) b same (omega (arith, up_to_last))

    -- taken or not, the tail is past the old tail then
    past_either_way : (c : Bool) → c ≡ b → o.count.0 < (tail_if c s (past_batch s a o)).tail.count.0
    past_either_way true e = omega (arith, up_to_last, asks_an_enqueue a there)
    past_either_way false e =
        elim (ℕ_discrete s.tail.count.0 o.count.0) [ yes f ↦ absurd (differ f) | no ne ↦ omega (arith, linked_le a _ old_tail_lem.0) ]
      where
        differ : s.tail.count.0 ≡ o.count.0 → ⊥
        differ f =
            let n = one_element g.chain _ _ i.tail.tail_at old_tail_lem.1 f in
            false≢true (e ∙ sym same ∙ it_is_the_same_tail s.tail o (tail_of_parts s.tail o n f))

    pub past_old_tail : o.count.0 < (tail_if b s (past_batch s a o)).tail.count.0
    past_old_tail = past_either_way b refl

    abbrev pub past_batch_lem : Past (tail_if b s (past_batch s a o)) g a
    past_batch_lem = record { old = o; is = over_batch_grows.old_tail_lem a o there is_set; past = past_old_tail }
