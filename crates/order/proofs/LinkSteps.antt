-- A link step (a taken e2 or a3): nodes that are a chain of their own are linked behind the last node, and everything stays as the invariant has it.
-- The tail that was read is the last node, since its link is none; so the tail has not moved, and after the step it is one link step behind.
use Rattle.std.specs.Prelude.{Some}
use Prim.Native.Nat.{ℕ, suc, ◌+◌, ◌-◌, ◌<◌, ◌≤◌}
use mathlib.Core.Path.{◌≡◌, refl, sym, ap, ◌∙◌, subst}
use mathlib.Core.List.{List, [], ◌∷◌, ◌++◌}
use mathlib.Core.Option.{Option, none, some}
use mathlib.Core.Logic.{◌⊎◌, inl, inr, ⊎_elim, ◌≢◌}
use native.Mathlib.Omega.{arith}
use native.Mathlib.Decide.{dec_lt}
use lib.ListN.{length, length-set, length-append}
use Rattle.chain.specs.Positions.{at, At, In}
use Rattle.chain.specs.Chain.{Beside}
use Rattle.chain.proofs.Positions.{within, element, at_right, at_the_end, stays, in_either, there_or_at_the_end, length-one_more}
use Rattle.chain.proofs.Following.{none_is_the_last}
use Rattle.chain.proofs.Joining.{joined, stays_beside}
use Rattle.cells.specs.declared.Tail.{Tail}
use Rattle.cells.specs.declared.Head.TheVariants.{Announced}
use Rattle.cells.specs.declared.Announcement.{Announcement}
use Rattle.memory.specs.Memory.{announcement_at}
use Rattle.order.proofs.Ghost.{Ghost, Batch, joins}
use Rattle.order.proofs.Shared.{Shared, next, linked, with_links, next_of_linked, next_of_others}
use Rattle.order.proofs.Invariant.{NotLinked, InvChain, InvEnds, InvTail, Shape, InvLinked, InvHead, Asks, Inv}
use Rattle.order.proofs.Ends.{node_small}
use Rattle.order.proofs.Knows.{Mine, TailRead}
use Rattle.order.proofs.Grows.{Grows, Spares}

-- what a link step has to show: of the nodes l, whose first is f, and of the announcement whose batch they are, if they are one
pub record Joins (s : Shared) (g : Ghost) (l : List ℕ) (f : ℕ) (who : Option ℕ) (t : Tail) : Type 0 where
  pub beside : Beside (next s.links) g.chain l
  pub in_use : (k n : ℕ) → At l k n → n < s.nodes
  pub first_is : At l 0 f
  pub one_node : who ≡ none → length l ≡ 1
  pub not_yet_lem : (a : ℕ) → who ≡ some a → NotLinked g a
  pub asked : (a : ℕ) → who ≡ some a → (b : Batch) × (b.nodes ≡ l) × Asks (announcement_at s.announcements a) b
  pub old_head_before : (a : ℕ) → who ≡ some a → (announcement_at s.announcements a).request.old_head.count.0 ≤ t.count.0
  pub there : (a : ℕ) → who ≡ some a → s.head ≡ Announced a
  pub installed : (a : ℕ) → who ≡ some a → In g.installed a
  pub others : (a : ℕ) (b : Batch) → In g.installed a → NotLinked g a → (who ≡ some a → ⊥) → At g.batches a b → (n : ℕ) → In l n → In b.nodes n → ⊥

module _ (s : Shared) (g : Ghost) (i : Inv s g) (l : List ℕ) (f : ℕ) (who : Option ℕ) (t : Tail)
    (read : TailRead s g t) (free : next s.links t.node ≡ none) (j : Joins s g l f who t) where
  abbrev pub after : Shared
  after = with_links s (linked s.links t.node (Some f))

  abbrev pub after_g : Ghost
  after_g = joins g t l who

  -- the tail that was read is at the last node
  pub at_last : length g.chain ≡ suc t.count.0
  at_last = omega (arith, none_is_the_last i.chain.chain t.count.0 t.node read.is free, within g.chain t.count.0 read.is)

  some_nodes : 0 < length l
  some_nodes = within l 0 j.first_is

  -- so the tail stands there, and that is where the last link step ended
  pub tail_there : s.tail.count.0 ≡ t.count.0
  tail_there = omega (arith, within g.chain s.tail.count.0 i.tail.tail_at, at_last, read.old)

  pub all_ends : length g.ends ≡ suc i.tail.step
  all_ends =
      let a = within g.ends i.tail.step i.tail.tail_ends in
      elim (dec_lt (suc i.tail.step) (length g.ends)) [
        | yes h ↦ absurd (more (element g.ends (suc i.tail.step) h))
        | no h ↦ omega arith
      ]
    where
      more : (q : ℕ) × At g.ends (suc i.tail.step) q → ⊥
      more q =
          let a = i.ends.rising i.tail.step (suc i.tail.step) s.tail.count.0 q.0 i.tail.tail_ends q.1 (omega arith) in
          let b = i.ends.ends_within (suc i.tail.step) q.0 q.1 in
          omega (arith, at_last, tail_there)

  small : t.node < 512
  small = node_small s g i t.count.0 t.node read.is

  -- nodes outside the chain keep their links
  pub other_links : (n : ℕ) → n < 512 → (In g.chain n → ⊥) → next (linked s.links t.node (Some f)) n ≡ next s.links n
  other_links n h out = next_of_others s.links i.chain.cells t.node (Some f) small n h (λ e. out (t.count.0, read.is ∙ ap some (sym e)))

  in_use_small : (n : ℕ) → n < s.nodes → n < 512
  in_use_small n h = omega (arith, i.chain.room)

  others_among : (n : ℕ) → In g.chain n ⊎ In l n → n ≢ t.node → next (linked s.links t.node (Some f)) n ≡ next s.links n
  others_among n w ne = next_of_others s.links i.chain.cells t.node (Some f) small n (in_range_lem w) ne
    where
      in_range_lem : In g.chain n ⊎ In l n → n < 512
      in_range_lem (inl p) = in_use_small n (i.chain.in_use p.0 n p.1)
      in_range_lem (inr p) = in_use_small n (j.in_use p.0 n p.1)

  join_chain : InvChain (linked s.links t.node (Some f)) s.nodes after_g
  join_chain = record {
    first = stays g.chain l 0 i.chain.first;
    chain =
        joined i.chain.chain j.beside t.node f t.count.0 read.is at_last j.first_is
        (next_of_linked s.links i.chain.cells t.node (Some f) small) others_among;
    in_use = λ k n p. ⊎_elim (i.chain.in_use k n) (λ w. j.in_use w.0 n w.2) (in_either g.chain l k p);
    room = i.chain.room;
    cells = length-set s.links _ _ ∙ i.chain.cells;
    owned = i.chain.owned;
  }

  -- where the new link step ends
  abbrev end : ℕ
  end = t.count.0 + length l

  -- an old link step, or the new one
  rise : (a b p q : ℕ) → At g.ends a p ⊎ ((a ≡ length g.ends) × (p ≡ end)) → At g.ends b q ⊎ ((b ≡ length g.ends) × (q ≡ end)) → a < b → p < q
  rise a b p q (inl x) (inl y) h = i.ends.rising a b p q x y h
  rise a b p q (inl x) (inr y) h = let z = i.ends.ends_within a p x in omega (arith, y.1, at_last, some_nodes)
  rise a b p q (inr x) (inl y) h = absurd (let z = within g.ends b y in omega (arith, x.0))
  rise a b p q (inr x) (inr y) h = absurd (omega (arith, x.0, y.0))

  once : (a b x : ℕ) → At g.by a (some x) ⊎ ((a ≡ length g.by) × (some x ≡ who)) → At g.by b (some x) ⊎ ((b ≡ length g.by) × (some x ≡ who)) → a ≡ b
  once a b x (inl p) (inl q) = i.ends.linked_once a b x p q
  once a b x (inl p) (inr q) = absurd (j.not_yet_lem x (sym q.1) a p)
  once a b x (inr p) (inl q) = absurd (j.not_yet_lem x (sym p.1) b q)
  once a b x (inr p) (inr q) = p.0 ∙ sym q.0

  -- an old link step with where it was linked, or the new one, behind the tail that was read
  pub old_or_new : (x : Option ℕ) (k p : ℕ) → At (g.by ++ (who ∷ [])) (suc k) x → At (g.ends ++ (end ∷ [])) k p
      → (At g.by (suc k) x × At g.ends k p) ⊎ ((who ≡ x) × (suc k ≡ length g.ends) × (p ≡ t.count.0))
  old_or_new x k p b y = go (there_or_at_the_end g.by who (suc k) b) (there_or_at_the_end g.ends end k y)
    where
      go : At g.by (suc k) x ⊎ ((suc k ≡ length g.by) × (x ≡ who)) → At g.ends k p ⊎ ((k ≡ length g.ends) × (p ≡ end))
          → (At g.by (suc k) x × At g.ends k p) ⊎ ((who ≡ x) × (suc k ≡ length g.ends) × (p ≡ t.count.0))
      go (inl y) (inl z) = inl (y, z)
      go (inl y) (inr z) = absurd (let w = within g.by (suc k) y in omega (arith, i.ends.same_length, z.0))
      go (inr y) (inl z) =
          let w : suc k ≡ length g.ends = y.0 ∙ i.ends.same_length in
          inr (sym y.1, w, omega (arith, i.ends.last_ends k p z (omega arith), at_last))
      go (inr y) (inr z) = absurd (omega (arith, i.ends.same_length, y.0, z.0))

  join_ends : InvEnds after_g
  join_ends = record {
    ends_at_dummy = stays g.ends _ 0 i.ends.ends_at_dummy;
    by_nobody = stays g.by _ 0 i.ends.by_nobody;
    same_length = omega (arith, length-one_more g.by who, length-one_more g.ends end, i.ends.same_length);
    rising = λ a b p q x y. rise a b p q (there_or_at_the_end g.ends end a x) (there_or_at_the_end g.ends end b y);
    ends_within =
        λ a p x.
        ⊎_elim (λ y. omega (arith, i.ends.ends_within a p y, length-append g.chain l)) (λ y. omega (arith, y.1, length-append g.chain l, at_last))
        (there_or_at_the_end g.ends end a x);
    last_ends =
        λ a p x h.
        ⊎_elim (λ y. absurd (omega (arith, within g.ends a y, length-one_more g.ends end))) (λ y. omega (arith, y.1, length-append g.chain l, at_last))
        (there_or_at_the_end g.ends end a x);
    singles =
        λ k p b x.
        ⊎_elim (λ y. stays g.ends _ (suc k) (i.ends.singles k p y.0 y.1))
        (λ y. let q : suc p ≡ end = omega (arith, y.2, j.one_node y.0) in rw (y.1, q) (at_the_end g.ends end))
        (old_or_new none k p b x);
    linked_once = λ a b x p q. once a b x (there_or_at_the_end g.by who a p) (there_or_at_the_end g.by who b q);
  }

  join_tail : InvTail s.tail after_g
  join_tail = record {
    tail_at = stays g.chain l _ i.tail.tail_at;
    step = i.tail.step;
    tail_ends = stays g.ends _ _ i.tail.tail_ends;
    near = omega (arith, all_ends, length-one_more g.ends end);
  }

  new_shape : (a k p : ℕ) → who ≡ some a → suc k ≡ length g.ends → p ≡ t.count.0 → Shape after_g (announcement_at s.announcements a) k p
  new_shape a k p w e q =
      let b = j.asked a w in
      let asks = b.2 in
      let asked = (announcement_at s.announcements a).request in
      let n = asked.tally.enqueues in
      let many : length l ≡ n = sym (ap length b.1) ∙ asks.many in
      let first : suc p ≡ length g.chain + 0 = omega (arith, at_last) in
      let last : p + n ≡ length g.chain + (n - 1) = omega (arith, at_last, some_nodes, many) in
      let ends : p + n ≡ end = omega (arith, many) in
      let one : suc (n - 1) ≡ n = omega (arith, some_nodes, many) in
      record {
        first_at = ap (at (g.chain ++ l)) first ∙ at_right g.chain l 0 ∙ subst (λ (x : List ℕ). At x 0 asked.first) b.1 asks.first_is;
        last_at = ap (at (g.chain ++ l)) last ∙ at_right g.chain l (n - 1) ∙ subst (λ (x : List ℕ). At x (n - 1) asked.last) b.1 (asks.last_is (n - 1) one);
        ends_at = rw (e, ends) (at_the_end g.ends end);
        old_head_before = omega (arith, j.old_head_before a w);
      }

  shape_stays : {x : Announcement} {k p : ℕ} → Shape g x k p → Shape after_g x k p
  shape_stays h = record {
    first_at = stays g.chain l _ h.first_at;
    last_at = stays g.chain l _ h.last_at;
    ends_at = stays g.ends _ _ h.ends_at;
    old_head_before = h.old_head_before;
  }

  join_linked : InvLinked s.head s.tail s.announcements after_g
  join_linked = record {
    shape = λ a k p b x. ⊎_elim (λ y. shape_stays (i.linked.shape a k p y.0 y.1)) (λ y. new_shape a k p y.0 y.1 y.2) (old_or_new (some a) k p b x);
    waits = λ a k p b x. ⊎_elim (λ y. i.linked.waits a k p y.0 y.1) (λ y. inr (j.there a y.0)) (old_or_new (some a) k p b x);
    not_past = λ a k p b x n. ⊎_elim (λ y. i.linked.not_past a k p y.0 y.1 n) (λ y. omega (arith, y.2, tail_there)) (old_or_new (some a) k p b x);
    old_tails = λ a o e h. let w = i.linked.old_tails a o e h in
        (record { step = w.0.step; is = stays g.by _ _ w.0.is; from = stays g.ends _ _ w.0.from }, stays g.chain l _ w.1);
  }

  join_head : InvHead s.head s.announcements after_g
  join_head = record {
    linked_installed = λ a k b. ⊎_elim (i.head.linked_installed a k) (λ y. j.installed a (sym y.1)) (there_or_at_the_end g.by who k b);
    linked_or_there = λ a h. ⊎_elim (λ y. inl (y.0, stays g.by _ _ y.1)) inr (i.head.linked_or_there a h);
    there_installed = i.head.there_installed;
    head_at = λ x h. stays g.chain l _ (i.head.head_at x h);
    old_head_at = λ a h. stays g.chain l _ (i.head.old_head_at a h);
    has_batch = i.head.has_batch;
  }

  join_beside : (a : ℕ) (b : Batch) → In g.installed a → NotLinked after_g a → At g.batches a b → Beside (next (linked s.links t.node (Some f))) (g.chain ++ l) b.nodes
  join_beside a b h never p =
      let not : NotLinked g a = λ k x. never k (stays g.by (who ∷ []) k x) in
      let new : who ≡ some a → ⊥ = λ e. never (length g.by) (rw (← e) (at_the_end g.by who)) in
      let old = i.batches.beside a b h not p in
      stays_beside l old (j.others a b h not new p)
      (λ n w. other_links n (in_use_small n (i.batches.in_use a w.0 n b p w.1)) (old.apart w.0 n w.1))

  pub join_inv : Inv after after_g
  join_inv = record {
    chain = join_chain;
    ends = join_ends;
    tail = join_tail;
    linked = join_linked;
    head = join_head;
    batches = record {
      asks = i.batches.asks;
      in_use = i.batches.in_use;
      counted = i.batches.counted;
      owned = i.batches.owned;
      room = i.batches.room;
      cells = i.batches.cells;
      beside = join_beside;
    };
  }

  pub join_grows : Grows s g after after_g
  join_grows = record {
    chain = λ k n h. stays g.chain l k h;
    ends = λ k p h. stays g.ends _ k h;
    by = λ k x h. stays g.by _ k h;
    new_batch =
        λ a p h. ⊎_elim (λ y. inl (record { step = h.step; is = y.0; from = y.1 })) (λ y. inr (omega (arith, at_last, y.2))) (old_or_new (some a) h.step p h.is h.from);
    installed = λ a h. h;
    batches = λ a b h. h;
    tail_up = omega arith;
    request = λ a h. refl;
    old_tail_lem = λ a o h e. e;
  }

  -- a thread whose own nodes are not among those linked
  pub join_spares : (u : ℕ) → ((n : ℕ) → Mine g u n → In l n → ⊥) → Spares s g after after_g u
  join_spares u away = record {
    mine =
        λ n h. record {
          owner = h.owner;
          not_in_chain = λ w. ⊎_elim (λ x. h.not_in_chain (w.0, x)) (λ x. away n h (x.0, x.2)) (in_either g.chain l w.0 w.1);
          not_in_batch = h.not_in_batch;
        };
    link = λ n h. other_links n (in_use_small n (omega (arith, within g.node_owners n h.owner, i.chain.owned))) h.not_in_chain;
    mine_too = λ b h. record { owner = h.owner; not_installed = h.not_installed };
    announcement = λ b h. refl;
    pending = refl;
  }
