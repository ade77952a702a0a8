-- b2: a thread lays its announcement over the head it has read, and the head becomes the announcement, or the CAS is not taken. Only the own
-- announcement's old head is written, and the announcement is nobody else's while it is not installed. Where the CAS is taken, the batch was
-- a private chain of nodes that are in no chain yet: now it stands beside the chain.
use Rattle.std.specs.Prelude.{None, Some}
use Prim.Native.Nat.{ℕ, suc, ◌%◌, ◌<◌}
use mathlib.Core.Path.{◌≡◌, refl, sym, ap, ◌∙◌, subst}
use mathlib.Core.List.{[], ◌∷◌}
use mathlib.Core.Option.{some}
use mathlib.Core.Logic.{◌⊎◌, inl, inr, ⊎_elim, ◌≢◌}
use native.Mathlib.Omega.{arith}
use native.Mathlib.Decide.{ℕ_discrete}
use lib.ListN.{length, length-set}
use Rattle.chain.specs.Positions.{At, In}
use Rattle.chain.specs.Chain.{Beside}
use Rattle.chain.proofs.Positions.{one_element, stays, at_the_end, there_or_at_the_end}
use Rattle.cells.specs.declared.Tail.{Tail}
use Rattle.cells.specs.declared.Front.{Front}
use Rattle.cells.specs.declared.Head.TheVariants.{Plain, Announced}
use Rattle.cells.specs.Links.{OldTail}
use Rattle.cells.specs.declared.Announcement.{Announcement}
use Rattle.memory.specs.Memory.{announcement_at, laid_over}
use Rattle.row.specs.declared.Row.{Row}
use Rattle.order.proofs.Ghost.{Ghost, Batch, installs}
use Rattle.order.proofs.SameEnds.{plain_is_not_announced}
use Rattle.order.proofs.Shared.{Shared, next, with_head, with_announcements, announcing, announcement_set, other_announcement}
use Rattle.order.proofs.Invariant.{FrontAt, Linked, NotLinked, Shape, TailAt, Asks, Inv}
use Rattle.order.proofs.Ends.{installed_small}
use Rattle.order.proofs.Knows.{Mine, MineToo, NotAnnounced, Own, request_of}
use Rattle.order.proofs.Grows.{Grows, Spares}
use Rattle.order.proofs.NothingLinked.{link_steps_stay, tail_stays, linked_as_before, was_linked, shape_stays, announcement_small, owned_announcement_small}

-- announcement b laid over front f, before the CAS of the head
abbrev pub laid : Shared → ℕ → Front → Shared
laid s b f = with_announcements s (announcing s.announcements b (laid_over (announcement_at s.announcements b) f))

announced_injective : {a b : ℕ} → Announced a ≡ Announced b → a ≡ b
announced_injective p = cc

unset_is_not_set : {o : OldTail} {t : Tail} → o ≡ None → o ≡ Some t → ⊥
unset_is_not_set p q = let z : ◌≡◌ {A = ℕ} 0 1 = cc in omega arith

-- what a batch asks for does not depend on the old head
asks_when_laid : {x : Announcement} {c : Batch} (f : Front) → Asks x c → Asks (laid_over x f) c
asks_when_laid f h = record { first_is = h.first_is; last_is = h.last_is; many = h.many; tally = h.tally }

module _ (s : Shared) (g : Ghost) (i : Inv s g) (t b : ℕ) (new : NotAnnounced s g t b) (f : Front) where
  own_small : b < 64
  own_small = announcement_small s g i b new.batch new.is

  -- the own announcement is laid, and the others are left alone
  laid_is : announcement_at (laid s b f).announcements b ≡ laid_over (announcement_at s.announcements b) f
  laid_is = announcement_set s.announcements i.batches.cells b (laid_over (announcement_at s.announcements b) f) own_small

  others_left : (a : ℕ) → a < 64 → a ≢ b → announcement_at (laid s b f).announcements a ≡ announcement_at s.announcements a
  others_left a h ne = other_announcement s.announcements i.batches.cells b (laid_over (announcement_at s.announcements b) f) own_small a h ne

  -- one that is installed is another one
  installed_left : (a : ℕ) → In g.installed a → announcement_at (laid s b f).announcements a ≡ announcement_at s.announcements a
  installed_left a h = others_left a (installed_small s g i a h) (λ e. new.mine.not_installed (subst (In g.installed) e h))

  old_tail_left : (a : ℕ) → In g.installed a → (announcement_at (laid s b f).announcements a).old_tail ≡ (announcement_at s.announcements a).old_tail
  old_tail_left a h = ap (λ (x : Announcement). x.old_tail) (installed_left a h)

  still_unset : (announcement_at (laid s b f).announcements b).old_tail ≡ None
  still_unset = ap (λ (x : Announcement). x.old_tail) laid_is ∙ new.unset

  -- first, last and tally of the own request stay
  pub laid_first : (request_of (laid s b f) b).first ≡ (request_of s b).first
  laid_first = ap (λ (x : Announcement). x.request.first) laid_is

  pub laid_last : (request_of (laid s b f) b).last ≡ (request_of s b).last
  laid_last = ap (λ (x : Announcement). x.request.last) laid_is

  asks_still : (a : ℕ) (c : Batch) → At g.batches a c → Asks (announcement_at (laid s b f).announcements a) c
  asks_still a c h =
      elim (ℕ_discrete a b) [
        | yes e ↦ subst (λ (a : ℕ). Asks (announcement_at (laid s b f).announcements a) c) (sym e)
            (subst (λ (x : Announcement). Asks x c) (sym laid_is) (asks_when_laid f (i.batches.asks b c (subst (λ (a : ℕ). At g.batches a c) e h))))
        | no ne ↦ subst (λ (x : Announcement). Asks x c) (sym (others_left a (announcement_small s g i a c h) ne)) (i.batches.asks a c h)
      ]

  shape_still : (a j p : ℕ) → At g.by (suc j) (some a) → At g.ends j p → Shape g (announcement_at (laid s b f).announcements a) j p
  shape_still a j p m e =
      subst (λ (x : Announcement). Shape g x j p) (sym (installed_left a (i.head.linked_installed a (suc j) m))) (i.linked.shape a j p m e)

  old_head_still : (a : ℕ) → In g.installed a → FrontAt g (announcement_at (laid s b f).announcements a).request.old_head
  old_head_still a h = subst (λ (x : Announcement). FrontAt g x.request.old_head) (sym (installed_left a h)) (i.head.old_head_at a h)

  all_cells : length (laid s b f).announcements ≡ 64
  all_cells = length-set s.announcements (b % 64) (laid_over (announcement_at s.announcements b) f) ∙ i.batches.cells

  others_own_others : (u a : ℕ) → u ≢ t → MineToo g u a → a ≢ b
  others_own_others u a ne h e = ne (one_element g.announcement_owners a b h.owner new.mine.owner e)

  -- 1. The CAS is not taken.
  pub laid_inv : Inv (laid s b f) g
  laid_inv = record {
    chain = i.chain;
    ends = i.ends;
    tail = i.tail;
    linked = record {
      shape = shape_still;
      waits = i.linked.waits;
      not_past = λ a j p m e n. i.linked.not_past a j p m e (sym (old_tail_left a (i.head.linked_installed a (suc j) m)) ∙ n);
      old_tails = λ a o e h. i.linked.old_tails a o (sym (old_tail_left a h) ∙ e) h;
    };
    head = record {
      linked_installed = i.head.linked_installed;
      linked_or_there = i.head.linked_or_there;
      there_installed = i.head.there_installed;
      head_at = i.head.head_at;
      old_head_at = old_head_still;
      has_batch = i.head.has_batch;
    };
    batches = record {
      asks = asks_still;
      in_use = i.batches.in_use;
      counted = i.batches.counted;
      owned = i.batches.owned;
      room = i.batches.room;
      cells = all_cells;
      beside = i.batches.beside;
    };
  }

  pub laid_grows : Grows s g (laid s b f) g
  laid_grows = record {
    chain = λ k n h. h;
    ends = λ j p h. h;
    by = λ j x h. h;
    new_batch = λ a p h. inl h;
    installed = λ a h. h;
    batches = λ a c h. h;
    tail_up = omega arith;
    request = λ a h. ap (λ (x : Announcement). x.request) (installed_left a h);
    old_tail_lem = λ a o h e. old_tail_left a h ∙ e;
  }

  pub laid_spares : (u : ℕ) → u ≢ t → Spares s g (laid s b f) g u
  laid_spares u ne = record {
    mine = λ n h. h;
    link = λ n h. refl;
    mine_too = λ a h. h;
    announcement = λ a h. others_left a (owned_announcement_small s g i u a h) (others_own_others u a ne h);
    pending = refl;
  }

  pub laid_not_announced : NotAnnounced (laid s b f) g t b
  laid_not_announced = record {
    mine = new.mine;
    unset = still_unset;
    batch = new.batch;
    is = new.is;
    private = record { mine = new.private.mine; chain = new.private.chain };
  }

  pub laid_own : {r : Row} → Own s g t b r → Own (laid s b f) g t b r
  laid_own h = record { first = laid_first ∙ h.first; last = laid_last ∙ h.last; batch = h.batch; is = h.is; calls = h.calls }

  -- 2. The CAS is taken: the head was f.
  pub now_installed : In (installs g b).installed b
  now_installed = (length g.installed, at_the_end g.installed b)

  still_installed : (a : ℕ) → In g.installed a → In (installs g b).installed a
  still_installed a h = (h.0, stays g.installed (b ∷ []) h.0 h.1)

  before_or_now : (a : ℕ) → In (installs g b).installed a → In g.installed a ⊎ (a ≡ b)
  before_or_now a h = ⊎_elim (λ k. inl (h.0, k)) (λ k. inr k.1) (there_or_at_the_end g.installed b h.0 h.1)

  -- the own batch stands beside the chain
  own_beside : (c : Batch) → At g.batches b c → Beside (next s.links) g.chain c.nodes
  own_beside c h =
      subst (λ (c : Batch). Beside (next s.links) g.chain c.nodes) (one_element g.batches b b new.is h refl)
      (record { chain = new.private.chain; apart = λ k n p. (new.private.mine k n p).not_in_chain })

  module _ (was : s.head ≡ Plain f) where
    old_tails_lem : (a : ℕ) (o : Tail) → (announcement_at (laid s b f).announcements a).old_tail ≡ Some o → In g.installed a ⊎ (a ≡ b) → Linked (installs g b) a o.count.0 × TailAt g o
    old_tails_lem a o e (inl h) = let w = i.linked.old_tails a o (sym (old_tail_left a h) ∙ e) h in (linked_as_before w.0, w.1)
    old_tails_lem a o e (inr q) =
        absurd (unset_is_not_set still_unset (subst (λ (a : ℕ). (announcement_at (laid s b f).announcements a).old_tail ≡ Some o) q e))

    old_heads : (a : ℕ) → In g.installed a ⊎ (a ≡ b) → FrontAt g (announcement_at (laid s b f).announcements a).request.old_head
    old_heads a (inl h) = old_head_still a h
    old_heads a (inr e) =
        subst (λ (a : ℕ). FrontAt g (announcement_at (laid s b f).announcements a).request.old_head) (sym e)
        (subst (λ (x : Announcement). FrontAt g x.request.old_head) (sym laid_is) (i.head.head_at f was))

    linked_or_there_lem : (a : ℕ) → In g.installed a ⊎ (a ≡ b) → ((j : ℕ) × At g.by (suc j) (some a)) ⊎ (Announced b ≡ Announced a)
    linked_or_there_lem a (inl h) = ⊎_elim inl (λ k. absurd (plain_is_not_announced was k)) (i.head.linked_or_there a h)
    linked_or_there_lem a (inr e) = inr (ap Announced (sym e))

    batch_of_lem : (a : ℕ) → In g.installed a ⊎ (a ≡ b) → (c : Batch) × At g.batches a c
    batch_of_lem a (inl h) = i.head.has_batch a h
    batch_of_lem a (inr e) = (new.batch, subst (λ (a : ℕ). At g.batches a new.batch) (sym e) new.is)

    beside_of : (a : ℕ) (c : Batch) → In g.installed a ⊎ (a ≡ b) → NotLinked g a → At g.batches a c → Beside (next s.links) g.chain c.nodes
    beside_of a c (inl h) n m = i.batches.beside a c h n m
    beside_of a c (inr e) n m = own_beside c (subst (λ (a : ℕ). At g.batches a c) e m)

    pub taken_inv : Inv (with_head (laid s b f) (Announced b)) (installs g b)
    taken_inv = record {
      chain = record { first = i.chain.first; chain = i.chain.chain; in_use = i.chain.in_use; room = i.chain.room; cells = i.chain.cells; owned = i.chain.owned };
      ends = link_steps_stay i.ends;
      tail = tail_stays i.tail;
      linked = record {
        shape = λ a j p m e. shape_stays (shape_still a j p m e);
        waits = λ a j p m e. ⊎_elim inl (λ h. absurd (plain_is_not_announced was h)) (i.linked.waits a j p m e);
        not_past = laid_inv.linked.not_past;
        old_tails = λ a o e h. old_tails_lem a o e (before_or_now a h);
      };
      head = record {
        linked_installed = λ a j m. still_installed a (i.head.linked_installed a j m);
        linked_or_there = λ a h. linked_or_there_lem a (before_or_now a h);
        there_installed = λ a e. subst (In (installs g b).installed) (announced_injective e) now_installed;
        head_at = λ x e. absurd (plain_is_not_announced e refl);
        old_head_at = λ a h. old_heads a (before_or_now a h);
        has_batch = λ a h. batch_of_lem a (before_or_now a h);
      };
      batches = record {
        asks = asks_still;
        in_use = i.batches.in_use;
        counted = i.batches.counted;
        owned = i.batches.owned;
        room = i.batches.room;
        cells = all_cells;
        beside = λ a c h n m. beside_of a c (before_or_now a h) n m;
      };
    }

    pub taken_grows : Grows s g (with_head (laid s b f) (Announced b)) (installs g b)
    taken_grows = record {
      chain = λ k n h. h;
      ends = λ j p h. h;
      by = λ j x h. h;
      new_batch = λ a p h. inl (was_linked h);
      installed = still_installed;
      batches = λ a c h. h;
      tail_up = omega arith;
      request = laid_grows.request;
      old_tail_lem = laid_grows.old_tail_lem;
    }

    -- another thread's nodes are in no batch that was installed, nor in this one, whose nodes are all the own ones
    not_in_batch_lem : (u n : ℕ) → u ≢ t → Mine g u n → (a : ℕ) (c : Batch) → In g.installed a ⊎ (a ≡ b) → At g.batches a c → In c.nodes n → ⊥
    not_in_batch_lem u n ne h a c (inl k) m p = h.not_in_batch a c k m p
    not_in_batch_lem u n ne h a c (inr e) m p =
        let same : c ≡ new.batch = one_element g.batches a b m new.is e in
        let own = new.private.mine p.0 n (subst (λ (c : Batch). At c.nodes p.0 n) same p.1) in
        ne (one_element g.node_owners n n h.owner own.owner refl)

    pub taken_spares : (u : ℕ) → u ≢ t → Spares s g (with_head (laid s b f) (Announced b)) (installs g b) u
    taken_spares u ne = record {
      mine = λ n h. record { owner = h.owner; not_in_chain = h.not_in_chain; not_in_batch = λ a c k m p. not_in_batch_lem u n ne h a c (before_or_now a k) m p };
      link = λ n h. refl;
      mine_too = λ a h. record { owner = h.owner; not_installed = λ k. ⊎_elim h.not_installed (others_own_others u a ne h) (before_or_now a k) };
      announcement = (laid_spares u ne).announcement;
      pending = refl;
    }

    pub taken_own : {r : Row} → Own s g t b r → Own (with_head (laid s b f) (Announced b)) (installs g b) t b r
    taken_own h = record { first = laid_first ∙ h.first; last = laid_last ∙ h.last; batch = h.batch; is = h.is; calls = h.calls }
