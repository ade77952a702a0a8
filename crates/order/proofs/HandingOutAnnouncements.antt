-- An announcement is handed out for a batch: its number is new, so nobody has installed it and nobody owns it. It stands in the table with
-- what the batch asks for and no old tail, and the other announcements stay as they are.
use Rattle.std.specs.Prelude.{None}
use Prim.Native.Nat.{ℕ, suc, ◌+◌, ◌%◌, ◌<◌}
use mathlib.Core.Path.{◌≡◌, refl, sym, ap, ◌∙◌, subst}
use mathlib.Core.List.{[], ◌∷◌}
use mathlib.Core.Logic.{◌⊎◌, inl, inr}
use native.Mathlib.Omega.{arith}
use lib.ListN.{length, length-set}
use Rattle.chain.specs.Positions.{At, In}
use Rattle.chain.proofs.Positions.{at_left, stays, at_the_end, length-one_more, there_or_at_the_end}
use Rattle.cells.specs.declared.Request.{Request}
use Rattle.cells.specs.declared.Announcement.{Announcement}
use Rattle.memory.specs.Memory.{announcement_at}
use Rattle.order.proofs.Ghost.{Ghost, Batch, announces}
use Rattle.order.proofs.Shared.{Shared, announcing, announcement_set, other_announcement}
use Rattle.order.proofs.Invariant.{FrontAt, Shape, Asks, Inv}
use Rattle.order.proofs.Knows.{Mine, Private, NotAnnounced, request_of}
use Rattle.order.proofs.Grows.{Grows, Spares}
use Rattle.order.proofs.NothingLinked.{link_steps_stay, tail_stays, linked_as_before, was_linked, shape_stays, owned_node_handed_out, batch_handed_out, owned_announcement_handed_out}

abbrev pub asking : Request → Announcement
asking k = record { request = k; old_tail = None }

-- the next announcement, with request k and no old tail
abbrev pub announcement_handed_out : Shared → Request → Shared
announcement_handed_out s k = record {
  head = s.head;
  tail = s.tail;
  links = s.links;
  announcements = announcing s.announcements s.announced (asking k);
  nodes = s.nodes;
  announced = s.announced + 1;
}

module _ (s : Shared) (g : Ghost) (i : Inv s g) (t : ℕ) (k : Request) (b : Batch) (asks : Asks (asking k) b) (private : Private s g t b.nodes)
    (room : s.announced < 64) where
  new_is : announcement_at (announcement_handed_out s k).announcements s.announced ≡ asking k
  new_is = announcement_set s.announcements i.batches.cells s.announced (asking k) room

  old_stays : (a : ℕ) → a < s.announced → announcement_at (announcement_handed_out s k).announcements a ≡ announcement_at s.announcements a
  old_stays a h = other_announcement s.announcements i.batches.cells s.announced (asking k) room a (omega arith) (omega arith)

  pub new_request : request_of (announcement_handed_out s k) s.announced ≡ k
  new_request = ap (λ (x : Announcement). x.request) new_is

  -- one that is installed is an old one
  installed_handed_out : (a : ℕ) → In g.installed a → a < s.announced
  installed_handed_out a h = let c = i.head.has_batch a h in batch_handed_out s g i a c.0 c.1

  installed_stays : (a : ℕ) → In g.installed a → announcement_at (announcement_handed_out s k).announcements a ≡ announcement_at s.announcements a
  installed_stays a h = old_stays a (installed_handed_out a h)

  old_tail_stays : (a : ℕ) → In g.installed a → (announcement_at (announcement_handed_out s k).announcements a).old_tail ≡ (announcement_at s.announcements a).old_tail
  old_tail_stays a h = ap (λ (x : Announcement). x.old_tail) (installed_stays a h)

  installed_batch : (a : ℕ) (c : Batch) → In g.installed a → At (announces g t b).batches a c → At g.batches a c
  installed_batch a c h p = sym (at_left g.batches (b ∷ []) a (omega (arith, installed_handed_out a h, i.batches.counted))) ∙ p

  -- of the batches that were there, and of the new one
  asks_still : (a : ℕ) (c : Batch) → At g.batches a c ⊎ ((a ≡ length g.batches) × (c ≡ b)) → Asks (announcement_at (announcement_handed_out s k).announcements a) c
  asks_still a c (inl p) = subst (λ (x : Announcement). Asks x c) (sym (old_stays a (batch_handed_out s g i a c p))) (i.batches.asks a c p)
  asks_still a c (inr p) =
      let same : a ≡ s.announced = omega (arith, p.0, i.batches.counted) in
      let is = ap (λ (a : ℕ). announcement_at (announcement_handed_out s k).announcements a) same ∙ new_is in
      subst (λ (x : Announcement). Asks x c) (sym is) (subst (Asks (asking k)) (sym p.1) asks)

  nodes_in_use : (a j n : ℕ) (c : Batch) → At g.batches a c ⊎ ((a ≡ length g.batches) × (c ≡ b)) → At c.nodes j n → n < s.nodes
  nodes_in_use a j n c (inl p) h = i.batches.in_use a j n c p h
  nodes_in_use a j n c (inr p) h = owned_node_handed_out s g i t n (private.mine j n (subst (λ (c : Batch). At c.nodes j n) p.1 h))

  pub new_announcement_inv : Inv (announcement_handed_out s k) (announces g t b)
  new_announcement_inv = record {
    chain = record { first = i.chain.first; chain = i.chain.chain; in_use = i.chain.in_use; room = i.chain.room; cells = i.chain.cells; owned = i.chain.owned };
    ends = link_steps_stay i.ends;
    tail = tail_stays i.tail;
    linked = record {
      shape = λ a j p m e.
          subst (λ (x : Announcement). Shape (announces g t b) x j p) (sym (installed_stays a (i.head.linked_installed a (suc j) m)))
          (shape_stays (i.linked.shape a j p m e));
      waits = i.linked.waits;
      not_past = λ a j p m e n. i.linked.not_past a j p m e (sym (old_tail_stays a (i.head.linked_installed a (suc j) m)) ∙ n);
      old_tails = λ a o e h. let w = i.linked.old_tails a o (sym (old_tail_stays a h) ∙ e) h in (linked_as_before w.0, w.1);
    };
    head = record {
      linked_installed = i.head.linked_installed;
      linked_or_there = i.head.linked_or_there;
      there_installed = i.head.there_installed;
      head_at = i.head.head_at;
      old_head_at = λ a h. subst (λ (x : Announcement). FrontAt g x.request.old_head) (sym (installed_stays a h)) (i.head.old_head_at a h);
      has_batch = λ a h. let c = i.head.has_batch a h in (c.0, stays g.batches (b ∷ []) a c.1);
    };
    batches = record {
      asks = λ a c p. asks_still a c (there_or_at_the_end g.batches b a p);
      in_use = λ a j n c p h. nodes_in_use a j n c (there_or_at_the_end g.batches b a p) h;
      counted = omega (arith, length-one_more g.batches b, i.batches.counted);
      owned = omega (arith, length-one_more g.announcement_owners t, length-one_more g.batches b, i.batches.owned);
      room = omega arith;
      cells = length-set s.announcements (s.announced % 64) (asking k) ∙ i.batches.cells;
      beside = λ a c h n p. i.batches.beside a c h n (installed_batch a c h p);
    };
  }

  pub new_announcement_grows : Grows s g (announcement_handed_out s k) (announces g t b)
  new_announcement_grows = record {
    chain = λ j n h. h;
    ends = λ j p h. h;
    by = λ j x h. h;
    new_batch = λ a p h. inl (was_linked h);
    installed = λ a h. h;
    batches = λ a c h. stays g.batches (b ∷ []) a h;
    tail_up = omega arith;
    request = λ a h. ap (λ (x : Announcement). x.request) (installed_stays a h);
    old_tail_lem = λ a o h e. old_tail_stays a h ∙ e;
  }

  still_mine : (u n : ℕ) → Mine g u n → Mine (announces g t b) u n
  still_mine u n h = record { owner = h.owner; not_in_chain = h.not_in_chain; not_in_batch = λ a c w p q. h.not_in_batch a c w (installed_batch a c w p) q }

  -- every thread keeps what it had, t too
  pub new_announcement_spares : (u : ℕ) → Spares s g (announcement_handed_out s k) (announces g t b) u
  new_announcement_spares u = record {
    mine = still_mine u;
    link = λ n h. refl;
    mine_too = λ a h. record { owner = stays g.announcement_owners (t ∷ []) a h.owner; not_installed = h.not_installed };
    announcement = λ a h. old_stays a (owned_announcement_handed_out s g i u a h);
    pending = refl;
  }

  pub new_batch_lem : At (announces g t b).batches s.announced b
  new_batch_lem = subst (λ (a : ℕ). At (announces g t b).batches a b) (sym i.batches.counted) (at_the_end g.batches b)

  pub new_not_announced : NotAnnounced (announcement_handed_out s k) (announces g t b) t s.announced
  new_not_announced = record {
    mine = record {
      owner = subst (λ (a : ℕ). At (announces g t b).announcement_owners a t) (i.batches.owned ∙ sym i.batches.counted) (at_the_end g.announcement_owners t);
      not_installed = λ h. (let z = installed_handed_out s.announced h in omega arith);
    };
    unset = ap (λ (x : Announcement). x.old_tail) new_is;
    batch = b;
    is = new_batch_lem;
    private = record { mine = λ j n p. still_mine t n (private.mine j n p); chain = private.chain };
  }
