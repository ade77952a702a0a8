-- A node is handed out: its number is new, so it is in no chain, no batch and no pending list, and its link can be cleared unseen. And a
-- deferred enqueue links the last node of its thread's pending list to the new one: both are the thread's own, so again nobody sees it.
use Rattle.std.specs.Prelude.{None, Some}
use Prim.Native.Nat.{ℕ, suc, ◌+◌, ◌%◌, ◌<◌}
use mathlib.Core.Path.{◌≡◌, refl, sym, ap, ◌∙◌, subst}
use mathlib.Core.List.{List, [], ◌∷◌, ◌++◌}
use mathlib.Core.Logic.{◌⊎◌, inl, inr, ⊎_elim, ◌≢◌}
use native.Mathlib.Omega.{arith}
use native.Mathlib.Decide.{ℕ_discrete}
use lib.ListN.{length, set, length-set}
use Rattle.chain.specs.Positions.{at, At}
use Rattle.chain.proofs.Positions.{one_element, within, past_the_end, at_left, stays, at_the_end, length-one_more, there_or_at_the_end}
use Rattle.cells.specs.Links.{Link}
use Rattle.order.proofs.Ghost.{Ghost, owns}
use Rattle.order.proofs.Shared.{Shared, next, with_links, linked, next_of_linked, next_of_others}
use Rattle.order.proofs.Invariant.{Inv}
use Rattle.order.proofs.Ends.{node_small}
use Rattle.order.proofs.Knows.{Mine, Single, Private}
use Rattle.order.proofs.Grows.{Grows, Spares}
use Rattle.order.proofs.NothingLinked.{link_steps_stay, tail_stays, linked_as_before, was_linked, shape_stays, owned_node_handed_out, owned_node_small}

-- the next node, without a link
abbrev pub node_handed_out : Shared → Shared
node_handed_out s = record {
  head = s.head;
  tail = s.tail;
  links = set s.links (s.nodes % 512) None;
  announcements = s.announcements;
  nodes = s.nodes + 1;
  announced = s.announced;
}

-- node m linked to node x
abbrev pub linked_to : Shared → ℕ → ℕ → Shared
linked_to s m x = with_links s (linked s.links m (Some x))

-- 1. A node is handed out to thread t.
module _ (s : Shared) (g : Ghost) (i : Inv s g) (t : ℕ) (room : s.nodes < 512) where
  old_link_stays : (n : ℕ) → n < s.nodes → next (node_handed_out s).links n ≡ next s.links n
  old_link_stays n h = next_of_others s.links i.chain.cells s.nodes None room n (omega arith) (omega arith)

  pub new_node_inv : Inv (node_handed_out s) (owns g t)
  new_node_inv = record {
    chain = record {
      first = i.chain.first;
      chain = record { links = λ k n p. old_link_stays n (i.chain.in_use k n p) ∙ i.chain.chain.links k n p; once = i.chain.chain.once };
      in_use = λ k n p. omega (arith, i.chain.in_use k n p);
      room = omega arith;
      cells = length-set s.links (s.nodes % 512) None ∙ i.chain.cells;
      owned = omega (arith, length-one_more g.node_owners t, i.chain.owned);
    };
    ends = link_steps_stay i.ends;
    tail = tail_stays i.tail;
    linked = record {
      shape = λ a j p m e. shape_stays (i.linked.shape a j p m e);
      waits = i.linked.waits;
      not_past = i.linked.not_past;
      old_tails = λ a o e h. let w = i.linked.old_tails a o e h in (linked_as_before w.0, w.1);
    };
    head = record {
      linked_installed = i.head.linked_installed;
      linked_or_there = i.head.linked_or_there;
      there_installed = i.head.there_installed;
      head_at = i.head.head_at;
      old_head_at = i.head.old_head_at;
      has_batch = i.head.has_batch;
    };
    batches = record {
      asks = i.batches.asks;
      in_use = λ a k n b m p. omega (arith, i.batches.in_use a k n b m p);
      counted = i.batches.counted;
      owned = i.batches.owned;
      room = i.batches.room;
      cells = i.batches.cells;
      beside = λ a b h f m.
          let o = i.batches.beside a b h f m in
          record {
            chain = record { links = λ k n p. old_link_stays n (i.batches.in_use a k n b m p) ∙ o.chain.links k n p; once = o.chain.once };
            apart = o.apart;
          };
    };
  }

  -- whatever is linked besides
  new_node_grows_with : (ls : List Link) → Grows s g (with_links (node_handed_out s) ls) (owns g t)
  new_node_grows_with ls = record {
    chain = λ k n h. h;
    ends = λ j p h. h;
    by = λ j x h. h;
    new_batch = λ a p h. inl (was_linked h);
    installed = λ a h. h;
    batches = λ a b h. h;
    tail_up = omega arith;
    request = λ a h. refl;
    old_tail_lem = λ a o h e. e;
  }

  pub new_node_grows : Grows s g (node_handed_out s) (owns g t)
  new_node_grows = new_node_grows_with (node_handed_out s).links

  still_mine : (u n : ℕ) → Mine g u n → Mine (owns g t) u n
  still_mine u n h = record { owner = stays g.node_owners (t ∷ []) n h.owner; not_in_chain = h.not_in_chain; not_in_batch = h.not_in_batch }

  -- every thread keeps what it had, t too
  pub new_node_spares : (u : ℕ) → Spares s g (node_handed_out s) (owns g t) u
  new_node_spares u = record {
    mine = still_mine u;
    link = λ n h. old_link_stays n (owned_node_handed_out s g i u n h);
    mine_too = λ b h. record { owner = h.owner; not_installed = h.not_installed };
    announcement = λ b h. refl;
    pending = refl;
  }

  pub new_node_mine : Mine (owns g t) t s.nodes
  new_node_mine = record {
    owner = subst (λ (k : ℕ). At (g.node_owners ++ (t ∷ [])) k t) i.chain.owned (at_the_end g.node_owners t);
    not_in_chain = λ h. (let z = i.chain.in_use h.0 s.nodes h.1 in omega arith);
    not_in_batch = λ a b h m p. (let z = i.batches.in_use a p.0 s.nodes b m p.1 in omega arith);
  }

  pub new_node_single : Single (node_handed_out s) (owns g t) t s.nodes
  new_node_single = record { mine = new_node_mine; no_link = next_of_linked s.links i.chain.cells s.nodes None room }

-- 2. A node m of thread t is linked to another.
module _ (s : Shared) (g : Ghost) (i : Inv s g) (t m x : ℕ) (own : Mine g t m) where
  other_link_stays : (n : ℕ) → n < 512 → n ≢ m → next (linked_to s m x).links n ≡ next s.links n
  other_link_stays n h ne = next_of_others s.links i.chain.cells m (Some x) (owned_node_small s g i t m own) n h ne

  pub own_link_inv : Inv (linked_to s m x) g
  own_link_inv = record {
    chain = record {
      first = i.chain.first;
      chain = record {
        links = λ k n p. other_link_stays n (node_small s g i k n p) (λ e. own.not_in_chain (k, subst (At g.chain k) e p)) ∙ i.chain.chain.links k n p;
        once = i.chain.chain.once;
      };
      in_use = i.chain.in_use;
      room = i.chain.room;
      cells = length-set s.links (m % 512) (Some x) ∙ i.chain.cells;
      owned = i.chain.owned;
    };
    ends = i.ends;
    tail = i.tail;
    linked = i.linked;
    head = i.head;
    batches = record {
      asks = i.batches.asks;
      in_use = i.batches.in_use;
      counted = i.batches.counted;
      owned = i.batches.owned;
      room = i.batches.room;
      cells = i.batches.cells;
      beside = λ a b h f q.
          let o = i.batches.beside a b h f q in
          record {
            chain = record {
              links = λ k n p.
                  other_link_stays n (omega (arith, i.batches.in_use a k n b q p, i.chain.room)) (λ e. own.not_in_batch a b h q (k, subst (At b.nodes k) e p))
                  ∙ o.chain.links k n p;
              once = o.chain.once;
            };
            apart = o.apart;
          };
    };
  }

  pub own_link_spares : (u : ℕ) → u ≢ t → Spares s g (linked_to s m x) g u
  own_link_spares u ne = record {
    mine = λ n h. h;
    link = λ n h. other_link_stays n (owned_node_small s g i u n h) (λ e. ne (one_element g.node_owners n m h.owner own.owner e));
    mine_too = λ b h. h;
    announcement = λ b h. refl;
    pending = refl;
  }

-- 3. A deferred enqueue: the new node goes to the end of thread t's pending list l.
module _ (s : Shared) (g : Ghost) (i : Inv s g) (t : ℕ) (room : s.nodes < 512) where
  -- of an empty list: the node alone
  pub first_pending : Private (node_handed_out s) (owns g t) t (s.nodes ∷ [])
  first_pending = record {
    mine = λ k n p. subst (Mine (owns g t) t) (sym (one k n p).1) (new_node_mine s g i t room);
    chain = record {
      links = λ k n p.
          ap (next (node_handed_out s).links) (one k n p).1 ∙ (new_node_single s g i t room).no_link ∙ sym (past_the_end (s.nodes ∷ []) (suc k) (omega (arith, (one k n p).0)));
      once = λ j k n p q. (one j n p).0 ∙ sym (one k n q).0;
    };
  }
    where
      one : (k n : ℕ) → At (s.nodes ∷ []) k n → (k ≡ 0) × (n ≡ s.nodes)
      one k n p = ⊎_elim (λ q. absurd (let z = within [] k q in omega arith)) (λ q. q) (there_or_at_the_end [] s.nodes k p)

  module _ (l : List ℕ) (private : Private s g t l) (k last : ℕ) (ends : At l k last) (all : length l ≡ suc k) where
    last_mine : Mine (owns g t) t last
    last_mine = (new_node_spares s g i t room t).mine last (private.mine k last ends)

    pub next_pending_inv : Inv (linked_to (node_handed_out s) last s.nodes) (owns g t)
    next_pending_inv = own_link_inv (node_handed_out s) (owns g t) (new_node_inv s g i t room) t last s.nodes last_mine

    pub next_pending_grows : Grows s g (linked_to (node_handed_out s) last s.nodes) (owns g t)
    next_pending_grows = new_node_grows_with s g i t room (linked_to (node_handed_out s) last s.nodes).links

    pub next_pending_spares : (u : ℕ) → u ≢ t → Spares s g (linked_to (node_handed_out s) last s.nodes) (owns g t) u
    next_pending_spares u ne =
        let first = new_node_spares s g i t room u in
        let second = own_link_spares (node_handed_out s) (owns g t) (new_node_inv s g i t room) t last s.nodes last_mine u ne in
        record {
          mine = first.mine;
          link = λ n h. second.link n (first.mine n h) ∙ first.link n h;
          mine_too = first.mine_too;
          announcement = first.announcement;
          pending = refl;
        }

    handed_out : (j n : ℕ) → At l j n → n < s.nodes
    handed_out j n p = owned_node_handed_out s g i t n (private.mine j n p)

    other_link : (n : ℕ) → n < 512 → n ≢ last → next (linked_to (node_handed_out s) last s.nodes).links n ≡ next (node_handed_out s).links n
    other_link = other_link_stays (node_handed_out s) (owns g t) (new_node_inv s g i t room) t last s.nodes last_mine

    last_link_lem : next (linked_to (node_handed_out s) last s.nodes).links last ≡ at (l ++ (s.nodes ∷ [])) (suc k)
    last_link_lem =
        next_of_linked (node_handed_out s).links (new_node_inv s g i t room).chain.cells last (Some s.nodes) (omega (arith, handed_out k last ends))
        ∙ sym (at_the_end l s.nodes) ∙ ap (at (l ++ (s.nodes ∷ []))) all

    earlier_link : (j n : ℕ) → At l j n → n ≢ last → next (linked_to (node_handed_out s) last s.nodes).links n ≡ at (l ++ (s.nodes ∷ [])) (suc j)
    earlier_link j n p ne =
        let h = handed_out j n p in
        let other : j ≢ k = λ e. ne (one_element l j k p ends e) in
        other_link n (omega arith) ne ∙ old_link_stays s g i t room n h ∙ private.chain.links j n p
        ∙ sym (at_left l (s.nodes ∷ []) (suc j) (omega (arith, within l j p)))

    links : (j n : ℕ) → At l j n ⊎ ((j ≡ length l) × (n ≡ s.nodes)) → next (linked_to (node_handed_out s) last s.nodes).links n ≡ at (l ++ (s.nodes ∷ [])) (suc j)
    links j n (inl p) =
        elim (ℕ_discrete n last) [
          | yes e ↦ ap (next (linked_to (node_handed_out s) last s.nodes).links) e ∙ last_link_lem
              ∙ ap (λ (j : ℕ). at (l ++ (s.nodes ∷ [])) (suc j)) (private.chain.once k j last ends (subst (At l j) e p))
          | no ne ↦ earlier_link j n p ne
        ]
    links j n (inr e) =
        other_link n (omega (arith, e.1)) (λ q. (let z = handed_out k last ends in omega (arith, e.1)))
        ∙ ap (next (node_handed_out s).links) e.1 ∙ (new_node_single s g i t room).no_link
        ∙ sym (past_the_end (l ++ (s.nodes ∷ [])) (suc j) (omega (arith, e.0, length-one_more l s.nodes)))

    once : (j j' n : ℕ) → At l j n ⊎ ((j ≡ length l) × (n ≡ s.nodes)) → At l j' n ⊎ ((j' ≡ length l) × (n ≡ s.nodes)) → j ≡ j'
    once j j' n (inl p) (inl q) = private.chain.once j j' n p q
    once j j' n (inl p) (inr q) = absurd (let z = handed_out j n p in omega (arith, q.1))
    once j j' n (inr p) (inl q) = absurd (let z = handed_out j' n q in omega (arith, p.1))
    once j j' n (inr p) (inr q) = p.0 ∙ sym q.0

    pub next_pending : Private (linked_to (node_handed_out s) last s.nodes) (owns g t) t (l ++ (s.nodes ∷ []))
    next_pending = record {
      mine = λ j n p.
          ⊎_elim (λ q. (new_node_spares s g i t room t).mine n (private.mine j n q)) (λ q. subst (Mine (owns g t) t) (sym q.1) (new_node_mine s g i t room))
          (there_or_at_the_end l s.nodes j p);
      chain = record {
        links = λ j n p. links j n (there_or_at_the_end l s.nodes j p);
        once = λ j j' n p q. once j j' n (there_or_at_the_end l s.nodes j p) (there_or_at_the_end l s.nodes j' q);
      };
    }
