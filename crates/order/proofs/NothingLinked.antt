-- An operation that links nothing leaves the chain and the link steps alone: what speaks only of them stays true. What else such operations
-- share: every node and every announcement that anybody owns has been handed out, so it is found in its table under its own number.
use Prim.Native.Nat.{ℕ, ◌<◌}
use mathlib.Core.List.{List}
use native.Mathlib.Omega.{arith}
use Rattle.chain.specs.Positions.{At}
use Rattle.chain.proofs.Positions.{within}
use Rattle.cells.specs.declared.Tail.{Tail}
use Rattle.cells.specs.declared.Announcement.{Announcement}
use Rattle.order.proofs.Ghost.{Ghost, Batch}
use Rattle.order.proofs.Shared.{Shared}
use Rattle.order.proofs.Invariant.{Linked, InvEnds, InvTail, Shape, Inv}
use Rattle.order.proofs.Knows.{Mine, MineToo}

-- the same chain and link steps, with others installed, other owners and other batches
abbrev pub same_chain : Ghost → List ℕ → List ℕ → List ℕ → List Batch → Ghost
same_chain g installed node_owners announcement_owners batches = record {
  chain = g.chain;
  ends = g.ends;
  by = g.by;
  installed = installed;
  node_owners = node_owners;
  announcement_owners = announcement_owners;
  batches = batches;
  pending = g.pending;
}

module _ {g : Ghost} {is os aos : List ℕ} {bs : List Batch} where
  pub link_steps_stay : InvEnds g → InvEnds (same_chain g is os aos bs)
  link_steps_stay e = record {
    ends_at_dummy = e.ends_at_dummy;
    by_nobody = e.by_nobody;
    same_length = e.same_length;
    rising = e.rising;
    ends_within = e.ends_within;
    last_ends = e.last_ends;
    singles = e.singles;
    linked_once = e.linked_once;
  }

  pub tail_stays : {t : Tail} → InvTail t g → InvTail t (same_chain g is os aos bs)
  tail_stays t = record { tail_at = t.tail_at; step = t.step; tail_ends = t.tail_ends; near = t.near }

  pub linked_as_before : {a p : ℕ} → Linked g a p → Linked (same_chain g is os aos bs) a p
  linked_as_before h = record { step = h.step; is = h.is; from = h.from }

  pub was_linked : {a p : ℕ} → Linked (same_chain g is os aos bs) a p → Linked g a p
  was_linked h = record { step = h.step; is = h.is; from = h.from }

  pub shape_stays : {x : Announcement} {j p : ℕ} → Shape g x j p → Shape (same_chain g is os aos bs) x j p
  shape_stays h = record { first_at = h.first_at; last_at = h.last_at; ends_at = h.ends_at; old_head_before = h.old_head_before }

module _ (s : Shared) (g : Ghost) (i : Inv s g) where
  -- a node that somebody owns has been handed out, and so has an announcement
  pub owned_node_handed_out : (u n : ℕ) → Mine g u n → n < s.nodes
  owned_node_handed_out u n h = omega (arith, within g.node_owners n h.owner, i.chain.owned)

  pub owned_node_small : (u n : ℕ) → Mine g u n → n < 512
  owned_node_small u n h = omega (arith, owned_node_handed_out u n h, i.chain.room)

  pub batch_handed_out : (a : ℕ) (b : Batch) → At g.batches a b → a < s.announced
  batch_handed_out a b h = omega (arith, within g.batches a h, i.batches.counted)

  pub announcement_small : (a : ℕ) (b : Batch) → At g.batches a b → a < 64
  announcement_small a b h = omega (arith, batch_handed_out a b h, i.batches.room)

  pub owned_announcement_handed_out : (u a : ℕ) → MineToo g u a → a < s.announced
  owned_announcement_handed_out u a h = omega (arith, within g.announcement_owners a h.owner, i.batches.owned, i.batches.counted)

  pub owned_announcement_small : (u a : ℕ) → MineToo g u a → a < 64
  owned_announcement_small u a h = omega (arith, owned_announcement_handed_out u a h, i.batches.room)
