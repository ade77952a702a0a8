-- A thread's pending calls change and nothing else: nothing that is shared speaks of them.
use Prim.Native.Nat.{ℕ, ◌<◌}
use mathlib.Core.Path.{◌≡◌, refl}
use mathlib.Core.List.{List, []}
use mathlib.Core.Logic.{inl, ◌≢◌}
use native.Mathlib.Omega.{arith}
use lib.ListN.{length}
use lib.Seq.{get_or-set_same, get_or-set_other}
use Rattle.tally.specs.Fifo.{Call}
use Rattle.order.proofs.Ghost.{Ghost, pending_of, defers}
use Rattle.order.proofs.Shared.{Shared}
use Rattle.order.proofs.Invariant.{Linked, Inv}
use Rattle.order.proofs.Knows.{Mine, Private}
use Rattle.order.proofs.Grows.{Grows, Spares}

module _ (s : Shared) (g : Ghost) (t : ℕ) (cs : List (Call ℕ)) where
  linked_as_before : {a p : ℕ} → Linked g a p → Linked (defers g t cs) a p
  linked_as_before h = record { step = h.step; is = h.is; from = h.from }

  pub deferred_inv : Inv s g → Inv s (defers g t cs)
  deferred_inv i = record {
    chain = record { first = i.chain.first; chain = i.chain.chain; in_use = i.chain.in_use; room = i.chain.room; cells = i.chain.cells; owned = i.chain.owned };
    ends = record {
      ends_at_dummy = i.ends.ends_at_dummy;
      by_nobody = i.ends.by_nobody;
      same_length = i.ends.same_length;
      rising = i.ends.rising;
      ends_within = i.ends.ends_within;
      last_ends = i.ends.last_ends;
      singles = i.ends.singles;
      linked_once = i.ends.linked_once;
    };
    tail = record { tail_at = i.tail.tail_at; step = i.tail.step; tail_ends = i.tail.tail_ends; near = i.tail.near };
    linked = record {
      shape = λ a j p b f. let h = i.linked.shape a j p b f in record { first_at = h.first_at; last_at = h.last_at; ends_at = h.ends_at; old_head_before = h.old_head_before };
      waits = i.linked.waits;
      not_past = i.linked.not_past;
      old_tails = λ a o e h. let w = i.linked.old_tails a o e h in (linked_as_before w.0, w.1);
    };
    head = record {
      linked_installed = i.head.linked_installed;
      linked_or_there = i.head.linked_or_there;
      there_installed = i.head.there_installed;
      head_at = i.head.head_at;
      old_head_at = i.head.old_head_at;
      has_batch = i.head.has_batch;
    };
    batches = record {
      asks = i.batches.asks;
      in_use = i.batches.in_use;
      counted = i.batches.counted;
      owned = i.batches.owned;
      room = i.batches.room;
      cells = i.batches.cells;
      beside = i.batches.beside;
    };
  }

  pub deferred_grows : Grows s g s (defers g t cs)
  deferred_grows = record {
    chain = λ k n h. h;
    ends = λ j p h. h;
    by = λ j x h. h;
    new_batch = λ a p h. inl (record { step = h.step; is = h.is; from = h.from });
    installed = λ a h. h;
    batches = λ a b h. h;
    tail_up = omega arith;
    request = λ a h. refl;
    old_tail_lem = λ a o h e. e;
  }

  pub mine_as_before : {u n : ℕ} → Mine g u n → Mine (defers g t cs) u n
  mine_as_before h = record { owner = h.owner; not_in_chain = h.not_in_chain; not_in_batch = h.not_in_batch }

  pub deferred_spares : (u : ℕ) → u ≢ t → Spares s g s (defers g t cs) u
  deferred_spares u ne = record {
    mine = λ n h. mine_as_before h;
    link = λ n h. refl;
    mine_too = λ b h. record { owner = h.owner; not_installed = h.not_installed };
    announcement = λ b h. refl;
    pending = get_or-set_other g.pending t u cs [] ne;
  }

  -- and for the thread itself
  pub deferred_private : {l : List ℕ} → Private s g t l → Private s (defers g t cs) t l
  deferred_private h = record { mine = λ k n p. mine_as_before (h.mine k n p); chain = h.chain }

  pub deferred_pending : t < length g.pending → pending_of (defers g t cs) t ≡ cs
  deferred_pending h = get_or-set_same g.pending t cs [] h
