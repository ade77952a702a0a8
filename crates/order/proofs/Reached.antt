-- From a fresh machine, over any list of entries: the invariant and the flags hold at the start, and every event keeps them.
use Rattle.std.specs.Prelude.{Option, None}
use Prim.Native.Nat.{ℕ, zero, suc, ◌<◌, ◌≤◌, ◌%◌}
use mathlib.Core.Path.{◌≡◌, refl, sym, ap, ◌∙◌, subst}
use mathlib.Core.List.{List, [], ◌∷◌}
use mathlib.Core.Option.{none, some}
use native.Mathlib.Omega.{arith}
use lib.ListN.{length, get_or, replicate, length-replicate, get_or-replicate}
use Rattle.chain.specs.Positions.{at, At}
use Rattle.chain.proofs.Positions.{none_is_not_some, some_injective, within, past_the_end, the_only_one}
use Rattle.tally.specs.Fifo.{Call}
use Rattle.tally.specs.Tally.{tally_of}
use Rattle.tally.proofs.Counts.{tally_of_none}
use Rattle.cells.specs.declared.Front.{Front}
use Rattle.memory.specs.Memory.{no_announcement}
use Rattle.row.specs.Row.{fresh_row, no_row}
use Rattle.entry.specs.declared.Entry.{Entry}
use Rattle.entry.specs.Range.{in_range}
use Rattle.entry.proofs.Range.{in_range_lem}
use Rattle.machine.specs.declared.Machine.{Machine}
use Rattle.machine.specs.State.{fresh_machine, row_at}
use Rattle.order.proofs.Ghost.{Ghost, pending_of, fresh_ghost, ghost_does}
use Rattle.order.specs.Reached.{after}
use Rattle.order.specs.Events.{Event, does, after_events, kept_beside, events}
use Rattle.order.proofs.Events.{Sized, Finds, entries_made, over_entries}
use Rattle.order.proofs.Shared.{shared_of, next, led}
use Rattle.order.proofs.Invariant.{Inv}
use Rattle.order.proofs.SameEnds.{plain_is_not_announced, one_plain}
use Rattle.order.proofs.Knows.{Knows}
use Rattle.order.proofs.Steps.{Ok, nothing_private}
use Rattle.order.proofs.EventsKeep.{event_keeps}
use Rattle.order.proofs.Flags.{Flags}
use Rattle.order.proofs.FlagsKept.{event_flags, fresh_flags}
use Rattle.refusal.specs.Verdicts.{accepted}

-- an element of a table that holds one value everywhere
everywhere : {A : Type 0} (n i : ℕ) (a : A) → get_or (replicate n a) i a ≡ a
everywhere zero i a = refl
everywhere (suc n) zero a = refl
everywhere (suc n) (suc i) a = everywhere n i a

the_dummy : (k n : ℕ) → At (0 ∷ []) k n → (k ≡ 0) × (n ≡ 0)
the_dummy k n p = (omega (arith, within (0 ∷ []) k p), the_only_one 0 n k p)

nobody : (j a : ℕ) → At (none ∷ []) j (some a) → ⊥
unfolding at
nobody zero a p = none_is_not_some {x = a} refl (some_injective p)
nobody (suc j) a p = none_is_not_some refl p

module _ (threads nodes : ℕ) (fits : nodes ≤ 512) (few : threads ≤ 8) where
  no_link : (n : ℕ) → next (fresh_machine threads nodes).links n ≡ none
  no_link n = ap led (everywhere 512 (n % 512) None)

  fresh_inv : Inv (shared_of (fresh_machine threads nodes)) fresh_ghost
  unfolding at
  fresh_inv = record {
    chain = record {
      first = refl;
      chain = record { links = λ k n p. no_link n ∙ sym (past_the_end (0 ∷ []) (suc k) (omega arith)); once = λ a b n p q. omega (arith, the_dummy a n p, the_dummy b n q) };
      in_use = λ k n p. omega (arith, the_dummy k n p);
      room = omega arith;
      cells = length-replicate {A = Option ℕ} 512 None;
      owned = refl;
    };
    ends = record {
      ends_at_dummy = refl;
      by_nobody = refl;
      same_length = refl;
      rising = λ a b p q x y h. absurd (omega (arith, the_dummy a p x, the_dummy b q y));
      ends_within = λ k p h. omega (arith, the_dummy k p h);
      last_ends = λ k p h l. omega (arith, the_dummy k p h);
      singles = λ k p b h. absurd (none_is_not_some refl b);
      linked_once = λ a b x p q. absurd (nobody a x p);
    };
    tail = record { tail_at = refl; step = 0; tail_ends = refl; near = omega arith };
    linked = record {
      shape = λ a k p b h. absurd (nobody (suc k) a b);
      waits = λ a k p b h. absurd (nobody (suc k) a b);
      not_past = λ a k p b h. absurd (nobody (suc k) a b);
      old_tails = λ a o e h. absurd (none_is_not_some refl h.1);
    };
    head = record {
      linked_installed = λ a k h. absurd (nobody k a h);
      linked_or_there = λ a h. absurd (none_is_not_some refl h.1);
      there_installed = λ a h. absurd (plain_is_not_announced refl h);
      head_at = λ f h. subst (λ (x : Front). At (0 ∷ []) x.count.0 x.node) (one_plain refl h) refl;
      old_head_at = λ a h. absurd (none_is_not_some refl h.1);
      has_batch = λ a h. absurd (none_is_not_some refl h.1);
    };
    batches = record {
      asks = λ a b h. absurd (none_is_not_some refl h);
      in_use = λ a k n b h. absurd (none_is_not_some refl h);
      counted = refl;
      owned = refl;
      room = omega arith;
      cells = length-replicate 64 no_announcement;
      beside = λ a b h. absurd (none_is_not_some refl h.1);
    };
  }

  fresh_knows : (t : ℕ) → t < 8 → Knows (shared_of (fresh_machine threads nodes)) fresh_ghost t (row_at (fresh_machine threads nodes) t)
  fresh_knows t h =
      let row : row_at (fresh_machine threads nodes) t ≡ fresh_row = get_or-replicate 8 t fresh_row no_row h in
      let none : pending_of fresh_ghost t ≡ [] = everywhere 8 t [] in
      subst (Knows (shared_of (fresh_machine threads nodes)) fresh_ghost t) (sym row)
      (record {
        tallied = record { tally = sym (ap tally_of none ∙ tally_of_none ℕ); count = sym (ap length none); few = omega (arith, ap length none) };
        place = nothing_private (shared_of (fresh_machine threads nodes)) fresh_ghost t fresh_row refl;
      })

  fresh_ok : Ok (fresh_machine threads nodes) fresh_ghost
  fresh_ok = record { inv = fresh_inv; knows = fresh_knows; rows = length-replicate 8 fresh_row; pendings = length-replicate {A = List (Call ℕ)} 8 []; sized = fits; threads = few }

-- the invariant and the flags: what every event keeps
pub record Holds (m : Machine) (g : Ghost) : Type 0 where
  pub ok : Ok m g
  pub flags : Flags m g

pub holds_sized : (m : Machine) (g : Ghost) → Holds m g → Sized m
holds_sized m g h = record { threads = h.ok.threads; rows = h.ok.rows; futures = h.flags.futures; room = h.flags.room }

pub event_holds : (m : Machine) (g : Ghost) (x : Event) → Finds m x → Holds m g → Holds (does m x) (ghost_does m g x)
event_holds m g x finds h = record { ok = event_keeps m g h.ok x finds; flags = event_flags m g h.ok h.flags x finds }

pub fresh_holds : (threads nodes : ℕ) → in_range threads nodes ≡ accepted → Holds (fresh_machine threads nodes) fresh_ghost
fresh_holds threads nodes e = let w = in_range_lem threads nodes e in record { ok = fresh_ok threads nodes w.1 w.0; flags = fresh_flags threads nodes }

-- over a list of entries
pub after_holds : (es : List Entry) (m : Machine) (g : Ghost) → Holds m g → Holds (after m es) (kept_beside ghost_does m g (events m es))
after_holds = over_entries ghost_does Holds holds_sized event_holds

pub events_lead_there : (threads nodes : ℕ) → in_range threads nodes ≡ accepted → (es : List Entry)
    → after (fresh_machine threads nodes) es ≡ after_events (fresh_machine threads nodes) (events (fresh_machine threads nodes) es)
events_lead_there threads nodes e es = (entries_made ghost_does Holds holds_sized event_holds es _ fresh_ghost (fresh_holds threads nodes e)).leads
