-- How many enqueues pairing pays. Each turn's call is the one that its future was handed out for, and paying a future leaves that as it was; so
-- where the futures of the pending calls are flagged as those calls are, the turns have as many enqueues as the calls, which is the row's tally.
use Prim.Native.Nat.{ℕ, zero, suc, ◌+◌, ◌%◌, ◌<◌, ◌≤◌}
use mathlib.Core.Path.{◌≡◌, refl, sym, ap, ◌∙◌, subst}
use mathlib.Core.List.{List, [], ◌∷◌}
use native.Mathlib.Omega.{arith}
use lib.ListN.{length, get_or, set}
use Rattle.chain.specs.Positions.{at, At}
use Rattle.tally.specs.Fifo.{Call, enqueue, dequeue}
use Rattle.tally.specs.Excess.{enqueued, enqueues}
use Rattle.tally.specs.declared.Tally.{Tally}
use Rattle.cells.specs.Links.{Link}
use Rattle.place.specs.declared.After.{After}
use Rattle.place.specs.declared.After.TheVariants as afterwards
use Rattle.place.specs.Place.{place_after}
use Rattle.row.specs.declared.Row.{Row}
use Rattle.row.specs.Row.{placed}
use Rattle.answer.specs.declared.Item.{Item}
use Rattle.answer.specs.Answer.{Outcome}
use Rattle.answer.specs.declared.Future.{Future}
use Rattle.answer.specs.declared.Operation.{Operation}
use Rattle.answer.specs.declared.Operation.TheVariants as operation
use Rattle.pairing.specs.declared.Cursor.{Cursor}
use Rattle.machine.specs.declared.Machine.{Machine}
use Rattle.machine.specs.State.{row_at, memory_of, no_future}
use Rattle.machine.specs.Pairing.{done, pending_future, with_outcome, batch_cursor, dequeues_cursor}
use Rattle.machine.specs.Steps.{hop}
use Rattle.order.proofs.Ghost.{Ghost, pending_of, step_ghost}
use Rattle.order.specs.PairingReads.{AllStayOn, turns, turns_from, turns_after}
use Rattle.order.proofs.Knows.{Tallied}
use Rattle.order.proofs.Steps.{Ok}
use Rattle.order.proofs.RowPut.{row_moved}
use Rattle.order.proofs.PairingWalks.{one_more_for, enqueues_among}
use Rattle.order.proofs.PairingSteps.{pairing_stays_on}

abbrev pub operation_of : Call ℕ → Operation
operation_of (enqueue v) = operation.Enqueue
operation_of dequeue = operation.Dequeue

-- the futures of the pending calls, from the k-th pending place on, are flagged as the calls are
abbrev pub FlaggedFrom : ℕ → List ℕ → List Future → List (Call ℕ) → Type 0
FlaggedFrom k pending fs cs = (j : ℕ) (c : Call ℕ) → At cs j c → (pending_future pending (k + j) fs).operation ≡ operation_of c

abbrev pub Flagged : List ℕ → List Future → List (Call ℕ) → Type 0
Flagged pending fs cs = FlaggedFrom 0 pending fs cs

-- the thread that a future was handed out to, and for which call
abbrev pub handed_out_for : Future → ℕ × Operation
handed_out_for f = (f.owner, f.operation)

-- a future that becomes done keeps both
pub done_keeps : (fs : List Future) (i j : ℕ) (o : Outcome)
    → handed_out_for (get_or (set fs i (done (get_or fs i no_future) o)) j no_future) ≡ handed_out_for (get_or fs j no_future)
done_keeps [] i j o = refl
done_keeps (x ∷ fs) zero zero o = refl
done_keeps (x ∷ fs) zero (suc j) o = refl
done_keeps (x ∷ fs) (suc i) zero o = refl
done_keeps (x ∷ fs) (suc i) (suc j) o = done_keeps fs i j o

-- the flags of the first pending call, and of those after it once it is paid
module _ (pending : List ℕ) (k : ℕ) (fs : List Future) (x : Call ℕ) (cs : List (Call ℕ)) (flagged : FlaggedFrom k pending fs (x ∷ cs)) where
  pub flagged_now : (pending_future pending k fs).operation ≡ operation_of x
  unfolding at
  flagged_now = subst (λ (p : ℕ). (pending_future pending p fs).operation ≡ operation_of x) (let z : k + 0 ≡ k = omega arith in z) (flagged 0 x refl)

  pub flagged_later : (o : Outcome) → FlaggedFrom (k + 1) pending (with_outcome pending k fs o) cs
  unfolding at
  flagged_later o j y h =
      ap (λ (z : ℕ × Operation). z.1) (done_keeps fs _ _ o)
      ∙ subst (λ (p : ℕ). (pending_future pending p fs).operation ≡ operation_of y) (let z : k + suc j ≡ k + 1 + j = omega arith in z) (flagged (suc j) y h)

one_more_or_not : (o : Operation) (n : ℕ) (x : Call ℕ) (cs : List (Call ℕ)) → o ≡ operation_of x → n ≡ enqueues cs → one_more_for o n ≡ enqueues (x ∷ cs)
unfolding enqueued
one_more_or_not o n (enqueue v) cs e h = rw e (ap suc h)
one_more_or_not o n dequeue cs e h = rw e h

module _ (links : List Link) (items : List Item) (last : ℕ) (pending : List ℕ) where
  pub as_many_turns_as_calls : (cs : List (Call ℕ)) (k : ℕ) (fs : List Future) (c : Cursor) → FlaggedFrom k pending fs cs
      → enqueues_among (turns (length cs) links items last pending k fs c) ≡ enqueues cs
  unfolding turns enqueues_among enqueued
  as_many_turns_as_calls [] k fs c flagged = refl
  as_many_turns_as_calls (x ∷ cs) k fs c flagged =
      one_more_or_not _ _ x cs (flagged_now pending k fs x cs flagged) (as_many_turns_as_calls cs (k + 1) _ _ (flagged_later pending k fs x cs flagged _))

pub futures_kept : (m : Machine) (i : ℕ) → (hop m i).machine.futures ≡ m.futures
unfolding hop
futures_kept m i = refl

-- at a step's end: the row's count and pending places are those of before, and so are the futures
module _ (m : Machine) (g : Ghost) (i : ℕ) (r : Row) (count : (row_at m i).count ≡ r.count) (pending : (row_at m i).pending ≡ r.pending)
    (tallied : Tallied g i r) (flagged : Flagged r.pending m.futures (pending_of g i)) where
  turns_have_the_tally : (c : Cursor) → enqueues_among (turns_from m i c) ≡ r.tally.enqueues
  turns_have_the_tally c =
      let many : (row_at m i).count % 33 ≡ length (pending_of g i) = omega (arith, count, tallied.count, tallied.few) in
      ap (λ (n : ℕ). enqueues_among (turns n m.links m.items (row_at m i).last (row_at m i).pending 0 m.futures c)) many
      ∙ as_many_turns_as_calls m.links m.items (row_at m i).last (row_at m i).pending (pending_of g i) 0 m.futures c
      (subst (λ (l : List ℕ). Flagged l m.futures (pending_of g i)) (sym pending) flagged)
      ∙ sym (ap (λ (x : Tally). x.enqueues) tallied.tally)

  few_enough : (a : After) → enqueues_among (turns_after m i a) ≤ r.tally.enqueues
  unfolding enqueues_among
  few_enough (afterwards.On p) = omega arith
  few_enough afterwards.Ok = omega arith
  few_enough afterwards.Empty = omega arith
  few_enough (afterwards.Item x) = omega arith
  few_enough (afterwards.Pair from) = omega (arith, turns_have_the_tally (batch_cursor from (row_at m i).first))
  few_enough (afterwards.PairDequeues from taken) = omega (arith, turns_have_the_tally (dequeues_cursor from taken))

-- the step that ends a batch's call never leaves the chain
pub flagged_pairing_stays_on : (m : Machine) (g : Ghost) (ok : Ok m g) (i : ℕ) (lt : i < 8) → Flagged (row_at m i).pending m.futures (pending_of g i)
    → AllStayOn (hop m i).machine.links (step_ghost (memory_of m) g (row_at m i).place).chain (turns_after (hop m i).machine i (hop m i).after)
flagged_pairing_stays_on m g ok i lt flagged =
    pairing_stays_on m g ok i lt
    (few_enough (hop m i).machine g i (row_at m i) (ap (λ (r : Row). r.count) row) (ap (λ (r : Row). r.pending) row) (ok.knows i lt).tallied kept (hop m i).after)
  where
    row : row_at (hop m i).machine i ≡ placed (row_at m i) (place_after (hop m i).after)
    row = row_moved m i ok.rows lt

    kept : Flagged (row_at m i).pending (hop m i).machine.futures (pending_of g i)
    kept = subst (λ (fs : List Future). Flagged (row_at m i).pending fs (pending_of g i)) (sym (futures_kept m i)) flagged
