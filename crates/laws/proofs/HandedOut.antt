-- Nodes, futures and announcements are handed out in number order and once: the number handed out is the count of those handed out before,
-- handing out raises that count by one, and an entry hands out at most one of each. A step hands out nothing (`step_changes`).
use Prim.Native.Nat.{ℕ, zero, suc, ◌%◌, ◌<◌, ◌≤◌}
use mathlib.Core.Path.{◌≡◌, refl, sym, ◌∙◌, subst}
use mathlib.Core.Bool.{Bool, true, false, cond}
use mathlib.Core.Logic.{inl, inr}
use native.Mathlib.Omega.{arith}
use lib.Dec.{eqb}
use native.Mathlib.Nat.{mod-eq_of_lt}
use Rattle.std.specs.Prelude.{None, Some}
use Rattle.refusal.specs.declared.Refusal.TheVariants.{NotOwnFuture}
use Rattle.tally.specs.Tally.{up}
use Rattle.next.specs.declared.Used.{Used}
use Rattle.answer.specs.declared.Item.{Item}
use Rattle.answer.specs.Answer.{Outcome}
use Rattle.answer.specs.declared.Future.{Future}
use Rattle.next.specs.Next.{next_node, next_future, next_announcement}
use Rattle.refuse.specs.Refusals.{foreign}
use Rattle.machine.specs.declared.Machine.{Machine}
use Rattle.machine.specs.declared.Told.{Told}
use Rattle.entry.specs.declared.Entry.{Entry}
use Rattle.entry.specs.declared.Entry.TheVariants.{Enqueue, Dequeue, FutureEnqueue, FutureDequeue, Evaluate, Step, Run}
use Rattle.machine.specs.State.{row_at, future_at}
use Rattle.machine.specs.Steps.{step_of, is_more, one_more, advance}
use Rattle.machine.specs.Entries.{refusing, decided, linked_behind, defer_enqueue, defer_dequeue, set_off, start_enqueue, start_dequeue, evaluate_waiting, evaluate_own, evaluate_known, enqueue, dequeue, future_enqueue, future_dequeue, evaluate, run, apply}
use Rattle.laws.specs.HandingOut.{AtMostOne, HandsOut}
use Rattle.laws.proofs.StepChanges.{step_changes}
use Rattle.refusal.specs.Verdicts.{Verdict}
use Rattle.std.specs.Prelude.{Err, Ok}

-- while one is left, the next number is the count of those before, and the count after it is one more
in_order : (limit n : ℕ) → n < limit → limit ≤ 512 → (n % limit ≡ n) × (up n ≡ suc n)
in_order limit n h k = (mod-eq_of_lt h, omega arith)

pub nodes_in_order : (u : Used) → u.nodes < 512 → (next_node u ≡ u.nodes) × (up u.nodes ≡ suc u.nodes)
nodes_in_order u h = in_order 512 u.nodes h (omega arith)

pub futures_in_order : (u : Used) → u.futures < 512 → (next_future u ≡ u.futures) × (up u.futures ≡ suc u.futures)
futures_in_order u h = in_order 512 u.futures h (omega arith)

pub announcements_in_order : (u : Used) → u.announcements < 64 → (next_announcement u ≡ u.announcements) × (up u.announcements ≡ suc u.announcements)
announcements_in_order u h = in_order 64 u.announcements h (omega arith)

nothing : (u : Used) → HandsOut u u
nothing u = record { nodes = inl refl; futures = inl refl; announcements = inl refl }

decided_hands_out : (m : Machine) (v : Verdict) (x : Told) → HandsOut m.used x.machine.used → HandsOut m.used (decided v m x).machine.used
unfolding decided
decided_hands_out m (Ok ok) x h = h
decided_hands_out m (Err r) x h = nothing m.used

-- used counts of one of two machines
either : (P : Used → Type 0) (b : Bool) (m n : Machine) → P m.used → P n.used → P (cond b m n).used
either P true m n p q = p
either P false m n p q = q

-- setting off a batch hands out an announcement at most
Announces : Used → Used → Type 0
Announces u v = (v.nodes ≡ u.nodes) × (v.futures ≡ u.futures) × AtMostOne u.announcements v.announcements

set_off_announces : (m : Machine) (i f : ℕ) → Announces m.used (set_off m i f).used
unfolding set_off Announces
set_off_announces m i f = either (Announces m.used) (eqb (row_at m i).tally.enqueues 0) _ _ (refl, refl, inl refl) (refl, refl, inr refl)

-- what a call that is deferred and then set off hands out
behind : (u v w : Used) → AtMostOne u.nodes v.nodes → AtMostOne u.futures v.futures → v.announcements ≡ u.announcements → Announces v w → HandsOut u w
unfolding Announces
behind u v w n f a h = record {
  nodes = subst (AtMostOne u.nodes) (sym h.0) n;
  futures = subst (AtMostOne u.futures) (sym h.1) f;
  announcements = subst (λ (x : ℕ). AtMostOne x w.announcements) a h.2;
}

enqueue_hands_out : (m : Machine) (i : ℕ) (v : Item) → HandsOut m.used (start_enqueue m i v).used
unfolding start_enqueue defer_enqueue linked_behind
enqueue_hands_out m i v =
    either (HandsOut m.used) (eqb (row_at m i).count 0) _ _
    (record { nodes = inr refl; futures = inl refl; announcements = inl refl })
    (deferred_then_off m i v)
  where
    deferred_then_off : (m : Machine) (i : ℕ) (v : Item) → HandsOut m.used (set_off (defer_enqueue m i v) i (next_future m.used)).used
    deferred_then_off m i v = behind m.used (defer_enqueue m i v).used _ (inr refl) (inr refl) refl (set_off_announces (defer_enqueue m i v) i (next_future m.used))

dequeue_hands_out : (m : Machine) (i : ℕ) → HandsOut m.used (start_dequeue m i).used
unfolding start_dequeue defer_dequeue
dequeue_hands_out m i =
    either (HandsOut m.used) (eqb (row_at m i).count 0) _ _ (nothing m.used)
    (behind m.used (defer_dequeue m i).used _ (inl refl) (inr refl) refl (set_off_announces (defer_dequeue m i) i (next_future m.used)))

own_hands_out : (m : Machine) (i f : ℕ) (o : Outcome) → HandsOut m.used (evaluate_own m i f o).machine.used
unfolding evaluate_own evaluate_waiting
own_hands_out m i f None = decided_hands_out m _ _ (behind m.used m.used _ (inl refl) (inl refl) refl (set_off_announces m i f))
own_hands_out m i f (Some result) = nothing m.used

known_hands_out : (m : Machine) (t f : ℕ) (x : Future) → HandsOut m.used (evaluate_known m t f x).machine.used
unfolding evaluate_known
known_hands_out m t f x = go (foreign f x.owner m.used.futures t)
  where
    go : (b : Bool) → HandsOut m.used (cond b (refusing m NotOwnFuture) (evaluate_own m (t % 8) (f % 512) x.outcome)).machine.used
    go true = nothing m.used
    go false = own_hands_out m (t % 8) (f % 512) x.outcome

-- Run hands out nothing
advance_used : (n : ℕ) (m : Machine) (i : ℕ) → (advance m i n).machine.used ≡ m.used
unfolding advance
advance_used zero m i = refl
advance_used (suc n) m i = go (is_more (step_of m i).answer) (advance_used n (step_of m i).machine i)
  where
    go : (b : Bool) → (advance (step_of m i).machine i n).machine.used ≡ (step_of m i).machine.used → (cond b (one_more (advance (step_of m i).machine i n)) (step_of m i)).machine.used ≡ m.used
    go true h = h ∙ (step_changes m i).used
    go false h = (step_changes m i).used

run_hands_out : (m : Machine) (t n : ℕ) → HandsOut m.used (run m t n).machine.used
unfolding run
run_hands_out m t n = decided_hands_out m _ _ (subst (HandsOut m.used) (sym (advance_used n m (t % 8))) (nothing m.used))

pub entry_hands_out_at_most_one : (m : Machine) (e : Entry) → HandsOut m.used (apply m e).machine.used
unfolding apply enqueue dequeue future_enqueue future_dequeue evaluate defer_enqueue defer_dequeue linked_behind
entry_hands_out_at_most_one m (Enqueue t v) = decided_hands_out m _ _ (enqueue_hands_out m (t % 8) (record { value = v }))
entry_hands_out_at_most_one m (Dequeue t) = decided_hands_out m _ _ (dequeue_hands_out m (t % 8))
entry_hands_out_at_most_one m (FutureEnqueue t v) = decided_hands_out m _ _ (record { nodes = inr refl; futures = inr refl; announcements = inl refl })
entry_hands_out_at_most_one m (FutureDequeue t) = decided_hands_out m _ _ (record { nodes = inl refl; futures = inr refl; announcements = inl refl })
entry_hands_out_at_most_one m (Evaluate t f) = decided_hands_out m _ _ (known_hands_out m t f (future_at m f))
entry_hands_out_at_most_one m (Step t) = run_hands_out m t 1
entry_hands_out_at_most_one m (Run t n) = run_hands_out m t n
