-- The results among the answers to a list of entries, each with its thread, are those of the story, in their order: an event gives its thread the
-- result of the step taken or of the future asked for, and the events of an entry, all of its thread, together give what its answer tells. So
-- what is promised of the results given holds of the answers.
use Prim.Native.Nat.{ℕ, zero, suc, ◌%◌}
use mathlib.Core.Path.{◌≡◌, refl, sym, ap, ap₂, ◌∙◌}
use mathlib.Core.Bool.{Bool, true, false, cond}
use mathlib.Core.List.{List, [], ◌∷◌, ◌++◌, map, map-map, map-append, append_assoc, append-nil}
use mathlib.Core.Option.{Option, none, some}
use native.Mathlib.Omega.{arith}
use lib.Dec.{eqb}
use lib.ListN.{get_or}
use Rattle.std.specs.Prelude.{None, Some}
use Rattle.refusal.specs.declared.Refusal.TheVariants.{NotOwnFuture}
use Rattle.tally.specs.Fifo.{Result}
use Rattle.answer.specs.Answer.{Outcome, AnswerOrRefusal, answered}
use Rattle.answer.specs.declared.CallResult.TheVariants as call_result
use Rattle.std.specs.declared.result.Result.TheVariants as reply
use Rattle.answer.specs.declared.Answer.TheVariants as answer
use Rattle.entry.specs.declared.Entry.{Entry}
use Rattle.entry.specs.declared.Entry.TheVariants as entry
use Rattle.entry.specs.Range.{in_range}
use Rattle.needs.specs.Needs.{lacking, evaluate_needs}
use Rattle.refuse.specs.Refusals.{foreign}
use Rattle.machine.specs.declared.Machine.{Machine}
use Rattle.machine.specs.declared.Told.{Told}
use Rattle.machine.specs.State.{fresh_machine, row_at, no_future, future_at}
use Rattle.machine.specs.Steps.{step_of, is_more, one_more, advance}
use Rattle.machine.specs.Entries.{decided, refusing, evaluate_waiting, evaluate_own, evaluate_known, evaluate, enqueue, dequeue, future_enqueue, future_dequeue, run, apply}
use Rattle.order.specs.Events.{Event, EnqueueStarts, DequeueStarts, EnqueueDeferred, DequeueDeferred, BatchSetOff, FutureAsked, StepTaken, does, after_events, kept_beside, run_events, evaluate_own_events, evaluate_events, entry_events, events}
use Rattle.order.specs.Order.{Given, Story, of, results_in, gives, happens, fresh_story, story_of}
use Rattle.entry.specs.Operands.{thread_of}
use Rattle.order.specs.PlainQueue.{results_told}
use Rattle.order.specs.Reached.{after}
use Rattle.order.proofs.Ghost.{Ghost, fresh_ghost}
use Rattle.order.proofs.Events.{entry_made}
use Rattle.order.proofs.Reached.{Holds, holds_sized, fresh_holds, after_holds}
use Rattle.refusal.specs.Verdicts.{Verdict, accepted, where_accepted}
use Rattle.std.specs.Prelude.{Err, Ok}

abbrev results_of : List Given → List (ℕ × Result ℕ)
results_of = map (λ (g : Given). (g.thread, g.result))

-- the result in an answer to thread i, where it is one
abbrev told_to : ℕ → AnswerOrRefusal → List (ℕ × Result ℕ)
told_to i a = map (λ (r : Result ℕ). (i, r)) (results_in a)

-- the result that an event gives, where it gives one
abbrev results_at : Machine → Event → List (ℕ × Result ℕ)
results_at m (EnqueueStarts i v) = []
results_at m (DequeueStarts i) = []
results_at m (EnqueueDeferred i v) = []
results_at m (DequeueDeferred i) = []
results_at m (BatchSetOff i f) = []
results_at m (FutureAsked i f) = told_to i (reply.Ok (answered (future_at m f).outcome))
results_at m (StepTaken i) = told_to i (step_of m i).answer

unfoldable results_among : Machine → List Event → List (ℕ × Result ℕ)
results_among m [] = []
results_among m (x ∷ xs) = results_at m x ++ results_among (does m x) xs

-- THE STORY has them, one after the other.
module _ (i : ℕ) (f began : Option ℕ) (now : ℕ) where
  gives_its_result : (gs : List Given) (a : AnswerOrRefusal) → results_of (gs ++ gives i f began now a) ≡ results_of gs ++ told_to i a
  gives_its_result gs a = map-append _ gs (gives i f began now a) ∙ ap (λ (l : List (ℕ × Result ℕ)). results_of gs ++ l) (map-map _ _ (results_in a))

event_told : (m : Machine) (s : Story) (x : Event) → results_of (happens m s x).given ≡ results_of s.given ++ results_at m x
event_told m s (EnqueueStarts i v) = sym (append-nil _)
event_told m s (DequeueStarts i) = sym (append-nil _)
event_told m s (EnqueueDeferred i v) = sym (append-nil _)
event_told m s (DequeueDeferred i) = sym (append-nil _)
event_told m s (BatchSetOff i f) = sym (append-nil _)
event_told m s (FutureAsked i f) = gives_its_result i (some f) none s.clock s.given (reply.Ok (answered (future_at m f).outcome))
event_told m s (StepTaken i) = gives_its_result i (of s i).called.asked (some (of s i).called.began) s.clock s.given (step_of m i).answer

events_told : (xs : List Event) (m : Machine) (s : Story) → results_of (kept_beside happens m s xs).given ≡ results_of s.given ++ results_among m xs
unfolding kept_beside results_among
events_told [] m s = sym (append-nil _)
events_told (x ∷ xs) m s =
    events_told xs (does m x) (happens m s x)
    ∙ ap (λ (l : List (ℕ × Result ℕ)). l ++ results_among (does m x) xs) (event_told m s x)
    ∙ append_assoc (results_of s.given) (results_at m x) (results_among (does m x) xs)

-- THE ANSWER to an entry tells what its events give.
decided_tells : (v : Verdict) (m : Machine) (i : ℕ) (x : Told) (es : List Event) → results_among m es ≡ told_to i x.answer
    → results_among m (where_accepted v es []) ≡ told_to i (decided v m x).answer
unfolding decided results_among
decided_tells (Ok ok) m i x es e = e
decided_tells (Err r) m i x es e = refl

-- Run tells the result of its last step; those before it answer more
run_tells : (n : ℕ) (m : Machine) (i : ℕ) → results_among m (run_events n m i) ≡ told_to i (advance m i n).answer
unfolding advance run_events results_among
run_tells zero m i = refl
run_tells (suc n) m i = by (step_of m i).answer refl (run_tells n (step_of m i).machine i)
  where
    by : (a : AnswerOrRefusal) → (step_of m i).answer ≡ a → results_among (step_of m i).machine (run_events n (step_of m i).machine i) ≡ told_to i (advance (step_of m i).machine i n).answer
        → told_to i a ++ results_among (step_of m i).machine (cond (is_more a) (run_events n (step_of m i).machine i) [])
        ≡ told_to i (cond (is_more a) (one_more (advance (step_of m i).machine i n)) (step_of m i)).answer
    by (reply.Ok answer.More) e rest = rest
    by (reply.Ok (answer.Ended call_result.Ok)) e rest = ap (told_to i) (sym e)
    by (reply.Ok (answer.Ended (call_result.Item v))) e rest = ap (told_to i) (sym e)
    by (reply.Ok (answer.Ended call_result.Empty)) e rest = ap (told_to i) (sym e)
    by (reply.Ok answer.Started) e rest = ap (told_to i) (sym e)
    by (reply.Ok (answer.Future f)) e rest = ap (told_to i) (sym e)
    by (reply.Err r) e rest = ap (told_to i) (sym e)

module _ (m : Machine) where
  -- a call that starts gives nothing yet, whether alone or deferred and set off
  either_gives_nothing : (b : Bool) (xs ys : List Event) → results_among m xs ≡ [] → results_among m ys ≡ [] → results_among m (cond b xs ys) ≡ []
  either_gives_nothing true xs ys e f = e
  either_gives_nothing false xs ys e f = f

  own_tells : (i f : ℕ) (o : Outcome) → (future_at m f).outcome ≡ o → results_among m (evaluate_own_events m i f o) ≡ told_to i (evaluate_own m i f o).answer
  unfolding evaluate_own evaluate_waiting results_among
  own_tells i f None e = decided_tells (lacking (evaluate_needs (row_at m i)) m.used m.nodes (row_at m i).count) m i _ _ refl
  own_tells i f (Some result) e = append-nil _ ∙ ap (λ (o : Outcome). told_to i (reply.Ok (answered o))) e

  known_tells : (t f : ℕ) → results_among m (evaluate_events m t f (future_at m f)) ≡ told_to (t % 8) (evaluate_known m t f (future_at m f)).answer
  unfolding evaluate_known results_among
  known_tells t f = by (foreign f (future_at m f).owner m.used.futures t)
    where
      by : (b : Bool) → results_among m (cond b [] (evaluate_own_events m (t % 8) (f % 512) (future_at m f).outcome))
          ≡ told_to (t % 8) (cond b (refusing m NotOwnFuture) (evaluate_own m (t % 8) (f % 512) (future_at m f).outcome)).answer
      by true = refl
      by false =
          own_tells (t % 8) (f % 512) (future_at m f).outcome
          (ap (λ (k : ℕ). (get_or m.futures k no_future).outcome) (let z : f % 512 % 512 ≡ f % 512 = omega arith in z))

  entry_tells : (e : Entry) → results_among m (entry_events m e) ≡ told_to (thread_of e % 8) (apply m e).answer
  unfolding apply entry_events enqueue dequeue future_enqueue future_dequeue evaluate run results_among
  entry_tells (entry.Enqueue t v) = decided_tells _ m (t % 8) _ _ (either_gives_nothing (eqb (row_at m (t % 8)).count 0) _ _ refl refl)
  entry_tells (entry.Dequeue t) = decided_tells _ m (t % 8) _ _ (either_gives_nothing (eqb (row_at m (t % 8)).count 0) _ _ refl refl)
  entry_tells (entry.FutureEnqueue t v) = decided_tells _ m (t % 8) _ _ refl
  entry_tells (entry.FutureDequeue t) = decided_tells _ m (t % 8) _ _ refl
  entry_tells (entry.Evaluate t f) = decided_tells _ m (t % 8) _ _ (known_tells t f)
  entry_tells (entry.Step t) = decided_tells _ m (t % 8) _ _ (run_tells 1 m (t % 8))
  entry_tells (entry.Run t n) = decided_tells _ m (t % 8) _ _ (run_tells n m (t % 8))

-- OVER THE ENTRIES. Each finds the machine that the events before it left.
among_then : (xs ys : List Event) (m : Machine) → results_among m (xs ++ ys) ≡ results_among m xs ++ results_among (after_events m xs) ys
unfolding results_among after_events
among_then [] ys m = refl
among_then (x ∷ xs) ys m =
    ap (λ (l : List (ℕ × Result ℕ)). results_at m x ++ l) (among_then xs ys (does m x))
    ∙ sym (append_assoc (results_at m x) (results_among (does m x) xs) (results_among (after_events (does m x) xs) ys))

entries_tell : (es : List Entry) (m : Machine) (g : Ghost) → Holds m g → results_among m (events m es) ≡ results_told m es
unfolding results_among events results_told after
entries_tell [] m g h = refl
entries_tell (e ∷ es) m g h =
    among_then (entry_events m e) (events (apply m e).machine es) m
    ∙ ap₂ (λ (l r : List (ℕ × Result ℕ)). l ++ r) (entry_tells m e)
    (ap (λ (x : Machine). results_among x (events (apply m e).machine es)) (sym (entry_made m (holds_sized m g h) e).leads)
    ∙ entries_tell es (apply m e).machine _ (after_holds (e ∷ []) m g h))

pub results_are_told : (threads nodes : ℕ) → in_range threads nodes ≡ accepted → (es : List Entry)
    → results_told (fresh_machine threads nodes) es ≡ map (λ (g : Given). (g.thread, g.result)) (story_of (fresh_machine threads nodes) es).given
results_are_told threads nodes e es =
    sym (events_told (events (fresh_machine threads nodes) es) (fresh_machine threads nodes) fresh_story ∙ entries_tell es (fresh_machine threads nodes) fresh_ghost (fresh_holds threads nodes e))
