-- Every step keeps what holds of futures and results, provided that what it does to the order is known, and what the end of a call shows. While a
-- call goes on its thread stays in it, and so do the futures of its batch. The end of a single call leaves the futures alone, for its thread has
-- nothing pending; the end of a batch pays them.
use Prim.Native.Nat.{ℕ, suc, ◌<◌}
use mathlib.Core.Path.{◌≡◌, refl, sym, ap, ◌∙◌, subst}
use mathlib.Core.Bool.{Bool, true, false}
use mathlib.Core.List.{List, [], ◌++◌}
use mathlib.Core.Option.{Option, some}
use mathlib.Core.Logic.{◌⊎◌, inl, inr, ⊎_elim, ◌≢◌}
use native.Mathlib.Omega.{arith}
use lib.ListN.{length, get_or, set}
use Rattle.std.specs.Prelude.{None}
use Rattle.chain.specs.Positions.{at, At}
use Rattle.chain.proofs.Positions.{within, in_either, empty_without_length}
use Rattle.tally.specs.Fifo.{Call}
use Rattle.place.specs.declared.Place.{Place}
use Rattle.place.specs.declared.After.{After}
use Rattle.place.specs.declared.After.TheVariants as afterwards
use Rattle.place.specs.Place.{place_after}
use Rattle.row.specs.Row.{placed, cleared}
use Rattle.std.specs.declared.result.Result.TheVariants as reply
use Rattle.answer.specs.Answer.{AnswerOrRefusal}
use Rattle.answer.specs.declared.Answer.TheVariants as answer
use Rattle.pairing.specs.declared.Cursor.{Cursor}
use Rattle.machine.specs.declared.Machine.{Machine}
use Rattle.machine.specs.State.{row_at, memory_of, future_at}
use Rattle.machine.specs.Pairing.{settled}
use Rattle.machine.specs.Steps.{hop, tell, step_of, is_more}
use Rattle.order.specs.Order.{Called, Effect, Given, Remembered, Story, of, gives, step_order, step_taken, stepped_on, last_read_at}
use Rattle.order.specs.PlainQueue.{Stands}
use Rattle.laws.proofs.Sums.{settled_is_no_more}
use Rattle.order.proofs.RowPut.{rows_moved, rows_cleared}
use Rattle.order.proofs.Ghost.{Ghost, step_ghost, end_ghost, defers, step_of_ghost}
use Rattle.order.proofs.Invariant.{NotLinked}
use Rattle.order.proofs.Knows.{Alone}
use Rattle.order.proofs.Steps.{pending_kept}
use Rattle.order.proofs.MachineSteps.{grows₁, knows₁}
use Rattle.order.proofs.Reached.{Holds}
use Rattle.order.proofs.InCall.{stays_in_call}
use Rattle.order.proofs.Futured.{BatchInCall, Futured, OrderAfter, NoneGoing, SingleEnds, BatchEnds, EndsWith}
use Rattle.order.proofs.FuturesKept.{Puts, in_call_here, FuturesLeft, StoryLeft, nothing_paid, still_futured}
use Rattle.order.proofs.FuturesPaid.{paid_is_done, answer_stands, paid_left}

module _ (m : Machine) (g : Ghost) (s : Story) (holds : Holds m g) (h : Futured m g s) (i : ℕ) (lt : i < 8)
    (order : OrderAfter m s (step_order (memory_of m) s i (row_at m i).place)) where
  abbrev m₁ : Machine
  m₁ = (hop m i).machine

  abbrev g₁ : Ghost
  g₁ = step_ghost (memory_of m) g (row_at m i).place

  abbrev order' : List Effect
  order' = step_order (memory_of m) s i (row_at m i).place

  -- the story with an answer, and what it remembers of the thread where its call goes on or not
  abbrev remembers : Bool → Remembered
  remembers more = stepped_on (of s i) more (last_read_at s.clock (of s i).last_read (row_at m i).place)

  abbrev gave : AnswerOrRefusal → List Given
  gave a = gives i (of s i).called.asked (some (of s i).called.began) s.clock a

  abbrev told : AnswerOrRefusal → Story
  told a = record {
    clock = suc s.clock;
    order = order';
    given = s.given ++ gave a;
    threads = set s.threads i (remembers (is_more a));
    started = s.started;
    announced = s.announced;
  }

  -- a call that thread i is in is the one that is remembered of it
  is_its_call : (c : Called) → BatchInCall m s c → c.thread ≡ i → c ≡ (of s i).called
  is_its_call c w e = w.in_call.is ∙ ap (λ (t : ℕ). (of s t).called) e

  has_its_futures : (c : Called) → BatchInCall m s c → c.thread ≡ i → c.futures ≡ (of s i).futures
  has_its_futures c w e = w.futures ∙ ap (λ (t : ℕ). (of s t).futures) e

  -- what a step leaves of the story: nothing is unlinked, and no announcement is new
  story_left : (a : AnswerOrRefusal) (m' : Machine) (g' : Ghost) → g'.by ≡ g₁.by → ((j : ℕ) (x : Given) → At (gave a) j x → Stands order' x)
      → ((c : Called) → BatchInCall m s c → c.thread ≡ i → (b f : ℕ) → At c.futures b f → ((future_at m' f).outcome ≢ None) ⊎ BatchInCall m' (told a) c)
      → ((b : ℕ) (c : Called) → NotLinked g' b → At s.announced b c → BatchInCall m s c → c.thread ≡ i → BatchInCall m' (told a) c)
      → StoryLeft m g s i m' g' (told a)
  story_left a m' g' by stands ended going = record {
    later = omega arith;
    order = order;
    given = λ j x q. ⊎_elim inl (λ w. inr (stands w.0 x w.2)) (in_either s.given (gave a) j q);
    ended = ended;
    unlinked = λ b not j q. not j (ap (λ (l : List (Option ℕ)). at l j) by ∙ (grows₁ m g holds.ok i lt).by j _ q);
    announced = λ b c q. inl q;
    going = going;
  }

  -- a call that ends has no announcement that is going on
  none_is_going : (g' : Ghost) (P : Type 0) → NoneGoing g' s i → (b : ℕ) (c : Called) → NotLinked g' b → At s.announced b c → BatchInCall m s c → c.thread ≡ i → P
  none_is_going g' P none b c not q w e = absurd (none b c not q e (ap (λ (x : Called). x.began) (is_its_call c w e)))

  -- a step that pays nothing
  puts : (a : After) → (hop m i).after ≡ a → (n : AnswerOrRefusal) → Puts m s i m₁ (told n) (placed (row_at m i) (place_after a)) (remembers (is_more n))
  puts a e n = record { small = lt; rows = holds.ok.rows; threads = h.threads; put_row = rows_moved m i a e; put_thread = refl }

  nothing_paid_here : (a : After) → (hop m i).after ≡ a → (n : AnswerOrRefusal) → (remembers (is_more n)).calls ≡ (of s i).calls → (remembers (is_more n)).futures ≡ (of s i).futures
      → FuturesLeft m g s i m₁ g₁ (told n)
  unfolding hop
  nothing_paid_here a e n calls futures =
      nothing_paid m g s h i m₁ g₁ (told n) (placed (row_at m i) (place_after a)) (remembers (is_more n)) (puts a e n) refl calls futures refl refl
      (pending_kept (memory_of m) g (row_at m i).place)

  -- it goes on
  goes_on : (p : Place) → (hop m i).after ≡ afterwards.On p → Futured m₁ g₁ (told (reply.Ok answer.More))
  goes_on p e =
      still_futured m g s h i m₁ g₁ (told (reply.Ok answer.More)) (placed (row_at m i) p) (remembers true) (puts (afterwards.On p) e (reply.Ok answer.More))
      (nothing_paid_here (afterwards.On p) e (reply.Ok answer.More) refl refl)
      (story_left (reply.Ok answer.More) m₁ g₁ refl (λ j x q. absurd (omega (arith, within (gave (reply.Ok answer.More)) j q)))
      (λ c w is b f q. inr (still c w is)) (λ b c not q w is. still c w is))
    where
      still : (c : Called) → BatchInCall m s c → c.thread ≡ i → BatchInCall m₁ (told (reply.Ok answer.More)) c
      still c w is =
          in_call_here (puts (afterwards.On p) e (reply.Ok answer.More)) c is (is_its_call c w is)
          (stays_in_call m i p e (λ q. w.in_call.busy (ap (λ (t : ℕ). (row_at m t).place) is ∙ q))) (has_its_futures c w is)

  -- it ends a single call: nothing is pending
  single_ends : (a : After) → (hop m i).after ≡ a → is_more (tell m₁ i 1 a).answer ≡ false → Alone g₁ i → SingleEnds m g₁ s i order'
      → Futured m₁ g₁ (told (tell m₁ i 1 a).answer)
  single_ends a e ended alone ends =
      still_futured m g s h i m₁ g₁ (told n) (placed (row_at m i) (place_after a)) (remembers (is_more n)) (puts a e n)
      (nothing_paid_here a e n (ap (λ (b : Bool). (remembers b).calls) ended ∙ sym no_calls) (ap (λ (b : Bool). (remembers b).futures) ended ∙ sym no_futures))
      (story_left n m₁ g₁ refl (λ j x q. ends.stands j x (subst (λ (y : After). At (gave (tell m₁ i 1 y).answer) j x) (sym e) q))
      (λ c w is b f q. absurd (omega (arith, within c.futures b q, ap length (has_its_futures c w is ∙ no_futures))))
      (λ b c. none_is_going g₁ (BatchInCall m₁ (told n) c) ends.none b c))
    where
      n : AnswerOrRefusal
      n = (tell m₁ i 1 a).answer

      no_calls : (of s i).calls ≡ []
      no_calls = (h.each i lt).calls ∙ sym (ap (λ (l : List (List (Call ℕ))). get_or l i []) (pending_kept (memory_of m) g (row_at m i).place)) ∙ alone

      no_futures : (of s i).futures ≡ []
      no_futures = empty_without_length (of s i).futures ((h.each i lt).many ∙ ap length no_calls)

  -- it ends a batch
  batch_ends : (c : Cursor) → BatchEnds m (defers g₁ i []) s i order' c → Futured (settled m₁ i 1 c).machine (defers g₁ i []) (told (settled m₁ i 1 c).answer)
  batch_ends c ends =
      still_futured m g s h i m' g₂ s' (cleared (row_at m₁ i)) (remembers false) p
      (paid_left m g s holds h i lt g₂ s' c ends (omega arith) (remembers false) p refl refl)
      (story_left (settled m₁ i 1 c).answer m' g₂ refl (answer_stands m g s holds h i lt g₂ s' c ends)
      (λ d w is b f q. inl (paid_is_done m g s holds h i lt g₂ s' c ends f (b, subst (λ (l : List ℕ). At l b f) (has_its_futures d w is) q)))
      (λ b d. none_is_going g₂ (BatchInCall m' s' d) ends.none b d))
    where
      m' : Machine
      m' = (settled m₁ i 1 c).machine

      g₂ : Ghost
      g₂ = defers g₁ i []

      s' : Story
      s' = told (settled m₁ i 1 c).answer

      p : Puts m s i m' s' (cleared (row_at m₁ i)) (remembers false)
      p = record {
        small = lt;
        rows = holds.ok.rows;
        threads = h.threads;
        put_row = rows_cleared m i 1 c;
        put_thread = ap (λ (b : Bool). set s.threads i (remembers b)) (settled_is_no_more m₁ i 1 c);
      }

  pub step_futured : EndsWith m (step_of_ghost m g i) s i (step_order (memory_of m) s i (row_at m i).place) (hop m i).after
      → Futured (step_of m i).machine (step_of_ghost m g i) (step_taken m s i)
  step_futured ends = by (hop m i).after refl ends
    where
      by : (a : After) → (hop m i).after ≡ a → EndsWith m (end_ghost g₁ i a) s i order' a → Futured (tell m₁ i 1 a).machine (end_ghost g₁ i a) (told (tell m₁ i 1 a).answer)
      by (afterwards.On p) e w = goes_on p e
      by afterwards.Ok e w = single_ends afterwards.Ok e refl (knows₁ m g holds.ok i lt afterwards.Ok e) w
      by afterwards.Empty e w = single_ends afterwards.Empty e refl (knows₁ m g holds.ok i lt afterwards.Empty e) w
      by (afterwards.Item x) e w = single_ends (afterwards.Item x) e refl (knows₁ m g holds.ok i lt (afterwards.Item x) e).0 w
      by (afterwards.Pair from) e w = batch_ends _ w
      by (afterwards.PairDequeues from taken) e w = batch_ends _ w
