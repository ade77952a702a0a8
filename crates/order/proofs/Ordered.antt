-- THE THEOREM: after any list of entries from a machine that set-up accepts, the calls that took effect are a plain queue's.
use Prim.Native.Nat.{ℕ, ◌<◌}
use mathlib.Core.Path.{◌≡◌, ap, subst}
use mathlib.Core.List.{List, []}
use native.Mathlib.Omega.{arith}
use native.Mathlib.Decide.{ℕ_discrete, dec_lt}
use Rattle.chain.specs.Positions.{At}
use Rattle.chain.proofs.Positions.{one_element}
use Rattle.entry.specs.declared.Entry.{Entry}
use Rattle.entry.specs.Range.{in_range}
use Rattle.machine.specs.declared.Machine.{Machine}
use Rattle.machine.specs.State.{fresh_machine}
use Rattle.order.specs.Reached.{after}
use Rattle.order.specs.Events.{Event, does, kept_beside, events}
use Rattle.order.specs.Order.{Effect, Given, Story, happens, fresh_story, story_of}
use Rattle.order.specs.PlainQueue.{Stands, AsAPlainQueue, InOrder}
use Rattle.order.proofs.Ghost.{Ghost, ghost_does, fresh_ghost}
use Rattle.order.proofs.Events.{Finds, over_entries, both, kept_both}
use Rattle.order.proofs.Reached.{Holds, holds_sized, event_holds, fresh_holds, events_lead_there}
use Rattle.order.proofs.Ran.{ran_where}
use Rattle.order.proofs.ResultsTold.{results_are_told}
use Rattle.order.proofs.PendingItems.{PendingItems, event_pending_items, fresh_pending_items}
use Rattle.order.proofs.Orderly.{Orderly, contents_are_left}
use Rattle.order.proofs.Futured.{Futured}
use Rattle.order.proofs.FuturesEntries.{event_futured, fresh_futured}
use Rattle.order.proofs.Started.{Begun, event_begun, fresh_begun}
use Rattle.order.proofs.OrderQuiet.{KnowsAll}
use Rattle.order.proofs.OrderEntries.{event_orderly, fresh_orderly, fresh_knows_all}
use Rattle.order.proofs.OrderAfterSteps.{step_effect, step_orderly, step_knows, step_futures}
use Rattle.refusal.specs.Verdicts.{accepted}

-- what every event keeps: the chain's invariant and the flags, the items of pending nodes, the order, the futures, the calls started, and what threads know
-- of the order
pub record Keeps (m : Machine) (g : Ghost) (s : Story) : Type 0 where
  pub holds : Holds m g
  pub items : PendingItems m g
  pub orderly : Orderly m g s
  pub futured : Futured m g s
  pub begun : Begun m s
  pub knows : KnowsAll m g s

event_kept : (m : Machine) (g : Ghost) (s : Story) (x : Event) → Finds m x → Keeps m g s → Keeps (does m x) (ghost_does m g x) (happens m s x)
event_kept m g s x finds k =
    let known = event_orderly m g s k.holds k.orderly k.futured k.items k.knows
    (λ i lt. (step_orderly m g s k.holds k.orderly k.futured i lt k.knows, step_knows m g s k.holds k.orderly k.futured i lt k.knows)) x finds in
    record {
      holds = event_holds m g x finds k.holds;
      items = event_pending_items m g k.holds k.items x finds;
      orderly = known.0;
      futured = event_futured m g s k.holds k.futured (λ i lt. step_futures m g s k.holds k.orderly k.futured i lt k.knows) x finds;
      begun = event_begun m g s k.holds k.futured k.begun (λ i lt. step_effect m g s k.holds k.orderly k.futured i lt k.knows) x finds;
      knows = known.1;
    }

abbrev KeptBy : Machine → Ghost × Story → Type 0
KeptBy m p = Keeps m p.0 p.1

module _ (threads nodes : ℕ) (accepted : in_range threads nodes ≡ accepted) (es : List Entry) where
  abbrev fresh : Machine
  fresh = fresh_machine threads nodes

  fresh_kept : Keeps fresh fresh_ghost fresh_story
  fresh_kept = record {
    holds = fresh_holds threads nodes accepted;
    items = fresh_pending_items threads nodes;
    orderly = fresh_orderly threads nodes;
    futured = fresh_futured threads nodes;
    begun = fresh_begun threads nodes;
    knows = fresh_knows_all threads nodes;
  }

  after_kept : Keeps (after fresh es) (kept_beside ghost_does fresh fresh_ghost (events fresh es)) (story_of fresh es)
  after_kept =
      subst (KeptBy (after fresh es)) (kept_both ghost_does happens (events fresh es) fresh fresh_ghost fresh_story)
      (over_entries (both ghost_does happens) KeptBy (λ m p k. holds_sized m p.0 k.holds) (λ m p x finds k. event_kept m p.0 p.1 x finds k) es fresh (fresh_ghost, fresh_story) fresh_kept)

  queue : AsAPlainQueue (after fresh es) (story_of fresh es)
  queue = let k = after_kept in record {
    contents = contents_are_left (after fresh es) _ (story_of fresh es) k.orderly k.holds.ok.inv;
    given = k.futured.given;
    done = k.futured.done;
    waiting = λ f l e. (k.futured.waiting f l e).1;
    started = k.begun.order;
    began = k.orderly.rows.began;
    past = k.orderly.rows.past;
    rising = k.orderly.rows.rising;
    once = k.orderly.rows.once;
    once_each = k.futured.once_each;
  }

  pub calls_take_effect_in_order : InOrder (fresh_machine threads nodes) es
  calls_take_effect_in_order = record { reached = events_lead_there threads nodes accepted es; told = results_are_told threads nodes accepted es; queue = queue }

-- the order agrees with time: a call whose result was given before another began stands before it
pub stands_before : (m : Machine) (s : Story) (q : AsAPlainQueue m s) (j k : ℕ) (g : Given) (y : Effect) (told : At s.given j g) → At s.order k y → g.time < y.call.began
    → (q.given j g told).there.0 < k
stands_before m s q j k g y told there lt =
    elim (dec_lt i k) [
      | yes h ↦ h
      | no h ↦ elim (ℕ_discrete k i) [
        | yes e ↦ absurd (omega (arith, ap (λ (x : Effect). x.place) (one_element s.order k i there here e), x.before, q.began k y there))
        | no ne ↦ absurd (omega (arith, q.rising k i y x.row.effect there here (omega arith), x.before, q.began k y there))
      ]
    ]
  where
    x : Stands s.order g
    x = q.given j g told

    i : ℕ
    i = (q.given j g told).there.0

    here : At s.order (q.given j g told).there.0 (q.given j g told).row.effect
    here = ran_where s.order [] x.there.0 x.row x.there.1
