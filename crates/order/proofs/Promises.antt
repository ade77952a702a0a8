-- The promises hold after any list of entries from a fresh machine.
use Rattle.std.specs.Prelude.{Some}
use Prim.Native.Nat.{ℕ, suc, ◌<◌}
use mathlib.Core.Path.{◌≡◌, refl, sym, ap, ◌∙◌, subst}
use mathlib.Core.List.{List, [], ◌∷◌, ◌++◌}
use mathlib.Core.Option.{some}
use mathlib.Core.Logic.{inl, inr, ◌≢◌}
use native.Mathlib.Omega.{arith}
use native.Mathlib.Decide.{ℕ_discrete}
use lib.ListN.{length, get_or, take}
use lib.Seq.{take_all, take-suc}
use Rattle.chain.specs.Positions.{at, At, In}
use Rattle.chain.specs.Chain.{Chain}
use Rattle.chain.proofs.Positions.{some_injective, within, element, at_left}
use Rattle.chain.proofs.Following.{meets_the_rest}
use Rattle.memory.specs.Memory.{link_at}
use Rattle.place.specs.declared.Place.{Place}
use Rattle.place.specs.declared.Place.TheVariants.{Idle, Enqueue, Dequeue, Batch, Dequeues, Running}
use Rattle.place.specs.declared.DequeuesStep.TheVariants.{Q1, Q2, Q3}
use Rattle.place.specs.declared.RunStep.TheVariants.{A1, A2, A3, A4, A5, A6, A7, A8}
use Rattle.row.specs.declared.Row.{Row}
use Rattle.entry.specs.declared.Entry.{Entry}
use Rattle.entry.specs.Range.{in_range}
use Rattle.machine.specs.declared.Machine.{Machine}
use Rattle.machine.specs.State.{fresh_machine, row_at, memory_of}
use Rattle.machine.specs.Steps.{hop}
use Rattle.order.specs.Links.{led, next}
use Rattle.order.proofs.Ghost.{Ghost, fresh_ghost}
use Rattle.order.specs.Reached.{after}
use Rattle.order.specs.PairingReads.{AllStayOn, turns_after}
use Rattle.order.specs.Promises.{step_links, link_steps, together, linked, OneChain, LastOf, OneBehind, TailNear, HeadsLinked, ReadsOn, WalksStayOn, BatchesWhole, Queue}
use Rattle.order.proofs.Shared.{shared_of}
use Rattle.order.proofs.Knows.{KnowsAt, KnowsRun}
use Rattle.order.proofs.RunReads.{goal_within}
use Rattle.order.proofs.RunSteps.{asks}
use Rattle.order.proofs.Steps.{Ok}
use Rattle.order.proofs.ContentsWalk.{link_leads_on}
use Rattle.order.proofs.AbstractHead.{link_leads_means_linked, walk_stays_in_the_chain, head_or_old_head_at, abstract_head_at, each_met_is_in_the_chain, met_fewer_than_followed, last_link_is_none}
use Rattle.order.proofs.PairingCounts.{flagged_pairing_stays_on}
use Rattle.order.proofs.Flags.{Flags, flagged_here}
use Rattle.order.proofs.Fits.{fits}
use Rattle.order.proofs.Reached.{fresh_holds, after_holds}
use Rattle.order.proofs.LinkedSoFar.{Tells, one_more, batch_nodes_lem, place_tells, after_tells, fresh_tells}
use Rattle.refusal.specs.Verdicts.{accepted}

module _ (m : Machine) (g : Ghost) (ok : Ok m g) (steps : List (List ℕ)) (h : Tells g steps) (flags : Flags m g) where
  -- a node of the chain beside the machine is a linked node
  is_linked : (k n : ℕ) → At g.chain k n → At (linked steps) k n
  is_linked k n p = subst (λ (c : List ℕ). At c k n) h.chain p

  linked_chain : Chain (next m.links) (linked steps)
  linked_chain = subst (Chain (next m.links)) h.chain ok.inv.chain.chain

  one_chain : OneChain m steps
  unfolding at
  one_chain = record {
    visited = λ n le. meets_the_rest linked_chain n 0 (some 0) refl (omega arith);
    once = linked_chain.once;
    handed_out = λ k n p. ok.inv.chain.in_use k n (subst (λ (c : List ℕ). At c k n) (sym h.chain) p);
    last_link = λ k n p e. last_link_is_none m g ok.inv k n (subst (λ (c : List ℕ). At c k n) (sym h.chain) p) (ap length h.chain ∙ e);
  }

  -- the tail's count is the position at which its link step ended: the last, or the one before
  abbrev count : ℕ
  count = m.ends.tail.count.0

  at_the_last : length g.ends ≡ suc ok.inv.tail.step → LastOf (linked steps) m.ends.tail.node
  at_the_last e =
      (count, is_linked count _ ok.inv.tail.tail_at, sym (ap length h.chain) ∙ ok.inv.ends.last_ends _ _ ok.inv.tail.tail_ends (omega arith))

  one_behind : length g.ends ≢ suc ok.inv.tail.step → OneBehind m.ends.tail.node steps
  one_behind ne = record { before = before; last = last; all = all; there = (count, there, ap suc (sym ended)) }
    where
      step : ℕ
      step = ok.inv.tail.step

      before : List (List ℕ)
      before = take step steps

      last : List ℕ
      last = get_or steps step []

      last_step : suc step ≡ length steps
      last_step = omega (arith, h.many, ok.inv.tail.near, within g.ends step ok.inv.tail.tail_ends)

      all : steps ≡ before ++ (last ∷ [])
      all = sym (take_all (suc step) steps (omega (arith, last_step))) ∙ take-suc steps step [] (omega (arith, last_step))

      ended : count ≡ length (together before)
      ended = some_injective (sym ok.inv.tail.tail_ends ∙ h.ends step (omega (arith, last_step)))

      there : At (linked before) count m.ends.tail.node
      there =
          sym (at_left (linked before) last count (omega (arith, ended)))
          ∙ ap (λ (c : List ℕ). at (0 ∷ c) count) (sym (one_more before last) ∙ ap together (sym all)) ∙ is_linked count _ ok.inv.tail.tail_at

  tail_near : TailNear m steps
  tail_near = elim (ℕ_discrete (length g.ends) (suc ok.inv.tail.step)) [ yes e ↦ inl (at_the_last e) | no ne ↦ inr (one_behind ne) ]

  heads_linked : HeadsLinked m steps
  heads_linked = record {
    head = (_, is_linked _ _ (head_or_old_head_at m g ok.inv));
    abstract = (_, is_linked _ _ (abstract_head_at m g ok.inv));
  }

  -- a6 has as many nodes ahead of it as it has still to go
  a6_reads_on : (t a : ℕ) (r : Row) → In g.installed a → (rise x left : ℕ) → KnowsRun (shared_of m) g a (A6 rise x left) → (y : ℕ) × (link_at m.links x ≡ Some y)
  a6_reads_on t a r there rise x left w =
      let y = element g.chain (suc w.1) (omega (arith, goal_within (shared_of m) g ok.inv t r a there w.0, w.3, w.4)) in
      (y.0, link_leads_on m.links ok.inv.chain.chain w.1 x y.0 w.2 y.1)

  reads_on : (t : ℕ) (r : Row) (p : Place) → KnowsAt (shared_of m) g t r p → ReadsOn m (linked steps) p
  reads_on t r Idle w = tt
  reads_on t r (Enqueue n x) w = tt
  reads_on t r (Dequeue x) w = tt
  reads_on t r (Batch b x) w = tt
  reads_on t r (Dequeues Q1) w = tt
  reads_on t r (Dequeues (Q2 v)) w = (_, is_linked _ _ w.0.1)
  reads_on t r (Dequeues (Q3 v)) w = tt
  reads_on t r (Running a A1 k) w = tt
  reads_on t r (Running a (A2 l) k) w = tt
  reads_on t r (Running a (A3 l) k) w = tt
  reads_on t r (Running a (A4 l) k) w = tt
  reads_on t r (Running a (A5 o) k) w = tt
  reads_on t r (Running a (A6 rise x left) k) w = ((w.2.1, is_linked _ _ w.2.2), a6_reads_on t a r w.0 rise x left w.2)
  reads_on t r (Running a (A7 rise x) k) w = tt
  reads_on t r (Running a (A8 l x) k) w = tt

  pairing_stays : (t : ℕ) → t < 8
      → AllStayOn (hop m t).machine.links (linked (steps ++ step_links (memory_of m) (row_at m t).place)) (turns_after (hop m t).machine t (hop m t).after)
  pairing_stays t lt =
      subst (λ (c : List ℕ). AllStayOn (hop m t).machine.links c (turns_after (hop m t).machine t (hop m t).after))
      (place_tells m g ok t lt steps h (row_at m t) (row_at m t).place (ok.knows t lt).place).chain
      (flagged_pairing_stays_on m g ok t lt (flagged_here m g ok flags t lt))

  walks_stay_on : WalksStayOn m steps
  walks_stay_on = record {
    reads = λ t lt. reads_on t (row_at m t) (row_at m t).place (ok.knows t lt).place;
    pairing = pairing_stays;
    head_walk = λ a o e is. let there = ok.inv.head.there_installed a e in let w = ok.inv.linked.old_tails a o is there in walk_stays_in_the_chain m g ok.inv a there o w.0 w.1;
    head_walk_from_tail = λ a e leads.
        let there = ok.inv.head.there_installed a e in
        walk_stays_in_the_chain m g ok.inv a there m.ends.tail (link_leads_means_linked m g ok.inv a there leads) ok.inv.tail.tail_at;
    contents = λ j n p. (_, is_linked _ _ (each_met_is_in_the_chain m g ok.inv j n p));
    not_cut = met_fewer_than_followed m g ok.inv;
  }

  -- until a batch is linked its nodes stand beside the chain, linked one behind the other
  batches_whole : BatchesWhole m
  batches_whole t a l k lt at_a3 free =
      let w = subst (KnowsAt (shared_of m) g t (row_at m t)) at_a3 (ok.knows t lt).place in
      ap length (sym (batch_nodes_lem m g ok t lt steps h (row_at m t) a k w.0 w.1 l w.2 (ap led free))) ∙ (asks (shared_of m) g ok.inv t (row_at m t) a k w.0 w.1).many

  queue : Queue m steps
  queue = record { chain = one_chain; tail = tail_near; heads = heads_linked; walks = walks_stay_on; batches = batches_whole; fits = fits m g ok flags }

pub the_queue_is_a_queue : (threads nodes : ℕ) → in_range threads nodes ≡ accepted → (es : List Entry)
    → Queue (after (fresh_machine threads nodes) es) (link_steps (fresh_machine threads nodes) es)
the_queue_is_a_queue threads nodes e es =
    let fresh = fresh_holds threads nodes e in
    let w = after_holds es _ _ fresh in
    queue _ _ w.ok _ (after_tells es (fresh_machine threads nodes) fresh_ghost fresh [] fresh_tells) w.flags
