-- Pairing never leaves the chain. In a batch with an enqueue the current head stands at a position c, and the next enqueue's link leads to a
-- position q past it. An enqueue moves q on by one, and q stays within the chain because all of the batch's nodes are in it. A dequeue compares the
-- link behind the current head with the next enqueue's: they are the same link where c + 1 is q, and then it finds nothing; else c + 1 is
-- before q, so there is a node to go on to, and it is before q as well. In a batch of dequeues the nodes to take are all in the chain.
use Rattle.std.specs.Prelude.{None, Some}
use Prim.Native.Nat.{ℕ, zero, suc, ◌+◌, ◌-◌, ◌<◌, ◌≤◌}
use mathlib.Core.Path.{◌≡◌, refl, sym, ap, ◌∙◌, subst}
use mathlib.Core.Bool.{Bool, true, false, cond, ◌||◌, true≢false}
use mathlib.Core.List.{List, [], ◌∷◌}
use mathlib.Core.Option.{some}
use mathlib.Core.Logic.{◌≢◌}
use native.Mathlib.Omega.{arith}
use lib.Dec.{eqb}
use lib.ListN.{length}
use borrow.Author.Tests.{eqb-false, eq-eqb}
use Rattle.chain.specs.Positions.{at, At, In}
use Rattle.chain.specs.Chain.{Chain}
use Rattle.chain.proofs.Positions.{none_is_not_some, some_injective, within, element}
use Rattle.tally.specs.Tally.{tally_of}
use Rattle.cells.specs.Links.{Link}
use Rattle.memory.specs.Memory.{link_at}
use Rattle.row.specs.declared.Row.{Row}
use Rattle.answer.specs.declared.Item.{Item}
use Rattle.answer.specs.declared.CallResult.TheVariants as call_result
use Rattle.answer.specs.declared.Future.{Future}
use Rattle.answer.specs.declared.Operation.{Operation}
use Rattle.answer.specs.declared.Operation.TheVariants as operation
use Rattle.pairing.specs.declared.Supply.{Supply}
use Rattle.pairing.specs.declared.Supply.TheVariants.{Batch, Dequeues}
use Rattle.pairing.specs.declared.Cursor.{Cursor}
use Rattle.pairing.specs.declared.Paid.{Paid}
use Rattle.pairing.specs.declared.Around.{Around}
use Rattle.pairing.specs.Pairing.{node_behind, same_link, pay, pay_batch, pay_dequeues, paid}
use Rattle.machine.specs.Pairing.{around, pair_from, with_outcome, batch_cursor, dequeues_cursor}
use Rattle.order.specs.PairingReads.{Turn, turns, LeadsTo, StaysOn, AllStayOn}
use Rattle.order.proofs.Ghost.{Ghost}
use Rattle.order.proofs.Shared.{Shared, led, next, link_to}
use Rattle.order.proofs.Invariant.{Inv}
use Rattle.order.proofs.Knows.{request_of, Tallied, Own}
use Rattle.order.proofs.Fine.{RunToItsEnd, Taken}

-- the futures with the turns' results, in calling order
unfoldable pub with_results : List ℕ → ℕ → List Future → List Turn → List Future
with_results pending k fs [] = fs
with_results pending k fs (x ∷ xs) = with_results pending (k + 1) (with_outcome pending k fs (Some x.result)) xs

-- one more for an enqueue
abbrev pub one_more_for : Operation → ℕ → ℕ
one_more_for operation.Enqueue n = suc n
one_more_for operation.Dequeue n = n

-- how many of the turns pay an enqueue
unfoldable pub enqueues_among : List Turn → ℕ
enqueues_among [] = 0
enqueues_among (x ∷ xs) = one_more_for x.operation (enqueues_among xs)

-- the turns are those of pair_from: their results are what it writes
pub turns_are_pairings : (n : ℕ) (links : List Link) (items : List Item) (last : ℕ) (pending : List ℕ) (k : ℕ) (fs : List Future) (c : Cursor)
    → pair_from n links items last pending k fs c ≡ with_results pending k fs (turns n links items last pending k fs c)
unfolding pair_from turns with_results
turns_are_pairings zero links items last pending k fs c = refl
turns_are_pairings (suc n) links items last pending k fs c = turns_are_pairings n links items last pending (k + 1) _ _

ok_is_no_item : (v : Item) → call_result.Ok ≡ call_result.Item v → ⊥
ok_is_no_item v e = let z : ◌≡◌ {A = ℕ} 0 1 = cc in omega arith

empty_is_no_item : (v : Item) → call_result.Empty ≡ call_result.Item v → ⊥
empty_is_no_item v e = let z : ◌≡◌ {A = ℕ} 0 1 = cc in omega arith

dequeue_is_no_enqueue : operation.Dequeue ≡ operation.Enqueue → ⊥
dequeue_is_no_enqueue e = let z : ◌≡◌ {A = ℕ} 0 1 = cc in omega arith

pub links_that_lead_alike : (l m : Link) → led l ≡ led m → same_link l m ≡ true
links_that_lead_alike None None p = refl
links_that_lead_alike None (Some y) p = absurd (none_is_not_some refl p)
links_that_lead_alike (Some x) None p = absurd (none_is_not_some refl (sym p))
links_that_lead_alike (Some x) (Some y) p = eq-eqb x y (some_injective p)

second_is_false : (a b : Bool) → (a || b) ≡ false → b ≡ false
second_is_false true b e = absurd (true≢false e)
second_is_false false b e = e

-- The current head is a node of the chain, at `position`. In a batch with an enqueue the next enqueue's link leads to `ahead`, past it, and
-- there is room behind that for the enqueues to come.
pub record BatchReady (chain : List ℕ) (node : ℕ) (link : Link) (to_come : ℕ) : Type 0 where
  pub position : ℕ
  pub head : At chain position node
  pub ahead : ℕ
  pub leads : led link ≡ at chain ahead
  pub before : position < ahead
  pub room : ahead + to_come ≤ length chain

-- In a batch of dequeues there are as many nodes behind the current head as are left to take.
pub record DequeuesReady (chain : List ℕ) (node left : ℕ) : Type 0 where
  pub position : ℕ
  pub head : At chain position node
  pub enough : position + left < length chain

abbrev pub Ready : List ℕ → ℕ → Supply → ℕ → Type 0
Ready chain node (Batch link none_left) to_come = BatchReady chain node link to_come
Ready chain node (Dequeues left) to_come = DequeuesReady chain node left

-- what a turn reads
abbrev pub read_by : List Link → List Item → ℕ → ℕ → Supply → Around
read_by links items last node s = around links items last (record { at = node; supply = s })

-- a link that leads to a position of the chain: the node there
pub node_it_leads_to : (chain : List ℕ) (k : ℕ) (l : Link) (else : ℕ) → led l ≡ at chain k → k < length chain → At chain k (node_behind l else)
node_it_leads_to chain k None else e h = absurd (none_is_not_some (sym e) (element chain k h).1)
node_it_leads_to chain k (Some x) else e h = sym e

module _ (links : List Link) (chain : List ℕ) (linked : Chain (next links) chain) (dummy : At chain 0 0) (items : List Item) (last : ℕ) where
  leads_where_there_is_a_node : (k : ℕ) (l : Link) → led l ≡ at chain k → k < length chain → LeadsTo chain l
  leads_where_there_is_a_node k l e h =
      let x = element chain k h in record { node = x.0; is = link_to l x.0 (e ∙ x.1); in_chain = (k, x.1) }

  in_chain_or_the_dummy : (k : ℕ) (l : Link) → led l ≡ at chain k → In chain (node_behind l 0)
  in_chain_or_the_dummy k None e = (0, dummy)
  in_chain_or_the_dummy k (Some x) e = (k, sym e)

  -- a turn with the result that it pays
  abbrev turn_with : ℕ → Supply → Operation → Paid → Turn
  turn_with node s o p = record { cursor = record { at = node; supply = s }; operation = o; result = p.result }

  -- the turn stays on the chain, and the next one can
  abbrev Pays : ℕ → Supply → Operation → ℕ → Paid → Type 0
  Pays node s o to_come p = StaysOn links chain (turn_with node s o p) × Ready chain p.cursor.at p.cursor.supply to_come

  module _ (node : ℕ) (link : Link) (none_left : Bool) (to_come : ℕ) where
    enqueue_pays : BatchReady chain node link (suc to_come)
        → Pays node (Batch link none_left) operation.Enqueue to_come (pay_batch node link none_left operation.Enqueue (read_by links items last node (Batch link none_left)))
    enqueue_pays r =
        let inside : r.ahead < length chain = omega (arith, r.room) in (
          record {
            reads_head = (r.position, r.head);
            reads_next = in_chain_or_the_dummy r.ahead link r.leads;
            goes_on = λ v e. absurd (ok_is_no_item v e);
            enqueues = λ e. leads_where_there_is_a_node r.ahead link r.leads inside;
          },
          record {
            position = r.position;
            head = r.head;
            ahead = suc r.ahead;
            leads = linked.links r.ahead _ (node_it_leads_to chain r.ahead link 0 r.leads inside);
            before = omega (arith, r.before);
            room = omega (arith, r.room);
          },
        )

    dequeue_pays : BatchReady chain node link to_come
        → Pays node (Batch link none_left) operation.Dequeue to_come (pay_batch node link none_left operation.Dequeue (read_by links items last node (Batch link none_left)))
    dequeue_pays r = by (none_left || same_link behind link) refl
      where
        behind : Link
        behind = link_at links node

        leads_on : led behind ≡ at chain (suc r.position)
        leads_on = linked.links r.position node r.head

        by : (b : Bool) → (none_left || same_link behind link) ≡ b
            → Pays node (Batch link none_left) operation.Dequeue to_come
            (cond b (paid call_result.Empty node (Batch link none_left))
            (paid (call_result.Item (read_by links items last node (Batch link none_left)).item) (node_behind behind node) (Batch link (eqb (node_behind behind node) last))))
        by true e = (
          record {
            reads_head = (r.position, r.head);
            reads_next = in_chain_or_the_dummy r.ahead link r.leads;
            goes_on = λ v e. absurd (empty_is_no_item v e);
            enqueues = λ e. absurd (dequeue_is_no_enqueue e);
          },
          r,
        )
        by false e =
            let apart : suc r.position ≢ r.ahead =
            λ q. true≢false (sym (links_that_lead_alike behind link (leads_on ∙ ap (at chain) q ∙ sym r.leads)) ∙ second_is_false none_left (same_link behind link) e) in
            let inside : suc r.position < length chain = omega (arith, r.before, r.room) in (
              record {
                reads_head = (r.position, r.head);
                reads_next = in_chain_or_the_dummy r.ahead link r.leads;
                goes_on = λ v e. leads_where_there_is_a_node (suc r.position) behind leads_on inside;
                enqueues = λ e. absurd (dequeue_is_no_enqueue e);
              },
              record {
                position = suc r.position;
                head = node_it_leads_to chain (suc r.position) behind node leads_on inside;
                ahead = r.ahead;
                leads = r.leads;
                before = omega (arith, r.before);
                room = r.room;
              },
            )

  module _ (node left : ℕ) (o : Operation) (to_come : ℕ) where
    taken_pays : DequeuesReady chain node left → Pays node (Dequeues left) o to_come (pay_dequeues node left (read_by links items last node (Dequeues left)))
    taken_pays r = by (eqb left 0) refl
      where
        behind : Link
        behind = link_at links node

        leads_on : led behind ≡ at chain (suc r.position)
        leads_on = linked.links r.position node r.head

        by : (b : Bool) → eqb left 0 ≡ b
            → Pays node (Dequeues left) o to_come
            (cond b (paid call_result.Empty node (Dequeues left)) (paid (call_result.Item (read_by links items last node (Dequeues left)).item) (node_behind behind node) (Dequeues (left - 1))))
        by true e = (
          record {
            reads_head = (r.position, r.head);
            reads_next = (0, dummy);
            goes_on = λ v e. absurd (empty_is_no_item v e);
            enqueues = λ e. tt;
          },
          r,
        )
        by false e =
            let more : left ≢ 0 = eqb-false left 0 e in
            let inside : suc r.position < length chain = omega (arith, r.enough) in (
              record {
                reads_head = (r.position, r.head);
                reads_next = (0, dummy);
                goes_on = λ v e. leads_where_there_is_a_node (suc r.position) behind leads_on inside;
                enqueues = λ e. tt;
              },
              record {
                position = suc r.position;
                head = node_it_leads_to chain (suc r.position) behind node leads_on inside;
                enough = omega (arith, r.enough);
              },
            )

  -- one turn
  pays : (node : ℕ) (s : Supply) (o : Operation) (to_come : ℕ) → Ready chain node s (one_more_for o to_come)
      → Pays node s o to_come (pay node s o (read_by links items last node s))
  pays node (Batch link none_left) operation.Enqueue to_come r = enqueue_pays node link none_left to_come r
  pays node (Batch link none_left) operation.Dequeue to_come r = dequeue_pays node link none_left to_come r
  pays node (Dequeues left) o to_come r = taken_pays node left o to_come r

  -- all turns
  pub turns_stay_on : (n : ℕ) (pending : List ℕ) (k : ℕ) (fs : List Future) (c : Cursor)
      → Ready chain c.at c.supply (enqueues_among (turns n links items last pending k fs c))
      → AllStayOn links chain (turns n links items last pending k fs c)
  unfolding turns enqueues_among at
  turns_stay_on zero pending k fs c r j x h = absurd (none_is_not_some refl h)
  turns_stay_on (suc n) pending k fs c r zero x h = subst (StaysOn links chain) (some_injective h) (pays c.at c.supply _ _ r).0
  turns_stay_on (suc n) pending k fs c r (suc j) x h = turns_stay_on n pending (k + 1) _ _ (pays c.at c.supply _ _ r).1 j x h

  -- a batch of dequeues only
  pub dequeues_stay_on : (n : ℕ) (pending : List ℕ) (k : ℕ) (fs : List Future) (node left f : ℕ) → At chain f node → f + left < length chain
      → AllStayOn links chain (turns n links items last pending k fs (dequeues_cursor node left))
  dequeues_stay_on n pending k fs node left f p enough =
      turns_stay_on n pending k fs (dequeues_cursor node left) (record { position = f; head = p; enough = enough })

  -- a batch with an enqueue
  pub batch_stays_on : (n : ℕ) (pending : List ℕ) (k : ℕ) (fs : List Future) (node first c q : ℕ) → At chain c node → At chain q first → c < q
      → q + enqueues_among (turns n links items last pending k fs (batch_cursor node first)) ≤ length chain
      → AllStayOn links chain (turns n links items last pending k fs (batch_cursor node first))
  batch_stays_on n pending k fs node first c q p l before room =
      turns_stay_on n pending k fs (batch_cursor node first) (record { position = c; head = p; ahead = q; leads = sym l; before = before; room = room })

-- the two pairings of the machine, at the end of a batch's call
module _ (s : Shared) (g : Ghost) (i : Inv s g) {r : Row} {from : ℕ} (n : ℕ) (items : List Item) (last : ℕ) (pending : List ℕ) (k : ℕ) (fs : List Future) where
  -- from the old head, with no more enqueues than the announcement asked for
  pub run_batch_stays_on : {t : ℕ} (e : RunToItsEnd s g t r from)
      → enqueues_among (turns n s.links items last pending k fs (batch_cursor from r.first)) ≤ (request_of s e.announcement).tally.enqueues
      → AllStayOn s.links g.chain (turns n s.links items last pending k fs (batch_cursor from r.first))
  run_batch_stays_on e few =
      let a = e.announcement in
      let old = e.past.old in
      let l = (i.linked.old_tails a old e.past.is e.installed).0 in
      let shape = i.linked.shape a l.step old.count.0 l.is l.from in
      let inside = within g.chain _ shape.last_at in
      batch_stays_on s.links g.chain i.chain.chain i.chain.first items last n pending k fs from r.first
      (request_of s a).old_head.count.0 (suc old.count.0)
      (i.head.old_head_at a e.installed ∙ ap some (sym e.from_is)) (shape.first_at ∙ ap some e.own.first)
      (omega (arith, shape.old_head_before)) (omega arith)

  -- from the head that was read, with as many to take as were found behind it
  pub taken_stay_on : (taken : ℕ) → Taken g r from taken → AllStayOn s.links g.chain (turns n s.links items last pending k fs (dequeues_cursor from taken))
  taken_stay_on taken e =
      dequeues_stay_on s.links g.chain i.chain.chain i.chain.first items last n pending k fs from taken
      e.front.count.0 (e.is ∙ ap some (sym e.from_is)) e.enough

-- the announcement's tally is the row's, so the row's enqueues bound the turns' as well
pub own_tally : (s : Shared) (g : Ghost) → Inv s g → (t a : ℕ) (r : Row) → Own s g t a r → Tallied g t r → (request_of s a).tally ≡ r.tally
own_tally s g i t a r own h = (i.batches.asks a own.batch own.is).tally ∙ ap tally_of own.calls ∙ sym h.tally
