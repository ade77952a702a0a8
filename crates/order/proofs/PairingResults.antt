-- Pairing gives each future what its call gives on the plain list. While the turns go on, the plain list is found again in the chain: its items
-- are those of the nodes behind the current head, and right behind them are the nodes of the enqueues to come. In a batch with an enqueue the
-- next enqueue's link leads to the first of those; so the link behind the current head is the same link exactly where the plain list is empty,
-- for no node stands in the chain twice. "No more can succeed" is said at the batch's last node, where nothing is behind and nothing is to come.
use Rattle.std.specs.Prelude.{None, Some}
use Prim.Native.Nat.{ℕ, suc, ◌+◌, ◌-◌, ◌<◌, ◌≤◌}
use mathlib.Core.Path.{◌≡◌, refl, sym, ap, ap₂, ◌∙◌, subst}
use mathlib.Core.Bool.{Bool, true, false, ◌||◌, or-true, true≢false}
use mathlib.Core.List.{List, [], ◌∷◌, ◌++◌, map, append_assoc, map-append, cons-ne-nil}
use mathlib.Core.Option.{some}
use native.Mathlib.Omega.{arith}
use lib.Dec.{eqb}
use lib.ListN.{length, take, drop, length-append, length-drop, length-map, take-append-drop}
use lib.Seq.{drop-drop, length-take-le}
use borrow.Author.Tests.{eqb-true, eq-eqb, ne_eqb}
use Rattle.chain.specs.Positions.{at, At}
use Rattle.chain.specs.Chain.{Chain}
use Rattle.chain.proofs.Positions.{within, drop_from, length-one_more, empty_without_length}
use Rattle.tally.specs.Fifo.{Call, enqueue, dequeue, after, result, results}
use Rattle.tally.specs.Excess.{enqueued, enqueues}
use Rattle.cells.specs.Links.{Link}
use Rattle.memory.specs.Memory.{link_at}
use Rattle.answer.specs.declared.Item.{Item}
use Rattle.answer.specs.Answer.{Outcome}
use Rattle.answer.specs.declared.CallResult.TheVariants as call_result
use Rattle.answer.specs.declared.Future.{Future}
use Rattle.answer.specs.declared.Operation.{Operation}
use Rattle.pairing.specs.declared.Supply.{Supply}
use Rattle.pairing.specs.declared.Supply.TheVariants.{Batch, Dequeues}
use Rattle.pairing.specs.declared.Cursor.{Cursor}
use Rattle.pairing.specs.declared.Paid.{Paid}
use Rattle.pairing.specs.Pairing.{node_behind, same_link, pay, pay_batch, pay_dequeues}
use Rattle.machine.specs.State.{item_in}
use Rattle.order.specs.Outcomes.{outcome_of}
use Rattle.machine.specs.Pairing.{pending_future, with_outcome, batch_cursor, dequeues_cursor}
use Rattle.order.specs.PairingReads.{Turn, turns}
use Rattle.order.proofs.Shared.{led, next}
use Rattle.order.proofs.PairingWalks.{links_that_lead_alike, read_by, node_it_leads_to}
use Rattle.order.proofs.PairingCounts.{operation_of, FlaggedFrom, Flagged, flagged_now, flagged_later}

-- the item of a node
abbrev pub value_of : List Item → ℕ → ℕ
value_of items n = (item_in items n).value

-- what the turns pay, in their order
abbrev pub outcomes : List Turn → List Outcome
outcomes xs = map (λ (x : Turn). Some x.result) xs

same_links_lead_alike : (l m : Link) → same_link l m ≡ true → led l ≡ led m
same_links_lead_alike None None e = refl
same_links_lead_alike None (Some y) e = absurd (true≢false (sym e))
same_links_lead_alike (Some x) None e = absurd (true≢false (sym e))
same_links_lead_alike (Some x) (Some y) e = ap some (eqb-true x y e)

neither : (a b : Bool) → (a ≡ true → ⊥) → (b ≡ true → ⊥) → (a || b) ≡ false
neither true b p q = absurd (p refl)
neither false true p q = absurd (q refl)
neither false false p q = refl

module _ (links : List Link) (chain : List ℕ) (linked : Chain (next links) chain) (items : List Item) (last : ℕ) (pending : List ℕ) where
  abbrev values : List ℕ → List ℕ
  values c = map (value_of items) c

  -- a node and the items right behind it, with whatever others after them
  record Behind (position node : ℕ) (held : List ℕ) : Type 0 where
    head : At chain position node
    rest : List ℕ
    are : values (drop (suc position) chain) ≡ held ++ rest

  -- listing 6: q is the plain list, and to_come what the calls to come enqueue
  record BatchHolds (node : ℕ) (link : Link) (none_left : Bool) (q to_come : List ℕ) : Type 0 where
    position : ℕ
    behind : Behind position node (q ++ to_come)
    -- the next enqueue's link leads behind the nodes of the plain list
    leads : led link ≡ at chain (suc position + length q)
    -- the last item is that of the batch's last node
    ends : At chain (position + length (q ++ to_come)) last
    -- where no more can succeed, the plain list is empty and nothing is to come
    none : none_left ≡ true → q ++ to_come ≡ []

  -- listing 8: as many are left to succeed as the plain list has items
  record DequeuesHold (node left : ℕ) (q : List ℕ) : Type 0 where
    position : ℕ
    behind : Behind position node q
    many : length q ≡ left

  -- listing 6 looks at the flags of the futures; listing 8 does not, for all its calls are dequeues
  abbrev Holds : ℕ → List Future → ℕ → Supply → List (Call ℕ) → List ℕ → Type 0
  Holds k fs node (Batch link none_left) cs q = FlaggedFrom k pending fs cs × BatchHolds node link none_left q (enqueued cs)
  Holds k fs node (Dequeues left) cs q = (enqueued cs ≡ []) × DequeuesHold node left q

  abbrev link_of : ℕ → Link
  link_of node = link_at links node

  -- the node to go on to
  abbrev node_after : ℕ → ℕ
  node_after node = node_behind (link_of node) node

  -- where an item is behind a node, it is that of the node to go on to
  goes_on : (position node x : ℕ) (held : List ℕ) → Behind position node (x ∷ held) → Behind (suc position) (node_after node) held × (value_of items (node_after node) ≡ x)
  goes_on position node x held h = (record { head = there; rest = h.rest; are = cc first }, cc first)
    where
      inside : suc position < length chain
      inside = omega (arith, ap length h.are, length-map (drop (suc position) chain) (value_of items), length-drop (suc position) chain)

      there : At chain (suc position) (node_after node)
      there = node_it_leads_to chain (suc position) (link_of node) node (linked.links position node h.head) inside

      first : value_of items (node_after node) ∷ values (drop (suc (suc position)) chain) ≡ x ∷ held ++ h.rest
      first = ap values (sym (drop_from chain (suc position) (node_after node) there)) ∙ h.are

  module _ (node : ℕ) (link : Link) (none_left : Bool) where
    -- an enqueue: its node is one of the plain list's now
    enqueue_holds : (v : ℕ) (q to_come : List ℕ) → BatchHolds node link none_left q (v ∷ to_come)
        → BatchHolds node (link_of (node_behind link 0)) none_left (q ++ (v ∷ [])) to_come
    enqueue_holds v q to_come h = record {
      position = h.position;
      behind = subst (Behind h.position node) same h.behind;
      leads = linked.links ahead _ (node_it_leads_to chain ahead link 0 h.leads inside) ∙ ap (at chain) one_on;
      ends = subst (λ (l : List ℕ). At chain (h.position + length l) last) same h.ends;
      none = λ e. sym same ∙ h.none e;
    }
      where
        same : q ++ (v ∷ to_come) ≡ (q ++ (v ∷ [])) ++ to_come
        same = sym (append_assoc q (v ∷ []) to_come)

        ahead : ℕ
        ahead = suc h.position + length q

        inside : suc h.position + length q < length chain
        inside = omega (arith, within chain _ h.ends, length-append q (v ∷ to_come))

        one_on : suc (suc h.position + length q) ≡ suc h.position + length (q ++ (v ∷ []))
        one_on = omega (arith, length-one_more q v)

    -- a dequeue finds nothing where the plain list is empty: the link behind the current head is the next enqueue's
    nothing_found : (to_come : List ℕ) → BatchHolds node link none_left [] to_come → (none_left || same_link (link_of node) link) ≡ true
    nothing_found to_come h = rw (links_that_lead_alike (link_of node) link alike) (or-true none_left)
      where
        alike : led (link_of node) ≡ led link
        alike = linked.links h.position node h.behind.head ∙ ap (at chain) (let z : suc h.position ≡ suc h.position + 0 = omega arith in z) ∙ sym h.leads

    -- .. and only there
    module _ (x : ℕ) (q to_come : List ℕ) (h : BatchHolds node link none_left (x ∷ q) to_come) where
      next_one : Behind (suc h.position) (node_after node) (q ++ to_come) × (value_of items (node_after node) ≡ x)
      next_one = goes_on h.position node x (q ++ to_come) h.behind

      something_found : (none_left || same_link (link_of node) link) ≡ false
      something_found = neither none_left (same_link (link_of node) link) (λ e. cons-ne-nil x (q ++ to_come) (h.none e)) apart
        where
          there : At chain (suc h.position) (node_after node)
          there = next_one.0.head

          apart : same_link (link_of node) link ≡ true → ⊥
          apart e =
              let again = sym h.leads ∙ sym (same_links_lead_alike (link_of node) link e) ∙ linked.links h.position node h.behind.head ∙ there in
              omega (arith, linked.once _ _ _ there again)

      -- a dequeue: the first of the plain list's nodes is the current head now
      dequeue_holds : BatchHolds (node_after node) link (eqb (node_after node) last) q to_come
      dequeue_holds = record {
        position = suc h.position;
        behind = next_one.0;
        leads = h.leads ∙ ap (at chain) (let z : suc h.position + suc (length q) ≡ suc (suc h.position) + length q = omega arith in z);
        ends = ended;
        none = λ e. empty_without_length (q ++ to_come) (omega (arith, linked.once _ _ _ (next_one.0.head ∙ ap some (eqb-true (node_after node) last e)) ended));
      }
        where
          ended : At chain (suc h.position + length (q ++ to_come)) last
          ended = ap (at chain) (let z : suc h.position + length (q ++ to_come) ≡ h.position + suc (length (q ++ to_come)) = omega arith in z) ∙ h.ends

  -- one turn, of the call x: it pays what x gives on the plain list q, and the next turn finds the plain list that x leaves
  abbrev Gives : ℕ → List Future → Call ℕ → List (Call ℕ) → List ℕ → Paid → Type 0
  Gives k fs x cs q p =
      (Some p.result ≡ outcome_of (result x q)) × Holds (k + 1) (with_outcome pending k fs (Some p.result)) p.cursor.at p.cursor.supply cs (after x q)

  module _ (k : ℕ) (fs : List Future) (node : ℕ) where
    module _ (link : Link) (none_left : Bool) (cs : List (Call ℕ)) (later : (o : Outcome) → FlaggedFrom (k + 1) pending (with_outcome pending k fs o) cs) where
      batch_gives : (x : Call ℕ) (q : List ℕ) → BatchHolds node link none_left q (enqueued (x ∷ cs))
          → Gives k fs x cs q (pay_batch node link none_left (operation_of x) (read_by links items last node (Batch link none_left)))
      unfolding result after enqueued
      batch_gives (enqueue v) q h = (refl, (later _, enqueue_holds node link none_left v q (enqueued cs) h))
      batch_gives dequeue [] h = rw (nothing_found node link none_left (enqueued cs) h) (refl, (later _, h))
      batch_gives dequeue (x ∷ q) h =
          rw (something_found node link none_left x q (enqueued cs) h) (
            ap (λ (v : ℕ). Some (call_result.Item (record { value = v }))) (next_one node link none_left x q (enqueued cs) h).1,
            (later _, dequeue_holds node link none_left x q (enqueued cs) h),
          )

    dequeues_give : (left : ℕ) (cs : List (Call ℕ)) (x : Call ℕ) (q : List ℕ) → enqueued (x ∷ cs) ≡ [] → DequeuesHold node left q
        → Gives k fs x cs q (pay_dequeues node left (read_by links items last node (Dequeues left)))
    unfolding result after enqueued
    dequeues_give left cs (enqueue v) q none h = absurd (cons-ne-nil v (enqueued cs) none)
    dequeues_give left cs dequeue [] none h = rw (eq-eqb left 0 (sym h.many)) (refl, (none, h))
    dequeues_give left cs dequeue (x ∷ q) none h =
        let on = goes_on h.position node x q h.behind in
        rw (ne_eqb left 0 (λ e. omega (arith, h.many))) (
          ap (λ (v : ℕ). Some (call_result.Item (record { value = v }))) on.1,
          (none, record { position = suc h.position; behind = on.0; many = omega (arith, h.many) }),
        )

    turn_gives : (s : Supply) (x : Call ℕ) (cs : List (Call ℕ)) (q : List ℕ) → Holds k fs node s (x ∷ cs) q
        → Gives k fs x cs q (pay node s (pending_future pending k fs).operation (read_by links items last node s))
    turn_gives (Batch link none_left) x cs q h =
        subst (λ (o : Operation). Gives k fs x cs q (pay_batch node link none_left o (read_by links items last node (Batch link none_left)))) (sym (flagged_now pending k fs x cs h.0))
        (batch_gives link none_left cs (flagged_later pending k fs x cs h.0) x q h.1)
    turn_gives (Dequeues left) x cs q h = dequeues_give left cs x q h.0 h.1

  -- all turns
  turns_give : (cs : List (Call ℕ)) (k : ℕ) (fs : List Future) (c : Cursor) (q : List ℕ) → Holds k fs c.at c.supply cs q
      → outcomes (turns (length cs) links items last pending k fs c) ≡ map outcome_of (results cs q)
  unfolding turns results
  turns_give [] k fs c q h = refl
  turns_give (x ∷ cs) k fs c q h =
      let one = turn_gives k fs c.at c.supply x cs q h in
      ap₂ (λ (o : Outcome) (os : List Outcome). o ∷ os) one.0 (turns_give cs (k + 1) _ _ (after x q) one.1)

  -- the items of the n nodes behind a position
  abbrev items_behind : ℕ → ℕ → List ℕ
  items_behind position n = values (take n (drop (suc position) chain))

  as_many_items : (position n : ℕ) → position + n < length chain → length (items_behind position n) ≡ n
  as_many_items position n enough =
      length-map (take n (drop (suc position) chain)) (value_of items) ∙ length-take-le n (drop (suc position) chain) (omega (arith, length-drop (suc position) chain))

  values_part : (n : ℕ) (l : List ℕ) → values l ≡ values (take n l) ++ values (drop n l)
  values_part n l = ap values (sym (take-append-drop n l)) ∙ map-append (value_of items) (take n l) (drop n l)

  -- a batch with an enqueue: the plain list is what is between the old head, at `position`, and the batch's nodes, behind p
  pub batch_results : (cs : List (Call ℕ)) (fs : List Future) (from first position p : ℕ) → Flagged pending fs cs → At chain position from → position ≤ p
      → At chain (suc p) first → At chain (p + enqueues cs) last → enqueued cs ≡ map (value_of items) (take (enqueues cs) (drop (suc p) chain))
      → outcomes (turns (length cs) links items last pending 0 fs (batch_cursor from first))
      ≡ map outcome_of (results cs (map (value_of items) (take (p - position) (drop (suc position) chain))))
  batch_results cs fs from first position p flagged head before first_at last_at batch = turns_give cs 0 fs (batch_cursor from first) q (flagged, holds)
    where
      q : List ℕ
      q = items_behind position (p - position)

      long : length q ≡ p - position
      long = as_many_items position (p - position) (omega (arith, within chain (suc p) first_at))

      rest : List ℕ
      rest = values (drop (enqueues cs) (drop (suc p) chain))

      batch_and_rest : values (drop (p - position) (drop (suc position) chain)) ≡ enqueued cs ++ rest
      batch_and_rest =
          ap values (drop-drop (p - position) (suc position) chain ∙ ap (λ (n : ℕ). drop n chain) (let z : suc position + (p - position) ≡ suc p = omega arith in z))
          ∙ values_part (enqueues cs) (drop (suc p) chain) ∙ ap (λ (l : List ℕ). l ++ rest) (sym batch)

      holds : BatchHolds from (Some first) false q (enqueued cs)
      holds = record {
        position = position;
        behind = record {
          head = head;
          rest = rest;
          are = values_part (p - position) (drop (suc position) chain) ∙ ap (λ (l : List ℕ). q ++ l) batch_and_rest ∙ sym (append_assoc q (enqueued cs) rest);
        };
        leads = sym first_at ∙ ap (at chain) (let z : suc p ≡ suc position + length q = omega (arith, long) in z);
        ends = ap (at chain) (let z : position + length (q ++ enqueued cs) ≡ p + enqueues cs = omega (arith, long, length-append q (enqueued cs)) in z) ∙ last_at;
        none = λ e. absurd (true≢false (sym e));
      }

  -- a batch of dequeues: the plain list is as many of those behind the head that was read as are taken
  pub dequeues_results : (cs : List (Call ℕ)) (fs : List Future) (from position taken : ℕ) → enqueued cs ≡ [] → At chain position from
      → position + taken < length chain
      → outcomes (turns (length cs) links items last pending 0 fs (dequeues_cursor from taken))
      ≡ map outcome_of (results cs (map (value_of items) (take taken (drop (suc position) chain))))
  dequeues_results cs fs from position taken none head enough =
      turns_give cs 0 fs (dequeues_cursor from taken) (items_behind position taken) (
        none,
        record {
          position = position;
          behind = record { head = head; rest = values (drop taken (drop (suc position) chain)); are = values_part taken (drop (suc position) chain) };
          many = as_many_items position taken enough;
        },
      )
