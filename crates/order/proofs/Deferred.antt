-- Deferred calls: FutureEnqueue hands out a node and links it behind the thread's pending ones, FutureDequeue only counts. Both keep the invariant.
use Rattle.std.specs.Prelude.{Some}
use Prim.Native.Nat.{ℕ, suc, ◌%◌, ◌<◌, ◌≤◌}
use mathlib.Core.Path.{◌≡◌, refl, sym, ap, ◌∙◌, subst}
use mathlib.Core.Bool.{Bool, true, false, cond}
use mathlib.Core.List.{List, [], ◌∷◌, ◌++◌}
use mathlib.Core.Option.{some}
use mathlib.Core.Logic.{⊎_elim, ◌≢◌}
use native.Mathlib.Omega.{arith}
use lib.Dec.{eqb}
use lib.ListN.{length, set, length-set}
use lib.Seq.{get_or-set_same}
use borrow.Author.Tests.{eq-eqb, ne_eqb}
use Rattle.chain.specs.Positions.{at, At}
use Rattle.chain.specs.Chain.{Chain, following}
use Rattle.chain.proofs.Positions.{within, element, there_or_at_the_end, length-one_more}
use Rattle.chain.proofs.Following.{meets_the_rest}
use Rattle.tally.specs.Fifo.{Call, enqueue, dequeue}
use Rattle.tally.specs.Tally as tally
use Rattle.tally.specs.Tally.{tally_of, with}
use Rattle.tally.specs.declared.Tally.{Tally}
use Rattle.tally.proofs.KeptUp.{tally_one_more}
use Rattle.tally.proofs.Counts.{enqueues_are_calls}
use Rattle.cells.specs.Links.{Link}
use Rattle.place.specs.declared.Place.TheVariants.{Idle}
use Rattle.row.specs.declared.Row.{Row}
use Rattle.row.specs.Row.{with_enqueue, with_dequeue, first_with}
use Rattle.answer.specs.declared.Item.{Item}
use Rattle.next.specs.Next.{next_node, next_future}
use Rattle.machine.specs.declared.Machine.{Machine}
use Rattle.machine.specs.State.{row_at}
use Rattle.machine.specs.HandOut.{hand_out_node}
use Rattle.machine.specs.Entries.{linked_behind, defer_enqueue, defer_dequeue}
use Rattle.order.specs.Links.{nodes_from}
use Rattle.order.proofs.Ghost.{Ghost, pending_of, pending_nodes, owns, defers, defer_enqueue_ghost, defer_dequeue_ghost}
use Rattle.order.proofs.Shared.{Shared, shared_of, next, with_links}
use Rattle.order.proofs.HandedOut.{node_number, node_handed_out_lem}
use Rattle.order.proofs.Invariant.{Inv}
use Rattle.order.proofs.Knows.{Private, Pending, Tallied, KnowsAt}
use Rattle.order.proofs.Grows.{Grows, Spares}
use Rattle.order.proofs.HandingOutNodes.{node_handed_out, linked_to, new_node_inv, new_node_grows, new_node_spares, first_pending, next_pending_inv, next_pending_grows, next_pending_spares, next_pending}
use Rattle.order.proofs.Deferring.{deferred_inv, deferred_grows, deferred_spares, deferred_private}
use Rattle.order.proofs.Together.{grows_then_grows, spares_then_spares}
use Rattle.order.proofs.Steps.{Ok, put_back}

-- a row's tally with one more call
more_tallied : (g : Ghost) (t : ℕ) (r r' : Row) (c : Call ℕ) → Tallied g t r → r.count < 32 → t < length g.pending
    → r'.tally ≡ with r.tally c → r'.count ≡ tally.up r.count → Tallied (defers g t (pending_of g t ++ (c ∷ []))) t r'
more_tallied g t r r' c h few lt tallies counts =
    let is : pending_of (defers g t (pending_of g t ++ (c ∷ []))) t ≡ pending_of g t ++ (c ∷ []) = get_or-set_same g.pending t (pending_of g t ++ (c ∷ [])) [] lt in
    let longer = length-one_more (pending_of g t) c in
    let counted : tally.up r.count ≡ length (pending_of (defers g t (pending_of g t ++ (c ∷ []))) t) = omega (arith, ap length is, longer, h.count) in
    record {
      tally = tallies ∙ ap (λ (x : Tally). with x c) h.tally ∙ sym (tally_one_more (pending_of g t) c (omega (arith, h.few))) ∙ sym (ap tally_of is);
      count = counts ∙ counted;
      few = omega (arith, ap length is, longer, h.count);
    }

-- whoever follows the links from the first pending node meets the pending nodes
pub meets_the_pending : (s : Shared) (g : Ghost) (t : ℕ) (r : Row) (h : Pending s g t r) (links : List Link) → Chain (next links) h.nodes → pending_nodes links r ≡ h.nodes
unfolding at following
meets_the_pending s g t r h links chain = by h.nodes chain h.many h.first_is
  where
    by : (l : List ℕ) → Chain (next links) l → length l ≡ r.tally.enqueues → ((n : ℕ) → At l 0 n → n ≡ r.first) → pending_nodes links r ≡ l
    by [] c many first = ap (nodes_from links r.first) (sym many)
    by (x ∷ l) c many first = meets_the_rest c r.tally.enqueues 0 (some r.first) (ap some (first x refl)) (omega (arith, many))

pub nodes_are_pending : (s : Shared) (g : Ghost) (t : ℕ) (r : Row) (h : Pending s g t r) → pending_nodes s.links r ≡ h.nodes
nodes_are_pending s g t r h = meets_the_pending s g t r h s.links h.private.chain

module _ (m : Machine) (g : Ghost) (ok : Ok m g) (i : ℕ) (lt : i < 8) (idle : (row_at m i).place ≡ Idle) where
  abbrev s : Shared
  s = shared_of m

  abbrev r : Row
  r = row_at m i

  pub pending_here : Pending (shared_of m) g i (row_at m i)
  pending_here = subst (KnowsAt (shared_of m) g i (row_at m i)) idle (ok.knows i lt).place

  tallied_here : Tallied g i (row_at m i)
  tallied_here = (ok.knows i lt).tallied

  room_for_calls : i < length g.pending
  room_for_calls = omega (arith, ok.pendings)

  -- FutureDequeue
  pub defer_dequeue_keeps : (row_at m i).count < 32 → Ok (defer_dequeue m i) (defer_dequeue_ghost g i)
  unfolding defer_dequeue
  defer_dequeue_keeps few =
      put_back m g ok i lt (defer_dequeue m i) g' row refl refl refl (length-set g.pending i _)
      (deferred_inv s g i cs ok.inv) (deferred_grows s g i cs) (λ u ne. deferred_spares s g i cs u ne)
      (record {
        tallied = more_tallied g i r row dequeue tallied_here few room_for_calls refl refl;
        place = subst (KnowsAt s g' i row) (sym idle) pending;
      })
    where
      cs : List (Call ℕ)
      cs = pending_of g i ++ (dequeue ∷ [])

      g' : Ghost
      g' = defers g i cs

      row : Row
      row = with_dequeue (row_at m i) (next_future m.used)

      pending : Pending (shared_of m) (defers g i (pending_of g i ++ (dequeue ∷ []))) i row
      pending =
          let h = pending_here in
          record { nodes = h.nodes; private = deferred_private s g i cs h.private; many = h.many; first_is = h.first_is; last_is = h.last_is }

  -- FutureEnqueue: the node is the first pending one, or stands behind the last
  module _ (v : Item) (left : m.used.nodes < m.nodes) (few : (row_at m i).count < 32) where
    small : m.used.nodes < 512
    small = omega (arith, ok.sized)

    number : next_node m.used ≡ m.used.nodes
    number = node_number m.used small

    abbrev g₁ : Ghost
    g₁ = owns g i

    abbrev g₂ : Ghost
    g₂ = defer_enqueue_ghost g i v.value

    abbrev row : Row
    row = with_enqueue (row_at m i) (next_future m.used) (next_node m.used)

    abbrev after : Shared
    after = shared_of (defer_enqueue m i v)

    -- the node is handed out; then it is linked behind the last pending one, where there is one
    abbrev out : Shared
    out = shared_of (hand_out_node m v)

    abbrev linked_if : Bool → Shared
    linked_if b = with_links out (cond b out.links (set out.links ((row_at m i).last % 512) (Some (next_node m.used))))

    shared_is : shared_of (defer_enqueue m i v) ≡ linked_if (eqb (row_at m i).tally.enqueues 0)
    unfolding defer_enqueue linked_behind
    shared_is = refl

    shared_first : (row_at m i).tally.enqueues ≡ 0 → shared_of (defer_enqueue m i v) ≡ node_handed_out (shared_of m)
    shared_first e = shared_is ∙ ap linked_if (eq-eqb _ 0 e) ∙ node_handed_out_lem m v small

    shared_next : (row_at m i).tally.enqueues ≢ 0 → shared_of (defer_enqueue m i v) ≡ linked_to (node_handed_out (shared_of m)) (row_at m i).last m.used.nodes
    shared_next ne =
        shared_is ∙ ap linked_if (ne_eqb _ 0 ne) ∙ ap (linked_to out (row_at m i).last) number ∙ ap (λ (x : Shared). linked_to x (row_at m i).last m.used.nodes) (node_handed_out_lem m v small)

    row_tallied : Tallied g₂ i row
    row_tallied =
        let h = tallied_here in
        more_tallied g₁ i (row_at m i) row (enqueue v.value) (record { tally = h.tally; count = h.count; few = h.few }) few room_for_calls refl refl

    fewer : (row_at m i).tally.enqueues ≤ 32
    fewer = let h = tallied_here in omega (arith, ap (λ (x : Tally). x.enqueues) h.tally, enqueues_are_calls (pending_of g i), h.few)

    -- what it leaves shared, where the nodes l were pending
    record Left (l : List ℕ) : Type 0 where
      inv : Inv after g₁
      grows : Grows (shared_of m) g after g₁
      spares : (u : ℕ) → u ≢ i → Spares (shared_of m) g after g₁ u
      private : Private after g₁ i (l ++ (m.used.nodes ∷ []))

    left_as : (l : List ℕ) (s' : Shared) → after ≡ s' → Inv s' g₁ → Grows (shared_of m) g s' g₁ → ((u : ℕ) → u ≢ i → Spares (shared_of m) g s' g₁ u)
        → Private s' g₁ i (l ++ (m.used.nodes ∷ [])) → Left l
    left_as l s' e inv grows spares private = record {
      inv = subst (λ (x : Shared). Inv x g₁) (sym e) inv;
      grows = subst (λ (x : Shared). Grows (shared_of m) g x g₁) (sym e) grows;
      spares = λ u ne. subst (λ (x : Shared). Spares (shared_of m) g x g₁ u) (sym e) (spares u ne);
      private = subst (λ (x : Shared). Private x g₁ i (l ++ (m.used.nodes ∷ []))) (sym e) private;
    }

    left_by : (l : List ℕ) → Private (shared_of m) g i l → length l ≡ (row_at m i).tally.enqueues → ((k n : ℕ) → suc k ≡ length l → At l k n → n ≡ (row_at m i).last) → Left l
    left_by [] private many last =
        left_as [] (node_handed_out (shared_of m)) (shared_first (sym many)) (new_node_inv (shared_of m) g ok.inv i small) (new_node_grows (shared_of m) g ok.inv i small)
        (λ u ne. new_node_spares (shared_of m) g ok.inv i small u) (first_pending (shared_of m) g ok.inv i small)
    left_by (x ∷ l) private many last =
        let e = element (x ∷ l) (length l) (omega arith) in
        let same : e.0 ≡ (row_at m i).last = last (length l) e.0 refl e.1 in
        let end : At (x ∷ l) (length l) (row_at m i).last = subst (At (x ∷ l) (length l)) same e.1 in
        left_as (x ∷ l) (linked_to (node_handed_out (shared_of m)) (row_at m i).last m.used.nodes) (shared_next (λ q. omega (arith, many)))
        (next_pending_inv (shared_of m) g ok.inv i small (x ∷ l) private (length l) (row_at m i).last end refl)
        (next_pending_grows (shared_of m) g ok.inv i small (x ∷ l) private (length l) (row_at m i).last end refl)
        (next_pending_spares (shared_of m) g ok.inv i small (x ∷ l) private (length l) (row_at m i).last end refl)
        (next_pending (shared_of m) g ok.inv i small (x ∷ l) private (length l) (row_at m i).last end refl)

    left_shared : Left pending_here.nodes
    left_shared = let h = pending_here in left_by h.nodes h.private h.many h.last_is

    -- what others rely on
    abbrev calls : List (Call ℕ)
    calls = pending_of g i ++ (enqueue v.value ∷ [])

    pub defer_enqueue_grows : Grows (shared_of m) g (shared_of (defer_enqueue m i v)) (defer_enqueue_ghost g i v.value)
    defer_enqueue_grows = grows_then_grows left_shared.grows (deferred_grows after g₁ i calls)

    pub defer_enqueue_spares : (u : ℕ) → u ≢ i → Spares (shared_of m) g (shared_of (defer_enqueue m i v)) (defer_enqueue_ghost g i v.value) u
    defer_enqueue_spares u ne = spares_then_spares (left_shared.spares u ne) (deferred_spares after g₁ i calls u ne)

    -- the row after it has the new node behind those that were pending
    still_first : (n : ℕ) → At pending_here.nodes 0 n → n ≡ first_with (row_at m i) (next_node m.used)
    still_first n p =
        let h = pending_here in
        let some : eqb (row_at m i).tally.enqueues 0 ≡ false = ne_eqb (row_at m i).tally.enqueues 0 (λ e. omega (arith, within h.nodes 0 p, h.many, e)) in
        h.first_is n p ∙ sym (ap (λ (b : Bool). cond b (next_node m.used) (row_at m i).first) some)

    now_first : (n : ℕ) → (0 ≡ length pending_here.nodes) × (n ≡ m.used.nodes) → n ≡ first_with (row_at m i) (next_node m.used)
    now_first n w =
        let none : eqb (row_at m i).tally.enqueues 0 ≡ true = eq-eqb _ 0 (sym (w.0 ∙ pending_here.many)) in
        w.1 ∙ sym number ∙ sym (ap (λ (b : Bool). cond b (next_node m.used) (row_at m i).first) none)

    unfoldable pending_then : Pending after g₂ i row
    pending_then =
        let h = pending_here in
        let longer = length-one_more h.nodes m.used.nodes in
        record {
          nodes = h.nodes ++ (m.used.nodes ∷ []);
          private = deferred_private after g₁ i calls left_shared.private;
          many = omega (arith, longer, h.many, fewer);
          first_is = λ n p. ⊎_elim (still_first n) (now_first n) (there_or_at_the_end h.nodes m.used.nodes 0 p);
          last_is = λ k n q p. ⊎_elim (λ w. absurd (let z = within h.nodes k w in omega (arith, longer))) (λ w. w.1 ∙ sym number) (there_or_at_the_end h.nodes m.used.nodes k p);
        }

    pub nodes_then : pending_nodes (defer_enqueue m i v).links (with_enqueue (row_at m i) (next_future m.used) (next_node m.used)) ≡ pending_here.nodes ++ (m.used.nodes ∷ [])
    unfolding pending_then
    nodes_then = nodes_are_pending after g₂ i row pending_then

    longer : length g₂.pending ≡ length g.pending
    longer = length-set g.pending i _

    row_put : (defer_enqueue m i v).rows ≡ set m.rows i row
    unfolding defer_enqueue linked_behind
    row_put = refl

    nodes_same : (defer_enqueue m i v).nodes ≡ m.nodes
    unfolding defer_enqueue linked_behind
    nodes_same = refl

    threads_same : (defer_enqueue m i v).threads ≡ m.threads
    unfolding defer_enqueue linked_behind
    threads_same = refl

    pub defer_enqueue_keeps : Ok (defer_enqueue m i v) (defer_enqueue_ghost g i v.value)
    defer_enqueue_keeps =
        put_back m g ok i lt (defer_enqueue m i v) g₂ row row_put nodes_same threads_same longer (deferred_inv after g₁ i calls left_shared.inv) defer_enqueue_grows defer_enqueue_spares
        (record { tallied = row_tallied; place = subst (KnowsAt after g₂ i row) (sym idle) pending_then })
