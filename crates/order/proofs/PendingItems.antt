-- The nodes that an idle thread has pending hold the items of its pending enqueues, in calling order. A deferred enqueue brings its node and its
-- item; nobody else links behind a pending node, and no item is ever changed. A call ends with nothing pending.
use Prim.Native.Nat.{ℕ, ◌%◌, ◌<◌}
use mathlib.Core.Path.{◌≡◌, refl, sym, ap, ap₂, ◌∙◌, subst}
use mathlib.Core.List.{List, [], ◌∷◌, ◌++◌, map, map-append, append-nil}
use mathlib.Core.Logic.{⊎_elim, ◌≢◌}
use native.Mathlib.Omega.{arith}
use native.Mathlib.Decide.{ℕ_discrete}
use lib.ListN.{length, get_or, set, length-set, length-replicate, get_or-replicate}
use lib.Seq.{get_or-set_same, get_or-set_other}
use Rattle.chain.specs.Positions.{At}
use Rattle.chain.specs.Chain.{following}
use Rattle.chain.proofs.Positions.{map_same}
use Rattle.tally.specs.Fifo.{Call, enqueue, dequeue}
use Rattle.tally.specs.Excess.{enqueued}
use Rattle.tally.proofs.Counts.{enqueued_append}
use Rattle.cells.specs.Links.{Link}
use Rattle.memory.specs.Memory.{perform}
use Rattle.place.specs.declared.Place.{Place}
use Rattle.place.specs.declared.Place.TheVariants as place
use Rattle.place.specs.declared.Place.TheVariants.{Idle}
use Rattle.place.specs.declared.After.{After}
use Rattle.place.specs.declared.After.TheVariants as afterwards
use Rattle.place.specs.declared.EnqueueStep.TheVariants.{E1}
use Rattle.place.specs.declared.DequeueStep.TheVariants.{D1}
use Rattle.place.specs.declared.BatchStep.TheVariants.{B1}
use Rattle.place.specs.declared.DequeuesStep.TheVariants.{Q1}
use Rattle.place.specs.Place.{place_after}
use Rattle.thread.specs.Calls.{access}
use Rattle.row.specs.declared.Row.{Row}
use Rattle.row.specs.Row.{placed, calling, cleared, with_enqueue, with_dequeue, fresh_row, no_row}
use Rattle.answer.specs.declared.Item.{Item}
use Rattle.pairing.specs.declared.Cursor.{Cursor}
use Rattle.next.specs.Next.{next_node, next_future, next_announcement}
use Rattle.machine.specs.declared.Machine.{Machine}
use Rattle.machine.specs.State.{row_at, memory_of, no_item, fresh_machine}
use Rattle.machine.specs.HandOut.{hand_out_node}
use Rattle.machine.specs.Pairing.{pairing, settled}
use Rattle.machine.specs.Steps.{hop, tell, step_of, request_of}
use Rattle.machine.specs.Entries.{linked_behind, defer_enqueue, defer_dequeue}
use Rattle.order.specs.Links.{nodes_from}
use Rattle.order.specs.Events.{Event, EnqueueStarts, DequeueStarts, EnqueueDeferred, DequeueDeferred, BatchSetOff, FutureAsked, StepTaken, does}
use Rattle.order.proofs.RowPut.{put_here, put_elsewhere, rows_moved, rows_cleared}
use Rattle.order.proofs.Events.{Finds}
use Rattle.order.proofs.Ghost.{Ghost, pending_of, pending_nodes, owns, step_ghost, defers, end_ghost, step_of_ghost, ghost_does, fresh_ghost}
use Rattle.order.proofs.Shared.{Shared, shared_of, next}
use Rattle.order.proofs.Knows.{Mine, Pending, Alone}
use Rattle.order.proofs.HandingOutNodes.{new_node_spares}
use Rattle.order.proofs.HandedOut.{node_number, node_handed_out_lem}
use Rattle.order.proofs.NothingLinked.{owned_node_handed_out}
use Rattle.order.proofs.Steps.{Ok, pending_kept, alone_tally}
use Rattle.order.proofs.MachineSteps.{spares₁, knows₁}
use Rattle.order.proofs.Deferred.{meets_the_pending, nodes_are_pending, pending_here, defer_enqueue_spares, nodes_then}
use Rattle.order.proofs.SettingOff.{set_off_either}
use Rattle.order.proofs.Reached.{Holds}
use Rattle.order.proofs.PairingResults.{value_of}
use Rattle.order.proofs.InCall.{stays_in_call, idle_or_busy}

-- the pending nodes of a row hold the items that calls enqueue
abbrev pub HoldItems : Machine → List (Call ℕ) → Row → Type 0
HoldItems m cs r = enqueued cs ≡ map (value_of m.items) (pending_nodes m.links r)

pub record PendingItems (m : Machine) (g : Ghost) : Type 0 where
  -- every node that can be handed out has a place for its item
  pub room : length m.items ≡ 512
  pub each : (t : ℕ) → t < 8 → (row_at m t).place ≡ Idle → HoldItems m (pending_of g t) (row_at m t)

-- nothing is pending
nothing_held : (m : Machine) (cs : List (Call ℕ)) (r : Row) → cs ≡ [] → r.tally.enqueues ≡ 0 → HoldItems m cs r
unfolding enqueued following
nothing_held m cs r none few = ap enqueued none ∙ sym (ap (λ (k : ℕ). map (value_of m.items) (nodes_from m.links r.first k)) few)

-- items of nodes handed out before stay
abbrev pub KeepsItems : Machine → Machine → Type 0
KeepsItems m m' = (n : ℕ) → n < m.used.nodes → value_of m'.items n ≡ value_of m.items n

pub same_items : (m m' : Machine) → KeepsItems m m' → (l : List ℕ) → ((k n : ℕ) → At l k n → n < m.used.nodes) → map (value_of m'.items) l ≡ map (value_of m.items) l
same_items m m' keeps l used = map_same (value_of m.items) (value_of m'.items) l (λ k n p. keeps n (used k n p))

-- a node is handed out with its item
module _ (m : Machine) (v : Item) (left : m.used.nodes < 512) where
  pub keeps_items : KeepsItems m (hand_out_node m v)
  keeps_items n lt = ap (λ (x : Item). x.value) (get_or-set_other m.items (next_node m.used) (n % 512) v no_item (λ e. omega (arith, node_number m.used left)))

  pub new_item : length m.items ≡ 512 → value_of (hand_out_node m v).items (next_node m.used) ≡ v.value
  new_item long =
      ap (λ (k : ℕ). (get_or (hand_out_node m v).items k no_item).value) (let z : next_node m.used % 512 ≡ next_node m.used = omega (arith, node_number m.used left) in z)
      ∙ ap (λ (x : Item). x.value) (get_or-set_same m.items (next_node m.used) v no_item (omega (arith, node_number m.used left, long)))

module _ (m : Machine) (g : Ghost) (ok : Ok m g) (h : PendingItems m g) (i : ℕ) (lt : i < 8) where
  -- what is pending has been handed out
  pending_used : (u : ℕ) → (p : Pending (shared_of m) g u (row_at m u)) → (k n : ℕ) → At p.nodes k n → n < m.used.nodes
  pending_used u p k n q = owned_node_handed_out (shared_of m) g ok.inv u n (p.private.mine k n q)

  -- one row, and the pending calls of its thread, change; the links behind the others' nodes stay
  put_items : (m' : Machine) (g' : Ghost) (row : Row) → m'.rows ≡ set m.rows i row → length m'.items ≡ length m.items → KeepsItems m m'
      → ((u : ℕ) → u ≢ i → pending_of g' u ≡ pending_of g u) → ((u : ℕ) → u ≢ i → (n : ℕ) → Mine g u n → next m'.links n ≡ next m.links n)
      → (row.place ≡ Idle → HoldItems m' (pending_of g' i) row) → PendingItems m' g'
  put_items m' g' row put long keeps pending links mine = record {
    room = long ∙ h.room;
    each = λ t lt'. elim (ℕ_discrete t i) [ yes e ↦ subst (λ (u : ℕ). Here u) (sym e) here | no ne ↦ elsewhere t lt' ne ];
  }
    where
      Here : ℕ → Type 0
      Here t = (row_at m' t).place ≡ Idle → HoldItems m' (pending_of g' t) (row_at m' t)

      here_is : row_at m' i ≡ row
      here_is = put_here m m' i row put ok.rows lt

      elsewhere_is : (t : ℕ) → t ≢ i → row_at m' t ≡ row_at m t
      elsewhere_is = put_elsewhere m m' i row put

      here : Here i
      here = subst (λ (r : Row). r.place ≡ Idle → HoldItems m' (pending_of g' i) r) (sym here_is) mine

      still : (t : ℕ) → t < 8 → t ≢ i → (row_at m t).place ≡ Idle → HoldItems m' (pending_of g t) (row_at m t)
      still t lt' ne idle =
          let p = pending_here m g ok t lt' idle in
          h.each t lt' idle
          ∙ ap (map (value_of m.items)) (nodes_are_pending (shared_of m) g t (row_at m t) p)
          ∙ sym (same_items m m' keeps p.nodes (pending_used t p))
          ∙ sym (ap (map (value_of m'.items)) (meets_the_pending (shared_of m) g t (row_at m t) p m'.links
          (record { links = λ k n q. links t ne n (p.private.mine k n q) ∙ p.private.chain.links k n q; once = p.private.chain.once })))

      elsewhere : (t : ℕ) → t < 8 → t ≢ i → Here t
      elsewhere t lt' ne =
          subst (λ (r : Row). r.place ≡ Idle → HoldItems m' (pending_of g' t) r) (sym (elsewhere_is t ne))
          (subst (λ (cs : List (Call ℕ)). (row_at m t).place ≡ Idle → HoldItems m' cs (row_at m t)) (sym (pending t ne)) (still t lt' ne))

  -- a call begins: its thread is not idle then
  begun : (m' : Machine) (g' : Ghost) (row : Row) → m'.rows ≡ set m.rows i row → row.place ≢ Idle → length m'.items ≡ length m.items → KeepsItems m m'
      → g'.pending ≡ g.pending → ((u n : ℕ) → Mine g u n → next m'.links n ≡ next m.links n) → PendingItems m' g'
  begun m' g' row put busy long keeps pending links =
      put_items m' g' row put long keeps (λ u ne. ap (λ (l : List (List (Call ℕ))). get_or l u []) pending) (λ u ne. links u) (λ idle. absurd (busy idle))

  enqueue_begun : (v : ℕ) → m.used.nodes < m.nodes → PendingItems (does m (EnqueueStarts i v)) (owns g i)
  enqueue_begun v left =
      begun _ (owns g i) (placed (row_at m i) (place.Enqueue (next_node m.used) E1)) refl (λ q. let z : ◌≡◌ {A = ℕ} 0 1 = cc in omega arith)
      (length-set m.items _ _) (keeps_items m (record { value = v }) small) refl
      (λ u n w. ap (λ (x : Shared). next x.links n) (node_handed_out_lem m (record { value = v }) small) ∙ (new_node_spares (shared_of m) g ok.inv i small u).link n w)
    where
      small : m.used.nodes < 512
      small = omega (arith, ok.sized)

  dequeue_begun : PendingItems (does m (DequeueStarts i)) g
  dequeue_begun = begun _ g (placed (row_at m i) (place.Dequeue D1)) refl (λ q. let z : ◌≡◌ {A = ℕ} 0 1 = cc in omega arith) refl (λ n lt. refl) refl (λ u n w. refl)

  batch_begun : (f : ℕ) → PendingItems (does m (BatchSetOff i f)) (ghost_does m g (BatchSetOff i f))
  batch_begun f =
      set_off_either PendingItems m g i f
      (λ e. begun _ _ (calling (row_at m i) (place.Dequeues Q1) f) refl (λ q. let z : ◌≡◌ {A = ℕ} 0 1 = cc in omega arith) refl (λ n lt. refl) refl (λ u n w. refl))
      (λ ne. begun _ _ (calling (row_at m i) (place.Batch (next_announcement m.used) B1) f) refl (λ q. let z : ◌≡◌ {A = ℕ} 0 1 = cc in omega arith) refl (λ n lt. refl) refl (λ u n w. refl))

  -- a call is deferred: an enqueue brings its item, in a node behind those that were pending
  module _ (idle : (row_at m i).place ≡ Idle) where
    calls_then : (c : Call ℕ) → get_or (set g.pending i (pending_of g i ++ (c ∷ []))) i [] ≡ pending_of g i ++ (c ∷ [])
    calls_then c = get_or-set_same g.pending i _ [] (omega (arith, ok.pendings))

    items_then : (c : Call ℕ) → enqueued (get_or (set g.pending i (pending_of g i ++ (c ∷ []))) i []) ≡ enqueued (pending_of g i) ++ enqueued (c ∷ [])
    items_then c = ap enqueued (calls_then c) ∙ enqueued_append (pending_of g i) (c ∷ [])

    dequeue_pending : PendingItems (does m (DequeueDeferred i)) (ghost_does m g (DequeueDeferred i))
    unfolding defer_dequeue enqueued
    dequeue_pending =
        put_items _ _ (with_dequeue (row_at m i) (next_future m.used)) refl refl (λ n lt. refl) (λ u ne. get_or-set_other g.pending i u _ [] ne) (λ u ne n w. refl)
        (λ q. items_then dequeue ∙ append-nil (enqueued (pending_of g i)) ∙ h.each i lt idle)

    module _ (v : ℕ) (left : m.used.nodes < m.nodes) (few : (row_at m i).count < 32) where
      abbrev m' : Machine
      m' = defer_enqueue m i (record { value = v })

      abbrev row : Row
      row = with_enqueue (row_at m i) (next_future m.used) (next_node m.used)

      small : m.used.nodes < 512
      small = omega (arith, ok.sized)

      keeps : KeepsItems m m'
      unfolding defer_enqueue linked_behind
      keeps = keeps_items m (record { value = v }) small

      new : value_of m'.items m.used.nodes ≡ v
      unfolding defer_enqueue linked_behind
      new = ap (value_of m'.items) (sym (node_number m.used small)) ∙ new_item m (record { value = v }) small h.room

      holds_one_more : HoldItems m' (get_or (set g.pending i (pending_of g i ++ (enqueue v ∷ []))) i []) row
      unfolding enqueued
      holds_one_more =
          let p = pending_here m g ok i lt idle in
          items_then (enqueue v)
          ∙ ap (λ (l : List ℕ). l ++ (v ∷ [])) (h.each i lt idle ∙ ap (map (value_of m.items)) (nodes_are_pending (shared_of m) g i (row_at m i) p) ∙ sym (same_items m m' keeps p.nodes (pending_used i p)))
          ∙ ap (λ (x : ℕ). map (value_of m'.items) p.nodes ++ (x ∷ [])) (sym new)
          ∙ sym (map-append (value_of m'.items) p.nodes (m.used.nodes ∷ []))
          ∙ ap (map (value_of m'.items)) (sym (nodes_then m g ok i lt idle (record { value = v }) left few))

      enqueue_pending : PendingItems m' (ghost_does m g (EnqueueDeferred i v))
      unfolding defer_enqueue linked_behind
      enqueue_pending =
          put_items m' _ row refl (length-set m.items _ _) keeps (λ u ne. get_or-set_other g.pending i u _ [] ne)
          (λ u ne. (defer_enqueue_spares m g ok i lt idle (record { value = v }) left few u ne).link) (λ q. holds_one_more)

  -- a step: its call goes on, or it leaves nothing pending
  abbrev m₁ : Machine
  m₁ = (hop m i).machine

  abbrev g₁ : Ghost
  g₁ = step_ghost (memory_of m) g (row_at m i).place

  pending₁ : (u : ℕ) → pending_of g₁ u ≡ pending_of g u
  pending₁ u = ap (λ (l : List (List (Call ℕ))). get_or l u []) (pending_kept (memory_of m) g (row_at m i).place)

  items₁ : m₁.items ≡ m.items
  unfolding hop
  items₁ = refl

  keeps₁ : KeepsItems m m₁
  keeps₁ n lt = ap (λ (l : List Item). value_of l n) items₁

  -- an idle thread does nothing
  idle_links : (row_at m i).place ≡ Idle → m₁.links ≡ m.links
  unfolding hop perform
  idle_links e = ap (λ (p : Place). (perform (memory_of m) (access p (request_of m (row_at m i)))).memory.links) e

  hopped : (a : After) → (hop m i).after ≡ a → (place_after a ≡ Idle → HoldItems m₁ (pending_of g₁ i) (row_at m i)) → PendingItems m₁ g₁
  hopped a e mine =
      put_items m₁ g₁ (placed (row_at m i) (place_after a)) (rows_moved m i a e) (ap length items₁) keeps₁ (λ u ne. pending₁ u) (λ u ne. (spares₁ m g ok i lt u ne).link) mine

  goes_on : (p : Place) → (hop m i).after ≡ afterwards.On p → PendingItems m₁ g₁
  goes_on p e = hopped (afterwards.On p) e (λ q. ⊎_elim {C = HoldItems m₁ (pending_of g₁ i) (row_at m i)} was_idle (λ busy. absurd (stays_in_call m i p e busy q)) (idle_or_busy (row_at m i).place))
    where
      was_idle : (row_at m i).place ≡ Idle → HoldItems m₁ (pending_of g₁ i) (row_at m i)
      was_idle idle =
          ap enqueued (pending₁ i) ∙ h.each i lt idle
          ∙ ap₂ (λ (f : List Item) (l : List Link). map (value_of f) (pending_nodes l (row_at m i))) (sym items₁) (sym (idle_links idle))

  single_ends : (a : After) → (hop m i).after ≡ a → Alone g₁ i → PendingItems m₁ g₁
  single_ends a e alone = hopped a e (λ q. nothing_held m₁ (pending_of g₁ i) (row_at m i) alone (alone_tally g i (row_at m i) (ok.knows i lt).tallied (sym (pending₁ i) ∙ alone)))

  batch_ends : (c : Cursor) → PendingItems (settled m₁ i 1 c).machine (defers g₁ i [])
  unfolding settled pairing
  batch_ends c =
      put_items _ _ (cleared (row_at m₁ i)) (rows_cleared m i 1 c)
      (ap length items₁) keeps₁ (λ u ne. get_or-set_other g₁.pending i u [] [] ne ∙ pending₁ u) (λ u ne. (spares₁ m g ok i lt u ne).link)
      (λ q. nothing_held (settled m₁ i 1 c).machine _ (cleared (row_at m₁ i)) (get_or-set_same g₁.pending i [] [] room) refl)
    where
      room : i < length g₁.pending
      room = omega (arith, ap length (pending_kept (memory_of m) g (row_at m i).place), ok.pendings)

  step_taken_lem : PendingItems (step_of m i).machine (step_of_ghost m g i)
  step_taken_lem = by (hop m i).after refl
    where
      by : (a : After) → (hop m i).after ≡ a → PendingItems (tell m₁ i 1 a).machine (end_ghost g₁ i a)
      by (afterwards.On p) e = goes_on p e
      by afterwards.Ok e = single_ends afterwards.Ok e (knows₁ m g ok i lt afterwards.Ok e)
      by afterwards.Empty e = single_ends afterwards.Empty e (knows₁ m g ok i lt afterwards.Empty e)
      by (afterwards.Item x) e = single_ends (afterwards.Item x) e (knows₁ m g ok i lt (afterwards.Item x) e).0
      by (afterwards.Pair x) e = batch_ends _
      by (afterwards.PairDequeues x n) e = batch_ends _

pub event_pending_items : (m : Machine) (g : Ghost) → Holds m g → PendingItems m g → (x : Event) → Finds m x → PendingItems (does m x) (ghost_does m g x)
event_pending_items m g holds h (EnqueueStarts i v) finds = enqueue_begun m g holds.ok h i finds.0.small v finds.2
event_pending_items m g holds h (DequeueStarts i) finds = dequeue_begun m g holds.ok h i finds.0.small
event_pending_items m g holds h (EnqueueDeferred i v) finds = enqueue_pending m g holds.ok h i finds.0.free.small finds.0.free.idle v finds.1 finds.0.place
event_pending_items m g holds h (DequeueDeferred i) finds = dequeue_pending m g holds.ok h i finds.free.small finds.free.idle
event_pending_items m g holds h (BatchSetOff i f) finds = batch_begun m g holds.ok h i finds.free.small f
event_pending_items m g holds h (FutureAsked i f) finds = h
event_pending_items m g holds h (StepTaken i) finds = step_taken_lem m g holds.ok h i finds

-- a fresh machine has nothing pending
pub fresh_pending_items : (threads nodes : ℕ) → PendingItems (fresh_machine threads nodes) fresh_ghost
fresh_pending_items threads nodes = record {
  room = length-replicate 512 no_item;
  each = λ t lt idle. nothing_held (fresh_machine threads nodes) (pending_of fresh_ghost t) (row_at (fresh_machine threads nodes) t)
      (get_or-replicate {A = List (Call ℕ)} 8 t [] [] lt) (ap (λ (r : Row). r.tally.enqueues) (get_or-replicate 8 t fresh_row no_row lt));
}
