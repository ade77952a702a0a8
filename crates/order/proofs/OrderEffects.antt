-- A step by which a call takes effect: behind all others, or, for a batch of dequeues, before calls that took effect since its last read and only
-- enqueue. Shown for both at once; then for a call at the end, whose effect on items and head is that of running it on the contents.
use Prim.Native.Nat.{ℕ, suc, ◌+◌, ◌-◌, ◌<◌, ◌≤◌}
use mathlib.Core.Path.{◌≡◌, refl, sym, ap, ap₂, ◌∙◌, subst}
use mathlib.Core.List.{List, [], ◌∷◌, ◌++◌, map, append-nil, map-append}
use mathlib.Core.Logic.{◌⊎◌, inl, inr, ⊎_elim, ◌≢◌}
use native.Mathlib.Omega.{arith}
use lib.ListN.{length, drop, length-drop, length-map}
use lib.Seq.{drop-append-le}
use Rattle.chain.specs.Positions.{at, At, In}
use Rattle.chain.proofs.Positions.{none_is_not_some, within, at_left, at_right, the_only_one}
use Rattle.tally.specs.Fifo.{Call, results, successful}
use Rattle.tally.specs.Excess.{enqueued, dequeues}
use Rattle.tally.proofs.Counts.{successful_is, excess_le_dequeues}
use Rattle.place.specs.declared.Place.TheVariants.{Idle}
use Rattle.place.specs.declared.After.{After}
use Rattle.row.specs.declared.Row.{Row}
use Rattle.answer.specs.declared.Item.{Item}
use Rattle.machine.specs.declared.Machine.{Machine}
use Rattle.machine.specs.State.{row_at}
use Rattle.order.specs.Order.{Called, Effect, Story, of, now_last}
use Rattle.order.specs.PlainQueue.{Ran, ran, leaves}
use Rattle.order.proofs.Ghost.{Ghost}
use Rattle.order.proofs.Shared.{shared_of}
use Rattle.order.proofs.Invariant.{Inv, Linked, NotLinked}
use Rattle.order.proofs.Grows.{Grows}
use Rattle.order.proofs.AbstractHead.{head_position}
use Rattle.order.proofs.PairingResults.{value_of}
use Rattle.order.proofs.Ran.{enqueued_in, taken_in, enqueued_one_more, taken_one_more, ran_last, row_on, OnlyEnqueues, put_in_stays}
use Rattle.order.proofs.Orderly.{items_of, NotIn, Rows, RunOn, Orderly, Onward, queue_is, Waits}
use Rattle.order.proofs.Placed.{there_or_new, rows_with, not_in_with}
use Rattle.order.proofs.OrderKept.{Leaves, kept}
use Rattle.order.proofs.Futured.{InCall, TakesEffect}
use Rattle.order.proofs.OrderFine.{step_story, KnowsOfAfter, OrderFine, of_other, Here}

-- where there is an item, a list of calls of which no dequeue succeeds has none
none_taken : (cs : List (Call ℕ)) (q : List ℕ) → successful (results cs q) ≡ 0 → 0 < length q → dequeues cs ≡ 0
none_taken cs q e some = omega (arith, successful_is cs q, excess_le_dequeues cs)

-- call c takes effect as m and g become m' and g'
pub record Effects (m : Machine) (g : Ghost) (s : Story) (m' : Machine) (g' : Ghost) (c : Called) : Type 0 where
  pub inv : Inv (shared_of m) g
  pub orderly : Orderly m g s
  pub grows : Grows (shared_of m) g (shared_of m') g'
  pub items : m'.items ≡ m.items
  pub batches : g'.batches ≡ g.batches
  pub fresh : NotIn s.order c

-- its place: behind `old`, before `new`
pub record Between (s : Story) (c : Called) (place : ℕ) (old new : List Effect) : Type 0 where
  pub order : s.order ≡ old ++ new
  pub only : OnlyEnqueues new
  pub began : c.began ≤ place
  pub past : place ≤ s.clock
  pub before : (j : ℕ) (y : Effect) → At old j y → y.place < place
  pub since : (j : ℕ) (y : Effect) → At new j y → place < y.place

-- behind all others: nodes are linked with it, and the head moves by as many as it takes
pub record AtTheEnd (m : Machine) (g : Ghost) (s : Story) (m' : Machine) (g' : Ghost) (c : Called) (nodes : List ℕ) : Type 0 where
  pub effects : Effects m g s m' g' c
  pub chain : g'.chain ≡ g.chain ++ nodes
  pub enqueues : map (value_of m.items) nodes ≡ enqueued c.calls
  pub head : head_position m' g' ≡ head_position m g + successful (results c.calls (leaves s.order []))
  pub began : c.began ≤ s.clock

-- a call that is none of thread u's that may still take effect: it is another thread's, or an announcement's
abbrev pub NotOf : Story → Called → ℕ → Type 0
NotOf s c u = (d : Called) → d.thread ≡ u → ((a : ℕ) (e : Called) → At s.announced a e → e.thread ≡ u → e.began ≡ d.began → ⊥) → c.thread ≡ d.thread → c.began ≡ d.began → ⊥

pub not_of_another : (s : Story) (c : Called) (i : ℕ) → c.thread ≡ i → (u : ℕ) → u ≢ i → NotOf s c u
not_of_another s c i is u ne d e apart t b = ne (sym e ∙ sym t ∙ is)

pub not_of_any : (s : Story) (c : Called) (a : ℕ) → At s.announced a c → (u : ℕ) → NotOf s c u
not_of_any s c a p u d e apart t b = apart a c p (t ∙ e) b

-- of batches linked now, and of those not linked yet
abbrev pub LinkedThen : Ghost → Story → Machine → Ghost → Story → Type 0
LinkedThen g s m' g' s' = (a p : ℕ) (d : Called) → Linked g' a p → At s.announced a d → Linked g a p ⊎ RunOn m' g' s' a p d

abbrev pub ApartFrom : Story → Ghost → Called → Type 0
ApartFrom s g' c = (a : ℕ) (d : Called) → NotLinked g' a → At s.announced a d → c.thread ≡ d.thread → c.began ≡ d.began → ⊥

module _ {m : Machine} {g : Ghost} {s : Story} {m' : Machine} {g' : Ghost} {c : Called} (b : Effects m g s m' g' c) (i read : ℕ) where
  module _ {place : ℕ} {old new : List Effect} (w : Between s c place old new) where
    abbrev x : Effect
    x = record { call = c; place = place }

    abbrev order' : List Effect
    order' = old ++ (x ∷ new)

    abbrev s' : Story
    s' = step_story s i order' read

    before_there : (j : ℕ) (y : Effect) → At (old ++ new) j y → j < length old → y.place < place
    before_there j y p q = w.before j y (sym (at_left old new j q) ∙ p)

    since_there : (j : ℕ) (y : Effect) → At (old ++ new) j y → length old ≤ j → place < y.place
    since_there j y p q =
        w.since (j - length old) y (sym (at_right old new (j - length old)) ∙ ap (at (old ++ new)) (let z : length old + (j - length old) ≡ j = omega arith in z) ∙ p)

    rows_now : Rows order' (suc s.clock)
    rows_now =
        rows_with old new x s.clock (subst (λ (l : List Effect). Rows l s.clock) w.order b.orderly.rows) w.began
        (subst (λ (l : List Effect). NotIn l c) w.order b.fresh) before_there since_there (suc s.clock) (omega arith) (omega (arith, w.past))

    ran_stays : (r : Ran) → In (ran s.order []) r → In (ran order' []) r
    ran_stays r p = put_in_stays old new x w.only r (subst (λ (l : List Effect). In (ran l []) r) w.order p)

    pub takes_effect : InCall m s c → (c.futures ≡ []) ⊎ (c.futures ≡ (of s c.thread).futures) → TakesEffect m s order' x
    takes_effect in_call futures = record {
      ran = ran_stays;
      others = λ j y p. ⊎_elim {C = ((k : ℕ) × At s.order k y) ⊎ (y ≡ x)} (λ a. inl (a.position, subst (λ (l : List Effect). At l a.position y) (sym w.order) a.is)) (λ a. inr a.1) (there_or_new old new x j y p);
      once = rows_now.once;
      in_call = in_call;
      futures = futures;
      not_in = b.fresh;
    }

    effect_leaves : (more : List ℕ) → items_of m' g' ≡ items_of m g ++ more → Leaves m g s m' g' s'
    effect_leaves more grown = record {
      grows = b.grows;
      more = more;
      items = grown;
      batch_items = λ a d p. ap (λ (f : List Item). map (value_of f) d.nodes) b.items;
      clock = omega arith;
      ran = ran_stays;
    }

    pub effect_orderly : (more : List ℕ) → items_of m' g' ≡ items_of m g ++ more → enqueued_in order' ≡ drop 1 (items_of m' g') → taken_in order' [] ≡ head_position m' g'
        → LinkedThen g s m' g' s' → ApartFrom s g' c → Orderly m' g' s'
    effect_orderly more grown chain head linked apart =
        kept m g s b.inv b.orderly m' g' s' (effect_leaves more grown) b.batches refl chain head rows_now linked
        (λ a d n p. not_in_with old new x d (subst (λ (l : List Effect). NotIn l d) w.order (b.orderly.unlinked a d (λ j q. n j (b.grows.by j _ q)) p)) (apart a d n p))

    -- what the others rely on
    pub effect_onward : head_position m g ≤ head_position m' g'
        → (head_position m' g' ≡ head_position m g → suc (head_position m g) < length g.chain → (new ≡ []) × (dequeues c.calls ≡ 0) × (s.clock ≤ place))
        → (u : ℕ) → of s' u ≡ of s u → NotOf s c u → Onward m g s m' g' s' u
    effect_onward front quiet u remembered not_of = record {
      remembered = remembered;
      clock = omega arith;
      ran = ran_stays;
      front = front;
      values = λ n q. ap (λ (f : List Item). value_of f n) b.items;
      announced = λ a d p. p;
      announced_own = λ a d p e. p;
      not_in = λ d e apart none. not_in_with old new x d (subst (λ (l : List Effect). NotIn l d) w.order none) (not_of d e apart);
      only = λ e some. let q = quiet e some in (
        x ∷ [],
        ap (λ (l : List Effect). old ++ (x ∷ l)) q.0 ∙ ap (λ (l : List Effect). l ++ (x ∷ [])) (sym (w.order ∙ ap (λ (l : List Effect). old ++ l) q.0 ∙ append-nil old)),
        (λ j y p. subst (λ (z : Effect). dequeues z.call.calls ≡ 0) (sym (the_only_one x y j p)) q.1),
        λ j y p. subst (λ (z : Effect). s.clock ≤ z.place) (sym (the_only_one x y j p)) q.2,
      );
    }

module _ {m : Machine} {g : Ghost} {s : Story} {m' : Machine} {g' : Ghost} {c : Called} {nodes : List ℕ} (e : AtTheEnd m g s m' g' c nodes) where
  abbrev now : Effect
  now = record { call = c; place = s.clock }

  abbrev order'' : List Effect
  order'' = s.order ++ (now ∷ [])

  pub grown : items_of m' g' ≡ items_of m g ++ enqueued c.calls
  grown =
      ap₂ (λ (f : List Item) (l : List ℕ). map (value_of f) l) e.effects.items e.chain
      ∙ map-append (value_of m.items) g.chain nodes ∙ ap (λ (l : List ℕ). items_of m g ++ l) e.enqueues

  some_node : 1 ≤ length (items_of m g)
  some_node = omega (arith, within g.chain 0 e.effects.inv.chain.first, length-map g.chain (value_of m.items))

  items_now : enqueued_in order'' ≡ drop 1 (items_of m' g')
  items_now =
      enqueued_one_more s.order now ∙ ap (λ (l : List ℕ). l ++ enqueued c.calls) e.effects.orderly.chain
      ∙ sym (drop-append-le 1 (items_of m g) (enqueued c.calls) some_node) ∙ ap (drop 1) (sym grown)

  head_now : taken_in order'' [] ≡ head_position m' g'
  head_now = taken_one_more s.order now ∙ ap (λ (k : ℕ). k + successful (results c.calls (leaves s.order []))) e.effects.orderly.head ∙ sym e.head

  -- it is run on the contents
  pub last_ran : In (ran order'' []) (row_on now (leaves s.order []))
  last_ran = ran_last s.order now

  only_enqueues : head_position m' g' ≡ head_position m g → suc (head_position m g) < length g.chain → dequeues c.calls ≡ 0
  only_enqueues same some =
      none_taken c.calls (leaves s.order []) (omega (arith, e.head))
      (omega (arith, ap length (queue_is m g s e.effects.orderly), length-drop (suc (head_position m g)) (items_of m g), length-map g.chain (value_of m.items)))

  last : Between s c s.clock s.order []
  unfolding at
  last = record {
    order = sym (append-nil s.order);
    only = λ j y p. absurd (none_is_not_some refl p);
    began = e.began;
    past = omega arith;
    before = e.effects.orderly.rows.past;
    since = λ j y p. absurd (none_is_not_some refl p);
  }

  module _ (i read : ℕ) where
    pub now_orderly : LinkedThen g s m' g' (step_story s i order'' read) → ApartFrom s g' c → Orderly m' g' (step_story s i order'' read)
    now_orderly = effect_orderly e.effects i read last (enqueued c.calls) grown items_now head_now

    pub now_onward : (u : ℕ) → of (step_story s i order'' read) u ≡ of s u → NotOf s c u → Onward m g s m' g' (step_story s i order'' read) u
    now_onward = effect_onward e.effects i read last (omega (arith, e.head)) (λ same some. (refl, only_enqueues same some, omega arith))

    pub now_takes_effect : InCall m s c → (c.futures ≡ []) ⊎ (c.futures ≡ (of s c.thread).futures) → TakesEffect m s order'' now
    now_takes_effect = takes_effect e.effects i read last

-- the thread's own call takes effect: it has waited, and belongs to no announcement
module _ (m : Machine) (g : Ghost) (s : Story) (i : ℕ) (r : Row) (here : Here m g s i) (waits : Waits s i) (futures : ((of s i).called.futures ≡ []) ⊎ ((of s i).called.futures ≡ (of s i).futures)) where
  abbrev own : Called
  own = (of s i).called

  pub own_call : InCall m s (of s i).called
  own_call = record {
    thread = omega (arith, here.small, waits.thread);
    is = ap (λ (t : ℕ). (of s t).called) (sym waits.thread);
    busy = subst (λ (t : ℕ). (row_at m t).place ≢ Idle) (sym waits.thread) here.busy;
  }

  pub own_futures : ((of s i).called.futures ≡ []) ⊎ ((of s i).called.futures ≡ (of s (of s i).called.thread).futures)
  own_futures =
      ⊎_elim {C = ((of s i).called.futures ≡ []) ⊎ ((of s i).called.futures ≡ (of s (of s i).called.thread).futures)} inl
      (λ e. inr (e ∙ ap (λ (t : ℕ). (of s t).futures) (sym waits.thread))) futures

  pub own_apart : (g' : Ghost) → ApartFrom s g' (of s i).called
  own_apart g' a d n q t e = waits.not_announced a d q (sym t ∙ waits.thread) (sym e)

  pub takes_effect_now : {m' : Machine} {g' : Ghost} {nodes : List ℕ} (e : AtTheEnd m g s m' g' (of s i).called nodes) (read : ℕ) → ((a p : ℕ) → Linked g' a p → Linked g a p) → (a : After)
      → KnowsOfAfter m' g' s (step_story s i (now_last s i) read) i r a → OrderFine m g s i r m' g' (step_story s i (now_last s i) read) a
  takes_effect_now {m'} {g'} e read linked a k = record {
    orderly = now_orderly e i read (λ b p d w q. inl (linked b p w)) (own_apart g');
    onward = λ u ne. now_onward e i read u (of_other s i (now_last s i) read u ne) (not_of_another s own i waits.thread u ne);
    effect = inr (_, now_takes_effect e i read own_call own_futures);
    knows = k;
  }
