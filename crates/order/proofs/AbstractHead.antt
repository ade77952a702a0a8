-- The abstract head is a node of the chain, and its position is told by what has been linked: the head's count; with an announcement in the head,
-- the old head's count until the batch is linked, from then on as many nodes further as dequeues of the batch succeed. The machine decides
-- whether the batch is linked by its old tail, or, while that is unset, by the link of the tail: the tail has not passed the batch then, and
-- a batch is linked no further on than at the tail, so if it is linked, it is linked behind the tail. No walk to the new head runs off the end,
-- and the contents are the items of the chain behind it, up to its last node.
use Rattle.std.specs.Prelude.{None, Some}
use Prim.Native.Nat.{ℕ, zero, suc, ◌+◌, ◌-◌, ◌<◌}
use mathlib.Core.Path.{◌≡◌, refl, sym, ap, ◌∙◌}
use mathlib.Core.Bool.{Bool, true, false, cond, false≢true}
use mathlib.Core.List.{List, map}
use mathlib.Core.Option.{some}
use mathlib.Core.Logic.{◌⊎◌, inl, inr}
use native.Mathlib.Omega.{arith}
use lib.ListN.{length, get_or, drop, length-drop}
use borrow.Author.Tests.{eqb-true, eq-eqb}
use Rattle.chain.specs.Positions.{at, At, In}
use Rattle.chain.proofs.Positions.{none_is_not_some, some_injective, within, element, at_is_get_or}
use Rattle.chain.proofs.Following.{last_has_none}
use Rattle.cells.specs.declared.Tail.{Tail}
use Rattle.cells.specs.declared.Front.{Front}
use Rattle.cells.specs.declared.Head.{Head}
use Rattle.cells.specs.declared.Head.TheVariants.{Plain, Announced}
use Rattle.cells.specs.Links.{Link, OldTail}
use Rattle.cells.specs.declared.Request.{Request}
use Rattle.cells.specs.declared.Announcement.{Announcement}
use Rattle.memory.specs.Memory.{link_at, announcement_at}
use Rattle.place.specs.declared.RunStep.{RunStep}
use Rattle.place.specs.declared.RunStep.TheVariants.{A1, A2, A3, A4, A5, A6, A7, A8}
use Rattle.running.specs.Running.{walk_to}
use Rattle.row.specs.Row.{no_row}
use Rattle.machine.specs.declared.Machine.{Machine}
use Rattle.machine.specs.State.{item_at}
use Rattle.contents.specs.Contents.{reached, head_to_be, leads_to, old_tail_head, head_node, abstract_head, chain_after, contents, front_of}
use Rattle.order.proofs.Ghost.{Ghost}
use Rattle.order.specs.Promises.{request_in, EveryLinkLeadsOn}
use Rattle.order.proofs.Shared.{shared_of, no_link}
use Rattle.order.proofs.Invariant.{TailAt, FrontAt, Linked, NotLinked, InvEnds, Inv}
use Rattle.order.proofs.Ends.{chain_fits}
use Rattle.order.proofs.Knows.{goal_from, goal}
use Rattle.order.proofs.TailMoves.{linked_le}
use Rattle.order.proofs.EnqueueSteps.{found_behind}
use Rattle.order.proofs.RunReads.{linked_or_not, found_first, ArrivesAt, goal_in_chain, arrives_at_the_goal}
use Rattle.order.proofs.ContentsWalk.{link_leads_on, walks_along, no_link_is_missing, meets_those_behind, at_drop}

abbrev pub LinkedOrNot : Ghost → ℕ → Type 0
LinkedOrNot g a = ((j : ℕ) × At g.by j (some a)) ⊎ NotLinked g a

-- the position of the abstract head, by what has been linked
abbrev pub position_if : Request → (g : Ghost) (a : ℕ) → LinkedOrNot g a → ℕ
position_if k g a (inl w) = goal_from k (get_or g.ends (w.0 - 1) 0)
position_if k g a (inr w) = k.old_head.count.0

abbrev pub position_of : List Announcement → Ghost → Head → ℕ
position_of anns g (Plain f) = f.count.0
position_of anns g (Announced a) = position_if (announcement_at anns a).request g a (linked_or_not g.by a)

abbrev pub head_position : Machine → Ghost → ℕ
head_position m g = position_of m.announcements g m.ends.head

-- the machine's test whether the batch of announcement a is linked, while its old tail is unset
abbrev pub tail_leads_to_batch : Machine → ℕ → Bool
tail_leads_to_batch m a = leads_to (link_at m.links m.ends.tail.node) (request_in m a).first

-- a batch that is linked is linked behind some position
pub linked_somewhere : (g : Ghost) → InvEnds g → (a j : ℕ) → At g.by j (some a) → (p : ℕ) × Linked g a p
linked_somewhere g ends a zero h = absurd (none_is_not_some {x = a} refl (some_injective (sym ends.by_nobody ∙ h)))
linked_somewhere g ends a (suc j) h =
    let p = element g.ends j (omega (arith, within g.by (suc j) h, ends.same_length)) in
    (p.0, record { step = j; is = h; from = p.1 })

module _ (g : Ghost) (ends : InvEnds g) (k : Request) (a : ℕ) where
  if_linked_lem : (p : ℕ) → Linked g a p → (w : LinkedOrNot g a) → position_if k g a w ≡ goal_from k p
  if_linked_lem p l (inl w) =
      let same : w.0 - 1 ≡ l.step = omega (arith, ends.linked_once _ _ _ w.1 l.is) in
      ap (goal_from k) (ap (λ (j : ℕ). get_or g.ends j 0) same ∙ at_is_get_or g.ends l.step p 0 l.from)
  if_linked_lem p l (inr w) = absurd (w (suc l.step) l.is)

  if_not : NotLinked g a → (w : LinkedOrNot g a) → position_if k g a w ≡ k.old_head.count.0
  if_not n (inl w) = absurd (n w.0 w.1)
  if_not n (inr w) = refl

module _ (m : Machine) (g : Ghost) (i : Inv (shared_of m) g) where
  -- a plain head stands at its count; with announcement a in it, the position is the old head's until the batch is linked, from then on a7's goal
  pub position_of_plain : (f : Front) → m.ends.head ≡ Plain f → head_position m g ≡ f.count.0
  position_of_plain f e = ap (position_of m.announcements g) e

  pub position_until_linked : (a : ℕ) → m.ends.head ≡ Announced a → NotLinked g a → head_position m g ≡ (request_in m a).old_head.count.0
  position_until_linked a e n = ap (position_of m.announcements g) e ∙ if_not g i.ends (request_in m a) a n (linked_or_not g.by a)

  pub position_once_linked : (a p : ℕ) → m.ends.head ≡ Announced a → Linked g a p → head_position m g ≡ goal_from (request_in m a) p
  position_once_linked a p e l = ap (position_of m.announcements g) e ∙ if_linked_lem g i.ends (request_in m a) a p l (linked_or_not g.by a)

  -- the head, or the old head while an announcement is in it, is a node of the chain
  pub head_or_old_head_at : FrontAt g (front_of m.ends.head m.announcements)
  head_or_old_head_at = by_head m.ends.head refl
    where
      by_head : (h : Head) → m.ends.head ≡ h → FrontAt g (front_of h m.announcements)
      by_head (Plain f) e = i.head.head_at f e
      by_head (Announced a) e = i.head.old_head_at a (i.head.there_installed a e)

  module _ (a : ℕ) (there : In g.installed a) where
    -- so the head to be is the node at the goal, and no link is missing on the way
    module _ (o : Tail) (l : Linked g a o.count.0) (is : TailAt g o) where
      pub head_to_be_at : At g.chain (goal (request_in m a) o) (head_to_be m.links (request_in m a) o)
      head_to_be_at = by_way (walk_to (request_in m a) o) (arrives_at_the_goal (shared_of m) g i 0 no_row a there o l is)
        where
          by_way : (w : RunStep) → ArrivesAt g (request_in m a) o w → At g.chain (goal (request_in m a) o) (reached m.links w)
          by_way (A6 s x left) h =
              ap (at g.chain) (sym h.3) ∙ walks_along m.links i.chain.chain left h.0 x h.1 (omega (arith, h.3, goal_in_chain (shared_of m) g i 0 no_row a there o.count.0 l))
          by_way (A7 s x) h = h.0
          by_way A1 h = absurd h
          by_way (A2 t) h = absurd h
          by_way (A3 t) h = absurd h
          by_way (A4 t) h = absurd h
          by_way (A5 t) h = absurd h
          by_way (A8 t x) h = absurd h

      pub walk_stays_in_the_chain : EveryLinkLeadsOn m.links (walk_to (request_in m a) o)
      walk_stays_in_the_chain = by_way (walk_to (request_in m a) o) (arrives_at_the_goal (shared_of m) g i 0 no_row a there o l is)
        where
          by_way : (w : RunStep) → ArrivesAt g (request_in m a) o w → EveryLinkLeadsOn m.links w
          by_way (A6 s x left) h =
              no_link_is_missing m.links i.chain.chain left h.0 x h.1 (omega (arith, h.3, goal_in_chain (shared_of m) g i 0 no_row a there o.count.0 l))
          by_way (A7 s x) h = tt
          by_way A1 h = tt
          by_way (A2 t) h = tt
          by_way (A3 t) h = tt
          by_way (A4 t) h = tt
          by_way (A5 t) h = tt
          by_way (A8 t x) h = tt

    -- the tail's link leads to the batch's first node: then the batch is linked behind the tail, for until it is linked it stands beside the chain
    pub link_leads_means_linked : tail_leads_to_batch m a ≡ true → Linked g a m.ends.tail.count.0
    link_leads_means_linked = by_link (link_at m.links m.ends.tail.node) refl
      where
        by_link : (v : Link) → link_at m.links m.ends.tail.node ≡ v → leads_to v (request_in m a).first ≡ true → Linked g a m.ends.tail.count.0
        by_link None e q = absurd (false≢true q)
        by_link (Some x) e q =
            found_first (shared_of m) g i 0 no_row a there m.ends.tail x
            (found_behind (shared_of m) g i 0 no_row m.ends.tail.count.0 m.ends.tail.node x i.tail.tail_at e) (eqb-true x (request_in m a).first q)

    -- while the old tail is unset, a linked batch stands behind the tail: the tail has not passed it, and it is linked no further on
    module _ (unset : (announcement_at m.announcements a).old_tail ≡ None) where
      pub linked_at_the_tail : (p : ℕ) → Linked g a p → p ≡ m.ends.tail.count.0
      linked_at_the_tail p l = omega (arith, i.linked.not_past a l.step p l.is l.from unset, linked_le i a p l)

      -- so the tail's link leads to its first node, and a link that does not tells that it is not linked
      pub linked_means_link_leads : (p : ℕ) → Linked g a p → tail_leads_to_batch m a ≡ true
      linked_means_link_leads p l =
          let f = (i.linked.shape a l.step p l.is l.from).first_at in
          let behind = ap (λ (q : ℕ). at g.chain (suc q)) (sym (linked_at_the_tail p l)) ∙ f in
          let leads = link_leads_on m.links i.chain.chain m.ends.tail.count.0 m.ends.tail.node (request_in m a).first i.tail.tail_at behind in
          ap (λ (v : Link). leads_to v (request_in m a).first) leads ∙ eq-eqb (request_in m a).first (request_in m a).first refl

      pub link_elsewhere_means_not_linked : tail_leads_to_batch m a ≡ false → NotLinked g a
      link_elsewhere_means_not_linked e j h =
          let l = linked_somewhere g i.ends a j h in
          false≢true (sym e ∙ linked_means_link_leads l.0 l.1)

    -- with announcement a in the head
    announced_head_at : (o : OldTail) → (announcement_at m.announcements a).old_tail ≡ o
        → At g.chain (position_if (request_in m a) g a (linked_or_not g.by a)) (old_tail_head m.links m.ends.tail (request_in m a) o)
    announced_head_at (Some o) e =
        let w = i.linked.old_tails a o e there in
        ap (at g.chain) (if_linked_lem g i.ends (request_in m a) a o.count.0 w.0 (linked_or_not g.by a)) ∙ head_to_be_at o w.0 w.1
    announced_head_at None e = by_test (tail_leads_to_batch m a) refl
      where
        by_test : (b : Bool) → tail_leads_to_batch m a ≡ b
            → At g.chain (position_if (request_in m a) g a (linked_or_not g.by a)) (cond b (head_to_be m.links (request_in m a) m.ends.tail) (request_in m a).old_head.node)
        by_test true q =
            let l = link_leads_means_linked q in
            ap (at g.chain) (if_linked_lem g i.ends (request_in m a) a _ l (linked_or_not g.by a)) ∙ head_to_be_at m.ends.tail l i.tail.tail_at
        by_test false q =
            ap (at g.chain) (if_not g i.ends (request_in m a) a (link_elsewhere_means_not_linked e q) (linked_or_not g.by a)) ∙ i.head.old_head_at a there

  pub abstract_head_at : At g.chain (head_position m g) (abstract_head m)
  unfolding abstract_head
  abstract_head_at = by_head m.ends.head refl
    where
      by_head : (h : Head) → m.ends.head ≡ h → At g.chain (position_of m.announcements g h) (head_node m h)
      by_head (Plain f) e = i.head.head_at f e
      by_head (Announced a) e = announced_head_at a (i.head.there_installed a e) (announcement_at m.announcements a).old_tail refl

  -- the nodes met behind it are the rest of the chain, to its last node: none is left out, and none but the chain's is read
  pub chain_behind_the_head : chain_after 512 m.links (abstract_head m) ≡ drop (suc (head_position m g)) g.chain
  chain_behind_the_head =
      meets_those_behind m.links i.chain.chain 512 (head_position m g) (abstract_head m) abstract_head_at (omega (arith, chain_fits (shared_of m) g i))

  pub each_met_is_in_the_chain : (j n : ℕ) → At (chain_after 512 m.links (abstract_head m)) j n → At g.chain (suc (head_position m g) + j) n
  each_met_is_in_the_chain j n h =
      sym (at_drop (suc (head_position m g)) g.chain j) ∙ ap (λ (l : List ℕ). at l j) (sym chain_behind_the_head) ∙ h

  -- they are fewer than the 512 links that are followed at most: what ends the reading is the last node's link, which is none
  pub met_fewer_than_followed : length (chain_after 512 m.links (abstract_head m)) < 512
  met_fewer_than_followed = rw chain_behind_the_head (simp length-drop (omega (arith, chain_fits (shared_of m) g i)))

  pub last_link_is_none : (j n : ℕ) → At g.chain j n → length g.chain ≡ suc j → link_at m.links n ≡ None
  last_link_is_none j n h e = no_link (link_at m.links n) (last_has_none i.chain.chain j n h e)

  pub contents_are_the_items_behind : contents m ≡ map (λ n. (item_at m n).value) (drop (suc (head_position m g)) g.chain)
  unfolding contents
  contents_are_the_items_behind = ap (map (λ n. (item_at m n).value)) chain_behind_the_head
