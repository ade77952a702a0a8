-- 01, "Contents and order of effect": the abstract head, the items of the chain after it, and the depth.
use Rattle.std.specs.Prelude.{ℕ, zero, suc, ◌-◌, Bool, false, cond, List, [], ◌∷◌, map, eqb, None, Some}
use Rattle.cells.specs.declared.Tail.{Tail}
use Rattle.cells.specs.declared.Front.{Front}
use Rattle.cells.specs.declared.Head.{Head}
use Rattle.cells.specs.declared.Head.TheVariants.{Plain, Announced}
use Rattle.cells.specs.Links.{Link, OldTail}
use Rattle.cells.specs.declared.Request.{Request}
use Rattle.cells.specs.declared.Announcement.{Announcement}
use Rattle.memory.specs.Memory.{link_at, announcement_at}
use Rattle.place.specs.declared.RunStep.{RunStep}
use Rattle.place.specs.declared.RunStep.TheVariants.{A1, A2, A3, A4, A5, A6, A7, A8}
use Rattle.running.specs.Running.{walk_to}
use Rattle.answer.specs.declared.Item.{Item}
use Rattle.machine.specs.declared.Machine.{Machine}
use Rattle.machine.specs.State.{item_in}
use Rattle.pairing.specs.Pairing.{node_behind}

-- the node that n links lead to from a node; a walk that meets no link stays, which none of a reachable machine does
unfoldable pub walked : List Link → ℕ → ℕ → ℕ
walked links x zero = x
walked links x (suc n) = walked links (node_behind (link_at links x) x) n

-- the head that a7 will set, once the batch is linked behind the old tail o: as at a6 and a7
abbrev pub reached : List Link → RunStep → ℕ
reached links A1 = 0
reached links (A2 t) = 0
reached links (A3 t) = 0
reached links (A4 t) = 0
reached links (A5 o) = 0
reached links (A6 s x left) = walked links x left
reached links (A7 s x) = x
reached links (A8 t x) = 0

abbrev pub head_to_be : List Link → Request → Tail → ℕ
head_to_be links k o = reached links (walk_to k o)

abbrev pub leads_to : Link → ℕ → Bool
leads_to None x = false
leads_to (Some y) x = eqb y x

-- with an announcement in the head: the old head until the first node is linked, from then on the head that a7 will set.
-- While the old tail is not written the tail stays where the batch is linked, so its link tells.
abbrev pub old_tail_head : List Link → Tail → Request → OldTail → ℕ
old_tail_head links t k (Some o) = head_to_be links k o
old_tail_head links t k None = cond (leads_to (link_at links t.node) k.first) (head_to_be links k t) k.old_head.node

abbrev pub announced_head : List Link → Tail → Announcement → ℕ
announced_head links t a = old_tail_head links t a.request a.old_tail

abbrev pub head_node : Machine → Head → ℕ
head_node m (Plain f) = f.node
head_node m (Announced a) = announced_head m.links m.ends.tail (announcement_at m.announcements a)

unfoldable pub abstract_head : Machine → ℕ
abstract_head m = head_node m m.ends.head

-- the nodes of the chain after a node; no chain has more than 512
abbrev pub if_linked : Link → List ℕ → List ℕ
if_linked None rest = []
if_linked (Some x) rest = x ∷ rest

unfoldable pub chain_after : ℕ → List Link → ℕ → List ℕ
chain_after zero links x = []
chain_after (suc n) links x = if_linked (link_at links x) (chain_after n links (node_behind (link_at links x) x))

abbrev pub items_after : List Link → List Item → ℕ → List ℕ
items_after links items x = map (λ n. (item_in items n).value) (chain_after 512 links x)

-- contents are the items of the chain after the abstract head
unfoldable pub contents : Machine → List ℕ
contents m = items_after m.links m.items (abstract_head m)

-- the head, or the old head while an announcement is in it
abbrev pub front_of : Head → List Announcement → Front
front_of (Plain f) announcements = f
front_of (Announced a) announcements = (announcement_at announcements a).request.old_head

-- depth: tail count less head count (the old head's while an announcement is in the head), 0 where that is negative
unfoldable pub depth : Machine → ℕ
depth m = m.ends.tail.count.0 - (front_of m.ends.head m.announcements).count.0
