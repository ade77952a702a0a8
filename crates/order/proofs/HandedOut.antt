-- Handing out of nodes and announcements, as the order uses it: the law says which number comes next, and so what the threads share afterwards.
-- (Futures are not shared; where one is handed out, Events, Flags and FuturesDeferred cite the law themselves.)
use Rattle.std.specs.Prelude.{None}
use Prim.Native.Nat.{suc, ◌+◌, ◌<◌}
use mathlib.Core.Path.{◌≡◌, ◌∙◌}
use native.Mathlib.Omega.{arith}
use lib.ListN.{set}
use Rattle.cells.specs.declared.Request.{Request}
use Rattle.answer.specs.declared.Item.{Item}
use Rattle.next.specs.declared.Used.{Used}
use Rattle.next.specs.Next.{next_node, next_announcement}
use Rattle.machine.specs.declared.Machine.{Machine}
use Rattle.machine.specs.HandOut.{hand_out_node, hand_out_announcement}
use Rattle.laws.proofs.HandedOut.{nodes_in_order, announcements_in_order}
use Rattle.order.proofs.Shared.{shared_of}
use Rattle.order.proofs.HandingOutNodes.{node_handed_out}
use Rattle.order.proofs.HandingOutAnnouncements.{asking, announcement_handed_out}

pub node_number : (u : Used) → u.nodes < 512 → next_node u ≡ u.nodes
node_number u h = (nodes_in_order u h).0

pub announcement_number : (u : Used) → u.announcements < 64 → next_announcement u ≡ u.announcements
announcement_number u h = (announcements_in_order u h).0

pub node_handed_out_lem : (m : Machine) (v : Item) → m.used.nodes < 512 → shared_of (hand_out_node m v) ≡ node_handed_out (shared_of m)
node_handed_out_lem m v h =
    let one_more = (nodes_in_order m.used h).1 ∙ (let e : suc m.used.nodes ≡ m.used.nodes + 1 = omega arith in e) in
    λ k. record { head = m.ends.head; tail = m.ends.tail; links = set m.links (next_node m.used) None; announcements = m.announcements; nodes = one_more k; announced = m.used.announcements }

pub announcement_handed_out_lem : (m : Machine) (q : Request) → m.used.announcements < 64 → shared_of (hand_out_announcement m q) ≡ announcement_handed_out (shared_of m) q
announcement_handed_out_lem m q h =
    let one_more = (announcements_in_order m.used h).1 ∙ (let e : suc m.used.announcements ≡ m.used.announcements + 1 = omega arith in e) in
    λ k. record { head = m.ends.head; tail = m.ends.tail; links = m.links; announcements = set m.announcements (next_announcement m.used) (asking q); nodes = m.used.nodes; announced = one_more k }
