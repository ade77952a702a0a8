-- An access made on the cells that it reaches, and the cells put back, is the access of the whole memory.
use Rattle.std.specs.Prelude.{None, Some}
use Prim.Native.Nat.{ℕ}
use mathlib.Core.Path.{◌≡◌}
use mathlib.Core.Bool.{Bool, true, false}
use lib.Seq.{set-get_or}
use Rattle.cells.specs.declared.Tail.{Tail}
use Rattle.cells.specs.declared.Front.{Front}
use Rattle.cells.specs.declared.Head.{Head}
use Rattle.cells.specs.declared.Head.TheVariants.{Plain, Announced}
use Rattle.cells.specs.Links.{Link}
use Rattle.access.specs.declared.Access.{Access}
use Rattle.access.specs.declared.Access.TheVariants.{ReadHead, ReadTail, ReadLink, ReadOldTail, CasLink, CasTail, CasHead, WriteOldTail, Announce}
use Rattle.memory.specs.declared.Hit.{Hit}
use Rattle.cells.specs.Ends.{same_tail, same_head}
use Rattle.memory.specs.Memory.{Memory, Performed, perform, link_cas, tail_cas, head_cas, with_announcement, laid_over, link_at, announcement_at}
use Rattle.access.specs.Reach.{node_of, announcement_of}
use Rattle.memory.specs.Made.{on, cas_link, tail_hit, head_hit, with_the, reached, put_back}

abbrev put : Memory → Access → Hit → Performed
put m x h = record { memory = put_back m x h.cells; found = h.found }

link_cas_lem : (m : Memory) (n to : ℕ) (l : Link) → put m (CasLink n to) (cas_link (reached m (CasLink n to)) to l) ≡ link_cas m n to l
unfolding node_of announcement_of
link_cas_lem m n to None = simp set-get_or
link_cas_lem m n to (Some y) = simp set-get_or

tail_cas_lem : (m : Memory) (was to : Tail) (b : Bool) → put m (CasTail was to) (tail_hit (reached m (CasTail was to)) to b) ≡ tail_cas m to b
unfolding node_of announcement_of
tail_cas_lem m was to true = simp set-get_or
tail_cas_lem m was to false = simp set-get_or

head_cas_lem : (m : Memory) (was : Head) (to : Front) (b : Bool) → put m (CasHead was to) (head_hit (reached m (CasHead was to)) (Plain to) b) ≡ head_cas m (Plain to) b
unfolding node_of announcement_of
head_cas_lem m was to true = simp set-get_or
head_cas_lem m was to false = simp set-get_or

announces : (m : Memory) (a : ℕ) (f : Front) (b : Bool)
    → put m (Announce a f) (head_hit (with_the (reached m (Announce a f)) (laid_over (announcement_at m.announcements a) f)) (Announced a) b)
    ≡ head_cas (with_announcement m a (laid_over (announcement_at m.announcements a) f)) (Announced a) b
unfolding node_of announcement_of
announces m a f true = simp set-get_or
announces m a f false = simp set-get_or

pub performs : (m : Memory) (x : Access) → put m x (on x (reached m x)) ≡ perform m x
unfolding on node_of announcement_of perform
performs m ReadHead = simp set-get_or
performs m ReadTail = simp set-get_or
performs m (ReadLink n) = simp set-get_or
performs m (ReadOldTail a) = simp set-get_or
performs m (CasLink n to) = link_cas_lem m n to (link_at m.links n)
performs m (CasTail was to) = tail_cas_lem m was to (same_tail m.ends.tail was)
performs m (CasHead was to) = head_cas_lem m was to (same_head m.ends.head was)
performs m (WriteOldTail a t) = simp set-get_or
performs m (Announce a f) = announces m a f (same_head m.ends.head (Plain f))
