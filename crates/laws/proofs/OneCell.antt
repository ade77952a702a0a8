-- An access changes at most the one cell that it names; a CAS that is not taken leaves that cell as it was.
use Rattle.std.specs.Prelude.{None, Some}
use Prim.Native.Nat.{ℕ, ◌%◌}
use mathlib.Core.Path.{◌≡◌, refl, sym, ap}
use mathlib.Core.Bool.{Bool, true, false}
use mathlib.Core.List.{List}
use lib.Seq.{set-get_or}
use Rattle.cells.specs.declared.Tail.{Tail}
use Rattle.cells.specs.declared.Head.{Head}
use Rattle.cells.specs.declared.Head.TheVariants.{Plain, Announced}
use Rattle.cells.specs.Links.{Link}
use Rattle.access.specs.declared.Access.{Access}
use Rattle.access.specs.declared.Access.TheVariants.{ReadHead, ReadTail, ReadLink, ReadOldTail, CasLink, CasTail, CasHead, WriteOldTail, Announce}
use Rattle.cells.specs.Ends.{same_tail, same_head}
use Rattle.memory.specs.Memory.{Memory, perform, link_cas, tail_cas, head_cas, with_head, with_tail, with_link, with_announcement, link_at, announcement_at, laid_over}
use Rattle.laws.specs.Changes.{Touches}

link_touched : (m : Memory) (n to : ℕ) (l : Link) → link_at m.links n ≡ l → (k : Link) × ((link_cas m n to l).memory ≡ with_link m n k)
link_touched m n to None e = (Some to, refl)
link_touched m n to (Some x) e = (link_at m.links n, ap (λ (ls : List Link). record { ends = m.ends; links = ls; announcements = m.announcements }) (sym (set-get_or m.links (n % 512) None)))

tail_touched : (m : Memory) (to : Tail) (b : Bool) → (t : Tail) × ((tail_cas m to b).memory ≡ with_tail m t)
tail_touched m to true = (to, refl)
tail_touched m to false = (m.ends.tail, refl)

head_touched : (m : Memory) (to : Head) (b : Bool) → (h : Head) × ((head_cas m to b).memory ≡ with_head m h)
head_touched m to true = (to, refl)
head_touched m to false = (m.ends.head, refl)

pub one_cell : (m : Memory) (x : Access) → Touches x m (perform m x).memory
unfolding perform
one_cell m ReadHead = refl
one_cell m ReadTail = refl
one_cell m (ReadLink n) = refl
one_cell m (ReadOldTail a) = refl
one_cell m (CasLink n to) = link_touched m n to (link_at m.links n) refl
one_cell m (CasTail was to) = tail_touched m to (same_tail m.ends.tail was)
one_cell m (CasHead was to) = head_touched m (Plain to) (same_head m.ends.head was)
one_cell m (WriteOldTail a t) = (Some t, refl)
one_cell m (Announce a f) = head_touched (with_announcement m a (laid_over (announcement_at m.announcements a) f)) (Announced a) (same_head m.ends.head (Plain f))
