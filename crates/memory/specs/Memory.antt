-- Shared memory, and what each of the nine accesses does to it. 01, "Steps": one step is one access; a CAS that fails hands back the value found.
-- Each clause names one cell and changes at most that one; b2's Announce writes the own announcement's old head as well, as 01 says.
use Rattle.std.specs.Prelude.{ℕ, ◌%◌, Bool, true, false, List, get_or, set, None, Some}
use Rattle.tally.specs.Tally.{nothing_pending}
use Rattle.cells.specs.declared.Tail.{Tail}
use Rattle.cells.specs.declared.Front.{Front}
use Rattle.cells.specs.declared.Head.{Head}
use Rattle.cells.specs.declared.Head.TheVariants.{Plain, Announced}
use Rattle.cells.specs.declared.Ends.{Ends}
use Rattle.cells.specs.Links.{Link}
use Rattle.cells.specs.declared.Announcement.{Announcement}
use Rattle.access.specs.declared.Access.{Access}
use Rattle.access.specs.declared.Access.TheVariants.{ReadHead, ReadTail, ReadLink, ReadOldTail, CasLink, CasTail, CasHead, WriteOldTail, Announce}
use Rattle.found.specs.declared.Found.{Found}
use Rattle.found.specs.declared.Found.TheVariants as found
use Rattle.cells.specs.Ends.{no_front, same_tail, same_head}

pub record Memory : Type 0 where
  -- head and tail
  pub ends : Ends
  -- one link for each node
  pub links : List Link
  -- one old tail for each announcement, beside what its batch asks for
  pub announcements : List Announcement

-- what stands past the end of the announcements; no reachable machine comes there
abbrev pub no_announcement : Announcement
no_announcement = record { request = record { first = 0; last = 0; tally = nothing_pending; old_head = no_front }; old_tail = None }

-- the remainders make every access total; no reachable machine holds a node from 512 or an announcement from 64 on
abbrev pub link_at : List Link → ℕ → Link
link_at links n = get_or links (n % 512) None

abbrev pub announcement_at : List Announcement → ℕ → Announcement
announcement_at anns a = get_or anns (a % 64) no_announcement

abbrev pub with_head : Memory → Head → Memory
with_head m h = record { ends = record { head = h; tail = m.ends.tail }; links = m.links; announcements = m.announcements }

abbrev pub with_tail : Memory → Tail → Memory
with_tail m t = record { ends = record { head = m.ends.head; tail = t }; links = m.links; announcements = m.announcements }

abbrev pub with_link : Memory → ℕ → Link → Memory
with_link m n l = record { ends = m.ends; links = set m.links (n % 512) l; announcements = m.announcements }

abbrev pub with_announcement : Memory → ℕ → Announcement → Memory
with_announcement m a x = record { ends = m.ends; links = m.links; announcements = set m.announcements (a % 64) x }

-- an announcement with its old tail set, and one laid over a head
abbrev pub tail_set : Announcement → Tail → Announcement
tail_set x t = record { request = x.request; old_tail = Some t }

abbrev pub laid_over : Announcement → Front → Announcement
laid_over x f = record { request = record { first = x.request.first; last = x.request.last; tally = x.request.tally; old_head = f }; old_tail = x.old_tail }

-- memory after an access, and what the access found
pub record Performed : Type 0 where
  pub memory : Memory
  pub found : Found

abbrev pub reads : Memory → Found → Performed
reads m x = record { memory = m; found = x }

-- a CAS of a link is one from none
abbrev pub link_cas : Memory → ℕ → ℕ → Link → Performed
link_cas m n to None = record { memory = with_link m n (Some to); found = found.Link None }
link_cas m n to (Some x) = record { memory = m; found = found.Link (Some x) }

abbrev pub tail_cas : Memory → Tail → Bool → Performed
tail_cas m to true = record { memory = with_tail m to; found = found.Taken true }
tail_cas m to false = record { memory = m; found = found.Taken false }

abbrev pub head_cas : Memory → Head → Bool → Performed
head_cas m to true = record { memory = with_head m to; found = found.Taken true }
head_cas m to false = record { memory = m; found = found.Taken false }

unfoldable pub perform : Memory → Access → Performed
perform m ReadHead = reads m (found.Head m.ends.head)
perform m ReadTail = reads m (found.Tail m.ends.tail)
perform m (ReadLink n) = reads m (found.Link (link_at m.links n))
perform m (ReadOldTail a) = reads m (found.OldTail (announcement_at m.announcements a).old_tail)
perform m (CasLink n to) = link_cas m n to (link_at m.links n)
perform m (CasTail was to) = tail_cas m to (same_tail m.ends.tail was)
perform m (CasHead was to) = head_cas m (Plain to) (same_head m.ends.head was)
perform m (WriteOldTail a t) = record { memory = with_announcement m a (tail_set (announcement_at m.announcements a) t); found = found.Taken true }
perform m (Announce a f) = head_cas (with_announcement m a (laid_over (announcement_at m.announcements a) f)) (Announced a) (same_head m.ends.head (Plain f))
