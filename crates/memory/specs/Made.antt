-- How the code makes an access: it takes out the cells that the access can reach, makes it on them, and puts them back.
-- That this is `perform` is proved in proofs/Performs.antt; nothing else is promised of the names here.
use Rattle.std.specs.Prelude.{ℕ, Bool, true, false, get_or, set, None, Some}
use Rattle.cells.specs.declared.Tail.{Tail}
use Rattle.cells.specs.declared.Front.{Front}
use Rattle.cells.specs.declared.Head.{Head}
use Rattle.cells.specs.declared.Head.TheVariants.{Plain, Announced}
use Rattle.cells.specs.Links.{Link}
use Rattle.cells.specs.declared.Announcement.{Announcement}
use Rattle.access.specs.declared.Access.{Access}
use Rattle.access.specs.declared.Access.TheVariants.{ReadHead, ReadTail, ReadLink, ReadOldTail, CasLink, CasTail, CasHead, WriteOldTail, Announce}
use Rattle.found.specs.declared.Found.TheVariants as found
use Rattle.access.specs.Reach.{node_of, announcement_of}
use Rattle.memory.specs.declared.Cells.{Cells}
use Rattle.memory.specs.declared.Hit.{Hit}
use Rattle.cells.specs.Ends.{same_tail, same_head}
use Rattle.memory.specs.Memory.{Memory, no_announcement, tail_set, laid_over}

abbrev pub cas_link : Cells → ℕ → Link → Hit
cas_link c to None = record { cells = record { ends = c.ends; link = Some to; announcement = c.announcement }; found = found.Link None }
cas_link c to (Some n) = record { cells = c; found = found.Link (Some n) }

abbrev pub tail_hit : Cells → Tail → Bool → Hit
tail_hit c to true = record { cells = record { ends = record { head = c.ends.head; tail = to }; link = c.link; announcement = c.announcement }; found = found.Taken true }
tail_hit c to false = record { cells = c; found = found.Taken false }

abbrev pub cas_tail : Cells → Tail → Tail → Hit
cas_tail c was to = tail_hit c to (same_tail c.ends.tail was)

abbrev pub head_hit : Cells → Head → Bool → Hit
head_hit c to true = record { cells = record { ends = record { head = to; tail = c.ends.tail }; link = c.link; announcement = c.announcement }; found = found.Taken true }
head_hit c to false = record { cells = c; found = found.Taken false }

abbrev pub cas_head : Cells → Head → Head → Hit
cas_head c was to = head_hit c to (same_head c.ends.head was)

abbrev pub with_the : Cells → Announcement → Cells
with_the c x = record { ends = c.ends; link = c.link; announcement = x }

abbrev pub write_old_tail : Cells → Tail → Hit
write_old_tail c t = record { cells = with_the c (tail_set c.announcement t); found = found.Taken true }

abbrev pub announce : Cells → ℕ → Front → Hit
announce c own was = cas_head (with_the c (laid_over c.announcement was)) (Plain was) (Announced own)

unfoldable pub on : Access → Cells → Hit
on ReadHead c = record { cells = c; found = found.Head c.ends.head }
on ReadTail c = record { cells = c; found = found.Tail c.ends.tail }
on (ReadLink n) c = record { cells = c; found = found.Link c.link }
on (ReadOldTail a) c = record { cells = c; found = found.OldTail c.announcement.old_tail }
on (CasLink n to) c = cas_link c to c.link
on (CasTail was to) c = cas_tail c was to
on (CasHead was to) c = cas_head c was (Plain to)
on (WriteOldTail a t) c = write_old_tail c t
on (Announce a f) c = announce c a f

-- taken out and put back
abbrev pub reached : Memory → Access → Cells
reached m x = record { ends = m.ends; link = get_or m.links (node_of x) None; announcement = get_or m.announcements (announcement_of x) no_announcement }

abbrev pub put_back : Memory → Access → Cells → Memory
put_back m x c = record { ends = c.ends; links = set m.links (node_of x) c.link; announcements = set m.announcements (announcement_of x) c.announcement }
