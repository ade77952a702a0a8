-- What a step goes on with, taken out of what its access found. Where another kind of access was made the value has no meaning; no step asks for it.
use Rattle.std.specs.Prelude.{Bool, false, None}
use Rattle.cells.specs.declared.Tail.{Tail}
use Rattle.cells.specs.declared.Head.{Head}
use Rattle.cells.specs.declared.Head.TheVariants.{Announced}
use Rattle.cells.specs.Links.{Link, OldTail}
use Rattle.cells.specs.Ends.{no_tail}
use Rattle.found.specs.declared.Found.{Found}
use Rattle.found.specs.declared.Found.TheVariants as found

abbrev pub head_in : Found → Head
head_in (found.Head h) = h
head_in (found.Tail t) = Announced 0
head_in (found.Link l) = Announced 0
head_in (found.OldTail o) = Announced 0
head_in (found.Taken b) = Announced 0

abbrev pub tail_in : Found → Tail
tail_in (found.Head h) = no_tail
tail_in (found.Tail t) = t
tail_in (found.Link l) = no_tail
tail_in (found.OldTail o) = no_tail
tail_in (found.Taken b) = no_tail

abbrev pub link_in : Found → Link
link_in (found.Head h) = None
link_in (found.Tail t) = None
link_in (found.Link l) = l
link_in (found.OldTail o) = None
link_in (found.Taken b) = None

abbrev pub old_tail_in : Found → OldTail
old_tail_in (found.Head h) = None
old_tail_in (found.Tail t) = None
old_tail_in (found.Link l) = None
old_tail_in (found.OldTail o) = o
old_tail_in (found.Taken b) = None

abbrev pub taken_in : Found → Bool
taken_in (found.Head h) = false
taken_in (found.Tail t) = false
taken_in (found.Link l) = false
taken_in (found.OldTail o) = false
taken_in (found.Taken b) = b
