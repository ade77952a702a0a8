-- 01, "Steps", Dequeue; listing 2 (lines 16 to 21) with listing 3.
use Rattle.std.specs.Prelude.{ℕ, Bool, true, false, None, Some}
use Rattle.cells.specs.declared.Front.{Front}
use Rattle.cells.specs.declared.Head.{Head}
use Rattle.cells.specs.declared.Head.TheVariants.{Plain, Announced}
use Rattle.cells.specs.Links.{Link}
use Rattle.access.specs.declared.Access.{Access}
use Rattle.access.specs.declared.Access.TheVariants.{ReadHead, ReadLink, CasHead}
use Rattle.found.specs.declared.Found.{Found}
use Rattle.cells.specs.Ends.{past_front}
use Rattle.found.specs.Found.{head_in, link_in, taken_in}
use Rattle.place.specs.declared.Place.TheVariants as place
use Rattle.place.specs.declared.Resume.TheVariants as resume
use Rattle.place.specs.declared.After.{After}
use Rattle.place.specs.declared.After.TheVariants as after
use Rattle.place.specs.declared.DequeueStep.{DequeueStep}
use Rattle.place.specs.declared.DequeueStep.TheVariants.{D1, D2, D3}
use Rattle.place.specs.declared.RunStep.TheVariants.{A1}

-- d1 read head. d2 read next. d3 CAS head to it, count + 1.
unfoldable pub dequeue_access : DequeueStep → Access
dequeue_access D1 = ReadHead
dequeue_access (D2 f) = ReadLink f.node
dequeue_access (D3 f x) = CasHead (Plain f) (past_front f x 1)

abbrev pub dequeue_at : DequeueStep → After
dequeue_at s = after.On (place.Dequeue s)

-- d1 an announcement: run it, then d1
abbrev pub after_d1 : Head → After
after_d1 (Plain f) = dequeue_at (D2 f)
after_d1 (Announced a) = after.On (place.Running a A1 resume.Dequeue)

-- d2 none: ends empty
abbrev pub after_d2 : Front → Link → After
after_d2 f None = after.Empty
after_d2 f (Some x) = dequeue_at (D3 f x)

-- d3 taken: ends with its item, else d1
abbrev pub after_d3 : ℕ → Bool → After
after_d3 x true = after.Item x
after_d3 x false = dequeue_at D1

unfoldable pub dequeue_after : DequeueStep → Found → After
dequeue_after D1 y = after_d1 (head_in y)
dequeue_after (D2 f) y = after_d2 f (link_in y)
dequeue_after (D3 f x) y = after_d3 x (taken_in y)
