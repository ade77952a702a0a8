-- 01, "Steps", Enqueue; listing 1 (lines 4 to 13). The new node is n.
-- The node and the tail's count that line 13 needs are those that e2 found and e1 read.
use Rattle.std.specs.Prelude.{ℕ, None, Some}
use Rattle.cells.specs.declared.Tail.{Tail}
use Rattle.cells.specs.declared.Head.{Head}
use Rattle.cells.specs.declared.Head.TheVariants.{Plain, Announced}
use Rattle.cells.specs.Links.{Link}
use Rattle.access.specs.declared.Access.{Access}
use Rattle.access.specs.declared.Access.TheVariants.{ReadHead, ReadTail, CasLink, CasTail}
use Rattle.found.specs.declared.Found.{Found}
use Rattle.cells.specs.Ends.{past_tail}
use Rattle.found.specs.Found.{head_in, tail_in, link_in}
use Rattle.place.specs.declared.Place.TheVariants as place
use Rattle.place.specs.declared.Resume.TheVariants as resume
use Rattle.place.specs.declared.After.{After}
use Rattle.place.specs.declared.After.TheVariants as after
use Rattle.place.specs.declared.EnqueueStep.{EnqueueStep}
use Rattle.place.specs.declared.EnqueueStep.TheVariants.{E1, E2, E3, E4, E5}
use Rattle.place.specs.declared.RunStep.TheVariants.{A1}

-- e1 read tail. e2 CAS the new node onto its next link. e3 CAS tail to the new node, count + 1.
-- e4 read head. e5 CAS tail to the node found, count + 1.
unfoldable pub enqueue_access : ℕ → EnqueueStep → Access
enqueue_access n E1 = ReadTail
enqueue_access n (E2 t) = CasLink t.node n
enqueue_access n (E3 t) = CasTail t (past_tail t n 1)
enqueue_access n (E4 t x) = ReadHead
enqueue_access n (E5 t x) = CasTail t (past_tail t x 1)

abbrev pub enqueue_at : ℕ → EnqueueStep → After
enqueue_at n s = after.On (place.Enqueue n s)

-- e2 taken: e3, else e4
abbrev pub after_e2 : ℕ → Tail → Link → After
after_e2 n t None = enqueue_at n (E3 t)
after_e2 n t (Some x) = enqueue_at n (E4 t x)

-- e4 an announcement: run it, then e1; else e5
abbrev pub after_e4 : ℕ → Tail → ℕ → Head → After
after_e4 n t x (Plain f) = enqueue_at n (E5 t x)
after_e4 n t x (Announced a) = after.On (place.Running a A1 (resume.Enqueue n))

-- e3 ends; after e5 e1
unfoldable pub enqueue_after : ℕ → EnqueueStep → Found → After
enqueue_after n E1 y = enqueue_at n (E2 (tail_in y))
enqueue_after n (E2 t) y = after_e2 n t (link_in y)
enqueue_after n (E3 t) y = after.Ok
enqueue_after n (E4 t x) y = after_e4 n t x (head_in y)
enqueue_after n (E5 t x) y = enqueue_at n E1
