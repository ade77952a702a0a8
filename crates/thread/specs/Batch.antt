-- 01, "Steps", Batch with an enqueue; listing 4 (lines 31 to 35) with listing 3. The own announcement is own.
use Rattle.std.specs.Prelude.{ℕ, Bool, true, false}
use Rattle.cells.specs.declared.Head.{Head}
use Rattle.cells.specs.declared.Head.TheVariants.{Plain, Announced}
use Rattle.access.specs.declared.Access.{Access}
use Rattle.access.specs.declared.Access.TheVariants.{ReadHead, Announce}
use Rattle.found.specs.declared.Found.{Found}
use Rattle.found.specs.Found.{head_in, taken_in}
use Rattle.place.specs.declared.Place.TheVariants as place
use Rattle.place.specs.declared.Resume.TheVariants as resume
use Rattle.place.specs.declared.After.{After}
use Rattle.place.specs.declared.After.TheVariants as after
use Rattle.place.specs.declared.BatchStep.{BatchStep}
use Rattle.place.specs.declared.BatchStep.TheVariants.{B1, B2}
use Rattle.place.specs.declared.RunStep.TheVariants.{A1}

-- b1 read head. b2 set the old head and CAS head to the own announcement.
unfoldable pub batch_access : ℕ → BatchStep → Access
batch_access own B1 = ReadHead
batch_access own (B2 f) = Announce own f

-- b1 an announcement: run it, then b1
abbrev pub after_b1 : ℕ → Head → After
after_b1 own (Plain f) = after.On (place.Batch own (B2 f))
after_b1 own (Announced a) = after.On (place.Running a A1 (resume.Batch own))

-- b2 not taken: b1. Then run it; ends with the run.
abbrev pub after_b2 : ℕ → Bool → After
after_b2 own true = after.On (place.Running own A1 resume.Own)
after_b2 own false = after.On (place.Batch own B1)

unfoldable pub batch_after : ℕ → BatchStep → Found → After
batch_after own B1 y = after_b1 own (head_in y)
batch_after own (B2 f) y = after_b2 own (taken_in y)
