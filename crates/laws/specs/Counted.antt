-- Steps counted: the machine after a number of steps of one thread, whatever they answer; and what is told where steps went before.
use Rattle.std.specs.Prelude.{ℕ, zero, suc, ◌+◌}
use Rattle.machine.specs.declared.Machine.{Machine}
use Rattle.machine.specs.declared.Told.{Told}
use Rattle.machine.specs.Steps.{step_of}

unfoldable pub after_steps : ℕ → Machine → ℕ → Machine
after_steps zero m i = m
after_steps (suc n) m i = after_steps n (step_of m i).machine i

-- k steps more than were told
abbrev pub more_steps : ℕ → Told → Told
more_steps k x = record { machine = x.machine; answer = x.answer; steps = k + x.steps }
