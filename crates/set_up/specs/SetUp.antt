-- 01, "What the machine is": set-up with refusal 9.
use Rattle.std.specs.Prelude.{ℕ, Result, Ok}
use Rattle.refusal.specs.declared.Refusal.{Refusal}
use Rattle.refusal.specs.Verdicts.{and_then}
use Rattle.entry.specs.Range.{in_range}
use Rattle.machine.specs.declared.Machine.{Machine}
use Rattle.machine.specs.State.{fresh_machine}
use Rattle.set_up.specs.declared.SetUp.{SetUp}

abbrev pub set_up : ℕ → ℕ → Result Machine Refusal
set_up threads nodes = and_then (in_range threads nodes) λ ok. Ok (fresh_machine threads nodes)

-- the machine of the two numbers beside the verdict, refused or not
abbrev pub set_up_with_verdict : ℕ → ℕ → SetUp
set_up_with_verdict threads nodes = record { verdict = in_range threads nodes; machine = fresh_machine threads nodes }
