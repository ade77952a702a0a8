-- The result of a call on the plain list, as a future that is done holds it.
use Rattle.std.specs.Prelude.{ℕ, Some}
use Rattle.tally.specs.Fifo.{Result, ok, item, empty}
use Rattle.answer.specs.Answer.{Outcome}
use Rattle.answer.specs.declared.CallResult.TheVariants as call_result

abbrev pub outcome_of : Result ℕ → Outcome
outcome_of ok = Some call_result.Ok
outcome_of (item v) = Some (call_result.Item (record { value = v }))
outcome_of empty = Some call_result.Empty
