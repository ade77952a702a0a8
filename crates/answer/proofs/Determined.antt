-- 01, "What the contracts have to say": for all inputs the contract of each public function of the crate determines its outcome.
use mathlib.Core.Path.{refl}
use Rattle.contracts.specs.Determined.{Determines}
use Rattle.contracts.proofs.Told.{nothing_required, together, answer}
use Rattle.answer.specs.contracts.outcome_answer as outcome-answer
use Rattle.answer.specs.contracts.Future.answer as future-answer
use Rattle.answer.specs.contracts.Answer.value
use Rattle.answer.specs.contracts.told_value

pub outcome_answer_determined : {M : Type 1} → Determines M outcome-answer.ended (λ 𝓤. outcome-answer.clauses {𝓤 = 𝓤})
outcome_answer_determined = record { for_all_inputs = nothing_required; one_outcome = λ i x y. together i (answer refl) }

pub future_answer_determined : {M : Type 1} → Determines M future-answer.ended (λ 𝓤. future-answer.clauses {𝓤 = 𝓤})
future_answer_determined = record { for_all_inputs = nothing_required; one_outcome = λ i x y. together i (answer refl) }

pub value_determined : {M : Type 1} → Determines M value.ended (λ 𝓤. value.clauses {𝓤 = 𝓤})
value_determined = record { for_all_inputs = nothing_required; one_outcome = λ i x y. together i (answer refl) }

pub told_value_determined : {M : Type 1} → Determines M told_value.ended (λ 𝓤. told_value.clauses {𝓤 = 𝓤})
told_value_determined = record { for_all_inputs = nothing_required; one_outcome = λ i x y. together i (answer refl) }
