-- 01, "What the contracts have to say": for all inputs the contract of each public function of the crate determines its outcome.
use Rattle.std.proofs.Common.{refl}
use Rattle.contracts.specs.Determined.{Determines}
use Rattle.contracts.proofs.Told.{nothing_required, together, together_both, answer, answer_and_first}
use Rattle.machine.specs.contracts.Machine.enter
use Rattle.machine.specs.contracts.Machine.apply
use Rattle.machine.specs.contracts.Machine.fresh

pub enter_determined : {M : Type 1} → Determines M enter.ended (λ 𝓤. enter.clauses {𝓤 = 𝓤})
enter_determined = record { for_all_inputs = nothing_required; one_outcome = λ i x y. together_both i (answer_and_first refl) }

pub apply_determined : {M : Type 1} → Determines M apply.ended (λ 𝓤. apply.clauses {𝓤 = 𝓤})
apply_determined = record { for_all_inputs = nothing_required; one_outcome = λ i x y. together i (answer refl) }

pub fresh_determined : {M : Type 1} → Determines M fresh.ended (λ 𝓤. fresh.clauses {𝓤 = 𝓤})
fresh_determined = record { for_all_inputs = nothing_required; one_outcome = λ i x y. together i (answer refl) }
