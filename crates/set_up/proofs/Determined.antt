-- 01, "What the contracts have to say": for all inputs the contract of each public function of the crate determines its outcome.
use mathlib.Core.Path.{refl}
use Rattle.contracts.specs.Determined.{Determines}
use Rattle.contracts.proofs.Told.{nothing_required, together, answer}
use Rattle.set_up.specs.contracts.SetUp.of
use Rattle.set_up.specs.contracts.of as set_up_of

pub of_determined : {M : Type 1} → Determines M of.ended (λ 𝓤. of.clauses {𝓤 = 𝓤})
of_determined = record { for_all_inputs = nothing_required; one_outcome = λ i x y. together i (answer refl) }

pub set_up_of_determined : {M : Type 1} → Determines M set_up_of.ended (λ 𝓤. set_up_of.clauses {𝓤 = 𝓤})
set_up_of_determined = record { for_all_inputs = nothing_required; one_outcome = λ i x y. together i (answer refl) }
