-- 01, "What the contracts have to say": for all inputs the contract of each public function of the crate determines its outcome.
use mathlib.Core.Path.{refl}
use Rattle.contracts.specs.Determined.{Determines}
use Rattle.contracts.proofs.Told.{nothing_required, together, answer}
use Rattle.refusal.specs.contracts.Refusal.number

pub number_determined : {M : Type 1} → Determines M number.ended (λ 𝓤. number.clauses {𝓤 = 𝓤})
number_determined = record { for_all_inputs = nothing_required; one_outcome = λ i x y. together i (answer refl) }
