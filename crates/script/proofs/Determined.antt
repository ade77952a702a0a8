-- For all inputs the contract of each public function of the crate determines its outcome.
use mathlib.Core.Path.{refl}
use Rattle.contracts.specs.Determined.{Determines}
use Rattle.contracts.proofs.Told.{nothing_required, together, answer, answer_and_more}
use Rattle.script.specs.contracts.number
use Rattle.script.specs.contracts.byte

pub number_determined : {M : Type 1} → Determines M number.ended (λ 𝓤. number.clauses {𝓤 = 𝓤})
number_determined = record { for_all_inputs = nothing_required; one_outcome = λ i x y. together i (answer_and_more refl) }

pub byte_determined : {M : Type 1} → Determines M byte.ended (λ 𝓤. byte.clauses {𝓤 = 𝓤})
byte_determined = record { for_all_inputs = nothing_required; one_outcome = λ i x y. together i (answer refl) }
