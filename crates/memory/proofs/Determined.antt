-- 01, "What the contracts have to say": for all inputs the contract of each public function of the crate determines its outcome.
use mathlib.Core.Path.{refl}
use Rattle.contracts.specs.Determined.{Determines}
use Rattle.contracts.proofs.Told.{nothing_required, together, answer}
use Rattle.memory.specs.contracts.made

pub made_determined : {M : Type 1} → Determines M made.ended (λ 𝓤. made.clauses {𝓤 = 𝓤})
made_determined = record { for_all_inputs = nothing_required; one_outcome = λ i x y. together i (answer refl) }
