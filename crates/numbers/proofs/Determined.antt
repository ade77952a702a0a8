-- 01, "What the contracts have to say": for all inputs the contract of each public function of the crate determines its outcome.
use mathlib.Core.Path.{refl}
use Rattle.contracts.specs.Determined.{Determines}
use Rattle.contracts.proofs.Told.{nothing_required, together, answer, answer_and_first}
use Rattle.numbers.specs.contracts.read
use Rattle.numbers.specs.contracts.write
use Rattle.numbers.specs.contracts.count

pub read_determined : {M : Type 1} → Determines M read.ended (λ 𝓤. read.clauses {𝓤 = 𝓤})
read_determined = record { for_all_inputs = nothing_required; one_outcome = λ i x y. together i (answer refl) }

pub write_determined : {M : Type 1} → Determines M write.ended (λ 𝓤. write.clauses {𝓤 = 𝓤})
write_determined = record { for_all_inputs = nothing_required; one_outcome = λ i x y. together i (answer_and_first refl) }

pub count_determined : {M : Type 1} → Determines M count.ended (λ 𝓤. count.clauses {𝓤 = 𝓤})
count_determined = record { for_all_inputs = nothing_required; one_outcome = λ i x y. together i (answer refl) }
