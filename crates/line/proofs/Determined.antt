-- 01, "What the contracts have to say": for all inputs the contract of each public function of the crate determines its outcome.
use mathlib.Core.Path.{refl}
use Rattle.contracts.specs.Determined.{Determines}
use Rattle.contracts.proofs.Told.{nothing_required, together, answer, answer_and_second}
use Rattle.line.specs.contracts.first
use Rattle.line.specs.contracts.entry
use Rattle.line.specs.contracts.queue

pub first_determined : {M : Type 1} → Determines M first.ended (λ 𝓤. first.clauses {𝓤 = 𝓤})
first_determined = record { for_all_inputs = nothing_required; one_outcome = λ i x y. together i (answer refl) }

pub entry_determined : {M : Type 1} → Determines M entry.ended (λ 𝓤. entry.clauses {𝓤 = 𝓤})
entry_determined = record { for_all_inputs = nothing_required; one_outcome = λ i x y. together i (answer refl) }

pub queue_determined : {M : Type 1} → Determines M queue.ended (λ 𝓤. queue.clauses {𝓤 = 𝓤})
queue_determined = record { for_all_inputs = nothing_required; one_outcome = λ i x y. together i (answer_and_second refl) }
