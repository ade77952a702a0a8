-- 01, "What the contracts have to say": for all inputs the contract of each public function of the crate determines its outcome.
use mathlib.Core.Path.{refl}
use Rattle.contracts.specs.Determined.{Determines}
use Rattle.contracts.proofs.Told.{nothing_required, together, answer}
use Rattle.found.specs.contracts.Found.head as found-head
use Rattle.found.specs.contracts.Found.tail as found-tail
use Rattle.found.specs.contracts.Found.link as found-link
use Rattle.found.specs.contracts.Found.old_tail as found-old-tail
use Rattle.found.specs.contracts.Found.taken as found-taken

pub found_head_determined : {M : Type 1} → Determines M found-head.ended (λ 𝓤. found-head.clauses {𝓤 = 𝓤})
found_head_determined = record { for_all_inputs = nothing_required; one_outcome = λ i x y. together i (answer refl) }

pub found_tail_determined : {M : Type 1} → Determines M found-tail.ended (λ 𝓤. found-tail.clauses {𝓤 = 𝓤})
found_tail_determined = record { for_all_inputs = nothing_required; one_outcome = λ i x y. together i (answer refl) }

pub found_link_determined : {M : Type 1} → Determines M found-link.ended (λ 𝓤. found-link.clauses {𝓤 = 𝓤})
found_link_determined = record { for_all_inputs = nothing_required; one_outcome = λ i x y. together i (answer refl) }

pub found_old_tail_determined : {M : Type 1} → Determines M found-old-tail.ended (λ 𝓤. found-old-tail.clauses {𝓤 = 𝓤})
found_old_tail_determined = record { for_all_inputs = nothing_required; one_outcome = λ i x y. together i (answer refl) }

pub found_taken_determined : {M : Type 1} → Determines M found-taken.ended (λ 𝓤. found-taken.clauses {𝓤 = 𝓤})
found_taken_determined = record { for_all_inputs = nothing_required; one_outcome = λ i x y. together i (answer refl) }
