-- 01, "What the contracts have to say": for all inputs the contract of each public function of the crate determines its outcome.
use mathlib.Core.Path.{refl}
use Rattle.contracts.specs.Determined.{Determines}
use Rattle.contracts.proofs.Told.{nothing_required, together, answer, answer_and_second}
use Rattle.contents.specs.contracts.write_to as write-to
use Rattle.contents.specs.contracts.write
use Rattle.contents.specs.contracts.depth_of as depth-of
use Rattle.contents.specs.contracts.depth

pub write_to_determined : {M : Type 1} → Determines M write-to.ended (λ 𝓤. write-to.clauses {𝓤 = 𝓤})
write_to_determined = record { for_all_inputs = nothing_required; one_outcome = λ i x y. together i (answer_and_second refl) }

pub write_determined : {M : Type 1} → Determines M write.ended (λ 𝓤. write.clauses {𝓤 = 𝓤})
write_determined = record { for_all_inputs = nothing_required; one_outcome = λ i x y. together i (answer_and_second refl) }

pub depth_of_determined : {M : Type 1} → Determines M depth-of.ended (λ 𝓤. depth-of.clauses {𝓤 = 𝓤})
depth_of_determined = record { for_all_inputs = nothing_required; one_outcome = λ i x y. together i (answer refl) }

pub depth_determined : {M : Type 1} → Determines M depth.ended (λ 𝓤. depth.clauses {𝓤 = 𝓤})
depth_determined = record { for_all_inputs = nothing_required; one_outcome = λ i x y. together i (answer refl) }
