-- 01, "What the contracts have to say": for all inputs the contract of each public function of the crate determines its outcome.
use Rattle.std.proofs.Common.{refl}
use Rattle.contracts.specs.Determined.{Determines}
use Rattle.contracts.proofs.Told.{nothing_required, together, answer}
use Rattle.thread.specs.contracts.access
use Rattle.thread.specs.contracts.after

pub access_determined : {M : Type 1} → Determines M access.ended (λ 𝓤. access.clauses {𝓤 = 𝓤})
access_determined = record { for_all_inputs = nothing_required; one_outcome = λ i x y. together i (answer refl) }

pub after_determined : {M : Type 1} → Determines M after.ended (λ 𝓤. after.clauses {𝓤 = 𝓤})
after_determined = record { for_all_inputs = nothing_required; one_outcome = λ i x y. together i (answer refl) }
