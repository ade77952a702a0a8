-- 01, "What the contracts have to say": for all inputs the contract of each public function of the crate determines its outcome.
use mathlib.Core.Path.{refl}
use Rattle.contracts.specs.Determined.{Determines}
use Rattle.contracts.proofs.Told.{nothing_required, together, answer, answer_and_first}
use Rattle.schedule.specs.contracts.read.set_up as read-set-up
use Rattle.schedule.specs.contracts.read.entry as read-entry
use Rattle.schedule.specs.contracts.write.set_up as write-set-up
use Rattle.schedule.specs.contracts.write.entry as write-entry

pub read_set_up_determined : {M : Type 1} → Determines M read-set-up.ended (λ 𝓤. read-set-up.clauses {𝓤 = 𝓤})
read_set_up_determined = record { for_all_inputs = nothing_required; one_outcome = λ i x y. together i (answer refl) }

pub read_entry_determined : {M : Type 1} → Determines M read-entry.ended (λ 𝓤. read-entry.clauses {𝓤 = 𝓤})
read_entry_determined = record { for_all_inputs = nothing_required; one_outcome = λ i x y. together i (answer refl) }

pub write_set_up_determined : {M : Type 1} → Determines M write-set-up.ended (λ 𝓤. write-set-up.clauses {𝓤 = 𝓤})
write_set_up_determined = record { for_all_inputs = nothing_required; one_outcome = λ i x y. together i (answer_and_first refl) }

pub write_entry_determined : {M : Type 1} → Determines M write-entry.ended (λ 𝓤. write-entry.clauses {𝓤 = 𝓤})
write_entry_determined = record { for_all_inputs = nothing_required; one_outcome = λ i x y. together i (answer_and_first refl) }
