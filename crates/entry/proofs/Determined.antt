-- 01, "What the contracts have to say": for all inputs the contract of each public function of the crate determines its outcome.
use mathlib.Core.Path.{refl}
use Rattle.contracts.specs.Determined.{Determines}
use Rattle.contracts.proofs.Told.{nothing_required, together, answer}
use Rattle.entry.specs.contracts.Entry.thread
use Rattle.entry.specs.contracts.Entry.future
use Rattle.entry.specs.contracts.in_range as in_range_lem

pub thread_determined : {M : Type 1} → Determines M thread.ended (λ 𝓤. thread.clauses {𝓤 = 𝓤})
thread_determined = record { for_all_inputs = nothing_required; one_outcome = λ i x y. together i (answer refl) }

pub future_determined : {M : Type 1} → Determines M future.ended (λ 𝓤. future.clauses {𝓤 = 𝓤})
future_determined = record { for_all_inputs = nothing_required; one_outcome = λ i x y. together i (answer refl) }

pub in_range_determined : {M : Type 1} → Determines M in_range_lem.ended (λ 𝓤. in_range_lem.clauses {𝓤 = 𝓤})
in_range_determined = record { for_all_inputs = nothing_required; one_outcome = λ i x y. together i (answer refl) }
