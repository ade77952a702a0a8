-- 01, "What the contracts have to say": for all inputs the contract of each public function of the crate determines its outcome.
use Rattle.std.proofs.Common.{refl}
use Rattle.contracts.specs.Determined.{Determines}
use Rattle.contracts.proofs.Told.{nothing_required, together, answer}
use Rattle.cells.specs.contracts.Tail.past as tail-past
use Rattle.cells.specs.contracts.Tail.same as tail-same
use Rattle.cells.specs.contracts.Front.past as front_past
use Rattle.cells.specs.contracts.Head.same as head-same

pub tail_past_determined : {M : Type 1} → Determines M tail-past.ended (λ 𝓤. tail-past.clauses {𝓤 = 𝓤})
tail_past_determined = record { for_all_inputs = nothing_required; one_outcome = λ i x y. together i (answer refl) }

pub tail_same_determined : {M : Type 1} → Determines M tail-same.ended (λ 𝓤. tail-same.clauses {𝓤 = 𝓤})
tail_same_determined = record { for_all_inputs = nothing_required; one_outcome = λ i x y. together i (answer refl) }

pub front_past_determined : {M : Type 1} → Determines M front_past.ended (λ 𝓤. front_past.clauses {𝓤 = 𝓤})
front_past_determined = record { for_all_inputs = nothing_required; one_outcome = λ i x y. together i (answer refl) }

pub head_same_determined : {M : Type 1} → Determines M head-same.ended (λ 𝓤. head-same.clauses {𝓤 = 𝓤})
head_same_determined = record { for_all_inputs = nothing_required; one_outcome = λ i x y. together i (answer refl) }
