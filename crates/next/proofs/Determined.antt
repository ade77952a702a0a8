-- 01, "What the contracts have to say": for all inputs the contract of each public function of the crate determines its outcome.
use mathlib.Core.Path.{refl}
use Rattle.contracts.specs.Determined.{Determines}
use Rattle.contracts.proofs.Told.{nothing_required, together, answer}
use Rattle.next.specs.contracts.Used.next_node as used-next-node
use Rattle.next.specs.contracts.Used.next_future as used-next-future
use Rattle.next.specs.contracts.Used.next_announcement as used-next-announcement

pub used_next_node_determined : {M : Type 1} → Determines M used-next-node.ended (λ 𝓤. used-next-node.clauses {𝓤 = 𝓤})
used_next_node_determined = record { for_all_inputs = nothing_required; one_outcome = λ i x y. together i (answer refl) }

pub used_next_future_determined : {M : Type 1} → Determines M used-next-future.ended (λ 𝓤. used-next-future.clauses {𝓤 = 𝓤})
used_next_future_determined = record { for_all_inputs = nothing_required; one_outcome = λ i x y. together i (answer refl) }

pub used_next_announcement_determined : {M : Type 1} → Determines M used-next-announcement.ended (λ 𝓤. used-next-announcement.clauses {𝓤 = 𝓤})
used_next_announcement_determined = record { for_all_inputs = nothing_required; one_outcome = λ i x y. together i (answer refl) }
