-- 01, "What the contracts have to say": for all inputs the contract of each public function of the crate determines its outcome.
use mathlib.Core.Path.{refl}
use Rattle.contracts.specs.Determined.{Determines}
use Rattle.contracts.proofs.Told.{nothing_required, together, answer_and_more}
use Rattle.access.specs.contracts.Access.node as access-node
use Rattle.access.specs.contracts.Access.announcement as access-announcement

pub access_node_determined : {M : Type 1} → Determines M access-node.ended (λ 𝓤. access-node.clauses {𝓤 = 𝓤})
access_node_determined = record { for_all_inputs = nothing_required; one_outcome = λ i x y. together i (answer_and_more refl) }

pub access_announcement_determined : {M : Type 1} → Determines M access-announcement.ended (λ 𝓤. access-announcement.clauses {𝓤 = 𝓤})
access_announcement_determined = record { for_all_inputs = nothing_required; one_outcome = λ i x y. together i (answer_and_more refl) }
