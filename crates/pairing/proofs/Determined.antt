-- 01, "What the contracts have to say": for all inputs the contract of each public function of the crate determines its outcome.
use mathlib.Core.Path.{refl}
use Rattle.contracts.specs.Determined.{Determines}
use Rattle.contracts.proofs.Told.{nothing_required, together, answer}
use Rattle.pairing.specs.contracts.node_behind as node-behind
use Rattle.pairing.specs.contracts.Cursor.next_node as cursor-next-node
use Rattle.pairing.specs.contracts.Cursor.pay as cursor-pay

pub node_behind_determined : {M : Type 1} → Determines M node-behind.ended (λ 𝓤. node-behind.clauses {𝓤 = 𝓤})
node_behind_determined = record { for_all_inputs = nothing_required; one_outcome = λ i x y. together i (answer refl) }

pub cursor_next_node_determined : {M : Type 1} → Determines M cursor-next-node.ended (λ 𝓤. cursor-next-node.clauses {𝓤 = 𝓤})
cursor_next_node_determined = record { for_all_inputs = nothing_required; one_outcome = λ i x y. together i (answer refl) }

pub cursor_pay_determined : {M : Type 1} → Determines M cursor-pay.ended (λ 𝓤. cursor-pay.clauses {𝓤 = 𝓤})
cursor_pay_determined = record { for_all_inputs = nothing_required; one_outcome = λ i x y. together i (answer refl) }
