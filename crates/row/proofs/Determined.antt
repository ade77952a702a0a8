-- 01, "What the contracts have to say": for all inputs the contract of each public function of the crate determines its outcome.
use Rattle.std.proofs.Common.{refl}
use Rattle.contracts.specs.Determined.{Determines}
use Rattle.contracts.proofs.Told.{nothing_required, together, answer, first_alone}
use Rattle.row.specs.contracts.Row.fresh
use Rattle.row.specs.contracts.Row.at
use Rattle.row.specs.contracts.Row.call
use Rattle.row.specs.contracts.Row.calling
use Rattle.row.specs.contracts.Row.push_enqueue as push-enqueue
use Rattle.row.specs.contracts.Row.with_enqueue as with-enqueue
use Rattle.row.specs.contracts.Row.push_dequeue as push-dequeue
use Rattle.row.specs.contracts.Row.with_dequeue as with-dequeue
use Rattle.row.specs.contracts.Row.clear
use Rattle.row.specs.contracts.Row.cleared
use Rattle.row.specs.contracts.Row.request

pub fresh_determined : {M : Type 1} → Determines M fresh.ended (λ 𝓤. fresh.clauses {𝓤 = 𝓤})
fresh_determined = record { for_all_inputs = nothing_required; one_outcome = λ i x y. together i (answer refl) }

pub at_determined : {M : Type 1} → Determines M at.ended (λ 𝓤. at.clauses {𝓤 = 𝓤})
at_determined = record { for_all_inputs = nothing_required; one_outcome = λ i x y. together i (answer refl) }

pub call_determined : {M : Type 1} → Determines M call.ended (λ 𝓤. call.clauses {𝓤 = 𝓤})
call_determined = record { for_all_inputs = nothing_required; one_outcome = λ i x y. together i (first_alone refl) }

pub calling_determined : {M : Type 1} → Determines M calling.ended (λ 𝓤. calling.clauses {𝓤 = 𝓤})
calling_determined = record { for_all_inputs = nothing_required; one_outcome = λ i x y. together i (answer refl) }

pub push_enqueue_determined : {M : Type 1} → Determines M push-enqueue.ended (λ 𝓤. push-enqueue.clauses {𝓤 = 𝓤})
push_enqueue_determined = record { for_all_inputs = nothing_required; one_outcome = λ i x y. together i (first_alone refl) }

pub with_enqueue_determined : {M : Type 1} → Determines M with-enqueue.ended (λ 𝓤. with-enqueue.clauses {𝓤 = 𝓤})
with_enqueue_determined = record { for_all_inputs = nothing_required; one_outcome = λ i x y. together i (answer refl) }

pub push_dequeue_determined : {M : Type 1} → Determines M push-dequeue.ended (λ 𝓤. push-dequeue.clauses {𝓤 = 𝓤})
push_dequeue_determined = record { for_all_inputs = nothing_required; one_outcome = λ i x y. together i (first_alone refl) }

pub with_dequeue_determined : {M : Type 1} → Determines M with-dequeue.ended (λ 𝓤. with-dequeue.clauses {𝓤 = 𝓤})
with_dequeue_determined = record { for_all_inputs = nothing_required; one_outcome = λ i x y. together i (answer refl) }

pub clear_determined : {M : Type 1} → Determines M clear.ended (λ 𝓤. clear.clauses {𝓤 = 𝓤})
clear_determined = record { for_all_inputs = nothing_required; one_outcome = λ i x y. together i (first_alone refl) }

pub cleared_determined : {M : Type 1} → Determines M cleared.ended (λ 𝓤. cleared.clauses {𝓤 = 𝓤})
cleared_determined = record { for_all_inputs = nothing_required; one_outcome = λ i x y. together i (answer refl) }

pub request_determined : {M : Type 1} → Determines M request.ended (λ 𝓤. request.clauses {𝓤 = 𝓤})
request_determined = record { for_all_inputs = nothing_required; one_outcome = λ i x y. together i (answer refl) }
