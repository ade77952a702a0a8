-- 01, "What the contracts have to say": for all inputs the contract of each public function of the crate determines its outcome.
use Rattle.std.proofs.Common.{refl}
use Rattle.contracts.specs.Determined.{Determines}
use Rattle.contracts.proofs.Told.{nothing_required, together, answer, first_alone}
use Rattle.tally.specs.contracts.Tally.none
use Rattle.tally.specs.contracts.Tally.note_enqueue as note-enqueue
use Rattle.tally.specs.contracts.Tally.note_dequeue as note-dequeue
use Rattle.tally.specs.contracts.Tally.with_enqueue as with-enqueue
use Rattle.tally.specs.contracts.Tally.with_dequeue as with-dequeue
use Rattle.tally.specs.contracts.Tally.successful
use Rattle.tally.specs.contracts.less

pub none_determined : {M : Type 1} → Determines M none.ended (λ 𝓤. none.clauses {𝓤 = 𝓤})
none_determined = record { for_all_inputs = nothing_required; one_outcome = λ i x y. together i (answer refl) }

pub note_enqueue_determined : {M : Type 1} → Determines M note-enqueue.ended (λ 𝓤. note-enqueue.clauses {𝓤 = 𝓤})
note_enqueue_determined = record { for_all_inputs = nothing_required; one_outcome = λ i x y. together i (first_alone refl) }

pub note_dequeue_determined : {M : Type 1} → Determines M note-dequeue.ended (λ 𝓤. note-dequeue.clauses {𝓤 = 𝓤})
note_dequeue_determined = record { for_all_inputs = nothing_required; one_outcome = λ i x y. together i (first_alone refl) }

pub with_enqueue_determined : {M : Type 1} → Determines M with-enqueue.ended (λ 𝓤. with-enqueue.clauses {𝓤 = 𝓤})
with_enqueue_determined = record { for_all_inputs = nothing_required; one_outcome = λ i x y. together i (answer refl) }

pub with_dequeue_determined : {M : Type 1} → Determines M with-dequeue.ended (λ 𝓤. with-dequeue.clauses {𝓤 = 𝓤})
with_dequeue_determined = record { for_all_inputs = nothing_required; one_outcome = λ i x y. together i (answer refl) }

pub successful_determined : {M : Type 1} → Determines M successful.ended (λ 𝓤. successful.clauses {𝓤 = 𝓤})
successful_determined = record { for_all_inputs = nothing_required; one_outcome = λ i x y. together i (answer refl) }

pub less_determined : {M : Type 1} → Determines M less.ended (λ 𝓤. less.clauses {𝓤 = 𝓤})
less_determined = record { for_all_inputs = nothing_required; one_outcome = λ i x y. together i (answer refl) }
