-- 01, "What the contracts have to say": for all inputs the contract of each public function of the crate determines its outcome.
use Rattle.std.proofs.Common.{refl}
use Rattle.contracts.specs.Determined.{Determines}
use Rattle.contracts.proofs.Told.{nothing_required, together, together_three, answer, answer_and_third, answer_first_and_third}
use Rattle.listing.specs.contracts.Opened.of as opened_of
use Rattle.listing.specs.contracts.Listing.of
use Rattle.listing.specs.contracts.Listing.tell
use Rattle.listing.specs.contracts.Listing.lines

pub opened_of_determined : {M : Type 1} → Determines M opened_of.ended (λ 𝓤. opened_of.clauses {𝓤 = 𝓤})
opened_of_determined = record { for_all_inputs = nothing_required; one_outcome = λ i x y. together i (answer refl) }

pub of_determined : {M : Type 1} → Determines M of.ended (λ 𝓤. of.clauses {𝓤 = 𝓤})
of_determined = record { for_all_inputs = nothing_required; one_outcome = λ i x y. together i (answer refl) }

pub tell_determined : {M : Type 1} → Determines M tell.ended (λ 𝓤. tell.clauses {𝓤 = 𝓤})
tell_determined = record { for_all_inputs = nothing_required; one_outcome = λ i x y. together_three i (answer_first_and_third refl) }

pub lines_determined : {M : Type 1} → Determines M lines.ended (λ 𝓤. lines.clauses {𝓤 = 𝓤})
lines_determined = record { for_all_inputs = nothing_required; one_outcome = λ i x y. together i (answer_and_third refl) }
