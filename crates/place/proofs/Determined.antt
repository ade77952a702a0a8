-- 01, "What the contracts have to say": for all inputs the contract of each public function of the crate determines its outcome.
use mathlib.Core.Path.{refl}
use Rattle.contracts.specs.Determined.{Determines}
use Rattle.contracts.proofs.Told.{nothing_required, together, answer, answer_and_more}
use Rattle.place.specs.contracts.Place.is_idle as is-idle
use Rattle.place.specs.contracts.Place.announcement
use Rattle.place.specs.contracts.After.place as after-place
use Rattle.place.specs.contracts.After.goes_on as after-goes-on

pub is_idle_determined : {M : Type 1} → Determines M is-idle.ended (λ 𝓤. is-idle.clauses {𝓤 = 𝓤})
is_idle_determined = record { for_all_inputs = nothing_required; one_outcome = λ i x y. together i (answer refl) }

pub announcement_determined : {M : Type 1} → Determines M announcement.ended (λ 𝓤. announcement.clauses {𝓤 = 𝓤})
announcement_determined = record { for_all_inputs = nothing_required; one_outcome = λ i x y. together i (answer_and_more refl) }

pub after_place_determined : {M : Type 1} → Determines M after-place.ended (λ 𝓤. after-place.clauses {𝓤 = 𝓤})
after_place_determined = record { for_all_inputs = nothing_required; one_outcome = λ i x y. together i (answer refl) }

pub after_goes_on_determined : {M : Type 1} → Determines M after-goes-on.ended (λ 𝓤. after-goes-on.clauses {𝓤 = 𝓤})
after_goes_on_determined = record { for_all_inputs = nothing_required; one_outcome = λ i x y. together i (answer refl) }
