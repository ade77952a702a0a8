-- No two refusals share a number, so a number in a listing says which row of 01's table it is.
-- The table read back: the refusal of a number, which undoes `number_of`.
use Prim.Native.Nat.{ℕ, ◌-◌}
use mathlib.Core.Path.{◌≡◌, refl, sym, ap, ◌∙◌}
use mathlib.Core.List.{List, [], ◌∷◌}
use lib.ListN.{get_or}
use Rattle.refusal.specs.Numbers.{number_of}
use Rattle.refusal.specs.declared.Refusal.{Refusal}
use Rattle.refusal.specs.declared.Refusal.TheVariants.{NoSuchThread, InCall, NotInCall, NoNode, NoFuture, NoPendingPlace, NoAnnouncement, NotOwnFuture, SetupOutOfRange, CutShort, TooLong, NoSuchCode, NoRoom}

refusals : List Refusal
refusals =
    NoSuchThread
    ∷ InCall
    ∷ NotInCall
    ∷ NoNode
    ∷ NoFuture
    ∷ NoPendingPlace
    ∷ NoAnnouncement
    ∷ NotOwnFuture
    ∷ SetupOutOfRange
    ∷ CutShort
    ∷ TooLong
    ∷ NoSuchCode
    ∷ NoRoom
    ∷ []

refusal_of : ℕ → Refusal
refusal_of n = get_or refusals (n - 1) NoRoom

refusal_of_number : (a : Refusal) → refusal_of (number_of a) ≡ a
unfolding refusal_of refusals
refusal_of_number NoSuchThread = refl
refusal_of_number InCall = refl
refusal_of_number NotInCall = refl
refusal_of_number NoNode = refl
refusal_of_number NoFuture = refl
refusal_of_number NoPendingPlace = refl
refusal_of_number NoAnnouncement = refl
refusal_of_number NotOwnFuture = refl
refusal_of_number SetupOutOfRange = refl
refusal_of_number CutShort = refl
refusal_of_number TooLong = refl
refusal_of_number NoSuchCode = refl
refusal_of_number NoRoom = refl

pub one_refusal_a_number : (a b : Refusal) → number_of a ≡ number_of b → a ≡ b
one_refusal_a_number a b e = sym (refusal_of_number a) ∙ ap refusal_of e ∙ refusal_of_number b
