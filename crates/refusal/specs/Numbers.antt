-- 01, "Refusal numbers": the table's number of each refusal.
use Rattle.std.specs.Prelude.{ℕ}
use Rattle.refusal.specs.declared.Refusal.{Refusal}
use Rattle.refusal.specs.declared.Refusal.TheVariants.{NoSuchThread, InCall, NotInCall, NoNode, NoFuture, NoPendingPlace, NoAnnouncement, NotOwnFuture, SetupOutOfRange, CutShort, TooLong, NoSuchCode, NoRoom}

abbrev pub number_of : Refusal → ℕ
number_of NoSuchThread = 1
number_of InCall = 2
number_of NotInCall = 3
number_of NoNode = 4
number_of NoFuture = 5
number_of NoPendingPlace = 6
number_of NoAnnouncement = 7
number_of NotOwnFuture = 8
number_of SetupOutOfRange = 9
number_of CutShort = 10
number_of TooLong = 11
number_of NoSuchCode = 12
number_of NoRoom = 13
