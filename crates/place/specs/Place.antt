-- A thread's place: whether it is idle, the announcement that it runs, and the place that a step leaves it at.
use Rattle.std.specs.Prelude.{ℕ, ◌%◌, Bool, true, false}
use Rattle.place.specs.declared.Place.{Place}
use Rattle.place.specs.declared.Place.TheVariants.{Idle, Enqueue, Dequeue, Batch, Dequeues, Running}
use Rattle.place.specs.declared.After.{After}
use Rattle.place.specs.declared.After.TheVariants as afterwards

abbrev pub idle : Place → Bool
idle Idle = true
idle (Enqueue n s) = false
idle (Dequeue s) = false
idle (Batch own s) = false
idle (Dequeues s) = false
idle (Running a s r) = false

-- the announcement that is run, 0 where none is
abbrev pub announcement_run : Place → ℕ
announcement_run Idle = 0
announcement_run (Enqueue n s) = 0
announcement_run (Dequeue s) = 0
announcement_run (Batch own s) = 0
announcement_run (Dequeues s) = 0
announcement_run (Running a s r) = a % 64

abbrev pub place_after : After → Place
place_after (afterwards.On p) = p
place_after afterwards.Ok = Idle
place_after afterwards.Empty = Idle
place_after (afterwards.Item x) = Idle
place_after (afterwards.Pair x) = Idle
place_after (afterwards.PairDequeues x s) = Idle

abbrev pub goes_on : After → Bool
goes_on (afterwards.On p) = true
goes_on afterwards.Ok = false
goes_on afterwards.Empty = false
goes_on (afterwards.Item x) = false
goes_on (afterwards.Pair x) = false
goes_on (afterwards.PairDequeues x s) = false
