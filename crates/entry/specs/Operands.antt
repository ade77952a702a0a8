-- 01, "Entries": the thread that an entry is for, and the future that Evaluate names; the others name none, told as 0.
use Rattle.std.specs.Prelude.{ℕ}
use Rattle.entry.specs.declared.Entry.{Entry}
use Rattle.entry.specs.declared.Entry.TheVariants.{Enqueue, Dequeue, FutureEnqueue, FutureDequeue, Evaluate, Step, Run}

abbrev pub thread_of : Entry → ℕ
thread_of (Enqueue t v) = t
thread_of (Dequeue t) = t
thread_of (FutureEnqueue t v) = t
thread_of (FutureDequeue t) = t
thread_of (Evaluate t f) = t
thread_of (Step t) = t
thread_of (Run t n) = t

abbrev pub future_of : Entry → ℕ
future_of (Enqueue t v) = 0
future_of (Dequeue t) = 0
future_of (FutureEnqueue t v) = 0
future_of (FutureDequeue t) = 0
future_of (Evaluate t f) = f
future_of (Step t) = 0
future_of (Run t n) = 0
