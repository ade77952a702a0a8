-- The tally of a list of calls, and how it is kept up call by call. 01, end of "Entries"; 002, section 5.2.1.
use Rattle.std.specs.Prelude.{ℕ, ◌+◌, ◌-◌, ◌%◌, ◌^◌, max, List, [], ◌∷◌}
use Rattle.tally.specs.declared.Tally.{Tally}
use Rattle.tally.specs.Fifo.{Call, enqueue, dequeue}
use Rattle.tally.specs.Excess.{enqueues, dequeues, excess}

-- what the three numbers mean
abbrev pub tally_of : {A : Type 0} → List (Call A) → Tally
tally_of cs = record { enqueues = enqueues cs; dequeues = dequeues cs; excess = excess cs }

abbrev pub nothing_pending : Tally
nothing_pending = record { enqueues = 0; dequeues = 0; excess = 0 }

-- a counter of 32 bits goes up by one
abbrev pub up : ℕ → ℕ
up n = (n + 1) % 2 ^ 32

-- one more call behind the others
abbrev pub with_enqueue : Tally → Tally
with_enqueue t = record { enqueues = up t.enqueues; dequeues = t.dequeues; excess = t.excess }

abbrev pub with_dequeue : Tally → Tally
with_dequeue t = record { enqueues = t.enqueues; dequeues = up t.dequeues; excess = max t.excess (up t.dequeues - t.enqueues) }

abbrev pub with : {A : Type 0} → Tally → Call A → Tally
with t (enqueue v) = with_enqueue t
with t dequeue = with_dequeue t

-- the counters, kept up call by call
unfoldable pub kept_up : {A : Type 0} → Tally → List (Call A) → Tally
kept_up t [] = t
kept_up t (c ∷ cs) = kept_up (with t c) cs

-- 01, "At a6 and a7": dequeues less (excess less z where excess is above z, else 0)
abbrev pub successful_on : Tally → ℕ → ℕ
successful_on t z = t.dequeues - (t.excess - z)
