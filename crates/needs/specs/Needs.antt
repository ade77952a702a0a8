-- 01, "Entries" and "Refusal numbers", 4 to 7: what an entry needs, and when it is not left.
use Rattle.std.specs.Prelude.{ℕ, Bool, true, false, not, cond, ◌&&◌, eqb, leb, Err}
use Rattle.refusal.specs.declared.Refusal.{Refusal}
use Rattle.refusal.specs.declared.Refusal.TheVariants.{NoNode, NoFuture, NoPendingPlace, NoAnnouncement}
use Rattle.row.specs.declared.Row.{Row}
use Rattle.entry.specs.declared.Entry.{Entry}
use Rattle.entry.specs.declared.Entry.TheVariants.{Enqueue, Dequeue, FutureEnqueue, FutureDequeue, Evaluate, Step, Run}
use Rattle.next.specs.declared.Used.{Used}
use Rattle.needs.specs.declared.Needs.{Needs}
use Rattle.refusal.specs.Verdicts.{Verdict, accepted}

-- needed and none is left
abbrev pub short : Bool → ℕ → ℕ → Bool
short needed used all = needed && leb all used

-- and so refused
abbrev pub left : Bool → ℕ → ℕ → Refusal → Verdict
left needed used all r = cond (short needed used all) (Err r) accepted

-- 4: a node is needed and none is left. 5: a future. 6: a pending place is needed and t has 32. 7: an announcement.
abbrev pub lacking : Needs → Used → ℕ → ℕ → Verdict
lacking n u nodes pending =
    cond (short n.node u.nodes nodes) (Err NoNode)
    (cond (short n.future u.futures 512) (Err NoFuture)
    (cond (short n.future pending 32) (Err NoPendingPlace)
    (cond (short n.announcement u.announcements 64) (Err NoAnnouncement)
    accepted)))

abbrev pub some : ℕ → Bool
some n = not (eqb n 0)

-- Enqueue with nothing pending needs a node only; with pending calls it first adds itself as a deferred call, and sets off a batch with an enqueue
abbrev pub enqueue_needs : Row → Needs
enqueue_needs r = record { node = true; future = some r.count; announcement = some r.count }

-- Dequeue with nothing pending needs nothing; with pending calls a future and a place, and an announcement where an enqueue is pending
abbrev pub dequeue_needs : Row → Needs
dequeue_needs r = record { node = false; future = some r.count; announcement = some r.tally.enqueues }

-- a deferred call needs a future and a pending place, and a node where it is an enqueue
abbrev pub deferred_needs : Bool → Needs
deferred_needs enqueue = record { node = enqueue; future = true; announcement = false }

abbrev pub future_enqueue_needs : Needs
future_enqueue_needs = deferred_needs true

abbrev pub future_dequeue_needs : Needs
future_dequeue_needs = deferred_needs false

-- Evaluate of a future that is not done sets off the batch
abbrev pub evaluate_needs : Row → Needs
evaluate_needs r = record { node = false; future = false; announcement = some r.tally.enqueues }

-- Step and Run need nothing
abbrev pub nothing : Needs
nothing = record { node = false; future = false; announcement = false }

-- of any entry; of Evaluate, where its future is not done
abbrev pub needs_of : Entry → Row → Needs
needs_of (Enqueue t v) r = enqueue_needs r
needs_of (Dequeue t) r = dequeue_needs r
needs_of (FutureEnqueue t v) r = future_enqueue_needs
needs_of (FutureDequeue t) r = future_dequeue_needs
needs_of (Evaluate t f) r = evaluate_needs r
needs_of (Step t) r = nothing
needs_of (Run t n) r = nothing
