-- 01, "Refusal numbers", 1 to 8: when each is given. Order within an entry: 1, then 2 or 3, then 8, 4, 5, 6, 7.
use Rattle.std.specs.Prelude.{ℕ, Bool, true, not, cond, eqb, ltb, leb, None, Some, Ok, Err}
use Rattle.refusal.specs.declared.Refusal.TheVariants.{NoSuchThread, InCall, NotInCall, NotOwnFuture}
use Rattle.place.specs.declared.Place.{Place}
use Rattle.row.specs.declared.Row.{Row}
use Rattle.place.specs.Place.{idle}
use Rattle.answer.specs.Answer.{Outcome}
use Rattle.answer.specs.declared.Future.{Future}
use Rattle.entry.specs.declared.Entry.{Entry}
use Rattle.entry.specs.declared.Entry.TheVariants.{Enqueue, Dequeue, FutureEnqueue, FutureDequeue, Evaluate, Step, Run}
use Rattle.next.specs.declared.Used.{Used}
use Rattle.needs.specs.declared.Needs.{Needs}
use Rattle.needs.specs.Needs.{lacking, needs_of}
use Rattle.refusal.specs.Verdicts.{Verdict, accepted}

-- the first of two tests that refuses decides
abbrev pub first : Verdict → Verdict → Verdict
first (Ok ok) w = w
first (Err r) w = Err r

-- 1: t is not below the thread count. 2: codes 1 to 5, and t is in a call.
abbrev pub callable : ℕ → ℕ → Place → Verdict
callable t threads p = cond (leb threads t) (Err NoSuchThread) (cond (idle p) accepted (Err InCall))

-- 1. 3: codes 6, 7, and t is idle.
abbrev pub steppable : ℕ → ℕ → Place → Verdict
steppable t threads p = cond (leb threads t) (Err NoSuchThread) (cond (idle p) (Err NotInCall) accepted)

-- 8: f was not handed out, or belongs to another thread
abbrev pub foreign : ℕ → ℕ → ℕ → ℕ → Bool
foreign f owner used t = cond (ltb f used) (not (eqb owner t)) true

-- an entry that begins or defers a call: 1, 2, then 4 to 7
abbrev pub call_verdict : ℕ → ℕ → Row → Used → ℕ → Needs → Verdict
call_verdict t threads r u nodes n = first (callable t threads r.place) (lacking n u nodes r.count)

-- Evaluate: 8, then what setting off its batch lacks where the future is not done
abbrev pub waiting_verdict : Outcome → Verdict → Verdict
waiting_verdict None lack = lack
waiting_verdict (Some result) lack = accepted

abbrev pub own_verdict : ℕ → ℕ → ℕ → Future → Verdict → Verdict
own_verdict t f used x lack = cond (foreign f x.owner used t) (Err NotOwnFuture) (waiting_verdict x.outcome lack)

-- all tests of an entry: p is the place of its thread, x the future that it names, used counts the futures, lack is what the entry lacks
abbrev pub tested : Entry → ℕ → Place → ℕ → Future → Verdict → Verdict
tested (Enqueue t v) threads p used x lack = first (callable t threads p) lack
tested (Dequeue t) threads p used x lack = first (callable t threads p) lack
tested (FutureEnqueue t v) threads p used x lack = first (callable t threads p) lack
tested (FutureDequeue t) threads p used x lack = first (callable t threads p) lack
tested (Evaluate t f) threads p used x lack = first (callable t threads p) (own_verdict t f used x lack)
tested (Step t) threads p used x lack = steppable t threads p
tested (Run t n) threads p used x lack = steppable t threads p

-- whether an entry is refused, on a machine of so many threads and nodes: r is its thread's row, x the future that it names
unfoldable pub verdict : Entry → ℕ → ℕ → Used → Row → Future → Verdict
verdict e threads nodes u r x = tested e threads r.place u.futures x (lacking (needs_of e r) u nodes r.count)
