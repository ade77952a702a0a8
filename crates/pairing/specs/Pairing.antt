-- The result of one pending call: listings 6 and 8 of 002.
use Rattle.std.specs.Prelude.{ℕ, ◌-◌, Bool, true, false, cond, ◌||◌, eqb, None, Some}
use Rattle.cells.specs.Links.{Link}
use Rattle.answer.specs.declared.CallResult.{CallResult}
use Rattle.answer.specs.declared.CallResult.TheVariants as call_result
use Rattle.answer.specs.declared.Operation.{Operation}
use Rattle.answer.specs.declared.Operation.TheVariants.{Enqueue, Dequeue}
use Rattle.pairing.specs.declared.Supply.{Supply}
use Rattle.pairing.specs.declared.Supply.TheVariants.{Batch, Dequeues}
use Rattle.pairing.specs.declared.Paid.{Paid}
use Rattle.pairing.specs.declared.Around.{Around}

-- the node that a link leads to
abbrev pub node_behind : Link → ℕ → ℕ
node_behind None at = at
node_behind (Some x) at = x

abbrev pub same_link : Link → Link → Bool
same_link None None = true
same_link None (Some y) = false
same_link (Some x) None = false
same_link (Some x) (Some y) = eqb x y

abbrev pub next_of : Supply → ℕ
next_of (Batch next none_left) = node_behind next 0
next_of (Dequeues left) = 0

abbrev pub paid : CallResult → ℕ → Supply → Paid
paid r at s = record { result = r; cursor = record { at = at; supply = s } }

-- listing 6. Lines 79, 80: an enqueue moves the next enqueue's node on. Lines 82 to 85: a dequeue finds nothing where no more can succeed,
-- or the node behind the current head is the next enqueue's. Lines 87 to 90: else the current head moves on and its item is the result.
abbrev pub pay_batch : ℕ → Link → Bool → Operation → Around → Paid
pay_batch at next none_left Enqueue x = paid call_result.Ok at (Batch x.behind_next none_left)
pay_batch at next none_left Dequeue x =
    cond (none_left || same_link x.behind next)
    (paid call_result.Empty at (Batch next none_left))
    (paid (call_result.Item x.item) x.node (Batch next (eqb x.node x.last)))

-- listing 8. Lines 110 to 114: while some are left to succeed the current head moves on and its item is the result. Lines 115 to 118: the rest find nothing.
abbrev pub pay_dequeues : ℕ → ℕ → Around → Paid
pay_dequeues at left x =
    cond (eqb left 0)
    (paid call_result.Empty at (Dequeues left))
    (paid (call_result.Item x.item) x.node (Dequeues (left - 1)))

abbrev pub pay : ℕ → Supply → Operation → Around → Paid
pay at (Batch next none_left) operation x = pay_batch at next none_left operation x
pay at (Dequeues left) operation x = pay_dequeues at left x
