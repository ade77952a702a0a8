-- The two ends of the queue, each a node with a count beside it, and when a CAS of one is taken: node and count are both the same.
use Rattle.std.specs.Prelude.{ℕ, ◌+◌, ◌%◌, ◌^◌, Bool, false, ◌&&◌, ◌==◌}
use Rattle.cells.specs.declared.Tail.{Tail}
use Rattle.cells.specs.declared.Front.{Front}
use Rattle.cells.specs.declared.Head.{Head}
use Rattle.cells.specs.declared.Head.TheVariants.{Plain, Announced}

-- a count of 32 bits goes up; no chain is long enough for it to wrap
abbrev pub up : ℕ → ℕ → ℕ
up n by = (n + by) % 2 ^ 32

abbrev pub past_tail : Tail → ℕ → ℕ → Tail
past_tail t node by = record { node = node; count = record { 0 = up t.count.0 by } }

abbrev pub past_front : Front → ℕ → ℕ → Front
past_front f node by = record { node = node; count = record { 0 = up f.count.0 by } }

abbrev pub same_tail : Tail → Tail → Bool
same_tail a b = a.node == b.node && a.count.0 == b.count.0

abbrev pub same_front : Front → Front → Bool
same_front a b = a.node == b.node && a.count.0 == b.count.0

abbrev pub same_head : Head → Head → Bool
same_head (Plain a) (Plain b) = same_front a b
same_head (Plain a) (Announced b) = false
same_head (Announced a) (Plain b) = false
same_head (Announced a) (Announced b) = a == b

-- a head and a tail of no meaning, where none was set or read
abbrev pub no_front : Front
no_front = record { node = 0; count = record { 0 = 0 } }

abbrev pub no_tail : Tail
no_tail = record { node = 0; count = record { 0 = 0 } }
