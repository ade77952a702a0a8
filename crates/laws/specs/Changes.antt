-- What a step may change. 01, "Steps": one step is one access.
use Rattle.std.specs.Prelude.{ℕ, ◌%◌, ◌<◌, ◌≡◌, get_or}
use Rattle.cells.specs.declared.Tail.{Tail}
use Rattle.cells.specs.declared.Head.{Head}
use Rattle.cells.specs.Links.{Link, OldTail}
use Rattle.access.specs.declared.Access.{Access}
use Rattle.access.specs.declared.Access.TheVariants.{ReadHead, ReadTail, ReadLink, ReadOldTail, CasLink, CasTail, CasHead, WriteOldTail, Announce}
use Rattle.memory.specs.Memory.{Memory, with_head, with_tail, with_link, with_announcement, announcement_at, laid_over}
use Rattle.row.specs.declared.Row.{Row}
use Rattle.thread.specs.Calls.{access}
use Rattle.machine.specs.declared.Machine.{Machine}
use Rattle.machine.specs.State.{memory_of, row_at, no_future}
use Rattle.machine.specs.Steps.{request_of}

-- memory n is memory m but for the one cell of an access; b2's writes the own announcement's old head as well
abbrev pub Touches : Access → Memory → Memory → Type 0
Touches ReadHead m n = n ≡ m
Touches ReadTail m n = n ≡ m
Touches (ReadLink x) m n = n ≡ m
Touches (ReadOldTail a) m n = n ≡ m
Touches (CasLink x to) m n = (l : Link) × (n ≡ with_link m x l)
Touches (CasTail was to) m n = (t : Tail) × (n ≡ with_tail m t)
Touches (CasHead was to) m n = (h : Head) × (n ≡ with_head m h)
Touches (WriteOldTail a t) m n = (o : OldTail) × (n ≡ with_announcement m a (record { request = (announcement_at m.announcements a).request; old_tail = o }))
Touches (Announce a f) m n = (h : Head) × (n ≡ with_head (with_announcement m a (laid_over (announcement_at m.announcements a) f)) h)

-- f is the future of one of the pending calls of a row
abbrev pub Pending : Row → ℕ → Type 0
Pending r f = (k : ℕ) × (k < r.count % 33) × (get_or r.pending (k % 32) 0 % 512 ≡ f)

-- machine n is machine m after a step of the thread whose row is i
pub record Stepped (m : Machine) (i : ℕ) (n : Machine) : Type 0 where
  -- at most the one cell of its access
  pub memory : Touches (access (row_at m i).place (request_of m (row_at m i))) (memory_of m) (memory_of n)
  -- its own thread's row
  pub rows : (j : ℕ) → (j ≡ i → ⊥) → row_at n j ≡ row_at m j
  -- the futures of its batch, where it ends one
  pub futures : (f : ℕ) → (Pending (row_at m i) f → ⊥) → get_or n.futures f no_future ≡ get_or m.futures f no_future
  -- and nothing else
  pub items : n.items ≡ m.items
  pub threads : n.threads ≡ m.threads
  pub nodes : n.nodes ≡ m.nodes
  pub used : n.used ≡ m.used
