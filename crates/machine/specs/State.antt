-- 01, "What the machine is": the machine's parts, and the fresh machine.
use Rattle.std.specs.Prelude.{ℕ, ◌%◌, List, replicate, slice_index_or, slice_set, None}
use Rattle.cells.specs.declared.Ends.{Ends}
use Rattle.cells.specs.declared.Head.TheVariants.{Plain}
use Rattle.memory.specs.Memory.{Memory, no_announcement}
use Rattle.cells.specs.Ends.{no_front, no_tail}
use Rattle.row.specs.declared.Row.{Row}
use Rattle.row.specs.Row.{fresh_row, no_row}
use Rattle.answer.specs.declared.Item.{Item}
use Rattle.answer.specs.declared.Future.{Future}
use Rattle.answer.specs.declared.Operation.TheVariants.{Dequeue}
use Rattle.machine.specs.declared.Machine.{Machine}

abbrev pub no_item : Item
no_item = record { value = 0 }

abbrev pub no_future : Future
no_future = record { owner = 0; operation = Dequeue; outcome = None }

abbrev pub ends_at_the_dummy : Ends
ends_at_the_dummy = record { head = Plain no_front; tail = no_tail }

-- a fresh machine has one dummy node, number 0, at which head and tail point, both counts zero; every thread is idle and has nothing pending
abbrev pub fresh_machine : ℕ → ℕ → Machine
fresh_machine threads nodes = record {
  ends = ends_at_the_dummy;
  links = replicate 512 None;
  announcements = replicate 64 no_announcement;
  items = replicate 512 no_item;
  futures = replicate 512 no_future;
  rows = replicate 8 fresh_row;
  threads = threads;
  nodes = nodes;
  used = record { nodes = 1; futures = 0; announcements = 0 };
}

-- the cells that steps access
abbrev pub memory_of : Machine → Memory
memory_of m = record { ends = m.ends; links = m.links; announcements = m.announcements }

abbrev pub with_memory : Machine → Memory → Machine
with_memory m x = record {
  ends = x.ends;
  links = x.links;
  announcements = x.announcements;
  items = m.items;
  futures = m.futures;
  rows = m.rows;
  threads = m.threads;
  nodes = m.nodes;
  used = m.used;
}

-- a thread's row; its place among the rows is its number
abbrev pub row_at : Machine → ℕ → Row
row_at m i = slice_index_or m.rows i no_row

-- the item of a node, among some or of a machine, and a future, by their numbers; the remainders make it total
abbrev pub item_in : List Item → ℕ → Item
item_in items n = slice_index_or items (n % 512) no_item

abbrev pub item_at : Machine → ℕ → Item
item_at m n = item_in m.items n

abbrev pub future_at : Machine → ℕ → Future
future_at m f = slice_index_or m.futures (f % 512) no_future

abbrev pub with_row : Machine → ℕ → Row → Machine
with_row m i r = record {
  ends = m.ends;
  links = m.links;
  announcements = m.announcements;
  items = m.items;
  futures = m.futures;
  rows = slice_set m.rows i r;
  threads = m.threads;
  nodes = m.nodes;
  used = m.used;
}

abbrev pub with_futures : Machine → List Future → Machine
with_futures m fs = record {
  ends = m.ends;
  links = m.links;
  announcements = m.announcements;
  items = m.items;
  futures = fs;
  rows = m.rows;
  threads = m.threads;
  nodes = m.nodes;
  used = m.used;
}
