-- 01, "What the machine is": nodes, futures and announcements are handed out in number order: the number that comes next.
-- The remainders make it total: an entry that needs one that is not left is refused before.
use Rattle.std.specs.Prelude.{ℕ, ◌%◌}
use Rattle.next.specs.declared.Used.{Used}

abbrev pub next_node : Used → ℕ
next_node u = u.nodes % 512

abbrev pub next_future : Used → ℕ
next_future u = u.futures % 512

abbrev pub next_announcement : Used → ℕ
next_announcement u = u.announcements % 64
