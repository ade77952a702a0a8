-- 01, "What the machine is": nodes, futures and announcements are handed out in number order, by the entry that makes or starts the call, and each is used once.
use Rattle.std.specs.Prelude.{ℕ, slice_set, None}
use Rattle.tally.specs.Tally.{up}
use Rattle.cells.specs.declared.Request.{Request}
use Rattle.answer.specs.declared.Item.{Item}
use Rattle.answer.specs.declared.Operation.{Operation}
use Rattle.next.specs.Next.{next_node, next_future, next_announcement}
use Rattle.machine.specs.declared.Machine.{Machine}

-- a node holds its item and no link
abbrev pub hand_out_node : Machine → Item → Machine
hand_out_node m v = record {
  ends = m.ends;
  links = slice_set m.links (next_node m.used) None;
  announcements = m.announcements;
  items = slice_set m.items (next_node m.used) v;
  futures = m.futures;
  rows = m.rows;
  threads = m.threads;
  nodes = m.nodes;
  used = record { nodes = up m.used.nodes; futures = m.used.futures; announcements = m.used.announcements };
}

-- a future belongs to a thread and waits for its result
abbrev pub hand_out_future : Machine → ℕ → Operation → Machine
hand_out_future m owner operation = record {
  ends = m.ends;
  links = m.links;
  announcements = m.announcements;
  items = m.items;
  futures = slice_set m.futures (next_future m.used) (record { owner = owner; operation = operation; outcome = None });
  rows = m.rows;
  threads = m.threads;
  nodes = m.nodes;
  used = record { nodes = m.used.nodes; futures = up m.used.futures; announcements = m.used.announcements };
}

-- an announcement has its request and no old tail yet
abbrev pub hand_out_announcement : Machine → Request → Machine
hand_out_announcement m k = record {
  ends = m.ends;
  links = m.links;
  announcements = slice_set m.announcements (next_announcement m.used) (record { request = k; old_tail = None });
  items = m.items;
  futures = m.futures;
  rows = m.rows;
  threads = m.threads;
  nodes = m.nodes;
  used = record { nodes = m.used.nodes; futures = m.used.futures; announcements = up m.used.announcements };
}
