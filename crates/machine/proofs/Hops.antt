-- A step as the code takes it, part by part, is the step of the definition: the cells that the access reaches are taken out, the access is made
-- on them and they are put back (memory's `performs`), then the thread's row moves on.
use Rattle.std.proofs.Common.{◌≡◌, ℕ, set, sym, ap}
use Rattle.access.specs.declared.Access.{Access}
use Rattle.memory.specs.declared.Hit.{Hit}
use Rattle.memory.specs.Memory.{Performed}
use Rattle.access.specs.Reach.{node_of, announcement_of}
use Rattle.memory.specs.Made.{on, reached}
use Rattle.memory.proofs.Performs.{performs}
use Rattle.place.specs.declared.After.{After}
use Rattle.place.specs.Place.{place_after}
use Rattle.thread.specs.Calls.{access, after}
use Rattle.row.specs.Row.{placed}
use Rattle.machine.specs.declared.Machine.{Machine}
use Rattle.machine.specs.State.{memory_of, row_at}
use Rattle.machine.specs.Steps.{Hop, hop, moved, goes, request_of}

-- what a step makes of an access that was made
with : Machine → ℕ → Performed → Hop
with m i x = moved m i (row_at m i) x (goes m (row_at m i) x)

-- the code's values: the access, what it hits, how the call goes on
abbrev access_of : Machine → ℕ → Access
access_of m i = access (row_at m i).place (request_of m (row_at m i))

abbrev hit_of : Machine → ℕ → Hit
hit_of m i = on (access_of m i) (reached (memory_of m) (access_of m i))

abbrev after_of : Machine → ℕ → After
after_of m i = after (row_at m i).place (hit_of m i).found (request_of m (row_at m i)) (row_at m i).tally.dequeues

pub hop_made : (m : Machine) (i : ℕ) → hop m i ≡ record {
  machine = record {
    ends = (hit_of m i).cells.ends;
    links = set m.links (node_of (access_of m i)) (hit_of m i).cells.link;
    announcements = set m.announcements (announcement_of (access_of m i)) (hit_of m i).cells.announcement;
    items = m.items;
    futures = m.futures;
    rows = set m.rows i (placed (row_at m i) (place_after (after_of m i)));
    threads = m.threads;
    nodes = m.nodes;
    used = m.used;
  };
  after = after_of m i;
}
unfolding hop with
hop_made m i = sym (ap (with m i) (performs (memory_of m) (access_of m i)))
