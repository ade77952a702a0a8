-- `contents::write_items` meets its contract: the node reached is where as many links lead as items are written.
use Rattle.std.proofs.Common.{◌≡◌, length, take}
use Rattle.contents.specs.Contents.{walked, items_after}
use Rattle.contents.proofs.write_items.Given as goal

abbrev pub invariant-loop-place : goal.invariant-loop-place
invariant-loop-place l = record {
  room : length l.place-items ≡ length (items_after l.machine.links l.machine.items l.node);
  reached : l.at ≡ walked l.machine.links l.node l.place-index;
  written : take l.place-index l.place-items ≡ take l.place-index (items_after l.machine.links l.machine.items l.node);
}
