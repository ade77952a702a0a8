-- `line::text::Text::fields` meets its contract: item by item.
use Rattle.std.proofs.Common.{◌≡◌, ◌+◌, ◌*◌, ◌≤◌, ◌++◌, length, take}
use Rattle.line.specs.Text.{fields}
use Rattle.line.proofs.text.Text.fields.Given as goal

abbrev pub invariant-loop-item : goal.invariant-loop-item
invariant-loop-item g l =
    (l.self.so_far.bytes ≡ l.initial.self.so_far.bytes ++ fields (take l.item-index l.items))
    × (length l.self.so_far.bytes ≤ length l.initial.self.so_far.bytes + 11 * l.item-index)
