-- `script::number` meets its contract: the bytes so far have been read, and the rest goes on from there.
use Rattle.std.proofs.Common.{◌≡◌, ◌≤◌, drop}
use Rattle.script.specs.Script.{number_of, number_from}
use Rattle.script.proofs.number.Given as goal

abbrev pub invariant-loop-byte : goal.invariant-loop-byte
invariant-loop-byte l = (number_of l.most l.text ≡ number_from l.most l.value (drop l.byte-index l.text)) × (l.value ≤ l.most)
