-- `contents::length_after` meets its contract: the nodes counted and those still behind are all.
use Rattle.std.proofs.Common.{◌-◌, ◌≡◌, length, ◌+◌}
use Rattle.contents.specs.Contents.{chain_after}
use Rattle.contents.proofs.length_after.Given as goal

abbrev pub invariant-loop-count : goal.invariant-loop-count
invariant-loop-count l = l.count + length (chain_after (512 - l.count) l.links l.at) ≡ length (chain_after 512 l.links l.node)
