-- `contents::write_items` meets its contract: the node reached is where as many links lead as items are written, and those stand at the start.
use Rattle.std.proofs.Common.{◌≡◌, ℕ, suc, ◌+◌, refl, ap, ◌∙◌, arith, length-set}
use Rattle.memory.specs.Memory.{link_at}
use Rattle.pairing.specs.Pairing.{node_behind}
use Rattle.contents.specs.Contents.{walked}
use Rattle.contents.proofs.Chains.{walk_last, one_more_item}
use Rattle.contents.proofs.write_items.Goals as goal

pub loop-place-init : goal.loop-place-init
unfolding walked
loop-place-init c = record { room = c.requires; reached = refl; written = refl }

pub loop-place-preserved : goal.loop-place-preserved
loop-place-preserved c =
    let l = c.loop-place in
    let m = c.args.machine.now in
    let next : suc l.place-index ≡ l.place-index + 1 = omega arith in
    let there = c.node_behind-at.ensures ∙ (ap (λ (x : ℕ). node_behind (link_at m.links x) x) l.invariant.reached ∙ walk_last m.links c.args.node l.place-index) in
    record {
      room = simp length-set l.invariant.room;
      reached = there ∙ ap (walked m.links c.args.node) next;
      written = one_more_item m.links m.items c.args.node l.place-index l.place-items (omega (arith, c.loop-place-test.true, c.requires, l.invariant.room)) l.invariant.room l.invariant.written there;
    }
