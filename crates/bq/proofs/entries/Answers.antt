-- `bq::entries` meets its contract: block by block, and then the last line.
use Rattle.std.proofs.Common.{◌≡◌, length, subst, arith, length-take}
use Rattle.std.specs.Io.KnownBytes.{Appends}
use Rattle.listing.specs.Listing.{counted}
use Rattle.bq.proofs.Writing.{none_yet, block_held, block_told, one_block_more, all_told, enough_blocks, on_ok}
use Rattle.bq.proofs.entries.Goals as goal
use Rattle.bq.proofs.entries.Goals.{else-loop-round-test, then-loop-round-test+then-not-listing}

pub loop-round-init : goal.loop-round-init
loop-round-init g c = none_yet (counted c.args.s.now) c.args.listing.now (g.W.Write.contents c.args.out.now)

pub slice_bounds-block-end : goal.slice_bounds-block-end
slice_bounds-block-end g c =
    let l = c.loop-round in
    let long : length l.block ≡ 65536 = omega arith in
    (block_held (counted c.args.s.now) l.listing l.block long c.tell-count.ensures.count c.tell-count.ensures.buffer).0

pub slice_bounds-write_all-end : goal.slice_bounds-write_all-end
slice_bounds-write_all-end g c =
    let l = c.loop-round in
    let long : length l.block ≡ 65536 = omega arith in
    (block_held (counted c.args.s.now) l.listing l.block long c.tell-count.ensures.count c.tell-count.ensures.buffer).1

pub loop-round-preserved : goal.loop-round-preserved
loop-round-preserved g c =
    let s = counted c.args.s.now in
    let l = c.loop-round in
    let long : length l.block ≡ 65536 = omega arith in
    let held = (block_held s l.listing l.block long c.tell-count.ensures.count c.tell-count.ensures.buffer).2 in
    one_block_more l.invariant (g.W.Write.contents c.write_all.new.self) (block_told s l.listing l.block long c.tell-count.ensures.listing)
    (subst (Appends (g.W.Write.contents l.out) (g.W.Write.contents c.write_all.new.self)) held c.in_ok-write_all.ensures.bytes)

pub returns : goal.returns
returns g c =
    on_ok c.last.result
    (all_told c.loop-round.invariant (g.W.Write.contents c.last.new.out) (elim c.loop-round-test.branch [
      | else-loop-round-test w ↦ enough_blocks (omega (arith, length-take 65536 c.args.s.now)) (omega (arith, w.loop-round-test.false)) c.loop-round.invariant
      | then-loop-round-test+then-not-listing w ↦ w.if-not-listing.true
    ]))
    c.last.ensures
