-- `listing::Listing::tell` meets its contract: line by line, as `Blocks` has it.
use Rattle.std.proofs.Common.{◌≡◌, suc, ◌+◌, ◌-◌, ◌/◌, length, refl, arith}
use Rattle.listing.proofs.Blocks.{goes_on, stops, ends}
use Rattle.listing.proofs.Telling.{next_line_few, next_counts, next_holds}
use Rattle.listing.proofs.Listing.tell.Goals as goal

pub returns-then-not-self : goal.returns-then-not-self
returns-then-not-self c =
    let block = rw c.counted-input.ensures at (ends (stops c.loop-told.invariant c.if-not-self.true) refl) in
    record { count = block.0; listing = block.1.0; buffer = block.1.1 }

pub put-requires : goal.put-requires
put-requires c =
    let input = c.counted-input.result.now in
    let l = c.loop-told in
    let e = c.next-line.ensures.line in
    ((next_holds input l.self e).1, omega (arith, l.invariant.room, c.loop-told-test.true, next_counts input l.self e, next_line_few input l.self))

pub overflow_add-at : goal.overflow_add-at
overflow_add-at c =
    let l = c.loop-told in
    let n = length c.args.out.now / 64 in
    let one : n - l._told ≡ suc (n - (l._told + 1)) = omega (arith, c.loop-told-test.true) in
    let next = goes_on l.invariant one c.if-not-self.false c.next-line.ensures.line c.next-line.ensures.listing c.put.ensures in
    record { fits = omega (arith, next.room, next.length_kept, c.well_formed) }

pub loop-told-preserved : goal.loop-told-preserved
loop-told-preserved c =
    let l = c.loop-told in
    let n = length c.args.out.now / 64 in
    let one : n - l._told ≡ suc (n - (l._told + 1)) = omega (arith, c.loop-told-test.true) in
    goes_on l.invariant one c.if-not-self.false c.next-line.ensures.line c.next-line.ensures.listing c.put.ensures

pub returns : goal.returns
returns c =
    let l = c.loop-told in
    let block = rw c.counted-input.ensures at (ends l.invariant (omega (arith, c.loop-told-test.false))) in
    record { count = block.0; listing = block.1.0; buffer = block.1.1 }
