-- `listing::counted` meets its contract.
use Rattle.std.proofs.Common.{sym, arith, length-take-le, take_all}
use Rattle.listing.proofs.counted.Goals as goal

pub returns-then-s-le-BYTES : goal.returns-then-s-le-BYTES
returns-then-s-le-BYTES c = sym (take_all 65536 c.args.s.now c.if-s-le-BYTES.true)

pub slice_bounds-result-end : goal.slice_bounds-result-end
slice_bounds-result-end c = sym (length-take-le 65536 c.args.s.now (omega (arith, c.if-s-le-BYTES.false)))
