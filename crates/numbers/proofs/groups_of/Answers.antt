use Rattle.std.proofs.Common.{◌≡◌, ◌-◌, ℕ, ◌/◌, List, length, sym, arith, ◌∙◌}
use mathlib.Core.Path.{subst₂}
use lib.ListN.{length-append}
use Rattle.numbers.proofs.WrittenGroups.{Remaining, all_remain, another_may_follow, one_written, last_written}
use Rattle.numbers.proofs.groups_of.Goals as goal

pub loop-rest-init : goal.loop-rest-init
loop-rest-init c = rw c.new-groups.ensures (omega arith, all_remain _ c.ranges.n.fits)

pub loop-rest-smaller : goal.loop-rest-smaller
loop-rest-smaller c =
    omega (arith, another_may_follow c.loop-rest.invariant.1 c.loop-rest-test.true, c.push.ensures.len)

pub loop-rest-preserved : goal.loop-rest-preserved
loop-rest-preserved c =
    let l = c.loop-rest in
    let more = another_may_follow l.invariant.1 c.loop-rest-test.true in
    let one_more : 4 - length l.groups.items - 1 ≡ 4 - length c.push.new.self.items = omega (arith, c.push.ensures.len) in (
      omega (arith, more, c.push.ensures.len),
      subst₂ (λ (done : List ℕ) (k : ℕ). Remaining c.args.n done (l.rest / 128) k) (sym c.push.ensures.items) one_more
          (one_written l.invariant.1 c.loop-rest-test.true),
    )

pub returns : goal.returns
returns c = c.push-2.ensures.items ∙ last_written c.loop-rest.invariant.1 c.loop-rest-test.false
