-- A turn is one hop, and the run ends with the call or with the last step that is asked for.
use Rattle.std.proofs.Common.{sym, ◌∙◌}
use Rattle.machine.proofs.Runs.{stops, goes_on_lem, ends}
use Rattle.machine.proofs.Machine.hops.Goals as goal

pub returns-then-not-goes_on : goal.returns-then-not-goes_on
returns-then-not-goes_on c =
    let l = c.loop-taken in
    let hop = c.hop-after.ensures in
    ends l.taken c.args.most l.self c.args.at.number _ l.invariant c.loop-taken-test.true hop.machine hop.after (sym c.goes_on.ensures ∙ c.if-not-goes_on.true)

pub loop-taken-preserved : goal.loop-taken-preserved
loop-taken-preserved c =
    let l = c.loop-taken in
    let hop = c.hop-after.ensures in
    goes_on_lem l.taken c.args.most l.self c.args.at.number _ l.invariant c.loop-taken-test.true hop.machine hop.after (sym c.goes_on.ensures ∙ c.if-not-goes_on.false)

pub returns : goal.returns
returns c =
    let l = c.loop-taken in
    stops l.taken c.args.most l.self c.args.at.number _ l.invariant c.loop-taken-test.false l.auto.taken-end
