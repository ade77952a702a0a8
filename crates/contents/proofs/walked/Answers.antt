-- `contents::walked` meets its contract: a turn takes the first link of the walk that is left.
use Rattle.std.proofs.Common.{◌≡◌, ◌+◌, ◌-◌, sym, ap₂, ◌∙◌, arith}
use Rattle.contents.specs.Contents.{walked}
use Rattle.contents.proofs.Chains.{walk_first}
use Rattle.contents.proofs.walked.Goals as goal

pub loop-step-preserved : goal.loop-step-preserved
loop-step-preserved c =
    let l = c.loop-step in
    let links = c.args.links.now in
    let less : c.args.many - (l._step + 1) ≡ c.args.many - l._step - 1 = omega arith in
    ap₂ (walked links) c.node_behind-at.ensures less ∙ (sym (walk_first links l.at (c.args.many - l._step) (omega (arith, c.loop-step-test.true))) ∙ l.invariant)
