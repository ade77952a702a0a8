-- `contents::length_after` meets its contract: the nodes counted and those still behind are all.
use Rattle.std.proofs.Common.{◌≡◌, length, ℕ, suc, ◌+◌, ◌-◌, ap, ◌∙◌, arith}
use Rattle.contents.specs.Contents.{chain_after}
use Rattle.contents.proofs.Chains.{chain_none, chain_to}
use Rattle.contents.proofs.length_after.Goals as goal

pub returns-in-None : goal.returns-in-None
returns-in-None c =
    let l = c.loop-count in
    omega (arith, l.invariant, ap length (chain_none c.args.links.now (512 - l.count) l.at c.in-None.is))

pub loop-count-preserved : goal.loop-count-preserved
loop-count-preserved c =
    let l = c.loop-count in
    let links = c.args.links.now in
    let one : 512 - l.count ≡ suc (512 - (l.count + 1)) = omega (arith, c.loop-count-test.true) in
    let more = ap (λ (n : ℕ). chain_after n links l.at) one ∙ chain_to links (512 - (l.count + 1)) l.at _ c.in-Some.is in
    omega (arith, l.invariant, ap length more)

pub returns : goal.returns
unfolding chain_after
returns c =
    let l = c.loop-count in
    let none : 512 - l.count ≡ 0 = omega (arith, c.loop-count-test.false) in
    omega (arith, l.invariant, l.auto.count-end, c.loop-count-test.false, ap (λ (n : ℕ). length (chain_after n c.args.links.now l.at)) none)
