-- A turn of the loop is a turn of the definition (`pair_turn`).
use Rattle.std.proofs.Common.{◌<◌, ℕ, ◌%◌, ap, ◌∙◌, arith, slice_set, slice_index_or, Some}
use Rattle.pairing.specs.declared.Around.{Around}
use Rattle.pairing.specs.Pairing.{pay}
use Rattle.answer.specs.declared.Future.{Future}
use Rattle.machine.specs.declared.Machine.{Machine}
use Rattle.machine.specs.State.{row_at, with_futures, no_future}
use Rattle.machine.specs.Pairing.{done, pairing}
use Rattle.machine.proofs.Pairs.{pair_turn, paired, pending_at}
use Rattle.machine.proofs.Machine.pair.Goals as goal

pub loop-pending-preserved : goal.loop-pending-preserved
loop-pending-preserved c =
    let l = c.loop-pending in
    let row = row_at c.args.self.now c.args.at.number in
    let f = c.from-future.result in
    let x : Future = slice_index_or l.self.futures f no_future in
    let here : l.pending-index < row.count % 33 = omega (arith, c.loop-pending-test.true, l.invariant.all) in
    record {
      all = l.invariant.all;
      same = ap (λ (m : Machine). with_futures m (slice_set l.self.futures f (done x (Some c.pay-paid.result.result)))) l.invariant.same;
      rest = pair_turn c.args.self.now l.self row.last row.pending (row.count % 33) l.pending-index f l.cursor here
          (c.from-future.ensures ∙ ap (λ (n : ℕ). n % 512) (pending_at row.pending row.count l.pending-index here)) l.invariant.same l.invariant.rest
          (c.pay-paid.ensures ∙ ap (λ (a : Around). pay l.cursor.at l.cursor.supply x.operation a) c.around-around.ensures);
    }

pub returns : goal.returns
unfolding pairing
returns c =
    let l = c.loop-pending in
    let row = row_at c.args.self.now c.args.at.number in
    paired c.args.self.now l.self row.last row.pending (row.count % 33) l.pending-index l.cursor (omega (arith, c.loop-pending-test.false, l.auto.pending-index-end, l.invariant.all)) l.invariant.same l.invariant.rest
