-- `line::text::Text::fields` meets its contract: the next item's field stands behind those so far.
use Rattle.std.proofs.Common.{ℕ, List, ◌++◌, take, sym, ap, ◌∙◌, append_assoc, arith}
use lib.ListN.{get_or}
use Rattle.line.specs.Text.{field, fields}
use Rattle.line.proofs.Items.{one_field_more}
use Rattle.line.proofs.text.Text.fields.Goals as goal

pub loop-item-preserved : goal.loop-item-preserved
loop-item-preserved g c =
    let start = c.args.self.now.so_far.bytes in
    let items = c.args.items.now in
    let i = c.loop-item.item-index in (
      c.field.ensures.text ∙ ap (λ (l : List ℕ). l ++ field (get_or items i 0)) c.loop-item.invariant.0
          ∙ append_assoc start (fields (take i items)) (field (get_or items i 0))
          ∙ ap (λ (l : List ℕ). start ++ l) (sym (one_field_more items i (omega (arith, c.loop-item-test.true)))),
      omega (arith, c.field.ensures.few, c.loop-item.invariant.1),
    )
