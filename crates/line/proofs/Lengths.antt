-- How long lines are: the first and an entry's have room in 64 bytes, and that of what the queue holds in 11 bytes for each item and six more.
use Prim.Native.Nat.{ℕ, ◌+◌, ◌*◌, ◌≤◌}
use mathlib.Core.List.{List, [], ◌∷◌, ◌++◌}
use native.Mathlib.Omega.{arith}
use lib.ListN.{length, length-append}
use Rattle.std.specs.Prelude.{Ok, Err}
use Rattle.refusal.specs.declared.Refusal.{Refusal}
use Rattle.refusal.specs.Numbers.{number_of}
use Rattle.answer.specs.declared.Answer.TheVariants.{Started, Future, Ended, More}
use Rattle.answer.specs.declared.CallResult.TheVariants as call_result
use Rattle.answer.specs.Answer.{AnswerOrRefusal, value}
use Rattle.machine.specs.declared.Machine.{Machine}
use Rattle.line.specs.Text.{decimal, field, fields, word_field, line_end, entry_text, set_up_text, refused_text, first_text, queue_text}
use Rattle.line.proofs.Decimals.{decimal_few}
use Rattle.std.specs.Prelude.{Result}
use Rattle.std.specs.declared.result.Result.TheVariants as result

pub field_few : (n : ℕ) → length (field n) ≤ 11
field_few n = omega (arith, decimal_few n)

pub word_few : (a : AnswerOrRefusal) → length (word_field a) ≤ 8
word_few (Ok Started) = omega arith
word_few (Ok (Future f)) = omega arith
word_few (Ok (Ended call_result.Ok)) = omega arith
word_few (Ok (Ended (call_result.Item v))) = omega arith
word_few (Ok (Ended call_result.Empty)) = omega arith
word_few (Ok More) = omega arith
word_few (Err r) = omega arith

pub fields_few : (ns : List ℕ) → length (fields ns) ≤ 11 * length ns
unfolding fields
fields_few [] = omega arith
fields_few (n ∷ ns) = omega (arith, length-append (field n) (fields ns), field_few n, fields_few ns)

pub entry_few : (place : ℕ) (a : AnswerOrRefusal) (steps depth : ℕ) → length (entry_text place a steps depth) ≤ 52
unfolding entry_text
entry_few place a steps depth =
    omega (
      arith,
      decimal_few place,
      word_few a,
      field_few (value a),
      field_few steps,
      field_few depth,
      length-append (decimal place) (word_field a ++ (field (value a) ++ (field steps ++ (field depth ++ line_end)))),
      length-append (word_field a) (field (value a) ++ (field steps ++ (field depth ++ line_end))),
      length-append (field (value a)) (field steps ++ (field depth ++ line_end)),
      length-append (field steps) (field depth ++ line_end),
      length-append (field depth) line_end,
    )

pub set_up_few : (threads nodes : ℕ) → length (set_up_text threads nodes) ≤ 25
unfolding set_up_text
set_up_few threads nodes =
    omega (arith, field_few threads, field_few nodes, length-append (field threads) (field nodes ++ line_end), length-append (field nodes) line_end)

pub refused_few : (r : Refusal) → length (refused_text r) ≤ 19
unfolding refused_text
refused_few r = omega (arith, field_few (number_of r), length-append (field (number_of r)) line_end)

pub first_few : (made : Result Machine Refusal) → length (first_text made) ≤ 25
first_few (result.Ok m) = set_up_few m.threads m.nodes
first_few (result.Err r) = omega (arith, refused_few r)

pub queue_few : (items : List ℕ) → length (queue_text items) ≤ 6 + 11 * length items
unfolding queue_text
queue_few items = omega (arith, fields_few items, length-append (fields items) line_end)
