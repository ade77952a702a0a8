-- A line by value: a text put at the start of zeros makes it, and up to its count it holds that text. The first line and an entry's are whole: they find room.
use Prim.Native.Nat.{ℕ, ◌≤◌}
use mathlib.Core.Path.{◌≡◌, refl}
use mathlib.Core.List.{List}
use native.Mathlib.Omega.{arith}
use lib.ListN.{length, take, replicate}
use Rattle.lent.specs.Lent.{written_at}
use Rattle.lent.proofs.Pieces.{taken_at_start}
use Rattle.answer.specs.Answer.{AnswerOrRefusal}
use Rattle.machine.specs.declared.Machine.{Machine}
use Rattle.line.specs.declared.Line.{Line}
use Rattle.line.specs.Text.{first_text, entry_text}
use Rattle.line.specs.Line.{line_of}
use Rattle.line.proofs.Lengths.{first_few, entry_few}
use Rattle.std.specs.Prelude.{Result}
use Rattle.refusal.specs.declared.Refusal.{Refusal}

-- as the contract of what puts the text says it
pub line_made : (text : List ℕ) {bytes : List ℕ} {count : ℕ} → (count ≡ length text) × (bytes ≡ written_at 0 text (replicate 64 0))
    → ◌≡◌ {A = Line} (record { bytes = bytes; count = count }) (line_of text)
unfolding line_of
line_made text put = λ k. record { bytes = put.1 k; count = put.0 k }

pub line_counts_its_text : (text : List ℕ) → (line_of text).count ≡ length text
unfolding line_of
line_counts_its_text text = refl

-- the bytes up to the count are the text
abbrev pub Holds : Line → List ℕ → Type 0
Holds line text = (take line.count line.bytes ≡ text) × (line.count ≤ length line.bytes)

pub line_holds_its_text : (text : List ℕ) → length text ≤ 64 → Holds (line_of text) text
unfolding line_of
line_holds_its_text text fits = taken_at_start text (replicate 64 0) fits refl refl

pub first_line_holds_its_text : (made : Result Machine Refusal) → Holds (line_of (first_text made)) (first_text made)
first_line_holds_its_text made = line_holds_its_text (first_text made) (omega (arith, first_few made))

pub entry_line_holds_its_text : (place : ℕ) (a : AnswerOrRefusal) (steps depth : ℕ) → Holds (line_of (entry_text place a steps depth)) (entry_text place a steps depth)
entry_line_holds_its_text place a steps depth = line_holds_its_text (entry_text place a steps depth) (omega (arith, entry_few place a steps depth))
