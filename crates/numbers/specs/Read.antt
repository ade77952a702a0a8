-- 01, "Schedule bytes and listing": numbers go in groups of seven bits, low group first, top bit set when another follows; below 2^32; at most five bytes.
-- Refusal 10 (CutShort): the bytes end inside a number. Refusal 11 (TooLong): a last group of zero after another group, or a fifth byte above 15.
-- The first offending place decides, so a fifth byte above 15 is refused as it stands and no sixth is looked at.
use Rattle.std.specs.Prelude.{ℕ, zero, suc, ◌+◌, ◌-◌, ◌*◌, ◌<◌, cond, List, [], ◌∷◌, ltb, eqb, drop, get_or, Result, Ok, Err}
use Rattle.refusal.specs.declared.Refusal.{Refusal}
use Rattle.refusal.specs.declared.Refusal.TheVariants.{CutShort, TooLong}
use Rattle.numbers.specs.declared.Number.{Number}

-- what reading at a place finds: the number and the place after it, or why it is refused
abbrev pub Reading : Type 0
Reading = Result Number Refusal

abbrev pub a_number : ℕ → ℕ → Reading
a_number v next = Ok (record { value = v; next = next })

-- the last group of a number, after another one
unfoldable pub last_group : ℕ → ℕ → Reading
last_group at b = cond (eqb b 0) (Err TooLong) (a_number b (at + 1))

-- a group whose top bit says that another follows, in front of what is read from there on
unfoldable pub before : ℕ → Reading → Reading
before b (Ok found) = a_number (b - 128 + 128 * found.value) found.next
before b (Err r) = Err r

-- the groups from the place `at` on, where the bytes are s, after another group; k more may follow the next
unfoldable pub following : ℕ → ℕ → List ℕ → Reading
following k at [] = Err CutShort
following zero at (b ∷ s) = cond (ltb 15 b) (Err TooLong) (last_group at b)
following (suc k) at (b ∷ s) = cond (ltb b 128) (last_group at b) (before b (following k (at + 1) s))

-- the number at the place `at`, where the bytes are s: its first group, and up to four that follow
unfoldable pub number : ℕ → List ℕ → Reading
number at [] = Err CutShort
number at (b ∷ s) = cond (ltb b 128) (a_number b (at + 1)) (before b (following 3 (at + 1) s))

-- the number at a place of the whole input
abbrev pub number_at : List ℕ → ℕ → Reading
number_at s from = number from (drop from s)

-- the value that was read, 0 where none was
abbrev pub value_of : Reading → ℕ
value_of (Ok found) = found.value
value_of (Err r) = 0

-- a list of bytes
abbrev pub Bytes : List ℕ → Type 0
Bytes s = (i : ℕ) → get_or s i 0 < 256
