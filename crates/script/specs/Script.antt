-- What the case programs read on a line: a number in decimal digits, and a byte in two hex digits.
use Rattle.std.specs.Prelude.{ℕ, ◌+◌, ◌-◌, ◌*◌, List, [], ◌∷◌, cond, Bool, Option, None, Some, nat_le, ◌&&◌}
use Rattle.std.specs.List.{slice_get}

-- is a byte one of the characters from one to another
abbrev pub lies : ℕ → ℕ → ℕ → Bool
lies low high b = nat_le low b && nat_le b high

-- a number with one more decimal digit, `0` being 48; as it was where the byte is none, or the number would lie beyond the most
abbrev pub with_digit : ℕ → ℕ → ℕ → ℕ
with_digit most n b = cond (lies 48 57 b && nat_le (10 * n + (b - 48)) most) (10 * n + (b - 48)) n

-- the digits of a text behind a number that was read
unfoldable pub number_from : ℕ → ℕ → List ℕ → ℕ
number_from most n [] = n
number_from most n (b ∷ bs) = number_from most (with_digit most n b) bs

abbrev pub number_of : ℕ → List ℕ → ℕ
number_of most text = number_from most 0 text

-- the value of a hex digit, lower case, `a` being 97; 0 of what is none
abbrev pub digit_value : ℕ → ℕ
digit_value b = cond (lies 48 57 b) (b - 48) (cond (lies 97 102 b) (b - 87) 0)

abbrev pub value_in : Option ℕ → ℕ
value_in None = 0
value_in (Some b) = digit_value b

abbrev pub digit_at : List ℕ → ℕ → ℕ
digit_at text place = value_in (slice_get text place)

abbrev pub byte_of : List ℕ → ℕ
byte_of text = 16 * digit_at text 0 + digit_at text 1
