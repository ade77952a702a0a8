-- 01, "Schedule bytes and listing": the lines of a listing, as bytes. Every line ends with a line end (10); a blank (32) stands before each further part of a line.
use Rattle.std.specs.Prelude.{ℕ, zero, suc, ◌+◌, ◌/◌, ◌%◌, cond, List, [], ◌∷◌, ◌++◌, ltb, Result, Ok, Err}
use Rattle.refusal.specs.declared.Refusal.{Refusal}
use Rattle.refusal.specs.Numbers.{number_of}
use Rattle.answer.specs.Answer.{AnswerOrRefusal, word, value}
use Rattle.machine.specs.declared.Machine.{Machine}

-- a number's decimal digits, the highest first, where k may stand before the last one
unfoldable pub decimals : ℕ → ℕ → List ℕ
decimals zero n = (48 + n) ∷ []
decimals (suc k) n = cond (ltb n 10) ((48 + n) ∷ []) (decimals k (n / 10) ++ ((48 + n % 10) ∷ []))

-- a number below 2^32 has ten at most
abbrev pub decimal : ℕ → List ℕ
decimal n = decimals 9 n

-- a number behind a blank
abbrev pub field : ℕ → List ℕ
field n = 32 ∷ decimal n

unfoldable pub fields : List ℕ → List ℕ
fields [] = []
fields (n ∷ ns) = field n ++ fields ns

abbrev pub word_field : AnswerOrRefusal → List ℕ
word_field a = 32 ∷ word a

abbrev pub line_end : List ℕ
line_end = 10 ∷ []

-- one line per entry with place from 0, answer word, value (0 where none), steps taken, depth after the entry
unfoldable pub entry_text : ℕ → AnswerOrRefusal → ℕ → ℕ → List ℕ
entry_text place a steps depth = decimal place ++ (word_field a ++ (field (value a) ++ (field steps ++ (field depth ++ line_end))))

-- `bq`, threads, nodes
unfoldable pub set_up_text : ℕ → ℕ → List ℕ
set_up_text threads nodes = (98 ∷ 113 ∷ []) ++ (field threads ++ (field nodes ++ line_end))

-- a refusal at set-up: only `refused` and the number
unfoldable pub refused_text : Refusal → List ℕ
refused_text r = (114 ∷ 101 ∷ 102 ∷ 117 ∷ 115 ∷ 101 ∷ 100 ∷ []) ++ (field (number_of r) ++ line_end)

-- the first line, by whether the set-up is accepted
abbrev pub first_text : Result Machine Refusal → List ℕ
first_text (Ok m) = set_up_text m.threads m.nodes
first_text (Err r) = refused_text r

-- last `queue` and the items, oldest first
unfoldable pub queue_text : List ℕ → List ℕ
queue_text items = (113 ∷ 117 ∷ 101 ∷ 117 ∷ 101 ∷ []) ++ (fields items ++ line_end)
