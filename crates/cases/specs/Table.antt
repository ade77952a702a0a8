-- 01, "Cases beside each edge", those marked P: the table, and what each row says.
-- A list of calls is written as 01 writes it, a word of E (enqueue) and D (dequeue); a byte string as its bytes.
use Rattle.std.specs.Prelude.{ℕ, ◌≡◌, List, [], ◌∷◌, length, replicate, Err, Ok}
use Rattle.refusal.specs.Numbers.{number_of}
use Rattle.numbers.specs.Read.{number_at, Reading, a_number}
use Rattle.numbers.specs.Write.{groups_of}
use Rattle.tally.specs.Fifo.{Call, enqueue, dequeue, results, failing, successful}
use Rattle.tally.specs.Excess.{excess}

pub data Letter : Type 0 where
  E D : Letter

-- which item is enqueued makes no difference to any count
abbrev pub calls : List Letter → List (Call ℕ)
calls [] = []
calls (E ∷ w) = enqueue 0 ∷ calls w
calls (D ∷ w) = dequeue ∷ calls w

pub data Case : Type 0 where
  -- the excess of a list of calls
  excess_is : List Letter → ℕ → Case
  -- of a list of calls on a queue of n items, how many dequeues fail, and how many succeed
  failing_on successful_on : List Letter → ℕ → ℕ → Case
  -- a number and its bytes
  written : ℕ → List ℕ → Case
  -- bytes that are refused, and the refusal's number
  refused : List ℕ → ℕ → Case

-- the number of the refusal that reading gives, 0 where it gives a number
abbrev pub refusal_in : Reading → ℕ
refusal_in (Ok found) = 0
refusal_in (Err r) = number_of r

abbrev pub Says : Case → Type 0
Says (excess_is w n) = excess (calls w) ≡ n
Says (failing_on w n k) = failing (results (calls w) (replicate n 0)) ≡ k
Says (successful_on w n k) = successful (results (calls w) (replicate n 0)) ≡ k
Says (written n bytes) = (groups_of n ≡ bytes) × (number_at bytes 0 ≡ a_number n (length bytes))
Says (refused bytes n) = refusal_in (number_at bytes 0) ≡ n

-- the batch of 13 letters, and the one that document 002 prints
abbrev pub thirteen : List Letter
thirteen = E ∷ D ∷ D ∷ E ∷ E ∷ D ∷ D ∷ D ∷ E ∷ D ∷ D ∷ E ∷ E ∷ []

abbrev pub printed : List Letter
printed = E ∷ D ∷ D ∷ E ∷ E ∷ D ∷ D ∷ E ∷ D ∷ D ∷ E ∷ E ∷ []

abbrev pub table : List Case
table =
    -- 1
    excess_is thirteen 3
    ∷ excess_is printed 2
    -- 2
    ∷ failing_on thirteen 2 1
    ∷ successful_on thirteen 2 6
    ∷ failing_on thirteen 3 0
    -- 3
    ∷ failing_on (D ∷ D ∷ []) 0 2
    ∷ failing_on (D ∷ D ∷ []) 1 1
    ∷ failing_on (D ∷ D ∷ []) 2 0
    ∷ excess_is [] 0
    -- 4
    ∷ written 127 (0x7f ∷ [])
    ∷ written 128 (0x80 ∷ 0x01 ∷ [])
    ∷ refused (0x80 ∷ 0x00 ∷ []) 11
    ∷ refused (0x80 ∷ []) 10
    -- 5
    ∷ written 4294967295 (0xff ∷ 0xff ∷ 0xff ∷ 0xff ∷ 0x0f ∷ [])
    ∷ refused (0xff ∷ 0xff ∷ 0xff ∷ 0xff ∷ 0x10 ∷ []) 11
    ∷ []

-- every row of a table holds
abbrev pub Each : List Case → Type 0
Each [] = Unit {0}
Each (c ∷ cs) = Says c × Each cs
