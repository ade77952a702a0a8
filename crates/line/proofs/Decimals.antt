-- A number's decimal digits: those of the definition are those that std writes; and ten are enough.
use Rattle.std.proofs.Common.{◌≡◌, ℕ, zero, suc, ◌+◌, ◌/◌, ◌%◌, ◌^◌, ◌<◌, ◌≤◌, Bool, true, false, cond, List, [], ◌∷◌, ◌++◌, length, refl, sym, ap, ◌∙◌, arith}
use lib.Dec.{ltb}
use lib.ListN.{length-append}
use borrow.Author.Tests.{lt-ltb, le-ltb}
use native.Mathlib.Nat.{pow-succ'}
use Rattle.std.specs.Fmt.{decimal as std_decimal}
use Rattle.std.proofs.lemmas.Fmt.{decimal_by_steps}
use Rattle.line.specs.Text.{decimals, decimal}

one_digit : (k n : ℕ) → n < 10 → decimals k n ≡ (48 + n) ∷ []
unfolding decimals
one_digit zero n h = refl
one_digit (suc k) n h = rw (lt-ltb n 10 h)

more_digits : (k n : ℕ) → 10 ≤ n → decimals (suc k) n ≡ decimals k (n / 10) ++ ((48 + n % 10) ∷ [])
unfolding decimals
more_digits k n h = rw (le-ltb n 10 h)

shorter : (t : Bool) (m : ℕ) (a b : List ℕ) → length a ≤ m → length b ≤ m → length (cond t a b) ≤ m
shorter true m a b h g = h
shorter false m a b h g = g

pub decimals_few : (k n : ℕ) → length (decimals k n) ≤ suc k
unfolding decimals
decimals_few zero n = omega arith
decimals_few (suc k) n =
    shorter (ltb n 10) (suc (suc k)) _ _ (omega arith) (omega (arith, length-append (decimals k (n / 10)) ((48 + n % 10) ∷ []), decimals_few k (n / 10)))

-- a decimal number has ten digits at most
pub decimal_few : (n : ℕ) → length (decimal n) ≤ 10
decimal_few n = decimals_few 9 n

-- as std writes it
AsStd : ℕ → List ℕ → Type 0
AsStd n ds = (k : ℕ) → n < 10 ^ suc k → ds ≡ decimals k n

last_one : (n : ℕ) → n < 10 → AsStd n ((48 + n) ∷ [])
unfolding AsStd
last_one n h k small = sym (one_digit k n h)

one_more : (n : ℕ) (ds : List ℕ) → 10 ≤ n → AsStd (n / 10) ds → AsStd n (ds ++ ((48 + n % 10) ∷ []))
unfolding AsStd
one_more n ds h p zero small = absurd (omega (arith, small))
one_more n ds h p (suc k) small =
    ap (λ (l : List ℕ). l ++ ((48 + n % 10) ∷ [])) (p k (omega (arith, small, pow-succ' 10 (suc k)))) ∙ sym (more_digits k n h)

pub as_std_writes_it : (n : ℕ) → n < 2 ^ 32 → std_decimal n ≡ decimal n
unfolding AsStd
as_std_writes_it n h = decimal_by_steps AsStd last_one one_more n (omega arith) 9 (omega arith)
