-- How a number's groups are read, one at a time, at a place of the input; and how large a value k further groups can hold.
use Prim.Native.Nat.{ℕ, zero, suc, ◌+◌, ◌-◌, ◌*◌, ◌^◌, ◌<◌, ◌≤◌}
use mathlib.Core.Path.{◌≡◌, refl}
use mathlib.Core.Bool.{Bool, true, false, cond}
use mathlib.Core.List.{List, [], ◌∷◌}
use native.Mathlib.Omega.{arith}
use native.Mathlib.Numerals.{add-one, sub-one}
use lib.Dec.{ltb, eqb}
use lib.ListN.{length, get_or, drop, drop_of_length-le}
use lib.Seq.{drop-cons, get_or-drop}
use borrow.Author.Tests.{ltb-true, ltb-false, lt-ltb, le-ltb}
use Rattle.refusal.specs.declared.Refusal.TheVariants.{CutShort, TooLong}
use Rattle.numbers.specs.Read.{last_group, before, following, number, number_at, value_of, Bytes, Reading, a_number}
use Rattle.std.specs.Prelude.{Err, Ok}

module _ (at : ℕ) (s : List ℕ) where
  -- past the end there is no group
  pub following_cut : (k : ℕ) → length s ≤ at → following k at (drop at s) ≡ Err CutShort
  unfolding following
  following_cut zero h = rw (drop_of_length-le s h)
  following_cut (suc k) h = rw (drop_of_length-le s h)

  pub number_cut : length s ≤ at → number_at s at ≡ Err CutShort
  unfolding number
  number_cut h = rw (drop_of_length-le s h)

  module _ (h : at < length s) where
    -- the last group that may follow: too large, or the last
    pub fifth_too_long : (k : ℕ) → k ≡ 0 → 15 < get_or s at 0 → following k at (drop at s) ≡ Err TooLong
    unfolding following
    fifth_too_long zero z big = rw (drop-cons s at 0 h, lt-ltb _ _ big)
    fifth_too_long (suc k) z big = absurd (omega arith)

    pub fifth_last : (k : ℕ) → k ≡ 0 → get_or s at 0 ≤ 15 → following k at (drop at s) ≡ last_group at (get_or s at 0)
    unfolding following
    fifth_last zero z small = rw (drop-cons s at 0 h, le-ltb _ _ small)
    fifth_last (suc k) z small = absurd (omega arith)

    -- a group behind which more may follow: the last, or another follows
    pub following_last : (k : ℕ) → (k ≡ 0 → ⊥) → get_or s at 0 < 128 → following k at (drop at s) ≡ last_group at (get_or s at 0)
    unfolding following
    following_last zero nz small = absurd (nz refl)
    following_last (suc k) nz small = rw (drop-cons s at 0 h, lt-ltb _ _ small)

    pub following_more : (k : ℕ) → (k ≡ 0 → ⊥) → 128 ≤ get_or s at 0 → following k at (drop at s) ≡ before (get_or s at 0) (following (k - 1) (at + 1) (drop (at + 1) s))
    unfolding following
    following_more zero nz big = absurd (nz refl)
    following_more (suc k) nz big = rw (drop-cons s at 0 h, le-ltb _ _ big, sub-one, add-one)

    -- the same of the first group
    pub number_last : get_or s at 0 < 128 → number_at s at ≡ a_number (get_or s at 0) (at + 1)
    unfolding number
    number_last small = rw (drop-cons s at 0 h, lt-ltb _ _ small)

    pub number_more : 128 ≤ get_or s at 0 → number_at s at ≡ before (get_or s at 0) (following 3 (at + 1) (drop (at + 1) s))
    unfolding number
    number_more big = rw (drop-cons s at 0 h, le-ltb _ _ big, add-one)

-- the values that a group and k further ones can hold are those below this: 16 for the fifth byte alone, 128 times as many for each group before it
unfoldable pub capacity : ℕ → ℕ
capacity zero = 16
capacity (suc k) = 128 * capacity k

fits_if : (t : Bool) (n : ℕ) (a b : Reading) → (t ≡ true → value_of a < n) → (t ≡ false → value_of b < n) → value_of (cond t a b) < n
fits_if true n a b h g = h refl
fits_if false n a b h g = g refl

value_of_last : (at b n : ℕ) → b < n → 0 < n → value_of (last_group at b) < n
unfolding last_group
value_of_last at b n h p = fits_if (eqb b 0) n _ _ (λ e. p) (λ e. h)

value_before : (b n : ℕ) (r : Reading) → b < 256 → value_of r < n → value_of (before b r) < 128 * n
unfolding before
value_before b n (Ok found) hb h = omega arith
value_before b n (Err r) hb h = omega arith

capacity_pos : (k : ℕ) → 15 < capacity k
unfolding capacity
capacity_pos zero = omega arith
capacity_pos (suc k) = let h = capacity_pos k in omega arith

pub following_fits : (k at : ℕ) (s : List ℕ) → Bytes s → value_of (following k at s) < capacity k
unfolding following capacity
following_fits zero at [] bytes = omega arith
following_fits (suc k) at [] bytes = omega (arith, capacity_pos k)
following_fits zero at (b ∷ s) bytes = fits_if (ltb 15 b) 16 _ _ (λ e. omega arith) (λ e. value_of_last at b 16 (omega (arith, ltb-false 15 b e)) (omega arith))
following_fits (suc k) at (b ∷ s) bytes =
    fits_if (ltb b 128) (128 * capacity k) _ _
    (λ e. value_of_last at b (128 * capacity k) (omega (arith, capacity_pos k, ltb-true b 128 e)) (omega (arith, capacity_pos k)))
    (λ e. value_before b (capacity k) (following k (at + 1) s) (bytes 0) (following_fits k (at + 1) s (λ i. bytes (suc i))))

capacity_rises : (k j : ℕ) → capacity k ≤ capacity (k + j)
unfolding capacity
capacity_rises k zero = rw (let z : k + 0 ≡ k = omega arith in z) (omega arith)
capacity_rises k (suc j) = rw (let z : k + suc j ≡ suc (k + j) = omega arith in z) (omega (arith, capacity_rises k j))

-- at most three groups after the next: small enough that one more can be put in front
pub following_small : (k at : ℕ) (s : List ℕ) → k ≤ 3 → Bytes s → value_of (following k at s) < 2 ^ 25
unfolding capacity
following_small k at s h bytes =
    let three : k + (3 - k) ≡ 3 = omega arith in
    omega (arith, following_fits k at s bytes, rw three at (capacity_rises k (3 - k)))

pub number_fits : (at : ℕ) (s : List ℕ) → Bytes s → value_of (number at s) < 2 ^ 32
unfolding number
number_fits at [] bytes = omega arith
number_fits at (b ∷ s) bytes =
    fits_if (ltb b 128) (2 ^ 32) _ _
    (λ e. omega (arith, ltb-true b 128 e))
    (λ e. value_before b (2 ^ 25) (following 3 (at + 1) s) (bytes 0) (following_small 3 (at + 1) s (omega arith) (λ i. bytes (suc i))))

-- what is left of bytes is bytes
pub drop_bytes : (n : ℕ) (s : List ℕ) → Bytes s → Bytes (drop n s)
drop_bytes n s bytes i = rw (get_or-drop n s i 0) (bytes (n + i))

-- what the readers' contracts come down to, one law for each kind of group
pub ruleset reading = (
  following_cut,
  number_cut,
  fifth_too_long,
  fifth_last,
  following_last,
  following_more,
  number_last,
  number_more,
  following_small,
  number_fits,
  drop_bytes,
)
